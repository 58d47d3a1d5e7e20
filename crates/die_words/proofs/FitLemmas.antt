-- Words that fit settle each lane: a gate that isn't pending fits while the nets that it reads stay, and a netlist has one settling.
use Rattle.std.proofs.Common.{◌≡◌, ◌≢◌, ℕ, zero, suc, ◌+◌, ◌<◌, ◌≤◌, Bool, true, false, Option, Some, None, List, length, get_or, set, length-set, sym, ap, ◌∙◌, subst, arith, inl, inr, ◌⊎◌, refl, eqb}
use Rattle.std.specs.Prelude.{unwrap_or}
use Rattle.std.proofs.lemmas.Bool.{cases_Bool, cases_lt, cases_eq, both_ways, and_parts, eqb-true}
use Rattle.std.proofs.lemmas.List.{get_or-set_same, get_or-set_other}
use Rattle.std.proofs.lemmas.List.Elements.{All-get_or}
use Rattle.tester_types.specs.declared.level.Level.{Level}
use Rattle.tester_types.specs.declared.level.Level.TheVariants.{Zero, One, X, Z}
use Rattle.bench_net.specs.declared.gate.Driver.{Driver}
use Rattle.bench_net.specs.declared.gate.Driver.TheVariants.{Input, Dff, Gate}
use Rattle.bench_net.specs.Wiring.{driver_at, is_gate, gate_at, pins_of, pins_at, IsWired}
use Rattle.bench_net.specs.Circuit.{Circuit, IsWhole}
use Rattle.bench_net.specs.Gates.{level_at}
use Rattle.bench_net.proofs.SortLemmas.{times-there, gate_within}
use Rattle.die_sim.specs.Die.{Settled}
use Rattle.die_sim.specs.Pending.{PendingGates, is_pending, AreSeats}
use Rattle.die_sim.specs.Spread.{Reads}
use Rattle.die_sim.specs.Stepped.{settled_levels}
use Rattle.die_sim.specs.Walk.{is_flip_flop, StandsAt}
use Rattle.die_sim.proofs.OrderLemmas.{gate_in_order, place_of, later, not_itself, order_apart}
use Rattle.die_sim.proofs.SettlingLemmas.{settles}
use Rattle.die_sim.proofs.WalkLemmas.{wanted_source}
use Rattle.die_words.specs.declared.word.Word.{Word}
use Rattle.die_words.specs.Lane.{nothing, Shows, ShowsFault, IsLane, AreFaults}
use Rattle.die_words.specs.declared.nets.NetWords.{NetWords}
use Rattle.die_words.specs.Lanes.{OnlyInputs}
use Rattle.die_words.specs.Capture.{AreRegisters}
use Rattle.die_words.specs.Board.{FitNets}
use Rattle.die_words.proofs.LaneLemmas.{OnlyInputs-set}
use Rattle.die_words.specs.Fits.{same_word, word_at, ShowsEach, FitsOwn, FitsGate, FitsAt, SourcesFit, GatesFit, GatesWait, PutsWord, VisitsWord, AreDoneTo}

-- two words are one where the test says so
same_word-true : (a b : Word) → same_word a b ≡ true → a ≡ b
same_word-true a b e =
    let parts = and_parts (eqb a.zeros b.zeros) (eqb a.ones b.ones) e in
    ap (λ (z : ℕ). record { zeros = z; ones = a.ones }) (eqb-true a.zeros b.zeros parts.0)
    ∙ ap (λ (o : ℕ). record { zeros = b.zeros; ones = o }) (eqb-true a.ones b.ones parts.1)

-- a gate fits while the nets that it reads stay
FitsGate-kept : (d : Driver) (force : Word) (old new : List Word) (word : Word)
    → ((i : ℕ) → i < length (pins_of d) → word_at new (get_or (pins_of d) i 0) ≡ word_at old (get_or (pins_of d) i 0))
    → FitsGate d force old word → FitsGate d force new word
FitsGate-kept d force old new word same h = record {
  each = λ k f own v within fault shows. h.each k f own v within fault (record {
    each = λ i l. subst (λ (w : Word). Shows w k (level_at v (get_or (pins_of d) i 0))) (same i l) (shows.each i l);
  });
}

-- ---- a net gets a word

module _ (c : Circuit) (forces old new : List Word) (n : ℕ) (word : Word) (pending pending' : PendingGates)
    (p : PutsWord c.net.drivers n word old new pending pending') where
  -- what a gate reads stays where it isn't pending
  pins_stay : (g : ℕ) → is_pending pending' g ≡ false → (i : ℕ) → i < length (pins_at c.net.drivers g)
      → word_at new (get_or (pins_at c.net.drivers g) i 0) ≡ word_at old (get_or (pins_at c.net.drivers g) i 0)
  pins_stay g f i l = elim (cases_eq (get_or (pins_at c.net.drivers g) i 0) n) [
    | inl q ↦ elim (cases_Bool (same_word (word_at old n) word)) [
      | inl same ↦ ap (word_at new) q ∙ p.here ∙ sym (same_word-true (word_at old n) word same) ∙ ap (word_at old) (sym q)
      | inr other ↦ absurd (both_ways (is_pending pending' g) f
          (p.read other g (subst (λ (m : ℕ). Reads c.net.drivers g m) q (times-there (pins_at c.net.drivers g) i l))))
    ]
    | inr ne ↦ p.others (get_or (pins_at c.net.drivers g) i 0) ne
  ]

  -- what isn't pending now wasn't before
  was_idle : (g : ℕ) → is_pending pending' g ≡ false → is_pending pending g ≡ false
  was_idle g f = elim (cases_Bool (is_pending pending g)) [
    | inl t ↦ absurd (both_ways (is_pending pending' g) f (p.keeps g t))
    | inr e ↦ e
  ]

  -- another gate that isn't pending still fits
  other_fits : (g : ℕ) → g ≢ n → is_pending pending' g ≡ false → FitsAt c forces old g → FitsAt c forces new g
  other_fits g ne f h =
      subst (λ (w : Word). FitsGate (driver_at c.net.drivers g) (word_at forces g) new w) (sym (p.others g ne))
      (FitsGate-kept (driver_at c.net.drivers g) (word_at forces g) old new (word_at old g) (pins_stay g f) h)

  -- a gate that doesn't read the net still fits
  apart_fits : (g : ℕ) → g ≢ n → (Reads c.net.drivers g n → ⊥) → FitsAt c forces old g → FitsAt c forces new g
  apart_fits g ne apart h =
      subst (λ (w : Word). FitsGate (driver_at c.net.drivers g) (word_at forces g) new w) (sym (p.others g ne))
      (FitsGate-kept (driver_at c.net.drivers g) (word_at forces g) old new (word_at old g) (λ i l. p.others (get_or (pins_at c.net.drivers g) i 0) (λ q.
      apart (subst (λ (m : ℕ). Reads c.net.drivers g m) q (times-there (pins_at c.net.drivers g) i l)))) h)

  -- an input or a flip-flop got a word
  pub GatesWait-put : gate_at c.net.drivers n ≡ false → AreSeats c.order pending' → GatesWait c forces old pending
      → GatesWait c forces new pending'
  GatesWait-put source seats h = record {
    seats = seats;
    each = λ g e f. other_fits g (λ q. both_ways (gate_at c.net.drivers n) source (subst (λ (m : ℕ). gate_at c.net.drivers m ≡ true) q e)) f
        (h.each g e (was_idle g f));
  }

  -- it fits, and so do those that did
  pub FitsOwn-put : (held : List Word) → FitsOwn (word_at forces n) (word_at held n) word → (m : ℕ)
      → (m ≡ n) ⊎ FitsOwn (word_at forces m) (word_at held m) (word_at old m)
      → FitsOwn (word_at forces m) (word_at held m) (word_at new m)
  FitsOwn-put held fits m h = elim (cases_eq m n) [
    | inl q ↦ subst (λ (i : ℕ). FitsOwn (word_at forces i) (word_at held i) (word_at new i)) (sym q)
        (subst (λ (w : Word). FitsOwn (word_at forces n) (word_at held n) w) (sym p.here) fits)
    | inr ne ↦ subst (λ (w : Word). FitsOwn (word_at forces m) (word_at held m) w) (sym (p.others m ne)) (elim h [
      | inl q ↦ absurd (ne q)
      | inr fit ↦ fit
    ])
  ]

-- ---- the gates one after another

module _ (c : Circuit) (whole : IsWhole c) (forces start old new : List Word) (pending pending' : PendingGates) (k : ℕ)
    (within : k < length c.order) (v : VisitsWord c forces (get_or c.order k 0) old new pending pending') where
  gate_here : gate_at c.net.drivers (get_or c.order k 0) ≡ true
  gate_here = gate_in_order c.net.drivers c.order whole.order k within

  -- the gate fits
  fits_here : FitsAt c forces new (get_or c.order k 0)
  fits_here =
      subst (λ (w : Word). FitsGate (driver_at c.net.drivers (get_or c.order k 0)) (word_at forces (get_or c.order k 0)) new w) (sym v.puts.here)
      (FitsGate-kept (driver_at c.net.drivers (get_or c.order k 0)) (word_at forces (get_or c.order k 0)) old new v.word
      (λ i l. v.puts.others (get_or (pins_at c.net.drivers (get_or c.order k 0)) i 0) (λ q.
      not_itself c.net.drivers c.order whole.order k within
      (subst (λ (m : ℕ). Reads c.net.drivers (get_or c.order k 0) m) q (times-there (pins_at c.net.drivers (get_or c.order k 0)) i l))))
      v.fits)

  -- a gate had its turn
  pub AreDoneTo-more : AreDoneTo c forces start old k → AreDoneTo c forces start new (k + 1)
  AreDoneTo-more h = record {
    count = v.puts.count ∙ h.count;
    gates = λ j l inside. elim (cases_eq j k) [
      | inl q ↦ subst (λ (i : ℕ). FitsAt c forces new (get_or c.order i 0)) (sym q) fits_here
      | inr ne ↦
          let before : j < k = omega (arith, l, ne) in
          apart_fits c forces old new (get_or c.order k 0) v.word v.cleared pending' v.puts (get_or c.order j 0)
          (order_apart c.net.drivers c.order whole.order j k before within)
          (λ r. let behind = later c.net.drivers c.order whole.order j k inside within r in omega (arith, behind, before))
          (h.gates j before inside)
    ];
    kept = λ n e. v.puts.others n (λ q. both_ways (gate_at c.net.drivers n) e (subst (λ (m : ℕ). gate_at c.net.drivers m ≡ true) (sym q) gate_here)) ∙ h.kept n e;
  }

  -- those that aren't pending still fit
  pub GatesWait-visited : AreSeats c.order pending' → GatesWait c forces old pending → GatesWait c forces new pending'
  GatesWait-visited seats h = record {
    seats = seats;
    each = λ g e f. elim (cases_eq g (get_or c.order k 0)) [
      | inl q ↦ subst (λ (m : ℕ). FitsAt c forces new m) (sym q) fits_here
      | inr ne ↦
          other_fits c forces old new (get_or c.order k 0) v.word v.cleared pending' v.puts g ne f
          (h.each g e (sym (v.rest g ne) ∙ was_idle c forces old new (get_or c.order k 0) v.word v.cleared pending' v.puts g f))
    ];
  }

-- those up to the next pending one fit
pub AreDoneTo-on : (c : Circuit) → IsWhole c → (forces start words : List Word) (pending : PendingGates) (j k : ℕ)
    → ((i : ℕ) → j ≤ i → i < k → i < length c.order → is_pending pending (get_or c.order i 0) ≡ false)
    → GatesWait c forces words pending → AreDoneTo c forces start words j → AreDoneTo c forces start words k
AreDoneTo-on c whole forces start words pending j k idle waits h = record {
  count = h.count;
  gates = λ i l inside. elim (cases_lt i j) [
    | inl b ↦ h.gates i b inside
    | inr b ↦ waits.each (get_or c.order i 0) (gate_in_order c.net.drivers c.order whole.order i inside) (idle i b l inside)
  ];
  kept = h.kept;
}

-- all did
pub GatesFit-done : (c : Circuit) → IsWhole c → (forces start words : List Word) (k : ℕ) → length c.order ≤ k
    → AreDoneTo c forces start words k → GatesFit c forces words
GatesFit-done c whole forces start words k past h = record {
  each = λ g e.
      let s = place_of c.net.drivers c.order whole.order g e in
      subst (λ (m : ℕ). FitsAt c forces words m) s.is (h.gates s.place (let w = s.within in omega (arith, w, past)) s.within);
}

pub GatesWait-fit : (c : Circuit) (forces words : List Word) (pending : PendingGates) → AreSeats c.order pending
    → GatesFit c forces words → GatesWait c forces words pending
GatesWait-fit c forces words pending seats h = record { seats = seats; each = λ g e f. h.each g e }

-- inputs and flip-flops fit while their words stay
pub SourcesFit-kept : (c : Circuit) (forces held old new : List Word)
    → ((n : ℕ) → gate_at c.net.drivers n ≡ false → word_at new n ≡ word_at old n)
    → SourcesFit c forces held old → SourcesFit c forces held new
SourcesFit-kept c forces held old new kept h = record {
  each = λ n l e. subst (λ (w : Word). FitsOwn (word_at forces n) (word_at held n) w) (sym (kept n e)) (h.each n l e);
}

-- ---- each lane is settled

module _ (c : Circuit) (whole : IsWhole c) (forces held words : List Word) (forces_count : length forces ≡ length c.net.drivers)
    (held_count : length held ≡ length c.net.drivers) (words_count : length words ≡ length c.net.drivers)
    (sources : SourcesFit c forces held words) (gates : GatesFit c forces words)
    (k : ℕ) (within : k < 64) (fixed : List (Option Level)) (own : List Level) (faults : AreFaults forces k fixed)
    (lane : IsLane held k own) where
  there : Settled c.net.drivers fixed own (settled_levels c fixed own)
  there = settles c whole fixed own

  -- an input or a flip-flop has its level
  source_shows : (n : ℕ) → n < length c.net.drivers → gate_at c.net.drivers n ≡ false
      → Shows (word_at words n) k (level_at (settled_levels c fixed own) n)
  source_shows n l e =
      let fit = sources.each n l e in
      subst (λ (x : Level). Shows (word_at words n) k x)
      (sym (there.fits n l ∙ wanted_source c.net.drivers fixed own (settled_levels c fixed own) n e))
      (fit.each k (get_or fixed n None) (level_at own n) within (faults.each n (omega (arith, l, forces_count)))
      (lane.each n (omega (arith, l, held_count))))

  -- a gate has, where the nets that it reads have theirs
  gate_shows : (g : ℕ) → g < length c.net.drivers → gate_at c.net.drivers g ≡ true
      → ShowsEach words k (settled_levels c fixed own) (pins_at c.net.drivers g)
      → Shows (word_at words g) k (level_at (settled_levels c fixed own) g)
  gate_shows g l e shows =
      let fit = gates.each g e in
      subst (λ (x : Level). Shows (word_at words g) k x) (sym (there.fits g l))
      (fit.each k (get_or fixed g None) (level_at own g) (settled_levels c fixed own) within
      (faults.each g (omega (arith, l, forces_count))) shows)

  pin_within : (d : Driver) (i : ℕ) → IsWired (length c.net.drivers) d → i < length (pins_of d) → get_or (pins_of d) i 0 < length c.net.drivers
  pin_within Input i w l = absurd (omega (arith, l))
  pin_within (Dff p) i w l = absurd (omega (arith, l))
  pin_within (Gate kind ps) i w l = All-get_or (λ p. p < length c.net.drivers) ps i 0 l w.3

  -- the gates in front of a place
  front_shows : (m j : ℕ) → j < m → j < length c.order
      → Shows (word_at words (get_or c.order j 0)) k (level_at (settled_levels c fixed own) (get_or c.order j 0))
  front_shows zero j l inside = absurd (omega (arith, l))
  front_shows (suc m) j l inside =
      let g : ℕ = get_or c.order j 0 in
      let e : gate_at c.net.drivers (get_or c.order j 0) ≡ true = gate_in_order c.net.drivers c.order whole.order j inside in
      let net : get_or c.order j 0 < length c.net.drivers = gate_within c.net.drivers (get_or c.order j 0) e in
      gate_shows (get_or c.order j 0) net e (record {
        each = λ i il.
            let q : ℕ = get_or (pins_at c.net.drivers (get_or c.order j 0)) i 0 in
            let q_in : get_or (pins_at c.net.drivers (get_or c.order j 0)) i 0 < length c.net.drivers =
            pin_within (driver_at c.net.drivers (get_or c.order j 0)) i (whole.wired (get_or c.order j 0) net) il in
            elim (cases_Bool (gate_at c.net.drivers (get_or (pins_at c.net.drivers (get_or c.order j 0)) i 0))) [
              | inl is ↦
                  let s = place_of c.net.drivers c.order whole.order (get_or (pins_at c.net.drivers (get_or c.order j 0)) i 0) is in
                  let reads : Reads c.net.drivers (get_or c.order j 0) (get_or c.order s.place 0) =
                  subst (λ (n : ℕ). Reads c.net.drivers (get_or c.order j 0) n) (sym s.is) (times-there (pins_at c.net.drivers (get_or c.order j 0)) i il) in
                  let before = later c.net.drivers c.order whole.order j s.place inside s.within reads in
                  subst (λ (n : ℕ). Shows (word_at words n) k (level_at (settled_levels c fixed own) n)) s.is
                  (front_shows m s.place (omega (arith, before, l)) s.within)
              | inr not ↦ source_shows (get_or (pins_at c.net.drivers (get_or c.order j 0)) i 0) q_in not
            ];
      })

  pub settled_lane : IsLane words k (settled_levels c fixed own)
  settled_lane = record {
    count = there.one_each ∙ sym words_count;
    each = λ n l.
        let net : n < length c.net.drivers = omega (arith, l, words_count) in
        elim (cases_Bool (gate_at c.net.drivers n)) [
          | inl is ↦
              let s = place_of c.net.drivers c.order whole.order n is in
              subst (λ (m : ℕ). Shows (word_at words m) k (level_at (settled_levels c fixed own) m)) s.is
              (front_shows (length c.order) s.place s.within s.within)
          | inr not ↦ source_shows n net not
        ];
  }

-- ---- words in which nothing is known

FitsOwn-none : FitsOwn nothing nothing nothing
FitsOwn-none = record { each = λ k f x within fault shows. by f k x fault shows }
  where
    by : (f : Option Level) (k : ℕ) (x : Level) → ShowsFault nothing k f → Shows nothing k x → Shows nothing k (unwrap_or f x)
    by None k x fault shows = shows
    by (Some Zero) k x fault shows = fault
    by (Some One) k x fault shows = fault
    by (Some X) k x fault shows = absurd fault
    by (Some Z) k x fault shows = absurd fault

pub FitsOwn-at : {force own word : Word} → force ≡ nothing → own ≡ nothing → word ≡ nothing → FitsOwn force own word
FitsOwn-at {force} {own} {word} f o w =
    subst (λ (x : Word). FitsOwn x own word) (sym f) (subst (λ (x : Word). FitsOwn nothing x word) (sym o)
    (subst (λ (x : Word). FitsOwn nothing nothing x) (sym w) FitsOwn-none))

-- one net more has its own word
pub FitsOwn-set : (forces held words : List Word) (i : ℕ) (w : Word) → i < length words
    → FitsOwn (word_at forces i) (word_at held i) w
    → ((n : ℕ) → n < i → FitsOwn (word_at forces n) (word_at held n) (word_at words n))
    → (n : ℕ) → n < i + 1 → FitsOwn (word_at forces n) (word_at held n) (word_at (set words i w) n)
FitsOwn-set forces held words i w inside fits before n l = elim (cases_eq n i) [
  | inl q ↦ subst (λ (m : ℕ). FitsOwn (word_at forces m) (word_at held m) (word_at (set words i w) m)) (sym q)
      (subst (λ (x : Word). FitsOwn (word_at forces i) (word_at held i) x) (sym (get_or-set_same words i w nothing inside)) fits)
  | inr ne ↦ subst (λ (x : Word). FitsOwn (word_at forces n) (word_at held n) x) (sym (get_or-set_other words i n w nothing ne))
      (before n (omega (arith, l, ne)))
]

-- ---- inputs are driven

-- an input got its word
pub FitNets-input : (c : Circuit) (old new : NetWords) (n : ℕ) (own word : Word) (off : Bool) → n < length c.net.drivers
    → driver_at c.net.drivers n ≡ Input → new.forces.items ≡ old.forces.items → new.held.items ≡ set old.held.items n own
    → new.offs.items ≡ set old.offs.items n off → FitsOwn (word_at old.forces.items n) own word → AreSeats c.order new.pending
    → PutsWord c.net.drivers n word old.words.items new.words.items old.pending new.pending → FitNets c old → FitNets c new
FitNets-input c old new n own word off inside input forces held offs fits seats puts h =
    let source : gate_at c.net.drivers n ≡ false = ap is_gate input in
    let held_in : n < length old.held.items = omega (arith, inside, h.held) in
    let own_is : word_at new.held.items n ≡ own = ap (λ (l : List Word). word_at l n) held ∙ get_or-set_same old.held.items n own nothing held_in in
    record {
      forces = ap (λ (l : List Word). length l) forces ∙ h.forces;
      offs = ap (λ (l : List Bool). length l) offs ∙ length-set old.offs.items n off ∙ h.offs;
      held = ap (λ (l : List Word). length l) held ∙ length-set old.held.items n own ∙ h.held;
      words = puts.count ∙ h.words;
      inputs = subst (λ (l : List Bool). OnlyInputs c.net.drivers l) (sym offs) (OnlyInputs-set c.net.drivers old.offs.items n off input h.inputs);
      sources = subst (λ (f : List Word). SourcesFit c f new.held.items new.words.items) (sym forces) (record {
        each = λ m l e. FitsOwn-put c old.forces.items old.words.items new.words.items n word old.pending new.pending puts new.held.items
            (subst (λ (w : Word). FitsOwn (word_at old.forces.items n) w word) (sym own_is) fits) m (was m l e);
      });
      gates = subst (λ (f : List Word). GatesWait c f new.words.items new.pending) (sym forces)
          (GatesWait-put c old.forces.items old.words.items new.words.items n word old.pending new.pending puts source seats h.gates);
    }
  where
    was : (m : ℕ) → m < length c.net.drivers → gate_at c.net.drivers m ≡ false
        → (m ≡ n) ⊎ FitsOwn (word_at old.forces.items m) (word_at new.held.items m) (word_at old.words.items m)
    was m l e = elim (cases_eq m n) [
      | inl q ↦ inl q
      | inr ne ↦ inr (subst (λ (w : Word). FitsOwn (word_at old.forces.items m) w (word_at old.words.items m))
          (sym (ap (λ (l : List Word). word_at l m) held ∙ get_or-set_other old.held.items n m own nothing ne)) (h.sources.each m l e))
    ]

-- ---- flip-flops capture

-- these flip-flops have their words, and what fits keeps fitting
pub record AreRefreshed (c : Circuit) (forces held start words : List Word) (pending : PendingGates) (nets : List ℕ) (i : ℕ) : Type 0 where
  pub count : length words ≡ length start
  pub waits : GatesWait c forces words pending
  pub done : (j : ℕ) → j < i → j < length nets
      → FitsOwn (word_at forces (get_or nets j 0)) (word_at held (get_or nets j 0)) (word_at words (get_or nets j 0))
  pub kept : (n : ℕ) → FitsOwn (word_at forces n) (word_at held n) (word_at start n)
      → FitsOwn (word_at forces n) (word_at held n) (word_at words n)

pub AreRefreshed-none : (c : Circuit) (forces held words : List Word) (pending : PendingGates) (nets : List ℕ)
    → GatesWait c forces words pending → AreRefreshed c forces held words words pending nets 0
AreRefreshed-none c forces held words pending nets waits = record {
  count = refl;
  waits = waits;
  done = λ j l inside. absurd (omega (arith, l));
  kept = λ n h. h;
}

-- one more has
pub AreRefreshed-more : (c : Circuit) (forces held start old new : List Word) (pending pending' : PendingGates) (nets : List ℕ) (i : ℕ)
    (word : Word) → i < length nets → is_flip_flop (driver_at c.net.drivers (get_or nets i 0)) ≡ true
    → FitsOwn (word_at forces (get_or nets i 0)) (word_at held (get_or nets i 0)) word → AreSeats c.order pending'
    → PutsWord c.net.drivers (get_or nets i 0) word old new pending pending'
    → AreRefreshed c forces held start old pending nets i → AreRefreshed c forces held start new pending' nets (i + 1)
AreRefreshed-more c forces held start old new pending pending' nets i word within flip_flop fits seats puts h = record {
  count = puts.count ∙ h.count;
  waits = GatesWait-put c forces old new (get_or nets i 0) word pending pending' puts (no_gate_there (driver_at c.net.drivers (get_or nets i 0)) flip_flop) seats h.waits;
  done = λ j l inside. elim (cases_eq j i) [
    | inl q ↦ FitsOwn-put c forces old new (get_or nets i 0) word pending pending' puts held fits (get_or nets j 0) (inl (ap (λ (m : ℕ). get_or nets m 0) q))
    | inr ne ↦ FitsOwn-put c forces old new (get_or nets i 0) word pending pending' puts held fits (get_or nets j 0) (inr (h.done j (omega (arith, l, ne)) inside))
  ];
  kept = λ n was. FitsOwn-put c forces old new (get_or nets i 0) word pending pending' puts held fits n (inr (h.kept n was));
}
  where
    no_gate_there : (d : Driver) → is_flip_flop d ≡ true → is_gate d ≡ false
    no_gate_there Input e = refl
    no_gate_there (Dff p) e = refl
    no_gate_there (Gate kind pins) e = cc

-- all have
pub AreRefreshed-all : (c : Circuit) (forces held start words : List Word) (pending : PendingGates) (nets : List ℕ) (i : ℕ) → length nets ≤ i
    → AreRefreshed c forces held start words pending nets i → (n : ℕ)
    → StandsAt n nets ⊎ FitsOwn (word_at forces n) (word_at held n) (word_at start n)
    → FitsOwn (word_at forces n) (word_at held n) (word_at words n)
AreRefreshed-all c forces held start words pending nets i past h n (inl s) =
    subst (λ (m : ℕ). FitsOwn (word_at forces m) (word_at held m) (word_at words m)) s.is (h.done s.place (let w = s.within in omega (arith, w, past)) s.within)
AreRefreshed-all c forces held start words pending nets i past h n (inr was) = h.kept n was

-- the flip-flops captured and have their words
pub FitNets-clocked : (c : Circuit) (old new : NetWords) (nets sources : List ℕ)
    → AreRegisters c.net.drivers nets sources (length c.net.drivers) → new.forces.items ≡ old.forces.items
    → new.offs.items ≡ old.offs.items → length new.held.items ≡ length old.held.items
    → length new.words.items ≡ length old.words.items
    → ((n : ℕ) → is_flip_flop (driver_at c.net.drivers n) ≡ false → word_at new.held.items n ≡ word_at old.held.items n)
    → ((n : ℕ) → StandsAt n nets ⊎ FitsOwn (word_at old.forces.items n) (word_at new.held.items n) (word_at old.words.items n)
    → FitsOwn (word_at old.forces.items n) (word_at new.held.items n) (word_at new.words.items n))
    → GatesWait c old.forces.items new.words.items new.pending → FitNets c old → FitNets c new
FitNets-clocked c old new nets sources registers forces offs held words others fit waits h = record {
  forces = ap (λ (l : List Word). length l) forces ∙ h.forces;
  offs = ap (λ (l : List Bool). length l) offs ∙ h.offs;
  held = held ∙ h.held;
  words = words ∙ h.words;
  inputs = subst (λ (l : List Bool). OnlyInputs c.net.drivers l) (sym offs) h.inputs;
  sources = subst (λ (f : List Word). SourcesFit c f new.held.items new.words.items) (sym forces) (record {
    each = λ n l e. fit n (elim (cases_Bool (is_flip_flop (driver_at c.net.drivers n))) [
      | inl is ↦ inl (registers.all n l is)
      | inr not ↦ inr (subst (λ (w : Word). FitsOwn (word_at old.forces.items n) w (word_at old.words.items n)) (sym (others n not)) (h.sources.each n l e))
    ]);
  });
  gates = subst (λ (f : List Word). GatesWait c f new.words.items new.pending) (sym forces) waits;
}
