-- Pending gates by their places: one that is set or cleared leaves the others, and all are set where each gate has its place.
use Rattle.std.proofs.Common.{◌≡◌, ◌≢◌, ℕ, ◌+◌, ◌<◌, ◌≤◌, Bool, true, false, cond, List, [], length, get_or, take, set, refl, sym, ap, ◌∙◌, subst, arith, inl, inr, eqb, length-set}
use Rattle.std.specs.Prelude.{All}
use Rattle.std.proofs.lemmas.List.{get_or-set_same, get_or-set_other, get_or_past}
use Rattle.std.proofs.lemmas.List.Sums.{sum_by_more}
use Rattle.std.proofs.lemmas.Bool.{cases_Bool, cases_lt, cases_eq, eq-eqb, ne_eqb, both_ways}
use Rattle.bench_net.specs.declared.gate.Driver.{Driver}
use Rattle.bench_net.specs.Wiring.{gate_at, pins_at, IsOrder}
use Rattle.bench_net.specs.Circuit.{Circuit, IsWhole}
use Rattle.die_sim.specs.Spread.{Reads}
use Rattle.die_sim.specs.Pending.{PendingGates, place_at, is_pending, nowhere, HasPlace, AreApart, SameSeats, AreSeats, SetsPending, ActivatesEach, ActivatesReaders, SeatedTo}
use Rattle.bench_net.specs.Sorting.{times}
use Rattle.bench_net.proofs.SortLemmas.{times-there}
use Rattle.die_sim.proofs.OrderLemmas.{times-StandsAt, All-times, gate_in_order, place_of, order_apart, reader_is_gate, reads_is_times}

-- a net whose gate has a place is one of the nets
pub place_within : (m : PendingGates) (n : ℕ) → AreApart m → HasPlace m n → n < length m.places
place_within m n h has = elim (cases_lt n (length m.places)) [
  | inl l ↦ l
  | inr l ↦ absurd (let e : place_at m n ≡ nowhere = get_or_past m.places n nowhere l in omega (arith, e, has, h.few))
]

-- a bit is written
pub SetsPending-set : (places : List ℕ) (bits new : List Bool) (n place : ℕ) (b : Bool)
    → AreApart (record { places = places; bits = bits }) → place ≡ get_or places n nowhere → place < length bits
    → new ≡ set bits place b
    → SetsPending n b (record { places = places; bits = bits }) (record { places = places; bits = new })
unfolding is_pending
SetsPending-set places bits new n place b apart is within new_is = record {
  here = ap (λ (p : ℕ). get_or new p false) (sym is) ∙ ap (λ (l : List Bool). get_or l place false) new_is ∙ get_or-set_same bits place b false within;
  others = λ m ne.
      let other : get_or places m nowhere ≢ place = λ e. ne (sym (apart.each n m (sym is ∙ sym e) (subst (λ (p : ℕ). p < length bits) is within))) in
      ap (λ (l : List Bool). get_or l (get_or places m nowhere) false) new_is ∙ get_or-set_other bits place (get_or places m nowhere) b false other;
  seats = record { places = refl; size = ap (λ (l : List Bool). length l) new_is ∙ length-set bits place b };
}

pub AreSeats-same : (order : List ℕ) (old new : PendingGates) → SameSeats old new → AreSeats order old → AreSeats order new
AreSeats-same order old new s h = record {
  room = omega (arith, h.room, s.size);
  here = λ k l. ap (λ (p : List ℕ). get_or p (get_or order k 0) nowhere) s.places ∙ h.here k l;
}

-- each gate has a place
pub gate_has_place : (drivers : List Driver) (order : List ℕ) → IsOrder drivers order → (m : PendingGates)
    → AreSeats order m → (g : ℕ) → gate_at drivers g ≡ true → HasPlace m g
gate_has_place drivers order o m s g e =
    let p = place_of drivers order o g e in
    let is : place_at m g ≡ p.place = subst (λ (n : ℕ). place_at m n ≡ p.place) p.is (s.here p.place p.within) in
    let w = p.within in
    omega (arith, is, w, s.room)

pub ActivatesEach-more : (nets : List ℕ) (old mid new : PendingGates) (i : ℕ) → i < length nets
    → SetsPending (get_or nets i 0) true mid new → ActivatesEach (take i nets) old mid
    → ActivatesEach (take (i + 1) nets) old new
ActivatesEach-more nets old mid new i l p h = record {
  active = λ g m. active g m;
  others = λ g z. others g z;
  seats = record { places = p.seats.places ∙ h.seats.places; size = p.seats.size ∙ h.seats.size };
}
  where
    more : (g : ℕ) → times g (take (i + 1) nets) ≡ times g (take i nets) + cond {A = ℕ} (eqb (get_or nets i 0) g) 1 0
    more g = sum_by_more (λ x. cond {A = ℕ} (eqb x g) 1 0) nets i 0 l

    active : (g : ℕ) → 0 < times g (take (i + 1) nets) → is_pending new g ≡ true
    active g m = elim (cases_eq (get_or nets i 0) g) [
      | inl e ↦ subst (λ (n : ℕ). is_pending new n ≡ true) e p.here
      | inr ne ↦
          let z : cond {A = ℕ} (eqb (get_or nets i 0) g) 1 0 ≡ 0 = ap (λ b. cond {A = ℕ} b 1 0) (ne_eqb (get_or nets i 0) g ne) in
          let other : g ≢ get_or nets i 0 = λ q. ne (sym q) in
          p.others g other ∙ h.active g (omega (arith, m, more g, z))
    ]

    others : (g : ℕ) → times g (take (i + 1) nets) ≡ 0 → is_pending new g ≡ is_pending old g
    others g z = elim (cases_eq (get_or nets i 0) g) [
      | inl e ↦ absurd (let one : cond {A = ℕ} (eqb (get_or nets i 0) g) 1 0 ≡ 1 = ap (λ b. cond {A = ℕ} b 1 0) (eq-eqb (get_or nets i 0) g e) in omega (arith, z, more g, one))
      | inr ne ↦
          let other : g ≢ get_or nets i 0 = λ q. ne (sym q) in
          p.others g other ∙ h.others g (omega (arith, z, more g))
    ]

-- the readers of a net are pending
pub ActivatesReaders-each : (c : Circuit) (n : ℕ) (old new : PendingGates) → IsWhole c → n < length c.net.names
    → ActivatesEach (get_or c.readers n []) old new → ActivatesReaders c.net.drivers n old new
ActivatesReaders-each c n old new w l h = record {
  active = λ g m. h.active g (omega (arith, m, reads_is_times c w n g l));
  others = λ g not. h.others g (elim (cases_lt 0 (times n (pins_at c.net.drivers g))) [
    | inl m ↦ absurd (not m)
    | inr m ↦ omega (arith, m, reads_is_times c w n g l)
  ]);
}

-- all gates have become pending
pub ActivatesEach-all : (drivers : List Driver) (order : List ℕ) → IsOrder drivers order → (old new : PendingGates)
    → ((n : ℕ) → is_pending old n ≡ false) → ActivatesEach order old new
    → (n : ℕ) → is_pending new n ≡ gate_at drivers n
ActivatesEach-all drivers order o old new clear h n = elim (cases_Bool (gate_at drivers n)) [
  | inl is ↦
      let p = place_of drivers order o n is in
      let there : 0 < times n order = subst (λ (m : ℕ). 0 < times m order) p.is (times-there order p.place p.within) in
      h.active n there ∙ sym is
  | inr not ↦
      let none : times n order ≡ 0 = elim (cases_lt 0 (times n order)) [
        | inl l ↦
            let s = times-StandsAt n order l in
            absurd (cc_of not (subst (λ (m : ℕ). gate_at drivers m ≡ true) s.is (gate_in_order drivers order o s.place s.within)))
        | inr z ↦ omega arith
      ] in
      h.others n none ∙ clear n ∙ sym not
]
  where
    cc_of : gate_at drivers n ≡ false → gate_at drivers n ≡ true → ⊥
    cc_of a b = cc

-- one more has
pub SeatedTo-more : (drivers : List Driver) (order : List ℕ) → IsOrder drivers order
    → (places : List ℕ) (bits : List Bool) (k : ℕ) → k < length order → get_or order k 0 < length places
    → k < length bits → SeatedTo order places bits k
    → SeatedTo order (set places (get_or order k 0) k) (set bits k true) (k + 1)
SeatedTo-more drivers order o places bits k l in' room h = record {
  here = λ j jl. elim (cases_eq j k) [
    | inl e ↦ ap (λ (i : ℕ). get_or (set places (get_or order k 0) k) (get_or order i 0) nowhere) e ∙ get_or-set_same places (get_or order k 0) k nowhere in' ∙ sym e
    | inr ne ↦
        let before : j < k = omega (arith, jl, ne) in
        get_or-set_other places (get_or order k 0) (get_or order j 0) k nowhere (order_apart drivers order o j k before l) ∙ h.here j before
  ];
  back = λ n. elim (cases_eq n (get_or order k 0)) [
    | inl e ↦
        let is : get_or (set places (get_or order k 0) k) n nowhere ≡ k = ap (λ (i : ℕ). get_or (set places (get_or order k 0) k) i nowhere) e ∙ get_or-set_same places (get_or order k 0) k nowhere in' in
        inr (omega (arith, is), ap (λ (i : ℕ). get_or order i 0) is ∙ sym e)
    | inr ne ↦
        let is : get_or (set places (get_or order k 0) k) n nowhere ≡ get_or places n nowhere = get_or-set_other places (get_or order k 0) n k nowhere ne in
        elim (h.back n) [
          | inl none ↦ inl (is ∙ none)
          | inr has ↦ let below = has.0 in inr (omega (arith, is, below), ap (λ (i : ℕ). get_or order i 0) is ∙ has.1)
        ]
  ];
  active = λ j jl. elim (cases_eq j k) [
    | inl e ↦ ap (λ (i : ℕ). get_or (set bits k true) i false) e ∙ get_or-set_same bits k true false room
    | inr ne ↦ get_or-set_other bits k j true false ne ∙ h.active j (omega (arith, jl, ne))
  ];
}

-- all gates have their places, and are pending
module _ (drivers : List Driver) (order : List ℕ) (o : IsOrder drivers order) (m : PendingGates)
    (few : length m.bits ≤ 65600) (room : length order ≤ length m.bits)
    (h : SeatedTo order m.places m.bits (length order)) where
  pub pending_gates : (n : ℕ) → is_pending m n ≡ gate_at drivers n
  unfolding is_pending
  pending_gates n = elim (cases_Bool (gate_at drivers n)) [
    | inl e ↦
        let p = place_of drivers order o n e in
        let is : place_at m n ≡ p.place = subst (λ (i : ℕ). place_at m i ≡ p.place) p.is (h.here p.place p.within) in
        ap (λ (i : ℕ). get_or m.bits i false) is ∙ h.active p.place p.within ∙ sym e
    | inr e ↦ elim (h.back n) [
      | inl none ↦ get_or_past m.bits (place_at m n) false (omega (arith, none, few)) ∙ sym e
      | inr has ↦ absurd (both_ways (gate_at drivers n) e (subst (λ (i : ℕ). gate_at drivers i ≡ true) has.1 (gate_in_order drivers order o (place_at m n) has.0)))
    ]
  ]

-- each reader of a net has a place
pub readers_have_places : (c : Circuit) → IsWhole c → (m : PendingGates) → AreSeats c.order m → (n : ℕ)
    → n < length c.net.names → All (λ r. HasPlace m r) (get_or c.readers n [])
readers_have_places c w m s n l = All-times (λ r. HasPlace m r) (get_or c.readers n []) (λ g t.
    let r : Reads c.net.drivers g n = omega (arith, t, reads_is_times c w n g l) in
    gate_has_place c.net.drivers c.order w.order m s g (reader_is_gate c.net.drivers g n r))
