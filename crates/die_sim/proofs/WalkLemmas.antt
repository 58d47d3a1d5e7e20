-- The event-driven walk: a write keeps each net that doesn't read the written one, and those that do are pending.
use Rattle.std.proofs.Common.{◌≡◌, ◌≢◌, ℕ, ◌+◌, ◌<◌, ◌≤◌, ◌⊎◌, Bool, true, false, cond, List, length, get_or, take, set, refl, sym, ap, ◌∙◌, subst, arith, inl, inr, Option, None}
use Rattle.std.specs.Prelude.{count_by, All, slice_index_or, unwrap_or}
use Rattle.std.proofs.lemmas.List.{take-take, get_or-take, length-take-le, get_or_default}
use Rattle.std.proofs.lemmas.List.Sums.{sum_by_more, sum_by-take-drop}
use Rattle.std.proofs.lemmas.Bool.{cases_Bool, cases_lt, cases_eq, both_ways}
use Rattle.tester_types.specs.declared.level.Level.{Level}
use Rattle.tester_types.specs.declared.level.Level.TheVariants.{Zero, One, X, Z}
use Rattle.bench_net.specs.declared.gate.Driver.{Driver}
use Rattle.bench_net.specs.declared.gate.Driver.TheVariants.{Input, Dff, Gate}
use Rattle.bench_net.specs.Wiring.{driver_at, is_gate, gate_at, pins_at, IsWired, IsOrder}
use Rattle.bench_net.specs.Gates.{level_at}
use Rattle.tester_types.specs.declared.level.Drive.{Drive}
use Rattle.die_sim.specs.declared.image.Bind.{Bind}
use Rattle.die_sim.specs.declared.image.Bind.TheVariants as bind
use Rattle.die_sim.specs.Die.{own_level, driven, wanted, Settled, bind_at}
use Rattle.die_sim.specs.Spread.{Reads}
use Rattle.die_sim.specs.Pending.{PendingGates, is_pending}
use Rattle.die_sim.specs.Walk.{same_level, Puts, Waits, HasCause, before, by, Refreshes, HaveLevels, HasLevel, HaveDriven, Carries, Visits, WalkedTo}
use Rattle.die_sim.proofs.GateLemmas.{wanted-same}
use Rattle.bench_net.proofs.SortLemmas.{gate_within}
use Rattle.die_sim.proofs.OrderLemmas.{All-times, reader_is_gate, place_of, gate_in_order, later, not_itself}

-- two levels are one where the test says so, and the other way round
pub same_level-true : (a b : Level) → same_level a b ≡ true → a ≡ b
same_level-true Zero Zero e = refl
same_level-true Zero One e = cc
same_level-true Zero X e = cc
same_level-true Zero Z e = cc
same_level-true One Zero e = cc
same_level-true One One e = refl
same_level-true One X e = cc
same_level-true One Z e = cc
same_level-true X Zero e = cc
same_level-true X One e = cc
same_level-true X X e = refl
same_level-true X Z e = cc
same_level-true Z Zero e = cc
same_level-true Z One e = cc
same_level-true Z X e = cc
same_level-true Z Z e = refl

same_level-self : (a : Level) → same_level a a ≡ true
same_level-self Zero = refl
same_level-self One = refl
same_level-self X = refl
same_level-self Z = refl

pub same_level-from : (a b : Level) → a ≡ b → same_level a b ≡ true
same_level-from a b e = subst (λ (c : Level). same_level a c ≡ true) e (same_level-self a)

module _ (drivers : List Driver) (n : ℕ) (x : Level) (old new : List Level) (pending pending' : PendingGates)
    (p : Puts drivers n x old new pending pending') where
  -- a gate that isn't pending now wasn't before
  inactive : (g : ℕ) → is_pending pending' g ≡ false → is_pending pending g ≡ false
  inactive g f = elim (cases_Bool (is_pending pending g)) [
    | inl t ↦ absurd (both_ways (is_pending pending' g) f (p.keeps g t))
    | inr e ↦ e
  ]

  -- the nets that an inactive gate reads are as before
  pins_kept : (g : ℕ) → is_pending pending' g ≡ false → All (λ q. level_at new q ≡ level_at old q) (pins_at drivers g)
  pins_kept g f = All-times (λ q. level_at new q ≡ level_at old q) (pins_at drivers g) (λ q r. elim (cases_eq q n) [
    | inl e ↦ elim (cases_Bool (same_level (level_at old n) x)) [
      | inl t ↦ ap (level_at new) e ∙ p.here ∙ sym (same_level-true (level_at old n) x t) ∙ ap (level_at old) (sym e)
      | inr d ↦ absurd (both_ways (is_pending pending' g) f (p.read d g (subst (λ (m : ℕ). Reads drivers g m) e r)))
    ]
    | inr ne ↦ p.others q ne
  ])

driven_source : (d : Driver) (own : Level) (v : List Level) → is_gate d ≡ false → driven d own v ≡ own
driven_source Input own v e = refl
driven_source (Dff p) own v e = refl
driven_source (Gate kind pins) own v e = cc

-- what an input or a flip-flop must have
pub wanted_source : (drivers : List Driver) (fixed : List (Option Level)) (held v : List Level) (n : ℕ)
    → gate_at drivers n ≡ false → wanted drivers fixed held v n ≡ own_level fixed held n
wanted_source drivers fixed held v n e = ap (unwrap_or (slice_index_or fixed n None)) (driven_source (driver_at drivers n) (level_at held n) v e)

-- the gates that aren't pending still fit where one input or flip-flop got another level
module _ (drivers : List Driver) (wired : (n : ℕ) → n < length drivers
    → IsWired (length drivers) (driver_at drivers n)) (fixed : List (Option Level)) (held old new : List Level)
    (pending pending' : PendingGates) (i : ℕ) (x : Level)
    (source : gate_at drivers i ≡ false) (h : Waits drivers fixed held old pending) (p : Puts drivers i x old new pending pending') where
  waits_after : Waits drivers fixed held new pending'
  waits_after = record {
    levels_count = p.count ∙ h.levels_count;
    gates_only = λ g m. elim (cases_Bool (is_pending pending g)) [
      | inl t ↦ h.gates_only g t
      | inr f ↦ reader_is_gate drivers g i (p.only g m f).1
    ];
    fits = λ g l e f.
        p.others g (λ q. both_ways (gate_at drivers i) source (subst (λ (m : ℕ). gate_at drivers m ≡ true) q e))
        ∙ h.fits g l e (inactive drivers i x old new pending pending' p g f)
        ∙ sym (wanted-same drivers fixed held new old g (wired g l) (pins_kept drivers i x old new pending pending' p g f));
  }

  -- an input or a flip-flop got its level
  pub Refreshes-one : x ≡ own_level fixed held i → Refreshes drivers fixed held old new pending pending'
  Refreshes-one is = record {
    waits = waits_after;
    sources = λ n. elim (cases_eq n i) [
      | inl q ↦ inr (ap (level_at new) q ∙ p.here ∙ is ∙ ap (own_level fixed held) (sym q))
      | inr ne ↦ inl (p.others n ne)
    ];
    cause = λ g m. elim (cases_Bool (is_pending pending g)) [
      | inl t ↦ before t
      | inr f ↦
          let o = p.only g m f in
          by i o.1 source (λ q. both_ways (same_level (level_at old i) x) o.0 (same_level-from (level_at old i) x (q ∙ p.here)))
    ];
  }

-- what has its level keeps it
pub Refreshes-keeps : (drivers : List Driver) (fixed : List (Option Level)) (held old new : List Level)
    (pending pending' : PendingGates) → Refreshes drivers fixed held old new pending pending' → (n : ℕ)
    → level_at old n ≡ own_level fixed held n → level_at new n ≡ own_level fixed held n
Refreshes-keeps drivers fixed held old new pending pending' h n e = elim (h.sources n) [
  | inl same ↦ same ∙ e
  | inr own ↦ own
]

-- one refresh after another
module _ (drivers : List Driver) (fixed : List (Option Level)) (held start old new : List Level)
    (pending mid pending' : PendingGates) (a : Refreshes drivers fixed held start old pending mid)
    (b : Refreshes drivers fixed held old new mid pending') where
  -- a level that differed from the first still does
  still : (n : ℕ) → level_at start n ≢ level_at old n → level_at start n ≢ level_at new n
  still n ne e = elim (a.sources n) [
    | inl same ↦ ne (sym same)
    | inr own ↦ ne (e ∙ Refreshes-keeps drivers fixed held old new mid pending' b n own ∙ sym own)
  ]

  later_change : (n : ℕ) → level_at old n ≢ level_at new n → level_at start n ≢ level_at new n
  later_change n ne e = elim (a.sources n) [
    | inl same ↦ ne (same ∙ e)
    | inr own ↦ ne (own ∙ sym (Refreshes-keeps drivers fixed held old new mid pending' b n own))
  ]

  first_cause : (g : ℕ) → HasCause drivers start old pending g → HasCause drivers start new pending g
  first_cause g (before m) = before m
  first_cause g (by n r e ne) = by n r e (still n ne)

  any_cause : (g : ℕ) → HasCause drivers old new mid g → HasCause drivers start new pending g
  any_cause g (before m) = first_cause g (a.cause g m)
  any_cause g (by n r e ne) = by n r e (later_change n ne)

  pub Refreshes-then : Refreshes drivers fixed held start new pending pending'
  Refreshes-then = record {
    waits = b.waits;
    sources = λ n. elim (b.sources n) [
      | inl same ↦ elim (a.sources n) [
        | inl was ↦ inl (same ∙ was)
        | inr own ↦ inr (same ∙ own)
      ]
      | inr own ↦ inr own
    ];
    cause = λ g m. any_cause g (b.cause g m);
  }

module _ (drivers : List Driver) (wired : (n : ℕ) → n < length drivers
    → IsWired (length drivers) (driver_at drivers n)) (order : List ℕ) (o : IsOrder drivers order)
    (fixed : List (Option Level)) (held start old new : List Level) (pending mid pending' : PendingGates) (k count : ℕ) (within : k < length order)
    (h : WalkedTo drivers fixed held order start old pending mid k count) where
  module _ (v : Visits drivers fixed held (get_or order k 0) old new mid pending') where
    gate_here : gate_at drivers (get_or order k 0) ≡ true
    gate_here = gate_in_order drivers order o k within

    -- another gate that is pending was so before, or it reads this one
    other_gate : (m : ℕ) → is_pending pending' m ≡ true → (is_pending mid m ≡ true) × (m ≢ get_or order k 0) ⊎ Reads drivers m (get_or order k 0)
    other_gate m t = elim (cases_Bool (is_pending v.cleared m)) [
      | inl c ↦ elim (cases_eq m (get_or order k 0)) [
        | inl q ↦ absurd (both_ways (is_pending v.cleared m) (ap (is_pending v.cleared) q ∙ v.clear) c)
        | inr ne ↦ inl (sym (v.rest m ne) ∙ c, ne)
      ]
      | inr c ↦ inr (v.puts.only m t c).1
    ]

    new_at : (m : ℕ) → gate_at drivers m ≡ false → level_at new m ≡ level_at old m
    new_at m e = v.puts.others m (λ q. both_ways (gate_at drivers m) e (ap (gate_at drivers) q ∙ gate_here))

    -- this gate's own nets stay
    own_pins : All (λ q. level_at new q ≡ level_at old q) (pins_at drivers (get_or order k 0))
    own_pins = All-times (λ q. level_at new q ≡ level_at old q) (pins_at drivers (get_or order k 0)) (λ q r.
        v.puts.others q (λ e. not_itself drivers order o k within (subst (λ (m : ℕ). Reads drivers (get_or order k 0) m) e r)))

    fits_after : (g : ℕ) → g < length drivers → gate_at drivers g ≡ true → is_pending pending' g ≡ false → level_at new g ≡ wanted drivers fixed held new g
    fits_after g l e f = elim (cases_eq g (get_or order k 0)) [
      | inl q ↦
          let here' : level_at new (get_or order k 0) ≡ wanted drivers fixed held new (get_or order k 0) =
          v.puts.here ∙ sym (wanted-same drivers fixed held new old (get_or order k 0) (wired (get_or order k 0) (gate_within drivers (get_or order k 0) gate_here)) own_pins) in
          subst (λ (m : ℕ). level_at new m ≡ wanted drivers fixed held new m) (sym q) here'
      | inr ne ↦
          let was : is_pending v.cleared g ≡ false = inactive drivers (get_or order k 0) (wanted drivers fixed held old (get_or order k 0)) old new v.cleared pending' v.puts g f in
          v.puts.others g ne ∙ h.waits.fits g l e (sym (v.rest g ne) ∙ was)
          ∙ sym (wanted-same drivers fixed held new old g (wired g l) (pins_kept drivers (get_or order k 0) (wanted drivers fixed held old (get_or order k 0)) old new v.cleared pending' v.puts g f))
    ]

    gates_after : (g : ℕ) → is_pending pending' g ≡ true → gate_at drivers g ≡ true
    gates_after g t = elim (other_gate g t) [
      | inl a ↦ h.waits.gates_only g a.0
      | inr r ↦ reader_is_gate drivers g (get_or order k 0) r
    ]

    done_after : (j : ℕ) → j < k + 1 → j < length order → is_pending pending' (get_or order j 0) ≡ false
    done_after j l jl = elim (cases_Bool (is_pending pending' (get_or order j 0))) [
      | inr f ↦ f
      | inl t ↦ absurd (elim (other_gate (get_or order j 0) t) [
        | inl a ↦ elim (cases_eq j k) [
          | inl q ↦ a.1 (ap (λ i. get_or order i 0) q)
          | inr ne ↦ both_ways (is_pending mid (get_or order j 0)) (h.done j (omega (arith, l, ne)) jl) a.0
        ]
        | inr r ↦ let b = later drivers order o j k jl within r in omega (arith, b, l)
      ])
    ]

    carried_after : (set : ℕ → Bool) → Carries drivers pending set → (g : ℕ) → is_pending pending' g ≡ true → set g ≡ true
    carried_after set c g t = elim (other_gate g t) [
      | inl a ↦ h.carried set c g a.0
      | inr r ↦ c.onward g (get_or order k 0) r gate_here (h.carried set c (get_or order k 0) v.was)
    ]

    bound_after : (set : ℕ → Bool) → Carries drivers pending set → count + 1 ≤ count_by set (take (k + 1) order)
    bound_after set c =
        let b = h.bound set c in
        let m = sum_by_more (λ x. cond {A = ℕ} (set x) 1 0) order k 0 within in
        let one : cond {A = ℕ} (set (get_or order k 0)) 1 0 ≡ 1 = ap (λ t. cond {A = ℕ} t 1 0) (h.carried set c (get_or order k 0) v.was) in
        omega (arith, b, m, one)

    -- a pending gate had its turn
    pub visited : WalkedTo drivers fixed held order start new pending pending' (k + 1) (count + 1)
    visited = record {
      waits = record {
        levels_count = v.puts.count ∙ h.waits.levels_count;
        gates_only = gates_after;
        fits = fits_after;
      };
      kept = λ n e. new_at n e ∙ h.kept n e;
      done = done_after;
      counted = omega (arith, h.counted);
      bound = bound_after;
      carried = carried_after;
    }

-- more gates in front count no less
count-take-le : (set : ℕ → Bool) (order : List ℕ) (j k : ℕ) → j ≤ k → count_by set (take j order) ≤ count_by set (take k order)
count-take-le set order j k l =
    let split = sum_by-take-drop (λ x. cond {A = ℕ} (set x) 1 0) (take k order) j in
    let front : count_by set (take j (take k order)) ≡ count_by set (take j order) = ap (count_by set) (take-take j k order l) in
    omega (arith, split, front)

-- the gates up to the next pending one had their turn
pub WalkedTo-on : (drivers : List Driver) (fixed : List (Option Level)) (held : List Level) (order : List ℕ)
    (start levels : List Level) (pending pending' : PendingGates) (j k count : ℕ) → j ≤ k
    → ((i : ℕ) → j ≤ i → i < k → i < length order → is_pending pending' (get_or order i 0) ≡ false)
    → WalkedTo drivers fixed held order start levels pending pending' j count
    → WalkedTo drivers fixed held order start levels pending pending' k count
WalkedTo-on drivers fixed held order start levels pending pending' j k count l clear h = record {
  waits = h.waits;
  kept = h.kept;
  done = λ i il within. elim (cases_lt i j) [
    | inl b ↦ h.done i b within
    | inr b ↦ clear i b il within
  ];
  counted = omega (arith, h.counted, l);
  bound = λ set c. let b = h.bound set c in omega (arith, b, count-take-le set order j k l);
  carried = h.carried;
}

-- after the last gate none is pending, and all nets fit
pub WalkedTo-clear : (drivers : List Driver) (order : List ℕ) → IsOrder drivers order
    → (fixed : List (Option Level)) (held start levels : List Level) (pending pending' : PendingGates) (k count : ℕ)
    → length order ≤ k → WalkedTo drivers fixed held order start levels pending pending' k count → (n : ℕ)
    → is_pending pending' n ≡ false
WalkedTo-clear drivers order o fixed held start levels pending pending' k count l h n = elim (cases_Bool (is_pending pending' n)) [
  | inr f ↦ f
  | inl t ↦
      let s = place_of drivers order o n (h.waits.gates_only n t) in
      subst (λ (m : ℕ). is_pending pending' m ≡ false) s.is (h.done s.place (let w = s.within in omega (arith, w, l)) s.within)
]

pub WalkedTo-settled : (drivers : List Driver)
    → ((n : ℕ) → n < length drivers → IsWired (length drivers) (driver_at drivers n)) → (order : List ℕ)
    → IsOrder drivers order → (fixed : List (Option Level)) (held start levels : List Level)
    (pending pending' : PendingGates) (k count : ℕ) → length order ≤ k
    → WalkedTo drivers fixed held order start levels pending pending' k count
    → ((n : ℕ) → n < length drivers → gate_at drivers n ≡ false → level_at start n ≡ own_level fixed held n)
    → Settled drivers fixed held levels
WalkedTo-settled drivers wired order o fixed held start levels pending pending' k count l h sources = record {
  one_each = h.waits.levels_count;
  fits = λ n in'. elim (cases_Bool (gate_at drivers n)) [
    | inl e ↦ h.waits.fits n in' e (WalkedTo-clear drivers order o fixed held start levels pending pending' k count l h n)
    | inr e ↦ h.kept n e ∙ sources n in' e ∙ sym (wanted_source drivers fixed held levels n e)
  ];
}

-- one more of these nets has its level
pub HaveLevels-more : (drivers : List Driver) (fixed : List (Option Level)) (held old new : List Level)
    (pending pending' : PendingGates) (nets : List ℕ) (i : ℕ) → i < length nets
    → Refreshes drivers fixed held old new pending pending'
    → level_at new (get_or nets i 0) ≡ own_level fixed held (get_or nets i 0) → HaveLevels fixed held old (take i nets)
    → HaveLevels fixed held new (take (i + 1) nets)
HaveLevels-more drivers fixed held old new pending pending' nets i l r here h = record {
  each = λ k kl.
      let below : k < i + 1 = omega (arith, kl, length-take-le (i + 1) nets (omega arith)) in
      subst (λ (n : ℕ). level_at new n ≡ own_level fixed held n) (sym (get_or-take (i + 1) nets k 0 below)) (elim (cases_eq k i) [
        | inl q ↦ subst (λ (a : ℕ). level_at new (get_or nets a 0) ≡ own_level fixed held (get_or nets a 0)) (sym q) here
        | inr ne ↦
            let front : k < i = omega (arith, below, ne) in
            let was = h.each k (omega (arith, front, length-take-le i nets (omega arith))) in
            Refreshes-keeps drivers fixed held old new pending pending' r (get_or nets k 0) (subst (λ (n : ℕ). level_at old n ≡ own_level fixed held n) (get_or-take i nets k 0 front) was)
      ]);
}

-- an input that has its level keeps it
HasLevel-keeps : (drivers : List Driver) (fixed : List (Option Level)) (held old new : List Level)
    (pending pending' : PendingGates) → Refreshes drivers fixed held old new pending pending' → (b : Bind)
    → HasLevel fixed held old b → HasLevel fixed held new b
HasLevel-keeps drivers fixed held old new pending pending' r bind.Free h = tt
HasLevel-keeps drivers fixed held old new pending pending' r (bind.Input n) h = Refreshes-keeps drivers fixed held old new pending pending' r n h
HasLevel-keeps drivers fixed held old new pending pending' r (bind.Output n) h = tt

-- one more of the driven inputs has its level
pub HaveDriven-more : (drivers : List Driver) (fixed : List (Option Level)) (held old new : List Level)
    (pending pending' : PendingGates) (binds : List Bind) (drives : List (ℕ × Drive)) (d : ℕ × Drive) (i : ℕ)
    → i < length drives → Refreshes drivers fixed held old new pending pending'
    → HasLevel fixed held new (bind_at binds (get_or drives i d).0) → HaveDriven fixed held old binds (take i drives)
    → HaveDriven fixed held new binds (take (i + 1) drives)
HaveDriven-more drivers fixed held old new pending pending' binds drives d i l r here h = record {
  each = λ k e kl.
      let below : k < i + 1 = omega (arith, kl, length-take-le (i + 1) drives (omega arith)) in
      subst (λ (a : ℕ × Drive). HasLevel fixed held new (bind_at binds a.0)) (sym (get_or-take (i + 1) drives k e below)) (elim (cases_eq k i) [
        | inl q ↦
            subst (λ (a : ℕ × Drive). HasLevel fixed held new (bind_at binds a.0)) (get_or_default drives i d e l ∙ ap (λ (j : ℕ). get_or drives j e) (sym q)) here
        | inr ne ↦
            let front : k < i = omega (arith, below, ne) in
            let was = h.each k e (omega (arith, front, length-take-le i drives (omega arith))) in
            HasLevel-keeps drivers fixed held old new pending pending' r (bind_at binds (get_or drives k e).0) (subst (λ (a : ℕ × Drive). HasLevel fixed held old (bind_at binds a.0)) (get_or-take i drives k e front) was)
      ]);
}
