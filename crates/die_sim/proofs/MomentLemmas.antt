-- The flip-flops capture one after another, and the inputs get their levels.
use Rattle.std.proofs.Common.{◌≡◌, ℕ, suc, ◌+◌, ◌<◌, ◌⊎◌, ◌++◌, Bool, true, cond, List, [], ◌∷◌, length, get_or, set, refl, sym, ap, ◌∙◌, subst, arith, inl, inr, length-set, length-append}
use Rattle.std.proofs.lemmas.List.{get_or-set_same, get_or-set_other, get_or_append_left, get_or_push, get_or_past}
use Rattle.std.proofs.lemmas.Bool.{cases_Bool, cases_eq, cases_lt, both_ways}
use borrow.Author.Count.{below_more}
use Rattle.tester_types.specs.declared.level.Level.{Level}
use Rattle.tester_types.specs.declared.level.Level.TheVariants.{Zero, One, X, Z}
use Rattle.tester_types.specs.declared.level.Drive.{Drive}
use Rattle.bench_net.specs.declared.gate.Driver.{Driver}
use Rattle.bench_net.specs.declared.gate.Driver.TheVariants.{Input, Dff, Gate}
use Rattle.bench_net.specs.Wiring.{driver_at}
use Rattle.die_sim.specs.declared.image.Bind.{Bind}
use Rattle.die_sim.specs.declared.image.Bind.TheVariants as bind
use Rattle.die_sim.specs.declared.moment.Edge.{Edge}
use Rattle.die_sim.specs.declared.moment.Edge.TheVariants.{Takes, Doubts, Keeps}
use Rattle.bench_net.specs.Gates.{level_at}
use Rattle.die_sim.specs.Die.{bind_at}
use Rattle.die_sim.specs.Moment.{captured, capture, agreed, drive_level, put_at, put_all}
use Rattle.die_sim.specs.Walk.{is_flip_flop, StandsAt, AreFlipFlops}

-- to capture twice is to capture once
agreed-twice : (own d : Level) → agreed (agreed own d) d ≡ agreed own d
agreed-twice Zero Zero = refl
agreed-twice Zero One = refl
agreed-twice Zero X = refl
agreed-twice Zero Z = refl
agreed-twice One Zero = refl
agreed-twice One One = refl
agreed-twice One X = refl
agreed-twice One Z = refl
agreed-twice X d = refl
agreed-twice Z d = refl

capture-twice : (e : Edge) (own d : Level) → capture e (capture e own d) d ≡ capture e own d
capture-twice Takes own d = refl
capture-twice Doubts own d = agreed-twice own d
capture-twice Keeps own d = refl

captured-twice : (d : Driver) (e : Edge) (own : Level) (before : List Level) → captured d e (captured d e own before) before ≡ captured d e own before
captured-twice Input e own before = refl
captured-twice (Dff p) e own before = capture-twice e own (level_at before p)
captured-twice (Gate kind pins) e own before = refl

-- a flip-flop's net is one of the nets
pub flip_flop_within : (drivers : List Driver) (n : ℕ) → is_flip_flop (driver_at drivers n) ≡ true → n < length drivers
flip_flop_within drivers n e = elim (cases_lt n (length drivers)) [
  | inl l ↦ l
  | inr l ↦ absurd (both_ways (is_flip_flop (driver_at drivers n)) (ap is_flip_flop (get_or_past drivers n Input l)) e)
]

-- of these nets those in front of a place have captured
pub record CapturedTo (drivers : List Driver) (e : Edge) (before old new : List Level) (nets : List ℕ) (i : ℕ) : Type 0 where
  pub count : length new ≡ length old
  pub either : (n : ℕ) → (level_at new n ≡ level_at old n) ⊎ (level_at new n ≡ captured (driver_at drivers n) e (level_at old n) before)
  pub done : (k : ℕ) → k < i → level_at new (get_or nets k 0) ≡ captured (driver_at drivers (get_or nets k 0)) e (level_at old (get_or nets k 0)) before

-- one more has
module _ (drivers : List Driver) (e : Edge) (before old cur : List Level) (nets : List ℕ) (i n : ℕ) (x : Level)
    (n_is : n ≡ get_or nets i 0) (within : n < length cur)
    (x_is : x ≡ captured (driver_at drivers n) e (level_at cur n) before)
    (h : CapturedTo drivers e before old cur nets i) where
  here : level_at (set cur n x) n ≡ captured (driver_at drivers n) e (level_at old n) before
  here = get_or-set_same cur n x Zero within ∙ x_is ∙ elim (h.either n) [
    | inl was ↦ ap (λ (l : Level). captured (driver_at drivers n) e l before) was
    | inr now ↦ ap (λ (l : Level). captured (driver_at drivers n) e l before) now ∙ captured-twice (driver_at drivers n) e (level_at old n) before
  ]

  kept : (m : ℕ) → level_at cur m ≡ captured (driver_at drivers m) e (level_at old m) before
      → level_at (set cur n x) m ≡ captured (driver_at drivers m) e (level_at old m) before
  kept m was = elim (cases_eq m n) [
    | inl q ↦ subst (λ (a : ℕ). level_at (set cur n x) a ≡ captured (driver_at drivers a) e (level_at old a) before) (sym q) here
    | inr ne ↦ get_or-set_other cur n m x Zero ne ∙ was
  ]

  pub CapturedTo-more : CapturedTo drivers e before old (set cur n x) nets (i + 1)
  CapturedTo-more = record {
    count = length-set cur n x ∙ h.count;
    either = λ m. elim (cases_eq m n) [
      | inl q ↦ inr (subst (λ (a : ℕ). level_at (set cur n x) a ≡ captured (driver_at drivers a) e (level_at old a) before) (sym q) here)
      | inr ne ↦ elim (h.either m) [
        | inl was ↦ inl (get_or-set_other cur n m x Zero ne ∙ was)
        | inr now ↦ inr (get_or-set_other cur n m x Zero ne ∙ now)
      ]
    ];
    done = below_more (λ k. level_at (set cur n x) (get_or nets k 0) ≡ captured (driver_at drivers (get_or nets k 0)) e (level_at old (get_or nets k 0)) before) i
        (λ k l. kept (get_or nets k 0) (h.done k l))
        (subst (λ (a : ℕ). level_at (set cur n x) a ≡ captured (driver_at drivers a) e (level_at old a) before) n_is here);
  }

stands_pushed : (n m : ℕ) (xs : List ℕ) → StandsAt n xs → StandsAt n (xs ++ m ∷ [])
stands_pushed n m xs s = record {
  place = s.place;
  within = let w = s.within in omega (arith, w, length-append xs (m ∷ []));
  is = get_or_append_left xs (m ∷ []) 0 s.place s.within ∙ s.is;
}

stands_last : (n : ℕ) (xs : List ℕ) → StandsAt n (xs ++ n ∷ [])
stands_last n xs = record {
  place = length xs;
  within = omega (arith, length-append xs (n ∷ []));
  is = get_or_push xs n 0 (length xs) refl;
}

pub AreFlipFlops-more : (drivers : List Driver) (old new : List ℕ) (n : ℕ)
    → new ≡ cond (is_flip_flop (driver_at drivers n)) (old ++ n ∷ []) old → AreFlipFlops drivers old n
    → AreFlipFlops drivers new (n + 1)
AreFlipFlops-more drivers old new n e h = elim (cases_Bool (is_flip_flop (driver_at drivers n))) [
  | inl t ↦
      let is : new ≡ old ++ n ∷ [] = e ∙ ap (λ (b : Bool). cond b (old ++ n ∷ []) old) t in
      subst (λ (l : List ℕ). AreFlipFlops drivers l (n + 1)) (sym is) (record {
        each = λ k l. elim (cases_eq k (length old)) [
          | inl q ↦ subst (λ (m : ℕ). is_flip_flop (driver_at drivers m) ≡ true) (sym (get_or_push old n 0 k (sym q))) t
          | inr ne ↦
              let before : k < length old = omega (arith, l, ne, length-append old (n ∷ [])) in
              subst (λ (m : ℕ). is_flip_flop (driver_at drivers m) ≡ true) (sym (get_or_append_left old (n ∷ []) 0 k before)) (h.each k before)
        ];
        all = λ m l f. elim (cases_eq m n) [
          | inl q ↦ subst (λ (a : ℕ). StandsAt a (old ++ n ∷ [])) (sym q) (stands_last n old)
          | inr ne ↦ stands_pushed m n old (h.all m (omega (arith, l, ne)) f)
        ];
      })
  | inr f ↦
      let is : new ≡ old = e ∙ ap (λ (b : Bool). cond b (old ++ n ∷ []) old) f in
      subst (λ (l : List ℕ). AreFlipFlops drivers l (n + 1)) (sym is) (record {
        each = h.each;
        all = λ m l t. elim (cases_eq m n) [
          | inl q ↦ absurd (both_ways (is_flip_flop (driver_at drivers n)) f (subst (λ (a : ℕ). is_flip_flop (driver_at drivers a) ≡ true) q t))
          | inr ne ↦ h.all m (omega (arith, l, ne)) t
        ];
      })
]

-- one of these drives is of the input
pub record IsDriven (binds : List Bind) (drives : List (ℕ × Drive)) (n : ℕ) : Type 0 where
  pub place : ℕ
  pub drive : ℕ × Drive
  pub within : place < length drives
  pub is : bind_at binds (get_or drives place drive).0 ≡ bind.Input n

put_at-other : (b : Bind) (d : Drive) (held : List Level) (n : ℕ) → (level_at (put_at b d held) n ≡ level_at held n) ⊎ (b ≡ bind.Input n)
put_at-other bind.Free d held n = inl refl
put_at-other (bind.Input m) d held n = elim (cases_eq n m) [
  | inl q ↦ inr (ap (λ (a : ℕ). bind.Input a) (sym q))
  | inr ne ↦ inl (get_or-set_other held m n (drive_level d) Zero ne)
]
put_at-other (bind.Output m) d held n = inl refl

-- what isn't driven stays
pub put_all-other : (binds : List Bind) (drives : List (ℕ × Drive)) (held : List Level) (n : ℕ)
    → (level_at (put_all binds held drives) n ≡ level_at held n) ⊎ IsDriven binds drives n
put_all-other binds [] held n = inl refl
put_all-other binds (d ∷ drives) held n = elim (put_all-other binds drives (put_at (bind_at binds d.0) d.1 held) n) [
  | inl same ↦ elim (put_at-other (bind_at binds d.0) d.1 held n) [
    | inl stays ↦ inl (same ∙ stays)
    | inr here ↦ inr (record { place = 0; drive = d; within = omega arith; is = here })
  ]
  | inr there ↦ inr (record { place = suc there.place; drive = there.drive; within = let w = there.within in omega (arith, w); is = there.is })
]
