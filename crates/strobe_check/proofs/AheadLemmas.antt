-- Asking for the signals that are to be sensed, one after another.
use Rattle.std.proofs.Common.{◌≡◌, ℕ, ◌+◌, ◌≤◌, Bool, true, false, ◌&&◌, ◌||◌, List, [], length, get_or, Option, None, refl, sym, ap, subst, ◌∙◌, arith, inl, inr}
use Rattle.std.specs.Prelude.{is_some}
use Rattle.std.specs.List.{list_any}
use Rattle.std.proofs.lemmas.Bool.{cases_lt, both_ways}
use Rattle.std.proofs.lemmas.List.{get_or_past}
use Rattle.tester_types.specs.declared.wave.Look.{Look}
use Rattle.tester_types.specs.declared.cycle.Moment.{Moment}
use Rattle.strobe_check.specs.Look.{is_edge}
use Rattle.strobe_check.specs.Entry.{looks_at}
use Rattle.strobe_check.specs.History.{Held, Answers, sensed}
use Rattle.strobe_check.specs.Step.{looks_of, window_after, has_edge, is_watched, is_wanted, SplitsRun}
use Rattle.strobe_check.specs.Windows.{Passes}
use Rattle.strobe_check.specs.Ahead.{HasLeft, Skips}
use Rattle.strobe_check.proofs.LookLemmas.{list_any-looks_of}
use Rattle.strobe_check.proofs.PassLemmas.{HasLeft-on, HasLeft-cut}
use Rattle.strobe_check.proofs.HistoryLemmas.{unbound-sensed, bound-sensed}

-- ---- one signal

-- whether a signal is watched depends on the looks at it alone
is_watched-alike : (window : Option Look) (signal : ℕ) (xs ys : List (ℕ × Look))
    → looks_of signal xs ≡ looks_of signal ys → is_watched window signal xs ≡ is_watched window signal ys
is_watched-alike window signal xs ys same =
    ap (λ b. b || is_some (window_after window (looks_of signal xs)))
    (list_any-looks_of is_edge signal xs ∙ ap (list_any is_edge) same ∙ sym (list_any-looks_of is_edge signal ys))
    ∙ ap (λ l. has_edge signal ys || is_some (window_after window l)) same

-- the looks at it say whether it is to be sensed
pub is_wanted-sensed : (moment : Moment) (held : Held) (signal : ℕ) (looks : List (ℕ × Look))
    → looks_of signal looks ≡ looks_at signal moment
    → Answers (sensed moment signal) held (is_wanted held signal looks)
is_wanted-sensed moment held signal looks same history seen = by (get_or held.bound signal false) refl
  where
    window : Option Look
    window = get_or held.windows signal None

    by : (b : Bool) → get_or held.bound signal false ≡ b → is_wanted held signal looks ≡ sensed moment signal history
    by false e = ap (λ b. b && is_watched window signal looks) e ∙ unbound-sensed history held moment signal seen e
    by true e =
        ap (λ b. b && is_watched window signal looks) e
        ∙ is_watched-alike window signal looks moment.looks same
        ∙ (elim (cases_lt signal (length held.bound)) as (λ _. is_watched window signal moment.looks ≡ sensed moment signal history) [
          | inl within ↦ bound-sensed history held moment signal None window seen within e refl
          | inr past ↦ absurd (both_ways (get_or held.bound signal false) (get_or_past held.bound signal false past) e)
        ])

-- without looks and without a window it isn't
is_wanted-idle : (held : Held) (signal : ℕ) (looks : List (ℕ × Look)) → looks_of signal looks ≡ []
    → get_or held.windows signal None ≡ None → is_wanted held signal looks ≡ false
is_wanted-idle held signal looks none closed =
    ap (λ w. get_or held.bound signal false && is_watched w signal looks) closed
    ∙ ap (λ b. get_or held.bound signal false && b) (is_watched-alike None signal looks [] none)
    ∙ by (get_or held.bound signal false)
  where
    by : (b : Bool) → (b && false) ≡ false
    by true = refl
    by false = refl

-- ---- signals that are skipped

Skips-passes : (moment : Moment) (held : Held) (sorted : Bool) (rest : List (ℕ × Look)) (from upto : ℕ)
    → Passes sorted rest held.windows from upto → HasLeft moment sorted from rest → Skips moment held from upto
Skips-passes moment held sorted rest from upto passes left k a b history seen =
    sym (is_wanted-idle held k rest (passes.no_look left.ascends k a b) (passes.no_window k a b))
    ∙ is_wanted-sensed moment held k rest (left.all k a) history seen

Skips-join : (moment : Moment) (held : Held) (from middle upto : ℕ) → Skips moment held from middle
    → Skips moment held middle upto → Skips moment held from upto
Skips-join moment held from middle upto front back k a b = elim (cases_lt k middle) [
  | inl l ↦ front k a l
  | inr l ↦ back k l b
]

Skips-one : (moment : Moment) (held : Held) (signal : ℕ) → Answers (sensed moment signal) held false
    → Skips moment held signal (signal + 1)
Skips-one moment held signal not_wanted k a b =
    let same : signal ≡ k = omega (arith, a, b) in
    subst (λ (n : ℕ). Answers (sensed moment n) held false) same not_wanted

-- past the last signal none is to be sensed
pub Skips-past : (moment : Moment) (held : Held) (k : ℕ) → length held.bound ≤ k
    → Answers (sensed moment k) held false
Skips-past moment held k past history seen =
    unbound-sensed history held moment k seen (get_or_past held.bound k false past)

-- ---- the asking

-- from one signal on up to another none is to be sensed, and these looks are left
pub record IsAsking (moment : Moment) (held : Held) (sorted : Bool) (from signal : ℕ) (rest : List (ℕ × Look)) :
    Type 0 where
  pub onward : from ≤ signal
  pub skips : Skips moment held from signal
  pub left : HasLeft moment sorted signal rest

pub IsAsking-starts : (moment : Moment) (held : Held) (sorted : Bool) (from signal : ℕ) (rest : List (ℕ × Look))
    → Passes sorted rest held.windows from signal → HasLeft moment sorted from rest
    → IsAsking moment held sorted from signal rest
IsAsking-starts moment held sorted from signal rest passes left = record {
  onward = passes.onward;
  skips = Skips-passes moment held sorted rest from signal passes left;
  left = HasLeft-on moment sorted held.windows rest from signal passes left;
}

-- whether the signal itself is to be sensed
pub asked : (moment : Moment) (held : Held) (sorted : Bool) (from signal : ℕ) (rest own later : List (ℕ × Look))
    → IsAsking moment held sorted from signal rest → SplitsRun sorted signal rest own later
    → Answers (sensed moment signal) held (is_wanted held signal own)
asked moment held sorted from signal rest own later asking split =
    is_wanted-sensed moment held signal own
    (split.here asking.left.ascends ∙ asking.left.all signal (omega arith))

-- it isn't, and the asking goes on
pub IsAsking-goes_on : (moment : Moment) (held : Held) (sorted : Bool) (from signal next : ℕ)
    (rest own later : List (ℕ × Look)) → IsAsking moment held sorted from signal rest
    → SplitsRun sorted signal rest own later → is_wanted held signal own ≡ false
    → Passes sorted later held.windows (signal + 1) next → IsAsking moment held sorted from next later
IsAsking-goes_on moment held sorted from signal next rest own later asking split not_wanted passes =
    let left = HasLeft-cut moment sorted signal rest own later split asking.left in
    let answer = subst (λ (b : Bool). Answers (sensed moment signal) held b) not_wanted
    (asked moment held sorted from signal rest own later asking split) in
    let here = Skips-join moment held from signal (signal + 1) asking.skips (Skips-one moment held signal answer) in
    record {
      onward = omega (arith, asking.onward, passes.onward);
      skips = Skips-join moment held from (signal + 1) next here
          (Skips-passes moment held sorted later (signal + 1) next passes left);
      left = HasLeft-on moment sorted held.windows later (signal + 1) next passes left;
    }

-- it is past the last one
pub IsAsking-ends : (moment : Moment) (held : Held) (sorted : Bool) (from signal : ℕ) (rest : List (ℕ × Look))
    → IsAsking moment held sorted from signal rest → length held.bound ≤ signal
    → (k : ℕ) → from ≤ k → Answers (sensed moment k) held false
IsAsking-ends moment held sorted from signal rest asking past k a = elim (cases_lt k signal) [
  | inl l ↦ asking.skips k a l
  | inr l ↦ Skips-past moment held k (omega (arith, l, past))
]
