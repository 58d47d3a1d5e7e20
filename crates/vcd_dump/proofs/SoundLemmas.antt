-- The tape of a first try is sound with the vars of its dump: first the vars, and the drives of one moment.
use Rattle.std.proofs.Common.{◌≡◌, ℕ, zero, suc, ◌+◌, ◌<◌, ◌≤◌, ◌==◌, ◌||◌, Bool, true, false, cond, List, [], ◌∷◌, ◌++◌, length, map, Option, Some, None, refl, sym, ap, ◌∙◌, subst, inl, inr, arith, rules}
use Rattle.std.specs.Prelude.{codes, decimal, slice_get, filter}
use Rattle.std.specs.List.{AllByRecursion, flat_map, range_with_len, list_all}
use Rattle.std.specs.Option.{option_map_or}
use Rattle.std.specs.Str.Parse.{AllDigits}
use Rattle.std.proofs.lemmas.Bool.{cases_Bool, and_from, cond-true, cond-false}
use Rattle.std.proofs.lemmas.Option.{get_or_from_slice_get, slice_get_within}
use Rattle.std.proofs.lemmas.List.Folds.{list_any-append}
use Rattle.std.proofs.lemmas.Fmt.{decimal_is_IsNumeral_wide, length-decimal-le}
use Rattle.std.proofs.lemmas.Str.Parse.{tells_digits}
use Rattle.std.proofs.Math.Bool.{or-true}
use Rattle.text_bytes.specs.Bytes.{begins_name, is_word}
use Rattle.text_bytes.specs.Limits.{longest_name, most_signals}
use Rattle.tester_types.specs.declared.wave.Push.{Push}
use Rattle.tester_types.specs.declared.level.Drive.{Drive}
use Rattle.packed_code.specs.declared.parts.CodeSignal.{CodeSignal}
use Rattle.packed_code.specs.Program.{Program}
use Rattle.packed_code.specs.Conditions.{IsProgram, IsSignal}
use Rattle.packed_code.proofs.Lists.{behind_at}
use Rattle.die_sim.specs.Die.{Device}
use Rattle.site_meaning.specs.Playing.{is_driven, handed}
use Rattle.cycle_run.specs.Step as step
use Rattle.vcd_text.specs.Dump.{Var, is_plain, name_of}
use Rattle.vcd_text.specs.Sound.{Rises, IsVar, AreVars, is_var, AreDrives}
use Rattle.vcd_dump.specs.Taken.{var_of, signal_text}

-- ---- names

digits_words : (digits : List ℕ) → AllDigits 10 digits → list_all is_word digits ≡ true
unfolding is_word
digits_words [] all = refl
digits_words (d ∷ digits) all =
    let parts = tells_digits.parts d digits all in
    and_from (is_word d) (list_all is_word digits) (search (rules, parts.0)) (digits_words digits parts.1)

-- a number's name is plain
numbered_plain : (n : ℕ) → n < most_signals → is_plain (codes "s" ++ decimal n) ≡ true
unfolding is_word begins_name
numbered_plain n small = digits_words (decimal n) (decimal_is_IsNumeral_wide n (omega (arith, small))).0.1

numbered_short : (n : ℕ) → n < most_signals → length (codes "s" ++ decimal n) ≤ longest_name
numbered_short n small =
    let short = length-decimal-le 4 n (omega arith) (omega (arith, small)) (omega (arith, small)) in omega (arith, short)

-- a signal's var is one
var_fits : (signal : ℕ) (text : List ℕ) → signal < most_signals → length text ≤ longest_name → IsVar (signal, name_of signal text)
var_fits signal text small short = elim (cases_Bool (is_plain text)) [
  | inl plain ↦
      let same : name_of signal text ≡ text = cond-true (is_plain text) text (codes "s" ++ decimal signal) plain in
      record { number = small; plain = ap is_plain same ∙ plain; short = omega (arith, ap length same, short) }
  | inr other ↦
      let same : name_of signal text ≡ codes "s" ++ decimal signal = cond-false (is_plain text) text (codes "s" ++ decimal signal) other in
      record { number = small; plain = ap is_plain same ∙ numbered_plain signal small; short = omega (arith, ap length same, numbered_short signal small) }
]

-- the name of a signal of a program
short_name : (code : Program) (signal : ℕ) → IsProgram code → length (signal_text code signal) ≤ longest_name
short_name code signal program = go (slice_get code.signals signal) refl
  where
    go : (o : Option CodeSignal) → slice_get code.signals signal ≡ o → length (option_map_or (λ (s : CodeSignal). s.name) o []) ≤ longest_name
    go None is = omega arith
    go (Some s) is =
        let within = slice_get_within code.signals signal s is in
        let fits = behind_at IsSignal [] code.signals signal s program.signals within in
        let same = get_or_from_slice_get code.signals signal s s is in
        omega (arith, fits.name.text.short, ap (λ (t : CodeSignal). length t.name) same)

from_zero : (drives : List (ℕ × Push)) → AllByRecursion (λ (g : ℕ × Push). 0 ≤ g.0) drives
from_zero [] = tt
from_zero (d ∷ drives) = (omega arith, from_zero drives)

-- ---- the vars

rises_weaker : {X : Type 0} (low least : ℕ) (items : List (ℕ × X)) → low ≤ least → Rises least items → Rises low items
rises_weaker low least [] less rise = tt
rises_weaker low least (item ∷ items) less rise = (omega (arith, less, rise.0), rise.1)

-- a signal that isn't driven has no var, and one that is has one
vars_behind : (device : Device) (code : Program) (a : ℕ) (later : List Var) (b : Bool) → is_driven device a ≡ b
    → var_of device code a ++ later ≡ cond b ((a, name_of a (signal_text code a)) ∷ later) later
vars_behind device code a later true is = ap (λ c. cond c ((a, name_of a (signal_text code a)) ∷ []) [] ++ later) is
vars_behind device code a later false is = ap (λ c. cond c ((a, name_of a (signal_text code a)) ∷ []) [] ++ later) is

vars_from : (device : Device) (code : Program) (a n : ℕ) → List Var
vars_from device code a n = flat_map (var_of device code) (range_with_len a n)

vars_rise : (device : Device) (code : Program) (a n : ℕ) → Rises a (vars_from device code a n)
unfolding vars_from
vars_rise device code a zero = tt
vars_rise device code a (suc n) =
    let later = vars_from device code (a + 1) n in
    elim (cases_Bool (is_driven device a)) [
      | inl driven ↦ subst (Rises a) (sym (vars_behind device code a later true driven)) (omega arith, vars_rise device code (a + 1) n)
      | inr other ↦ subst (Rises a) (sym (vars_behind device code a later false other))
          (rises_weaker a (a + 1) later (omega arith) (vars_rise device code (a + 1) n))
    ]

vars_fit : (device : Device) (code : Program) (a n : ℕ) → IsProgram code → a + n ≤ most_signals → AllByRecursion IsVar (vars_from device code a n)
unfolding vars_from
vars_fit device code a zero program few = tt
vars_fit device code a (suc n) program few =
    let later = vars_from device code (a + 1) n in
    let rest = vars_fit device code (a + 1) n program (omega (arith, few)) in
    elim (cases_Bool (is_driven device a)) [
      | inl driven ↦ subst (AllByRecursion IsVar) (sym (vars_behind device code a later true driven))
          (var_fits a (signal_text code a) (omega (arith, few)) (short_name code a program), rest)
      | inr other ↦ subst (AllByRecursion IsVar) (sym (vars_behind device code a later false other)) rest
    ]

var_there : (device : Device) (code : Program) (a n signal : ℕ) → a ≤ signal → signal < a + n → is_driven device signal ≡ true
    → is_var (vars_from device code a n) signal ≡ true
unfolding vars_from
var_there device code a zero signal low high driven = absurd (omega (arith, low, high))
var_there device code a (suc n) signal low high driven =
    let later = vars_from device code (a + 1) n in
    elim (cases_Bool (a == signal)) [
      | inl same ↦
          let e : a ≡ signal = search (rules, same) in
          ap (λ vs. is_var vs signal) (vars_behind device code a later true (ap (is_driven device) e ∙ driven))
          ∙ ap (λ b. b || is_var later signal) same
      | inr other ↦
          let more : a + 1 ≤ signal = search (rules, other, low) in
          let rest : is_var later signal ≡ true = var_there device code (a + 1) n signal more (omega (arith, high)) driven in
          list_any-append (λ (v : Var). v.0 == signal) (var_of device code a) later
          ∙ ap (λ b. is_var (var_of device code a) signal || b) rest ∙ or-true (is_var (var_of device code a) signal)
    ]

-- all vars
pub vars_sound : (device : Device) (code : Program) → IsProgram code
    → AreVars (flat_map (var_of device code) (range_with_len 0 (length code.signals)))
unfolding vars_from
vars_sound device code program = record {
  rise = vars_rise device code 0 (length code.signals);
  each = vars_fit device code 0 (length code.signals) program (omega (arith, program.few_signals));
}

-- a driven signal is among them
pub driven_is_var : (device : Device) (code : Program) (signal : ℕ) → signal < length code.signals → is_driven device signal ≡ true
    → is_var (flat_map (var_of device code) (range_with_len 0 (length code.signals))) signal ≡ true
unfolding vars_from
driven_is_var device code signal within driven = var_there device code 0 (length code.signals) signal (omega arith) (omega (arith, within)) driven

-- ---- the drives of a moment

module _ (device : Device) (priors : List Drive) (vars : List Var) (signals : ℕ)
    (there : (signal : ℕ) → signal < signals → is_driven device signal ≡ true → is_var vars signal ≡ true) where
  abbrev given_of : List (ℕ × Push) → List (ℕ × Drive)
  given_of drives = map (handed priors) (filter (λ (given : ℕ × Push). is_driven device given.0) drives)

  given_behind : (first : ℕ × Push) (drives : List (ℕ × Push)) (b : Bool) → is_driven device first.0 ≡ b
      → given_of (first ∷ drives) ≡ cond b (handed priors first ∷ given_of drives) (given_of drives)
  given_behind first drives true is = ap (λ c. map (handed priors) (cond c (first ∷ filter (λ (given : ℕ × Push). is_driven device given.0) drives) (filter (λ (given : ℕ × Push). is_driven device given.0) drives))) is
  given_behind first drives false is = ap (λ c. map (handed priors) (cond c (first ∷ filter (λ (given : ℕ × Push). is_driven device given.0) drives) (filter (λ (given : ℕ × Push). is_driven device given.0) drives))) is

  above : (least n : ℕ) (drives : List (ℕ × Push)) → AllByRecursion (λ (next : ℕ × Push). n < next.0) drives → AllByRecursion (λ (g : ℕ × Push). n + 1 ≤ g.0) drives
  above least n [] all = tt
  above least n (d ∷ drives) all = let h = all.0 in (omega (arith, h), above least n drives all.1)

  given_rise : (least : ℕ) (drives : List (ℕ × Push)) → AllByRecursion (λ (g : ℕ × Push). least ≤ g.0) drives → step.Rises drives
      → Rises least (given_of drives)
  given_rise least [] low rise = tt
  given_rise least (first ∷ drives) low rise = elim (cases_Bool (is_driven device first.0)) [
    | inl driven ↦ subst (Rises least) (sym (given_behind first drives true driven))
        (low.0, given_rise (first.0 + 1) drives (above least first.0 drives rise.0) rise.1)
    | inr other ↦ subst (Rises least) (sym (given_behind first drives false other)) (given_rise least drives low.1 rise.1)
  ]

  given_among : (drives : List (ℕ × Push)) → AllByRecursion (λ (g : ℕ × Push). g.0 < signals) drives
      → AllByRecursion (λ (given : ℕ × Drive). is_var vars given.0 ≡ true) (given_of drives)
  given_among [] below = tt
  given_among (first ∷ drives) below = elim (cases_Bool (is_driven device first.0)) [
    | inl driven ↦ subst (AllByRecursion (λ (given : ℕ × Drive). is_var vars given.0 ≡ true)) (sym (given_behind first drives true driven))
        (there first.0 below.0 driven, given_among drives below.1)
    | inr other ↦ subst (AllByRecursion (λ (given : ℕ × Drive). is_var vars given.0 ≡ true)) (sym (given_behind first drives false other))
        (given_among drives below.1)
  ]

  pub given_sound : (drives : List (ℕ × Push)) → step.Rises drives → AllByRecursion (λ (g : ℕ × Push). g.0 < signals) drives
      → AreDrives vars (given_of drives)
  given_sound drives rise below = record {
    rise = given_rise 0 drives (from_zero drives) rise;
    each = given_among drives below;
  }
