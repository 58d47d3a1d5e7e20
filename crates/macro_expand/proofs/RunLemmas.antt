-- The character at a place is that of the run in which the place stands.
use Rattle.std.proofs.Common.{◌≡◌, ℕ, zero, suc, ◌+◌, ◌-◌, ◌<◌, ◌≤◌, List, [], ◌∷◌, ◌++◌, refl, sym, ap, ◌∙◌, inl, inr, arith, length, get_or, replicate, append_assoc, append-nil}
use Rattle.std.specs.List.Sorted.{IsNonDecreasingBy}
use Rattle.std.proofs.lemmas.Bool.{cases_lt}
use Rattle.std.proofs.lemmas.List.{length-append, length-replicate, get_or-replicate, get_or_append_left, get_or-append_right}
use Rattle.stil_ast.specs.Meaning.Arguments.{Entry, given}
use Rattle.macro_expand.specs.Runs.{spelled, end_of, RiseFrom}
use Rattle.macro_expand.specs.declared.characters.CharacterRun.{CharacterRun}

-- the characters of a run that begins behind so many
abbrev run_spelled : ℕ → CharacterRun → List Entry
run_spelled from run = replicate (run.end - from) (given run.character)

length-run : (from : ℕ) (run : CharacterRun) → length (run_spelled from run) ≡ run.end - from
length-run from run = length-replicate (run.end - from) (given run.character)

-- how many characters runs stand for
pub length-spelled : (from : ℕ) (runs : List CharacterRun) → RiseFrom from runs
    → from + length (spelled from runs) ≡ end_of from runs
length-spelled from [] rise = omega arith
length-spelled from (run ∷ runs) rise =
    let all = length-append (run_spelled from run) (spelled run.end runs) in
    let first = length-run from run in
    let later = length-spelled run.end runs rise.1 in
    let up = rise.0 in
    omega (arith, all, first, later, up)

-- the characters of one run more
pub spelled-more : (from : ℕ) (runs : List CharacterRun) (run : CharacterRun)
    → spelled from (runs ++ run ∷ []) ≡ spelled from runs ++ run_spelled (end_of from runs) run
spelled-more from [] run = append-nil (run_spelled from run)
spelled-more from (first ∷ runs) run =
    ap (λ (xs : List Entry). run_spelled from first ++ xs) (spelled-more first.end runs run)
    ∙ sym (append_assoc (run_spelled from first) (spelled first.end runs) (run_spelled (end_of first.end runs) run))

pub end_of-more : (from : ℕ) (runs : List CharacterRun) (run : CharacterRun) → end_of from (runs ++ run ∷ []) ≡ run.end
end_of-more from [] run = refl
end_of-more from (first ∷ runs) run = end_of-more first.end runs run

pub rise-more : (from : ℕ) (runs : List CharacterRun) (run : CharacterRun) → RiseFrom from runs
    → end_of from runs ≤ run.end → RiseFrom from (runs ++ run ∷ [])
rise-more from [] run rise up = (up, tt)
rise-more from (first ∷ runs) run rise up = (rise.0, rise-more first.end runs run rise.1 up)

-- no run ends before the first begins
ends-above : (from : ℕ) (runs : List CharacterRun) (k : ℕ) (d : CharacterRun) → RiseFrom from runs
    → k < length runs → from ≤ (get_or runs k d).end
ends-above from [] k d rise inside = absurd (omega arith)
ends-above from (run ∷ runs) zero d rise inside = rise.0
ends-above from (run ∷ runs) (suc k) d rise inside =
    let up = rise.0 in
    let later = ends-above run.end runs k d rise.1 (omega arith) in
    omega (arith, up, later)

pub ends_rise : (from : ℕ) (runs : List CharacterRun) → RiseFrom from runs
    → IsNonDecreasingBy (λ (run : CharacterRun). run.end) runs
ends_rise from [] rise i j d le inside = absurd (omega arith)
ends_rise from (run ∷ runs) rise zero zero d le inside = omega arith
ends_rise from (run ∷ runs) rise zero (suc j) d le inside = ends-above run.end runs j d rise.1 (omega arith)
ends_rise from (run ∷ runs) rise (suc i) zero d le inside = absurd (omega arith)
ends_rise from (run ∷ runs) rise (suc i) (suc j) d le inside =
    ends_rise run.end runs rise.1 i j d (omega arith) (omega arith)

-- where every run ends at a place or before it, the last one does
pub ends_before : (from place : ℕ) (runs : List CharacterRun) (d : CharacterRun) → from ≤ place
    → ((k : ℕ) → k < length runs → (get_or runs k d).end ≤ place) → end_of from runs ≤ place
ends_before from place [] d begun each = begun
ends_before from place (run ∷ runs) d begun each =
    ends_before run.end place runs d (each 0 (omega arith)) (λ k inside. each (suc k) (omega arith))

-- the character at a place in a run, before which the others end
pub spelled-at : (from place : ℕ) (runs : List CharacterRun) (r : ℕ) (d : CharacterRun) (e : Entry) → RiseFrom from runs
    → from ≤ place → r < length runs → ((k : ℕ) → k < r → (get_or runs k d).end ≤ place) → place < (get_or runs r d).end
    → get_or (spelled from runs) (place - from) e ≡ given (get_or runs r d).character
spelled-at from place [] r d e rise begun inside before ends = absurd (omega arith)
spelled-at from place (run ∷ runs) zero d e rise begun inside before ends =
    let size = length-run from run in
    get_or_append_left (run_spelled from run) (spelled run.end runs) e (place - from) (omega (arith, size))
    ∙ get_or-replicate (run.end - from) (place - from) (given run.character) e (omega arith)
spelled-at from place (run ∷ runs) (suc r) d e rise begun inside before ends =
    let up = rise.0 in
    let past = before 0 (omega arith) in
    let later = spelled run.end runs in
    let first = run_spelled from run in
    get_or-append_right first later (run.end - from) (place - from) e (length-run from run) (omega arith)
    ∙ (ap (λ (n : ℕ). get_or later n e) (let s : place - from - (run.end - from) ≡ place - run.end = omega arith in s)
    ∙ spelled-at run.end place runs r d e rise.1 past (omega arith) (λ k less. before (suc k) (omega arith)) ends)

-- a place among the characters stands in a run, if the runs before it end
pub run-inside : (runs : List CharacterRun) (r place : ℕ) (d : CharacterRun) → RiseFrom 0 runs
    → place < length (spelled 0 runs) → ((k : ℕ) → k < r → (get_or runs k d).end ≤ place) → r < length runs
run-inside runs r place d rise within before =
    elim (cases_lt r (length runs)) [
      | inl inside ↦ inside
      | inr past ↦
          let size = length-spelled 0 runs rise in
          let ended = ends_before 0 place runs d (omega arith) (λ k inside. before k (omega arith)) in
          absurd (omega (arith, size, ended, within))
    ]
