-- Runs of faults of one image, one fault after another and 64 at a time.
use Rattle.std.proofs.Common.{◌≡◌, ℕ, ◌+◌, ◌-◌, ◌*◌, ◌<◌, ◌≤◌, ℤ, List, [], ◌∷◌, ◌++◌, length, get_or, map, Option, None, sym, ap, ◌∙◌, subst, arith}
use Rattle.std.specs.List.{range_with_len}
use Rattle.std.proofs.lemmas.List.{append-nil, append_assoc, map-append, get_or-map, length-map}
use Rattle.std.proofs.lemmas.List.FromFn.{get_or-range_with_len, length-range_with_len}
use Rattle.die_sim.specs.Die.{Image}
use Rattle.die_sim.specs.Walk.{AreFaultsWithin}
use Rattle.die_sim.specs.declared.image.StuckAt.{StuckAt}
use Rattle.packed_code.specs.Program.{Program}
use Rattle.word_run.specs.First.{first_on, with_fault}
use Rattle.fault_grade.specs.Run.{fault_at}
use Rattle.fault_grade.specs.Search.{graded_on, run_on}
use Rattle.fault_grade.specs.declared.graded.Graded.{Graded}
use Rattle.fault_grade.proofs.RunLemmas.{range-join}

-- one more fault is tried
pub run-next : (code : Program) (skews : List ℤ) (image : Image) (from number : ℕ) → from ≤ number
    → run_on code skews image from (number + 1)
    ≡ run_on code skews image from number ++ graded_on code skews image (fault_at number) ∷ []
unfolding run_on
run-next code skews image from number order =
    let graded_at : ℕ → Graded = λ k. graded_on code skews image (fault_at k) in
    let here : from + (number - from) ≡ number = omega (arith, order) in
    let all : number + 1 - from ≡ (number - from) + 1 = omega (arith, order) in
    ap (λ (n : ℕ). map graded_at (range_with_len from n)) all
    ∙ ap (map graded_at) (sym (range-join (number - from) 1 from))
    ∙ ap (λ (k : ℕ). map graded_at (range_with_len from (number - from) ++ k ∷ [])) here
    ∙ map-append graded_at (range_with_len from (number - from)) (number ∷ [])

pub run-begins : (code : Program) (skews : List ℤ) (image : Image) (from : ℕ) → [] ≡ run_on code skews image from from
unfolding run_on
run-begins code skews image from =
    let none : 0 ≡ from - from = omega arith in
    ap (λ (n : ℕ). map (λ k. graded_on code skews image (fault_at k)) (range_with_len from n)) none

-- runs of neighbours
pub run-joined : (code : Program) (skews : List ℤ) (image : Image) (from mid to : ℕ) → from ≤ mid → mid ≤ to
    → run_on code skews image from mid ++ run_on code skews image mid to ≡ run_on code skews image from to
unfolding run_on
run-joined code skews image from mid to low high =
    let graded_at : ℕ → Graded = λ k. graded_on code skews image (fault_at k) in
    let here : from + (mid - from) ≡ mid = omega (arith, low) in
    let all : (mid - from) + (to - mid) ≡ to - from = omega (arith, low, high) in
    sym (map-append graded_at (range_with_len from (mid - from)) (range_with_len mid (to - mid)))
    ∙ ap (λ (k : ℕ). map graded_at (range_with_len from (mid - from) ++ range_with_len k (to - mid))) (sym here)
    ∙ ap (map graded_at) (range-join (mid - from) (to - mid) from)
    ∙ ap (λ (n : ℕ). map graded_at (range_with_len from n)) all

-- the first failing cycle of a fault among those of others
pub first-among : (code : Program) (skews : List ℤ) (image : Image) (firsts : List (Option ℕ)) (from to number : ℕ) → from ≤ number
    → number < to
    → firsts ≡ map (λ fault. first_on code skews (with_fault image fault)) (map fault_at (range_with_len from (to - from)))
    → get_or firsts (number - from) None ≡ first_on code skews (with_fault image (fault_at number))
first-among code skews image firsts from to number low high are =
    let first : StuckAt → Option ℕ = λ fault. first_on code skews (with_fault image fault) in
    let k = number - from in
    let here : from + k ≡ number = omega (arith, low) in
    let inside : k < to - from = omega (arith, low, high) in
    let long = length-range_with_len from (to - from) in
    let long_too = length-map (range_with_len from (to - from)) fault_at in
    ap (λ (l : List (Option ℕ)). get_or l k None) are
    ∙ get_or-map first (map fault_at (range_with_len from (to - from))) k (fault_at 0) None (omega (arith, inside, long, long_too))
    ∙ ap first (get_or-map fault_at (range_with_len from (to - from)) k 0 (fault_at 0) (omega (arith, inside, long))
    ∙ ap fault_at (get_or-range_with_len from (to - from) k 0 inside ∙ here))

-- the faults of numbers are of the image's nets
pub faults-within : (nets from to : ℕ) (faults : List StuckAt) → from ≤ to → to ≤ 2 * nets
    → faults ≡ map fault_at (range_with_len from (to - from)) → AreFaultsWithin nets faults
faults-within nets from to faults order within are = record {
  each = λ k d inside.
      let long = length-range_with_len from (to - from) in
      let long_too = length-map (range_with_len from (to - from)) fault_at in
      let low : k < to - from = omega (arith, inside, ap (λ l. length l) are, long, long_too) in
      let is : get_or faults k d ≡ fault_at (from + k) =
      ap (λ (l : List StuckAt). get_or l k d) are
      ∙ get_or-map fault_at (range_with_len from (to - from)) k 0 d (omega (arith, low, long))
      ∙ ap fault_at (get_or-range_with_len from (to - from) k 0 low) in
      subst (λ (f : StuckAt). f.net < nets) (sym is) (omega (arith, order, within, low));
}

-- ---- the faults of numbers, and their grades, one after another

pub faults-count : (from to : ℕ) (faults : List StuckAt) → faults ≡ map fault_at (range_with_len from (to - from))
    → length faults ≡ to - from
faults-count from to faults are =
    ap (λ l. length l) are ∙ length-map (range_with_len from (to - from)) fault_at ∙ length-range_with_len from (to - from)

-- one more fault
pub faults-more : (from number : ℕ) (old new : List StuckAt) (fault : StuckAt) → from ≤ number
    → old ≡ map fault_at (range_with_len from (number - from)) → fault ≡ fault_at number → new ≡ old ++ fault ∷ []
    → new ≡ map fault_at (range_with_len from (number + 1 - from))
faults-more from number old new fault order before is more =
    let here : from + (number - from) ≡ number = omega (arith, order) in
    let all : number + 1 - from ≡ (number - from) + 1 = omega (arith, order) in
    more ∙ (λ i. before i ++ is i ∷ [])
    ∙ sym (ap (λ (n : ℕ). map fault_at (range_with_len from n)) all
    ∙ ap (map fault_at) (sym (range-join (number - from) 1 from))
    ∙ ap (λ (k : ℕ). map fault_at (range_with_len from (number - from) ++ k ∷ [])) here
    ∙ map-append fault_at (range_with_len from (number - from)) (number ∷ []))

-- no grade yet
pub graded-none : (code : Program) (skews : List ℤ) (image : Image) (from : ℕ) (list : List Graded)
    → list ≡ list ++ run_on code skews image from from
graded-none code skews image from list =
    sym (append-nil list) ∙ ap (λ (l : List Graded). list ++ l) (run-begins code skews image from)

-- one more grade
pub graded-more : (code : Program) (skews : List ℤ) (image : Image) (firsts : List (Option ℕ)) (from to number : ℕ)
    (first old new : List Graded) (fault : StuckAt) (found : Option ℕ) → from ≤ number → number < to
    → firsts ≡ map (λ fault. first_on code skews (with_fault image fault)) (map fault_at (range_with_len from (to - from)))
    → old ≡ first ++ run_on code skews image from number → fault ≡ fault_at number → found ≡ get_or firsts (number - from) None
    → new ≡ old ++ record { net = fault.net; value = fault.value; first = found } ∷ []
    → new ≡ first ++ run_on code skews image from (number + 1)
graded-more code skews image firsts from to number first old new fault found low high are before is there more =
    let found_is = there ∙ first-among code skews image firsts from to number low high are in
    more
    ∙ (λ i. before i ++ record { net = (is i).net; value = (is i).value; first = found_is i } ∷ [])
    ∙ append_assoc first (run_on code skews image from number) (graded_on code skews image (fault_at number) ∷ [])
    ∙ ap (λ (l : List Graded). first ++ l) (sym (run-next code skews image from number low))
