-- Runs of neighbours, joined, are one run, and the run of all numbers has all faults.
use Rattle.std.proofs.Common.{◌≡◌, ℕ, zero, suc, ◌+◌, ◌-◌, ◌*◌, ◌/◌, ◌%◌, ◌≤◌, true, false, List, [], ◌∷◌, ◌++◌, map, refl, sym, ap, ◌∙◌, arith}
use Rattle.std.specs.Prelude.{◌==◌}
use Rattle.std.specs.List.{flat_map, range_with_len}
use Rattle.std.proofs.lemmas.List.{map-append}
use Rattle.site_meaning.specs.Part.{Part}
use Rattle.fault_grade.specs.Grade.{graded, faults_of_net, nets_in, faults_in}
use Rattle.fault_grade.specs.Run.{fault_at, cut_at, run_of}
use Rattle.fault_grade.specs.declared.graded.Graded.{Graded}
use Rattle.fault_grade.proofs.CutLemmas.{cut-first, cut-last, cut-rises}

-- numbers behind numbers
pub range-join : (n m from : ℕ) → range_with_len from n ++ range_with_len (from + n) m ≡ range_with_len from (n + m)
range-join zero m from =
    let none : from + 0 ≡ from = omega arith in
    let all : 0 + m ≡ m = omega arith in
    ap (λ (k : ℕ). range_with_len k m) none ∙ ap (range_with_len from) (sym all)
range-join (suc n) m from =
    let next : from + suc n ≡ (from + 1) + n = omega arith in
    let all : suc n + m ≡ suc (n + m) = omega arith in
    ap (λ (k : ℕ). from ∷ (range_with_len (from + 1) n ++ range_with_len k m)) next
    ∙ ap (λ (l : List ℕ). from ∷ l) (range-join n m (from + 1))
    ∙ ap (range_with_len from) (sym all)

pub run-join : (part : Part) (from mid to : ℕ) → from ≤ mid → mid ≤ to
    → run_of part from mid ++ run_of part mid to ≡ run_of part from to
unfolding run_of
run-join part from mid to low high =
    let here : from + (mid - from) ≡ mid = omega (arith, low) in
    let all : (mid - from) + (to - mid) ≡ to - from = omega (arith, low, high) in
    sym (map-append (λ k. graded part (fault_at k)) (range_with_len from (mid - from)) (range_with_len mid (to - mid)))
    ∙ ap (λ (k : ℕ). map (λ k. graded part (fault_at k)) (range_with_len from (mid - from) ++ range_with_len k (to - mid))) (sym here)
    ∙ ap (map (λ k. graded part (fault_at k))) (range-join (mid - from) (to - mid) from)
    ∙ ap (λ (n : ℕ). map (λ k. graded part (fault_at k)) (range_with_len from n)) all

-- no number
pub run-none : (part : Part) (from : ℕ) → run_of part from from ≡ []
unfolding run_of
run-none part from =
    let none : from - from ≡ 0 = omega arith in
    ap (λ (n : ℕ). map (λ k. graded part (fault_at k)) (range_with_len from n)) none

-- ---- all faults

-- two numbers are those of a net
even-fault : (net : ℕ) → fault_at (2 * net) ≡ record { net = net; value = false }
even-fault net =
    let is : 2 * net / 2 ≡ net = omega arith in
    let low : 2 * net % 2 ≡ 0 = omega arith in
    λ i. record { net = is i; value = low i == 1 }

odd-fault : (net : ℕ) → fault_at (2 * net + 1) ≡ record { net = net; value = true }
odd-fault net =
    let is : (2 * net + 1) / 2 ≡ net = omega arith in
    let high : (2 * net + 1) % 2 ≡ 1 = omega arith in
    λ i. record { net = is i; value = high i == 1 }

numbered-faults : (n from : ℕ) → map fault_at (range_with_len (2 * from) (2 * n)) ≡ flat_map faults_of_net (range_with_len from n)
numbered-faults zero from = refl
numbered-faults (suc n) from =
    let two : 2 * suc n ≡ suc (suc (2 * n)) = omega arith in
    let next : 2 * from + 1 + 1 ≡ 2 * (from + 1) = omega arith in
    ap (λ (k : ℕ). map fault_at (range_with_len (2 * from) k)) two
    ∙ ap (λ (k : ℕ). fault_at (2 * from) ∷ fault_at (2 * from + 1) ∷ map fault_at (range_with_len k (2 * n))) next
    ∙ (λ i. even-fault from i ∷ odd-fault from i ∷ numbered-faults n (from + 1) i)

map-two : (part : Part) (numbers : List ℕ)
    → map (λ k. graded part (fault_at k)) numbers ≡ map (graded part) (map fault_at numbers)
map-two part [] = refl
map-two part (k ∷ numbers) = ap (λ (l : List Graded). graded part (fault_at k) ∷ l) (map-two part numbers)

pub run-all : (part : Part) → run_of part 0 (2 * nets_in part) ≡ map (graded part) (faults_in part)
unfolding run_of faults_in
run-all part =
    let count : 2 * nets_in part - 0 ≡ 2 * nets_in part = omega arith in
    let none : 0 ≡ 2 * 0 = omega arith in
    ap (λ (n : ℕ). map (λ k. graded part (fault_at k)) (range_with_len 0 n)) count
    ∙ map-two part (range_with_len 0 (2 * nets_in part))
    ∙ ap (λ (k : ℕ). map (graded part) (map fault_at (range_with_len k (2 * nets_in part)))) none
    ∙ ap (map (graded part)) (numbered-faults (nets_in part) 0)

-- ---- the runs of workers

-- before the first worker's run
pub joined-none : (part : Part) (workers : ℕ) → [] ≡ run_of part 0 (cut_at (2 * nets_in part) workers 0)
joined-none part workers =
    sym (run-none part 0) ∙ ap (run_of part 0) (sym (cut-first (2 * nets_in part) workers))

-- one more worker's run
pub joined-next : (part : Part) (workers worker : ℕ) (all more : List Graded) → 1 ≤ workers
    → all ≡ run_of part 0 (cut_at (2 * nets_in part) workers worker)
    → more ≡ run_of part (cut_at (2 * nets_in part) workers worker) (cut_at (2 * nets_in part) workers (worker + 1))
    → all ++ more ≡ run_of part 0 (cut_at (2 * nets_in part) workers (worker + 1))
joined-next part workers worker all more some done next =
    let faults = 2 * nets_in part in
    (λ i. done i ++ next i)
    ∙ run-join part 0 (cut_at faults workers worker) (cut_at faults workers (worker + 1)) (omega arith)
    (cut-rises faults workers worker (omega (arith, some)))

-- all of them
pub joined-all : (part : Part) (workers : ℕ) (all : List Graded) → 1 ≤ workers
    → all ≡ run_of part 0 (cut_at (2 * nets_in part) workers workers) → all ≡ run_of part 0 (2 * nets_in part)
joined-all part workers all some done =
    done ∙ ap (run_of part 0) (cut-last (2 * nets_in part) workers (omega (arith, some)))
