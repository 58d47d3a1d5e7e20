-- The runs of workers are neighbours: the first begins at the first fault, and the last ends behind the last.
use Rattle.std.proofs.Common.{◌≡◌, ℕ, ◌+◌, ◌*◌, ◌/◌, ◌<◌, ◌≤◌, refl, ap, ◌∙◌, arith}
use Rattle.std.proofs.Math.Nat.{mul-div_cancel, div-mul-le_self, zero-div, div-le_of_le-mul}
use Rattle.std.proofs.lemmas.Nat.{le-div}
use Rattle.fault_grade.specs.Run.{cut_at}

pub cut-first : (faults workers : ℕ) → cut_at faults workers 0 ≡ 0
unfolding cut_at
cut-first faults workers =
    let none : faults * 0 ≡ 0 = omega arith in
    ap (λ (n : ℕ). n / workers) none ∙ zero-div workers

pub cut-last : (faults workers : ℕ) → 0 < workers → cut_at faults workers workers ≡ faults
unfolding cut_at
cut-last faults workers some = mul-div_cancel faults some

pub cut-rises : (faults workers worker : ℕ) → 0 < workers
    → cut_at faults workers worker ≤ cut_at faults workers (worker + 1)
unfolding cut_at
cut-rises faults workers worker some =
    let low = div-mul-le_self (faults * worker) workers in
    let more : faults * worker ≤ faults * (worker + 1) = omega arith in
    le-div (faults * worker / workers) (faults * (worker + 1)) workers some (omega (arith, low, more))

pub cut-within : (faults workers worker : ℕ) → worker ≤ workers → cut_at faults workers worker ≤ faults
unfolding cut_at
cut-within faults workers worker within =
    let most : faults * worker ≤ workers * faults = grind (arith, within) in
    div-le_of_le-mul workers most

-- as the code computes it
pub cut-is : (faults workers worker : ℕ) → faults * worker / workers ≡ cut_at faults workers worker
unfolding cut_at
cut-is faults workers worker = refl
