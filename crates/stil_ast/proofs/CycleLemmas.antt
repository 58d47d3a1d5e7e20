-- A cycle starts where the one before it ends.
use Rattle.std.proofs.Common.{◌≡◌, ℕ, ◌+◌, ◌<◌, List, length, get_or, ap, sym, ◌∙◌, arith, zero-add}
use Rattle.std.proofs.lemmas.List.{get_or-map}
use Rattle.std.proofs.lemmas.List.FromFn.{get_or-enumerate_from, length-enumerate_from}
use Rattle.std.proofs.lemmas.List.Sums.{sum_by_more}
use Rattle.std.specs.List.{enumerate_from}
use Rattle.stil_ast.specs.Meaning.State.{Vector}
use Rattle.stil_ast.specs.Meaning.Cycles.{Dated, starts_at, dated}

abbrev dated_as : (Vector → ℕ) → List Vector → ℕ → Vector → Dated
dated_as period vectors number vector =
    record { number = number; start = starts_at period vectors number; vector = vector }

-- a cycle by its number
pub dated_at : (period : Vector → ℕ) (vectors : List Vector) (k : ℕ) (d : Dated) → k < length vectors
    → get_or (dated period vectors) k d ≡ dated_as period vectors k (get_or vectors k d.vector)
dated_at period vectors k d fits =
    let within : k < length (enumerate_from 0 vectors) = rw (length-enumerate_from 0 vectors) fits in
    get_or-map (λ (v : ℕ × Vector). dated_as period vectors v.0 v.1) (enumerate_from 0 vectors) k (0, d.vector) d within
    ∙ (ap (λ (v : ℕ × Vector). dated_as period vectors v.0 v.1) (get_or-enumerate_from 0 vectors k (0, d.vector) fits)
    ∙ ap (λ (n : ℕ). dated_as period vectors n (get_or vectors k d.vector)) (zero-add k))

pub cycles_follow : (period : Vector → ℕ) (vectors : List Vector) (k : ℕ) (d : Dated)
    → k + 1 < length vectors
    → (get_or (dated period vectors) (k + 1) d).start
    ≡ (get_or (dated period vectors) k d).start + period (get_or (dated period vectors) k d).vector
cycles_follow period vectors k d fits =
    let before : k < length vectors = omega arith in
    ap (λ (x : Dated). x.start) (dated_at period vectors (k + 1) d fits)
    ∙ (sum_by_more period vectors k d.vector before
    ∙ ap (λ (x : Dated). x.start + period x.vector) (sym (dated_at period vectors k d before)))
