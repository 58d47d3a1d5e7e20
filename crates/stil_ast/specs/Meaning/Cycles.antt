-- The dated cycles of an executive: each has a vector, and starts where those before it have ended.
use Rattle.std.specs.Prelude.{ℕ, List, map, take, sum_by}
use Rattle.std.specs.List.{enumerate_from}
use Rattle.stil_ast.specs.Meaning.State.{Vector}

-- a cycle: its number, its start, and its vector
pub record Dated : Type 0 where
  pub number : ℕ
  pub start : ℕ
  pub vector : Vector

-- when a cycle starts: the sum of the periods of the cycles before it
abbrev pub starts_at : (Vector → ℕ) → List Vector → ℕ → ℕ
starts_at period vectors number = sum_by period (take number vectors)

-- the cycles that vectors make, in order
abbrev pub dated : (Vector → ℕ) → List Vector → List Dated
dated period vectors =
    map (λ v. record { number = v.0; start = starts_at period vectors v.0; vector = v.1 }) (enumerate_from 0 vectors)
