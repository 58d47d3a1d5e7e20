-- When the flat text of a code is within all limits of texts but that of its length.
use Rattle.std.specs.Prelude.{ℕ, ◌<◌, ◌≤◌, length, sum_by}
use Rattle.text_bytes.specs.Limits.{most_tables, most_waves, most_walked}
use Rattle.stil_tree.specs.Grammar.{most_levels}
use Rattle.packed_code.specs.Program.{Program}
use Rattle.flat_parts.specs.FlatText.{executives}
use Rattle.flat_parts.specs.FlatBlocks.{table_numbered, own_numbers}
use Rattle.flat_fine.specs.Fits.{AreShallow, walk_of}
use Rattle.flat_cycles.specs.Small.{IsMeasured}

-- how many waves the tables have that the Runs of an executive name
abbrev pub waves_at : Program → ℕ → ℕ
waves_at code exec = sum_by (λ number. length (table_numbered code number).waves) (own_numbers code exec)

-- Loops nest so many deep, a Run among them; they are in a Pattern's block; and tables, waves, statements walked and
-- measures are within their limits
pub record IsWithinLimits (code : Program) (left : ℕ) : Type 0 where
  pub shallow : AreShallow left code
  pub levels : left < most_levels
  pub tables : (exec : ℕ) → exec < length code.execs → length (own_numbers code exec) ≤ most_tables
  pub waves : sum_by (waves_at code) (executives code) ≤ most_waves
  pub walked : sum_by (walk_of code) (executives code) ≤ most_walked
  pub measured : IsMeasured code left
