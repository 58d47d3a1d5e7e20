-- The numbers with which the program exits.
use Rattle.std.specs.Prelude.{ℕ}
use Rattle.tool_inputs.specs.Status.{number_of}
use Rattle.lot_parts.specs.declared.outcome.Outcome.{Outcome}
use Rattle.lot_parts.specs.declared.outcome.Outcome.TheVariants.{Ended, RefusedPart}

-- those of the statuses, and one more
abbrev pub outcome_number : Outcome → ℕ
outcome_number (Ended status) = number_of status
outcome_number RefusedPart = 14
