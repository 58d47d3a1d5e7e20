-- The outcome and the line of each reason for which parts aren't merged.
use Rattle.std.specs.Prelude.{◌≡◌, ◌⊎◌, ℕ, List, ◌++◌, codes, decimal}
use Rattle.tester_types.specs.Printing.{printed_name}
use Rattle.tool_inputs.specs.Refusals as refusals
use Rattle.tool_inputs.specs.declared.status.Status.TheVariants.{OutOfMemory}
use Rattle.part_lines.specs.declared.fault.LineFault.{LineFault}
use Rattle.part_lines.specs.declared.fault.LineFault.TheVariants as fault
use Rattle.lot_parts.specs.declared.outcome.Outcome.{Outcome}
use Rattle.lot_parts.specs.declared.outcome.Outcome.TheVariants.{Ended, RefusedPart}
use Rattle.lot_parts.specs.declared.refusal.PartRefusal.{PartRefusal}
use Rattle.lot_parts.specs.declared.refusal.PartRefusal.TheVariants as refusal

-- a file that is no text of its part: the file, and the first line up to which none begins so
abbrev pub part_line : List ℕ → ℕ → List ℕ
part_line file line = codes "refused part " ++ printed_name file ++ codes " " ++ decimal line ++ codes "\n"

-- the outcome of a refusal
abbrev pub outcome_of : PartRefusal → Outcome
outcome_of (refusal.Of r) = Ended (refusals.status_of r)
outcome_of (refusal.Part file line) = RefusedPart

-- the line of a refusal
abbrev pub line_of : PartRefusal → List ℕ
line_of (refusal.Of r) = refusals.line_of r
line_of (refusal.Part file line) = part_line file line

-- a file isn't taken for this fault of its text, or for want of memory
abbrev pub IsRefusalBy : List ℕ → LineFault → PartRefusal → Type 0
IsRefusalBy file fault.NoMemory r = outcome_of r ≡ Ended OutOfMemory
IsRefusalBy file (fault.Line line) r = (outcome_of r ≡ Ended OutOfMemory) ⊎ (r ≡ refusal.Part file line)
