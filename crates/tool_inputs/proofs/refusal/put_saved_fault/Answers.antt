use Rattle.std.proofs.Common.{sym, ap}
use Rattle.tool_inputs.specs.Refusals.{saved_status, saved_line}
use Rattle.tool_inputs.proofs.InputLemmas.{same_ends}
use Rattle.tool_inputs.proofs.refusal.put_saved_fault.Goals as goal

pub returns-in-Torn : goal.returns-in-Torn
returns-in-Torn g c =
    same_ends _ _ _ _ _ _ _ _ _ (ap saved_status (sym c.in-Torn.is)) (ap saved_line (sym c.in-Torn.is)) c.put_bad_saved-in-Torn.ensures

pub returns-in-BadCode : goal.returns-in-BadCode
returns-in-BadCode g c =
    same_ends _ _ _ _ _ _ _ _ _ (ap saved_status (sym c.in-BadCode.is)) (ap saved_line (sym c.in-BadCode.is)) c.put_bad_saved-in-BadCode.ensures
