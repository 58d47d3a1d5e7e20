use Rattle.std.proofs.Common.{sym, ap}
use Rattle.tool_inputs.specs.Refusals.{status_of, line_of}
use Rattle.tool_inputs.proofs.InputLemmas.{same_ends}
use Rattle.tool_inputs.proofs.refusal.put_refusal.Goals as goal

pub returns-in-TooFewSockets : goal.returns-in-TooFewSockets
returns-in-TooFewSockets g c =
    same_ends _ _ _ _ _ _ _ _ _ (ap status_of (sym c.in-TooFewSockets.is)) (ap line_of (sym c.in-TooFewSockets.is))
    c.put_too_few.ensures

pub returns-in-NoDie : goal.returns-in-NoDie
returns-in-NoDie g c =
    same_ends _ _ _ _ _ _ _ _ _ (ap status_of (sym c.in-NoDie.is)) (ap line_of (sym c.in-NoDie.is)) c.put_no_die.ensures

pub returns-in-TapeTooLong : goal.returns-in-TapeTooLong
returns-in-TapeTooLong g c =
    same_ends _ _ _ _ _ _ _ _ _ (ap status_of (sym c.in-TapeTooLong.is)) (ap line_of (sym c.in-TapeTooLong.is)) c.put_site.ensures
