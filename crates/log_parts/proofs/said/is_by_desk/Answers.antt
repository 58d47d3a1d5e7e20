use Rattle.std.proofs.lemmas.Bool.{false≢true}
use Rattle.log_parts.proofs.SaidLemmas.{desk_so}
use Rattle.log_parts.proofs.said.is_by_desk.Goals as goal

pub returns-in-Some : goal.returns-in-Some
returns-in-Some c =
    desk_so c.args.line.now c.in-Some.front.now c.is_counted.result c.in-Some.ensures c.is_counted.ensures

pub returns-in-None : goal.returns-in-None
returns-in-None c = (λ h. absurd (false≢true h), λ by. absurd (c.in-None.ensures by.front by.ends))
