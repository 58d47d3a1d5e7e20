use Rattle.std.proofs.lemmas.Result.{MatchResult-weaker}
use Rattle.log_parts.specs.Slices.{lent_sites}
use Rattle.log_parts.proofs.ReadSiteLemmas.{no_fault, that_fault, none_kept}
use Rattle.log_parts.proofs.part.PartLog.read.Goals as goal

pub returns-clause-found : goal.returns-clause-found
returns-clause-found c = MatchResult-weaker c.read_part.result c.read_part.ensures (λ log kept. kept) (λ e fault. tt)

pub returns-clause-fault : goal.returns-clause-fault
returns-clause-fault c = MatchResult-weaker c.read_part.result c.read_part.ensures (λ log kept. tt) (λ e fault. fault)

pub returns-clause-only : goal.returns-clause-only
returns-clause-only c = λ whole.
    MatchResult-weaker c.read_part.result c.read_part.ensures (λ log kept. tt) (no_fault (lent_sites c.args.names.now) c.args.text.now whole)

pub returns-clause-refused : goal.returns-clause-refused
returns-clause-refused c = λ line there.
    let names = lent_sites c.args.names.now in
    MatchResult-weaker c.read_part.result c.read_part.ensures (none_kept names c.args.text.now line there)
    (that_fault names c.args.text.now line there)
