use Rattle.signal_groups.proofs.MemberLemmas.{marked-within}
use Rattle.signal_groups.proofs.members.combined.Goals as goal

pub returns-clause-within : goal.returns-clause-within
returns-clause-within c =
    marked-within c.loop-term.members.items c.loop-term.marks.items _ c.loop-term.invariant.marked c.loop-term.invariant.count
