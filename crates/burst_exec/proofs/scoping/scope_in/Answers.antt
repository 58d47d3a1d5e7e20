use Rattle.burst_exec.proofs.ScopeLemmas.{is_scope}
use Rattle.burst_exec.proofs.scoping.scope_in.Goals as goal

pub returns : goal.returns
returns c = λ e p stands macros procedures titles.
    is_scope c.args.standing.now.blocks.now e p _ stands.signals_are stands.outs_are stands.tables_are stands.ends_are
    macros procedures titles
