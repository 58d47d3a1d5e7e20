use Rattle.stil_ast.specs.Meaning.Signals.{names_of}
use Rattle.pattern_order.specs.Held.{played_by}
use Rattle.burst_exec.proofs.ScopeLemmas.{expanded_found}
use Rattle.burst_exec.proofs.scoping.expand_with.Goals as goal

pub returns : goal.returns
returns c = λ e stands macros procedures.
    let blocks = c.args.standing.now.blocks.now in
    let p = played_by c.args.played.now in
    let is = c.scope_in-scope.ensures e p stands macros procedures c.titles_in.ensures in
    expanded_found blocks e p c.scope_in-scope.result c.args.walked.now c.expand.new.walked c.expand.result is
    (c.expand.ensures.found (names_of blocks) is.named) (c.expand.ensures.fault (names_of blocks) is.named)
