use Rattle.macro_expand.proofs.ExpandLemmas.{is_found, only_tree, is_fault, is_refused}
use Rattle.macro_expand.proofs.expanding.expand.Goals as goal

pub returns-clause-found : goal.returns-clause-found
returns-clause-found c = λ names named.
    is_found names c.args.scope.now c.args.body.now c.args.walked.now c.expanded.new.walked c.expanded.result
    (c.expanded.ensures.answer names named)

pub returns-clause-only : goal.returns-clause-only
returns-clause-only c = λ names w named.
    only_tree names c.args.scope.now c.args.body.now c.args.walked.now c.expanded.new.walked c.expanded.result
    (c.expanded.ensures.answer names named) w

pub returns-clause-fault : goal.returns-clause-fault
returns-clause-fault c = λ names named.
    is_fault names c.args.scope.now c.args.body.now c.args.walked.now c.expanded.new.walked c.expanded.result
    (c.expanded.ensures.answer names named)

pub returns-clause-refused : goal.returns-clause-refused
returns-clause-refused c = λ names f named.
    is_refused names c.args.scope.now c.args.body.now c.args.walked.now c.expanded.new.walked c.expanded.result
    (c.expanded.ensures.answer names named) f
