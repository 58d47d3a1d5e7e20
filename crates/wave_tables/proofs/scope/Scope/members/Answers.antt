use Rattle.std.proofs.Common.{◌∙◌}
use Rattle.stil_ast.specs.declared.fault.StilKind.TheVariants.{Shape, UnknownName}
use Rattle.wave_tables.specs.Scope.{timed}
use Rattle.wave_tables.proofs.ScopeLemmas.{members_none}
use Rattle.wave_tables.proofs.scope.Scope.members.Goals as goal

pub returns-in-Err-Shape-clause-signals : goal.returns-in-Err-Shape-clause-signals
returns-in-Err-Shape-clause-signals c =
    let h = rw c.in-Err-Shape.field-0-is at c.in-Err-Shape.ensures.signals in
    c.from_vec.ensures ∙ c.new.ensures.items ∙ members_none (timed c.args.self.now).names c.args.reference.now Shape h

pub returns-in-Err-UnknownName-clause-signals : goal.returns-in-Err-UnknownName-clause-signals
returns-in-Err-UnknownName-clause-signals c =
    let h = rw c.in-Err-UnknownName.field-0-is at c.in-Err-UnknownName.ensures.signals in
    c.from_vec-in-Err-UnknownName.ensures ∙ c.new-in-Err-UnknownName.ensures.items
    ∙ members_none (timed c.args.self.now).names c.args.reference.now UnknownName h
