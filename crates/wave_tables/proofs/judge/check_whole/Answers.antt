use Rattle.std.proofs.Common.{◌∙◌, sym, subst, Option, None}
use Rattle.stil_ast.specs.Meaning.Tables.{period_text}
use Rattle.stil_ast.specs.declared.fault.StilFault.{StilFault}
use Rattle.wave_tables.specs.Scope.{timed}
use Rattle.wave_tables.specs.Check.{IsAt, behind_period}
use Rattle.wave_tables.proofs.judge.check_whole.Goals as goal

pub returns-in-Err : goal.returns-in-Err
returns-in-Err c = λ base at.
    let t = timed c.args.scope.now in
    c.in-Err.ensures t (period_text t.tables c.args.number)
    (behind_period t base (c.args.number, c.args.table.now)) c.requires.has.period

pub returns-in-Ok-check_behind_period : goal.returns-in-Ok-check_behind_period
returns-in-Ok-check_behind_period c =
    let t = timed c.args.scope.now in
    let text = period_text t.tables c.args.number in (
      (λ base at.
          (c.in-Ok.ensures t text (behind_period t base (c.args.number, c.args.table.now)) c.requires.has.period).0
          ∙ c.in-Ok-check_behind_period.ensures.0 base at),
      record {
        period = (c.in-Ok.ensures t text (λ _. None) c.requires.has.period).1;
        total = c.in-Ok-check_behind_period.ensures.1;
      },
    )

pub returns-in-Err-check_behind_period : goal.returns-in-Err-check_behind_period
returns-in-Err-check_behind_period c = λ base at.
    let t = timed c.args.scope.now in
    subst (λ (o : Option StilFault). IsAt t.place o c.in-Err-check_behind_period.trouble)
    (sym (c.in-Ok.ensures t (period_text t.tables c.args.number)
    (behind_period t base (c.args.number, c.args.table.now)) c.requires.has.period).0)
    (c.in-Err-check_behind_period.ensures base at)
