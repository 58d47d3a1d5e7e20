use Rattle.std.proofs.Common.{List, Result, true, false, sym, ap, subst, ◌∙◌}
use Rattle.tester_types.specs.declared.wave.Act.{Act}
use Rattle.stil_form.specs.declared.fault.FormKind.{FormKind}
use Rattle.stil_form.specs.Lexeme.{lexemes}
use Rattle.stil_form.specs.Reading.{Answers}
use Rattle.stil_form.specs.Setting.{at_statement}
use Rattle.timing_blocks.proofs.ActLemmas.{acts_by}
use Rattle.timing_blocks.proofs.waveforms.acts_of.Goals as goal

pub returns-then-lacks_act : goal.returns-then-lacks_act
returns-then-lacks_act c =
    ap (λ (said : Result (List Act) FormKind). at_statement c.args.first said)
    (acts_by (lexemes c.args.rest) true (sym c.if-lacks_act.true ∙ c.lacks_act.ensures))

pub returns : goal.returns
returns c =
    subst (λ (said : Result (List Act) FormKind). Answers c.acts_between.result (at_statement c.args.first said))
    (sym (acts_by (lexemes c.args.rest) false (sym c.if-lacks_act.false ∙ c.lacks_act.ensures))) c.acts_between.ensures
