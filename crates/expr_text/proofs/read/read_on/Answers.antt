use Rattle.std.proofs.Common.{refl, sym, ◌∙◌}
use Rattle.expr_text.specs.Memory.{state_of}
use Rattle.expr_text.proofs.ReadLemmas.{over_blank, over_front}
use Rattle.expr_text.proofs.read.read_on.Goals as goal

pub returns-then-is_blank : goal.returns-then-is_blank
returns-then-is_blank c =
    over_blank c.args.text.now _ (state_of c.args.reader) c.requires (sym c.is_blank.ensures
    ∙ c.if-is_blank.true) refl refl refl

pub returns-else-is_blank : goal.returns-else-is_blank
returns-else-is_blank c =
    over_front c.args.text.now c.over_token.result (state_of c.args.reader) c.requires (sym c.is_blank.ensures
    ∙ c.if-is_blank.false) c.over_token.ensures
