-- What is left is led by a character, by the padding behind the characters, or by nothing.
use Rattle.std.proofs.Common.{◌∙◌, Some, ap, sym, arith}
use Rattle.std.proofs.lemmas.List.{get_or-take}
use Rattle.stil_ast.specs.Meaning.Arguments.{Entry, padding, first_of}
use Rattle.macro_expand.proofs.LaneLemmas.{given-first, back-first, none-left}
use Rattle.macro_expand.proofs.lane.Lane.first.Goals as goal

pub returns-then-self : goal.returns-then-self
returns-then-self c =
    let lane = c.args.self in
    let characters = c.args.characters.now in
    ap (λ (entry : Entry). Some entry)
    (sym (get_or-take lane.end characters lane.place padding c.if-self.true ∙ c.at.ensures))
    ∙ sym (ap first_of (given-first characters lane lane.end c.requires (omega arith) c.if-self.true (omega arith)))

pub returns-then-self-gt0-2 : goal.returns-then-self-gt0-2
returns-then-self-gt0-2 c =
    sym (ap first_of (back-first c.args.characters.now c.args.self (omega arith) c.if-self.false c.if-self-gt0-2.true))

pub returns-else-self-gt0-2 : goal.returns-else-self-gt0-2
returns-else-self-gt0-2 c =
    sym (ap first_of (none-left c.args.characters.now c.args.self (omega arith) c.if-self.false (omega arith)))
