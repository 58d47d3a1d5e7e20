use Rattle.std.proofs.Common.{◌≡◌, length, sym, ap, ◌∙◌, arith}
use Rattle.std.proofs.lemmas.List.{length-map}
use Rattle.stil_ast.specs.Data.Texts.{same}
use Rattle.stil_ast.specs.Meaning.Resolved.{body_number}
use Rattle.stil_ast.specs.declared.blocks.BodyDef.{BodyDef}
use Rattle.macro_expand.specs.Lent.{lent}
use Rattle.macro_expand.proofs.BodyLemmas.{none-number}
use Rattle.macro_expand.proofs.bodies.Bodies.number.Goals as goal

pub returns-in-None : goal.returns-in-None
returns-in-None c =
    let defs = lent c.self.inside.defs.items in
    let long : c.len.result ≡ length c.self.inside.defs.items = omega (arith, c.len.ensures, c.self.inside.defs.ok) in
    long ∙ sym (length-map c.self.inside.defs.items _)
    ∙ none-number (λ (d : BodyDef). same d.name c.args.name.now) defs
    (sym (c.self.invariant.first c.args.name.now) ∙ sym c.place_of.ensures ∙ c.in-None.is)
    ∙ ap (λ bodies. body_number bodies c.args.name.now) c.self.view_is
