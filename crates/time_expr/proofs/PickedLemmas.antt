-- The variables that an executive picks.
use Rattle.std.proofs.Common.{◌≡◌, List, Option, Result, Ok, Err, IfOk, map, flat_map, ap, ◌∙◌}
use Rattle.stil_ast.specs.Meaning.Variables.{Variable, picked, selector_of}
use Rattle.stil_ast.specs.declared.name.Named.{Named}
use Rattle.stil_ast.specs.declared.variable.Selector.{Selector}
use Rattle.stil_ast.specs.declared.variable.SpecBlock.{SpecBlock}
use Rattle.stil_ast.specs.declared.executive.ExecDecl.{ExecDecl}
use Rattle.stil_ast.specs.declared.blocks.Blocks.{Blocks}
use Rattle.time_expr.specs.Selected.{named}
use Rattle.time_expr.specs.Picked.{picked_spec}

-- those of the categories and of the Selector that it names
pub picked-ok : {M E : Type 0} (seen : M → List Variable) (r : Result M E) (blocks : Blocks) (e : ExecDecl)
    (categories : List Named) (taken : Option Selector) (specs : List SpecBlock)
    → IfOk r (λ m. seen m ≡ flat_map (picked_spec taken (map named categories)) specs)
    → categories ≡ e.categories → taken ≡ selector_of blocks e.selector → specs ≡ blocks.specs
    → IfOk r (λ m. seen m ≡ picked blocks e)
picked-ok seen (Err error) blocks e categories taken specs h c t s = h
picked-ok seen (Ok m) blocks e categories taken specs h c t s =
    h ∙ ap (λ (xs : List Named). flat_map (picked_spec taken (map named xs)) specs) c
    ∙ ap (λ (o : Option Selector). flat_map (picked_spec o (map named e.categories)) specs) t
    ∙ ap (flat_map (picked_spec (selector_of blocks e.selector) (map named e.categories))) s
