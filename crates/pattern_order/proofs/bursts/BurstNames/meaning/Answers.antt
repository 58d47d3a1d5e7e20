use Rattle.std.proofs.Common.{◌≡◌, List, Some, ap, ◌∙◌, subst}
use Rattle.std.specs.Prelude.{slice_get, slice_index_or}
use Rattle.stil_ast.specs.declared.blocks.Blocks.{Blocks}
use Rattle.pattern_order.specs.Numbers.{meaning_of}
use Rattle.pattern_order.specs.declared.meaning.Meaning.{Meaning}
use Rattle.pattern_order.specs.declared.meaning.Meaning.TheVariants.{Unknown}
use Rattle.pattern_order.proofs.MeaningLemmas.{meaning-kept}
use Rattle.pattern_order.proofs.bursts.BurstNames.meaning.Goals as goal

pub returns : goal.returns
returns c = λ b i there here.
    c.meaning_at.ensures ∙ ap (λ (ms : List Meaning). slice_index_or ms c.args.place Unknown) c.as_slice.ensures
    ∙ subst (λ (bs : Blocks). slice_get bs.bursts c.args.number ≡ Some b
    → slice_index_or c.index.result.now c.args.place Unknown ≡ meaning_of bs i) c.self.view_is
    (λ at. meaning-kept c.self.inside.places c.self.inside.meanings.items c.index.result.now c.args.number c.args.place b i
    c.self.invariant.0 c.index.ensures at here) there
