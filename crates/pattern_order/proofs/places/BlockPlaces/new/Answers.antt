use Rattle.std.proofs.Common.{ap, ◌∙◌, position}
use Rattle.stil_ast.specs.Data.Texts.{same}
use Rattle.stil_ast.specs.declared.blocks.DefBlock.{DefBlock}
use Rattle.stil_ast.specs.declared.blocks.Pattern.{Pattern}
use Rattle.stil_ast.specs.declared.executive.Burst.{Burst}
use Rattle.stil_ast.specs.declared.scan.ScanBlock.{ScanBlock}
use Rattle.stil_ast.specs.declared.signal.GroupBlock.{GroupBlock}
use Rattle.pattern_order.proofs.places.BlockPlaces.new.Goals as goal

pub invariant_of-result : goal.invariant_of-result
invariant_of-result c = record {
  of_pattern = λ name. c.in_ok-places_of.ensures name ∙ ap (position (λ (p : Pattern). same p.name name)) c.as_slice.ensures;
  of_burst = λ name. c.in_ok-places_of-2.ensures name ∙ ap (position (λ (b : Burst). same b.name name)) c.as_slice-2.ensures;
  of_groups = λ name. c.in_ok-places_of-3.ensures name ∙ ap (position (λ (g : GroupBlock). same g.name name)) c.as_slice-3.ensures;
  of_macros = λ name. c.in_ok-places_of-4.ensures name ∙ ap (position (λ (d : DefBlock). same d.name name)) c.as_slice-4.ensures;
  of_procedures = λ name. c.in_ok-places_of-5.ensures name ∙ ap (position (λ (d : DefBlock). same d.name name)) c.as_slice-5.ensures;
  of_scans = λ name. c.in_ok-places_of-6.ensures name ∙ ap (position (λ (s : ScanBlock). same s.name name)) c.as_slice-6.ensures;
}
