use Rattle.std.proofs.Common.{is_some, ap, ◌∙◌}
use Rattle.stil_ast.specs.Data.Texts.{same}
use Rattle.stil_ast.specs.Faults.BurstFaults.{has_block}
use Rattle.stil_ast.specs.declared.blocks.Blocks.{Blocks}
use Rattle.stil_ast.specs.declared.blocks.DefBlock.{DefBlock}
use Rattle.stil_ast.specs.declared.blocks.Pattern.{Pattern}
use Rattle.stil_ast.specs.declared.executive.BurstWord.TheVariants.{SignalGroups, MacroDefs, Procedures, ScanStructures, Entry}
use Rattle.stil_ast.specs.declared.scan.ScanBlock.{ScanBlock}
use Rattle.stil_ast.specs.declared.signal.GroupBlock.{GroupBlock}
use Rattle.pattern_order.proofs.PlaceLemmas.{position-any, position-found}
use Rattle.pattern_order.proofs.places.BlockPlaces.has_block.Goals as goal

pub returns-in-SignalGroups : goal.returns-in-SignalGroups
returns-in-SignalGroups c =
    rw c.in-SignalGroups.is
    (c.is_some.ensures ∙ ap is_some (c.place_of.ensures ∙ c.self.invariant.of_groups c.args.name.now)
    ∙ position-any (λ (g : GroupBlock). same g.name c.args.name.now) c.self.inside.blocks.now.groups
    ∙ ap (λ (bs : Blocks). has_block bs SignalGroups c.args.name.now) c.self.view_is)

pub returns-in-MacroDefs : goal.returns-in-MacroDefs
returns-in-MacroDefs c =
    rw c.in-MacroDefs.is
    (c.is_some-in-MacroDefs.ensures ∙ ap is_some (c.place_of-in-MacroDefs.ensures ∙ c.self.invariant.of_macros c.args.name.now)
    ∙ position-any (λ (d : DefBlock). same d.name c.args.name.now) c.self.inside.blocks.now.macros
    ∙ ap (λ (bs : Blocks). has_block bs MacroDefs c.args.name.now) c.self.view_is)

pub returns-in-Procedures : goal.returns-in-Procedures
returns-in-Procedures c =
    rw c.in-Procedures.is
    (c.is_some-in-Procedures.ensures ∙ ap is_some (c.place_of-in-Procedures.ensures ∙ c.self.invariant.of_procedures c.args.name.now)
    ∙ position-any (λ (d : DefBlock). same d.name c.args.name.now) c.self.inside.blocks.now.procedures
    ∙ ap (λ (bs : Blocks). has_block bs Procedures c.args.name.now) c.self.view_is)

pub returns-in-ScanStructures : goal.returns-in-ScanStructures
returns-in-ScanStructures c =
    rw c.in-ScanStructures.is
    (c.is_some-in-ScanStructures.ensures ∙ ap is_some (c.place_of-in-ScanStructures.ensures ∙ c.self.invariant.of_scans c.args.name.now)
    ∙ position-any (λ (s : ScanBlock). same s.name c.args.name.now) c.self.inside.blocks.now.scans
    ∙ ap (λ (bs : Blocks). has_block bs ScanStructures c.args.name.now) c.self.view_is)

pub returns-in-Entry : goal.returns-in-Entry
returns-in-Entry c =
    rw c.in-Entry.is
    (c.is_some-in-Entry.ensures ∙ ap is_some (c.place_of-in-Entry.ensures ∙ c.self.invariant.of_pattern c.args.name.now)
    ∙ position-found (λ (p : Pattern). same p.name c.args.name.now) c.self.inside.blocks.now.patterns
    ∙ ap (λ (bs : Blocks). has_block bs Entry c.args.name.now) c.self.view_is)
