use Rattle.std.proofs.Common.{◌≡◌, List, take, refl, ap, subst, arith}
use Rattle.std.proofs.lemmas.List.{take_all}
use Rattle.stil_ast.specs.Meaning.State.{start_of}
use Rattle.stil_ast.specs.Meaning.Flat.{Flat, flat_run}
use Rattle.cycle_comp.specs.Known.{Known}
use Rattle.cycle_comp.specs.Writing.{flats_run, flats_measure, Wrote}
use Rattle.cycle_comp.specs.Passes.{flats_written, IsExact}
use Rattle.cycle_comp.proofs.KnownLemmas.{known-nothing}
use Rattle.cycle_comp.proofs.WalkedLemmas.{walked-still}
use Rattle.cycle_comp.proofs.ListLemmas.{walked-tree}
use Rattle.cycle_comp.proofs.ExactLemmas.{exact-tree}
use Rattle.cycle_comp.proofs.trees.write_trees.Goals as goal

pub loop-number-init : goal.loop-number-init
loop-number-init c = (
  walked-still c.args.source.now.tables.now c.args.source.now.first 0 c.args.code.now.items c.args.rows.now
      (start_of c.args.signals) c.in_ok-state.state.told (ap (λ (k : Known). k.told) c.in_ok-state.ensures),
  known-nothing c.args.source.now.tables.now c.args.rows.now (start_of c.args.signals) c.in_ok-state.state
      c.in_ok-state.ensures,
  λ all on. refl,
)

pub loop-number-preserved : goal.loop-number-preserved
loop-number-preserved c = (
  walked-tree c.args.source.now.tables.now c.args.source.now.first c.args.trees.now c.loop-number.number
      c.index-trees-number.result c.in_ok-outside.outside.told (start_of c.args.signals) c.args.code.now.items
      c.loop-number.code.items c.write_list.new.code.items c.args.rows.now c.loop-number.rows c.write_list.new.rows
      c.loop-number.state.told c.write_list.new.state.told c.index-trees-number.is c.loop-number-test.true
      (ap (λ (k : Known). k.told) c.in_ok-outside.ensures) c.loop-number.invariant.0 c.in-Ok.ensures.walked,
  c.in-Ok.ensures.known,
  exact-tree c.args.source.now.first c.args.trees.now c.loop-number.number c.index-trees-number.result
      c.in_ok-outside.outside.told (start_of c.args.signals) c.args.code.now.items c.loop-number.code.items
      c.write_list.new.code.items
      (flat_run c.index-trees-number.result c.in_ok-outside.outside.told c.loop-number.state.told).made
      c.loop-number.rows c.write_list.new.rows c.loop-number.state.told c.index-trees-number.is
      c.loop-number-test.true (ap (λ (k : Known). k.told) c.in_ok-outside.ensures)
      c.loop-number.invariant.0.here_is c.in-Ok.ensures.walked.wrote.rows c.loop-number.invariant.2 c.in-Ok.ensures.exact,
)

pub returns : goal.returns
returns c =
    let s = start_of c.args.signals in
    let all : take c.loop-number.number c.args.trees.now ≡ c.args.trees.now =
    take_all c.loop-number.number c.args.trees.now (omega arith) in (
      subst (λ (flats : List Flat). Wrote c.args.source.now.tables.now c.args.source.now.first (flats_run flats s).made
          (flats_measure flats) c.args.code.now.items c.loop-number.code.items c.args.rows.now c.loop-number.rows) all
          c.loop-number.invariant.0.wrote,
      subst (λ (flats : List Flat). IsExact c.args.source.now.first (λ entry code. flats_written entry flats s code)
          c.args.code.now.items c.loop-number.code.items c.loop-number.rows) all c.loop-number.invariant.2,
    )
