use Rattle.std.proofs.Common.{◌*◌, ◌∙◌, arith}
use Rattle.place_bits.specs.Bits.{IsLowest}
use Rattle.die_sim.proofs.WaitingLemmas.{ListedTo-more, ListedTo-all}
use Rattle.die_sim.proofs.waiting.list_word.Goals as goal

pub loop-left-preserved : goal.loop-left-preserved
loop-left-preserved c =
    let base = 64 * c.args.at in
    let place = c.lowest.result in
    let low : IsLowest c.loop-left.left place = record { found = c.lowest.ensures.found; skipped = c.lowest.ensures.skipped } in
    let was = c.loop-left.invariant.listed in
    record {
      listed = ListedTo-more c.args.nets.now c.args.bits.now base c.loop-left.left c.loop-left.count place c.loop-left.list.items was c.lowest.ensures.within low
          c.list_place-count.result c.rest-left.result c.list_place-count.new.list.items (c.rest-left.ensures.rest place low)
          (c.list_place-count.ensures.listed c.args.bits.now) c.list_place-count.ensures.few;
      size = c.list_place-count.ensures.size ∙ c.loop-left.invariant.size;
    }

pub returns-clause-listed : goal.returns-clause-listed
returns-clause-listed c =
    ListedTo-all c.args.nets.now c.args.bits.now (64 * c.args.at) c.loop-left.left c.loop-left.count c.loop-left.list.items
    (omega (arith, c.loop-left-test.false)) c.loop-left.invariant.listed
