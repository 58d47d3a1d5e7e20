use Rattle.std.proofs.Common.{◌<◌, ◌++◌, ◌∷◌, [], Option, None, List, length, map, take, sym, ap, ◌∙◌, arith, length-set}
use Rattle.std.specs.Prelude.{unwrap_or}
use Rattle.std.proofs.lemmas.List.{take_more, take_more_set, take_all, map-append}
use Rattle.tester_types.specs.declared.level.Level.{Level}
use Rattle.tester_types.specs.declared.level.Level.TheVariants.{X}
use Rattle.die_sim.proofs.die.put_first.Goals as goal

pub loop-net-preserved : goal.loop-net-preserved
loop-net-preserved c =
    let f : Option Level → Level = λ g. unwrap_or g X in
    let i = c.loop-net.net in
    let y = c.unwrap_or.result in
    let within : i < length c.loop-net.levels.items = omega (arith, c.loop-net-test.true, c.loop-net.invariant.count) in
    let more = ap (map f) (take_more c.args.fixed.now i None c.loop-net-test.true) ∙ map-append f (take i c.args.fixed.now) _ in
    record {
      done =
          take_more_set c.loop-net.levels.items i y within
          ∙ ap (λ (l : List Level). l ++ y ∷ []) c.loop-net.invariant.done
          ∙ ap (λ (z : Level). map f (take i c.args.fixed.now) ++ z ∷ []) c.unwrap_or.ensures
          ∙ sym more;
      count = length-set c.loop-net.levels.items i y ∙ c.loop-net.invariant.count;
    }

pub returns : goal.returns
returns c =
    let f : Option Level → Level = λ g. unwrap_or g X in
    let n = c.loop-net.net in
    sym (take_all n c.loop-net.levels.items (omega (arith, c.loop-net-test.false, c.loop-net.invariant.count)))
    ∙ c.loop-net.invariant.done
    ∙ ap (map f) (take_all n c.args.fixed.now (omega (arith, c.loop-net-test.false)))
