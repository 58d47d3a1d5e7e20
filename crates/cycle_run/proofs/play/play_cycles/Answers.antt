use Rattle.std.proofs.Common.{◌-◌, Bool, List, [], ◌∷◌, take, drop, sym, subst, arith, rules}
use Rattle.tester_types.specs.declared.cycle.Cycle.{Cycle}
use Rattle.cycle_run.specs.Setup.{code_in}
use Rattle.cycle_run.proofs.PlayLemmas.{one_taken, one_left, one_among}
use Rattle.cycle_run.proofs.play.play_cycles.Goals as goal

pub returns-in-Err-play-clause-stops : goal.returns-in-Err-play-clause-stops
returns-in-Err-play-clause-stops g c =
    let setup = c.args.setup.now in
    let i = c.loop-count.count in
    let xs = g.F.Feed.coming (code_in setup) c.args.feed.now in
    let before = c.loop-count.invariant in
    let cycle = c.in-Ok.cycle in
    let rest = c.args.cycles - i - 1 in
    subst (λ (l : List Cycle). g.P.Player.stops setup c.args.exec l c.args.player.now c.play.new.self c.in-Err-play.stop)
    (sym (one_among i c.args.cycles xs _ _ cycle c.loop-count-test.true before.left c.in-Ok.ensures.given))
    (g.met.P.Player.stops_more setup c.args.exec (take i xs) (cycle ∷ []) (take rest (drop 1 (drop i xs))) c.args.player.now
    c.loop-count.player c.play.new.self c.in-Err-play.stop before.plays c.in-Err-play.ensures.stops)

pub returns-then-is_done-clause-plays : goal.returns-then-is_done-clause-plays
returns-then-is_done-clause-plays g c =
    let setup = c.args.setup.now in
    let i = c.loop-count.count in
    let xs = g.F.Feed.coming (code_in setup) c.args.feed.now in
    let before = c.loop-count.invariant in
    let cycle = c.in-Ok.cycle in
    record {
      played = subst (λ (l : List Cycle). g.P.Player.plays setup c.args.exec l c.args.player.now c.play.new.self)
          (sym (one_taken i xs _ _ cycle before.left c.in-Ok.ensures.given))
          (g.met.P.Player.plays_more setup c.args.exec (take i xs) (cycle ∷ []) c.args.player.now c.loop-count.player c.play.new.self
          before.plays c.in-Ok-play.ensures.plays);
      within = omega (arith, c.loop-count-test.true);
      enough = λ _. subst (λ (b : Bool). g.P.Player.done setup.until c.play.new.self b) c.if-is_done.true c.is_done.ensures;
    }

pub returns-then-is_done-clause-left : goal.returns-then-is_done-clause-left
returns-then-is_done-clause-left g c =
    one_left c.loop-count.count (g.F.Feed.coming (code_in c.args.setup.now) c.args.feed.now) _ _ c.in-Ok.cycle c.loop-count.invariant.left
    c.in-Ok.ensures.given

pub loop-count-preserved : goal.loop-count-preserved
loop-count-preserved g c =
    let setup = c.args.setup.now in
    let i = c.loop-count.count in
    let xs = g.F.Feed.coming (code_in setup) c.args.feed.now in
    let before = c.loop-count.invariant in
    let cycle = c.in-Ok.cycle in
    record {
      plays = subst (λ (l : List Cycle). g.P.Player.plays setup c.args.exec l c.args.player.now c.play.new.self)
          (sym (one_taken i xs _ _ cycle before.left c.in-Ok.ensures.given))
          (g.met.P.Player.plays_more setup c.args.exec (take i xs) (cycle ∷ []) c.args.player.now c.loop-count.player c.play.new.self
          before.plays c.in-Ok-play.ensures.plays);
      left = one_left i xs _ _ cycle before.left c.in-Ok.ensures.given;
      can = c.in-Ok.ensures.can;
      ready = search rules;
      keeps = g.met.F.Feed.keeps_on c.args.feed.now c.loop-count.feed c.give.new.self before.keeps c.in-Ok.ensures.keeps;
    }
