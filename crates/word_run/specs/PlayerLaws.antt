-- What is played in lanes composes.
use Rattle.std.specs.Prelude.{◌≡◌, ℕ, ◌<◌, ◌≤◌, Option, Some, None, List, [], ◌∷◌, ◌++◌, length}
use Rattle.std.specs.Option.{option_or}
use Rattle.std.proofs.Common.{refl, sym, ap, ◌∙◌, subst, arith}
use Rattle.tester_types.specs.declared.cycle.Cycle.{Cycle}
use Rattle.tester_types.specs.declared.record.Fail.{Fail}
use Rattle.site_meaning.specs.Playing.{Stand, Going, played_cycle, after_cycle}
use Rattle.site_meaning.specs.Trials.{played, after_cycles, fails_in}
use Rattle.cycle_run.specs.BatchLaws.{after_cycles-append, after_cycles-none, after_cycles-next, fails_in-next, fails_in-none}
use Rattle.std.proofs.lemmas.List.{append_assoc}
use Rattle.cycle_run.specs.declared.setup.Setup.{Setup}
use Rattle.word_run.specs.declared.player.WordPlayer.{WordPlayer}
use Rattle.word_run.specs.First.{first_fail}
use Rattle.word_run.specs.Player.{stand_with, found_in, StandsIn, CanPlay, PlaysLanes}

-- ---- the first of fails

or-none : (o : Option ℕ) → option_or o None ≡ o
or-none None = refl
or-none (Some x) = refl

pub or-assoc : (a b c : Option ℕ) → option_or (option_or a b) c ≡ option_or a (option_or b c)
or-assoc None b c = refl
or-assoc (Some x) b c = refl

pub first_fail-append : (xs ys : List Fail) → first_fail (xs ++ ys) ≡ option_or (first_fail xs) (first_fail ys)
first_fail-append [] ys = refl
first_fail-append (x ∷ xs) ys = refl

-- the fails of cycles behind cycles
pub fails-append : (stand : Stand) (exec : ℕ) (going : Going) (ones others : List Cycle)
    → fails_in (played stand exec going (ones ++ others))
    ≡ fails_in (played stand exec going ones) ++ fails_in (played stand exec (after_cycles stand going ones) others)
fails-append stand exec going [] others =
    ap (λ (g : Going). fails_in (played stand exec g others)) (sym (after_cycles-none stand going))
    ∙ ap (λ (l : List Fail). l ++ fails_in (played stand exec (after_cycles stand going []) others))
    (sym (fails_in-none stand exec going))
fails-append stand exec going (cycle ∷ ones) others =
    let next = after_cycle stand going cycle in
    let own = (played_cycle stand exec going cycle).fails in
    fails_in-next stand exec going cycle (ones ++ others)
    ∙ ap (λ (l : List Fail). own ++ l) (fails-append stand exec next ones others)
    ∙ sym (append_assoc own (fails_in (played stand exec next ones))
    (fails_in (played stand exec (after_cycles stand next ones) others)))
    ∙ ap (λ (l : List Fail). l ++ fails_in (played stand exec (after_cycles stand next ones) others))
    (sym (fails_in-next stand exec going cycle ones))
    ∙ ap (λ (g : Going). fails_in (played stand exec going (cycle ∷ ones)) ++ fails_in (played stand exec g others))
    (sym (after_cycles-next stand going cycle ones))

-- ---- the laws of a player

pub ready_less : (setup : Setup) (some more : ℕ) (player : WordPlayer) → some ≤ more → CanPlay setup more player
    → CanPlay setup some player
ready_less setup some more player less can = record {
  board = can.board;
  holds = can.holds;
  lanes = can.lanes;
  few = let a = can.few in omega (arith, less, a);
}

pub plays_none : (setup : Setup) (exec : ℕ) (player : WordPlayer) → PlaysLanes setup exec [] player player
plays_none setup exec player = record {
  count = refl;
  lanes = λ lane device going within here stands.
      let stand = stand_with setup device in
      record {
        stands = subst (λ (g : Going). StandsIn player lane device g) (sym (after_cycles-none stand going)) stands;
        found = sym
            (ap (λ (l : List Fail). option_or (found_in player lane) (first_fail l)) (fails_in-none stand exec going)
            ∙ or-none (found_in player lane));
      };
}

pub plays_more : (setup : Setup) (exec : ℕ) (ones others : List Cycle) (x y z : WordPlayer)
    → PlaysLanes setup exec ones x y → PlaysLanes setup exec others y z → PlaysLanes setup exec (ones ++ others) x z
plays_more setup exec ones others x y z first then = record {
  count = then.count ∙ first.count;
  lanes = λ lane device going within here stands.
      let stand = stand_with setup device in
      let mid = after_cycles stand going ones in
      let a = first.lanes lane device going within here stands in
      let there : lane < length y.firsts.items = let c = first.count in omega (arith, here, c) in
      let b = then.lanes lane device mid within there a.stands in
      let ones_fail = first_fail (fails_in (played stand exec going ones)) in
      let others_fail = first_fail (fails_in (played stand exec mid others)) in
      record {
        stands = subst (λ (g : Going). StandsIn z lane device g)
            (sym (after_cycles-append stand going ones others)) b.stands;
        found = b.found
            ∙ ap (λ (o : Option ℕ). option_or o others_fail) a.found
            ∙ or-assoc (found_in x lane) ones_fail others_fail
            ∙ ap (λ (o : Option ℕ). option_or (found_in x lane) o)
            (sym (ap first_fail (fails-append stand exec going ones others)
            ∙ first_fail-append (fails_in (played stand exec going ones)) (fails_in (played stand exec mid others))));
      };
}
