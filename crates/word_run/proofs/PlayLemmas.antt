-- A cycle of 64 dies: each goes on as it does by itself, and its first fail is noted.
use Rattle.std.proofs.Common.{◌≡◌, ℕ, ◌+◌, ◌-◌, ◌^◌, ◌<◌, Bool, true, false, cond, min, [], ◌∷◌, Option, Some, None, refl, sym, ap, ◌∙◌, subst, arith}
use Rattle.std.specs.Prelude.{bit_and, is_none}
use Rattle.std.specs.Int.{bit_at}
use Rattle.std.specs.Option.{option_or}
use Rattle.tester_types.specs.declared.cycle.Cycle.{Cycle}
use Rattle.die_sim.specs.Die.{Device}
use Rattle.site_meaning.specs.Playing.{Stand, Going, along_of, whose_next, moments_in, played_cycle, after_cycle}
use Rattle.site_meaning.specs.Trials.{after_cycles}
use Rattle.cycle_run.specs.BatchLaws.{after_cycles-next, after_cycles-none, fails_in-one}
use Rattle.cycle_run.specs.declared.setup.Setup.{Setup}
use Rattle.die_words.specs.Lane.{bit}
use Rattle.die_words.proofs.WordLemmas.{and_is, not_is}
use Rattle.word_run.specs.declared.player.WordPlayer.{WordPlayer}
use Rattle.word_run.specs.First.{first_fail}
use Rattle.word_run.specs.Board.{StandsAt, is_clear}
use Rattle.word_run.specs.Player.{stand_with, found_in, StandsIn, PlaysLane}
use Rattle.word_run.proofs.CycleLemmas.{first_is}

-- one cycle
after-one : (stand : Stand) (going : Going) (cycle : Cycle) → after_cycles stand going (cycle ∷ []) ≡ after_cycle stand going cycle
after-one stand going cycle = after_cycles-next stand going cycle [] ∙ after_cycles-none stand (after_cycle stand going cycle)

-- what a cycle finds in a lane, by the lanes that were alive, that are left and that failed
record IsNoted (before after : Option ℕ) (clear : Bool) (number left : ℕ) : Type 0 where
  found : after ≡ option_or before (cond clear None (Some number))
  alive : left ≡ bit (is_none after)

noted : (before after : Option ℕ) (clear : Bool) (number a left failed : ℕ) → a ≡ bit (is_none before) → left ≡ min a (bit clear)
    → failed ≡ min a (1 - left) → (failed ≡ 1 → after ≡ Some number) → (failed ≡ 0 → after ≡ before)
    → IsNoted before after clear number left
noted (Some x) after clear number a left failed was is fell found kept =
    let same = kept (omega (arith, was, fell)) in
    let none : left ≡ 0 = omega (arith, was, is) in
    record { found = same; alive = none ∙ ap (λ (o : Option ℕ). bit (is_none o)) (sym same) }
noted None after true number a left failed was is fell found kept =
    let same = kept (omega (arith, was, is, fell)) in
    let one : left ≡ 1 = omega (arith, was, is) in
    record { found = same; alive = one ∙ ap (λ (o : Option ℕ). bit (is_none o)) (sym same) }
noted None after false number a left failed was is fell found kept =
    let here = found (omega (arith, was, is, fell)) in
    let none : left ≡ 0 = omega (arith, was, is) in
    record { found = here; alive = none ∙ ap (λ (o : Option ℕ). bit (is_none o)) (sym here) }

-- the die of a lane behind a cycle
pub plays_lane : (setup : Setup) (exec : ℕ) (cycle : Cycle) (old new : WordPlayer) (k : ℕ) (device : Device) (going : Going)
    → k < 64 → new.alive < 2 ^ 64 → StandsIn old k device going
    → StandsAt new.board k device (along_of (after_cycle (stand_with setup device) going cycle))
    → new.number ≡ old.number + 1
    → bit_at new.alive k
    ≡ min (bit_at old.alive k) (bit (is_clear (played_cycle (stand_with setup device) exec going cycle).fails))
    → (bit_at (bit_and old.alive (18446744073709551615 - new.alive)) k ≡ 1 → found_in new k ≡ Some old.number)
    → (bit_at (bit_and old.alive (18446744073709551615 - new.alive)) k ≡ 0 → found_in new k ≡ found_in old k)
    → PlaysLane setup exec (cycle ∷ []) old new k device going
plays_lane setup exec cycle old new k device going within small stands at number left found kept =
    let stand = stand_with setup device in
    let fails = (played_cycle stand exec going cycle).fails in
    let fell = and_is old.alive (18446744073709551615 - new.alive) k (bit_at old.alive k) (1 - bit_at new.alive k) refl
    (not_is new.alive k (bit_at new.alive k) small within refl) in
    let n = noted (found_in old k) (found_in new k) (is_clear fails) old.number (bit_at old.alive k) (bit_at new.alive k)
    (bit_at (bit_and old.alive (18446744073709551615 - new.alive)) k) stands.alive left fell found kept in
    let first : first_fail fails ≡ cond (is_clear fails) None (Some going.number) =
    first_is device (whose_next exec going cycle) (along_of going) (moments_in stand going.time cycle) in
    record {
      stands = subst (λ (g : Going). StandsIn new k device g) (sym (after-one stand going cycle))
          (record { at = at; number = ap (λ (m : ℕ). m + 1) stands.number ∙ sym number; alive = n.alive });
      found = n.found
          ∙ ap (λ (o : Option ℕ). option_or (found_in old k) o)
          (sym (ap first_fail (fails_in-one stand exec going cycle) ∙ first
          ∙ ap (λ (m : ℕ). cond (is_clear fails) None (Some m)) stands.number));
    }
