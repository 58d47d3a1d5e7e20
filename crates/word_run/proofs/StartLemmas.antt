-- A run before its first executive: in each lane stands the die with the fault of the lane, as it is loaded.
use Rattle.std.proofs.Common.{◌≡◌, ℕ, ◌<◌, ◌≤◌, List, [], ◌∷◌, length, get_or, replicate, Option, None, refl, sym, ap, ◌∙◌, arith}
use Rattle.std.specs.Prelude.{is_none}
use Rattle.std.specs.Int.{bit_at}
use Rattle.std.proofs.lemmas.List.{length-replicate}
use Rattle.tester_types.specs.declared.level.Drive.TheVariants as drive
use Rattle.packed_code.specs.Conditions.{IsProgram}
use Rattle.die_sim.specs.Die.{Device, IsOfNet, fixed_of}
use Rattle.die_sim.specs.Stepped.{first_state}
use Rattle.die_sim.specs.declared.image.StuckAt.{StuckAt}
use Rattle.cycle_run.specs.Step.{HoldsSchedules}
use Rattle.cycle_run.specs.declared.setup.Setup.{Setup}
use Rattle.cycle_run.specs.Setup.{code_in}
use Rattle.die_words.specs.Lane.{bit}
use Rattle.die_words.specs.Lanes.{IsLaneOf}
use Rattle.word_run.specs.declared.player.WordPlayer.{WordPlayer}
use Rattle.word_run.specs.Board.{bare, IsBoardOf}
use Rattle.word_run.specs.Player.{device_with, found_in, StartsSo}
use Rattle.word_run.proofs.LookLemmas.{none_at}

module _ (setup : Setup) (faults : List StuckAt) (player : WordPlayer) (board : IsBoardOf setup.image.now player.board)
    (last : player.board.last.items ≡ replicate (length setup.image.now.binds) drive.Unknown)
    (lanes : (k : ℕ) (d : StuckAt) (device : Device) → k < length faults → IsOfNet device (bare setup.image.now)
    → device.fixed ≡ fixed_of (length setup.image.now.circuit.net.names) (get_or faults k d ∷ [])
    → IsLaneOf player.board.dies k device (first_state device))
    (number : player.number ≡ 0) (alive : (k : ℕ) → k < length faults → bit_at player.alive k ≡ 1)
    (firsts : player.firsts.items ≡ replicate (length faults) None) where
  none_found : (k : ℕ) → found_in player k ≡ None
  none_found k = ap (λ (l : List (Option ℕ)). get_or l k None) firsts ∙ none_at (length faults) k

  pub starts : HoldsSchedules (code_in setup) setup.skews.now player.schedules → IsProgram (code_in setup) → length faults ≤ 64
      → StartsSo setup faults player
  starts holds program few = record {
    before = record {
      board = board;
      holds = holds;
      lanes = let long = ap (λ l. length l) firsts ∙ length-replicate (length faults) None in omega (arith, few, long);
      few = let small = program.few_execs in omega (arith, small, number);
    };
    count = ap (λ l. length l) firsts ∙ length-replicate (length faults) None;
    none = none_found;
    lanes = λ k d within. record {
      at = record {
        die = lanes k d (device_with setup (get_or faults k d)) within (record { circuit = refl; clock = refl; binds = refl }) refl;
        priors = sym last;
      };
      number = sym number;
      alive = alive k within ∙ ap (λ (o : Option ℕ). bit (is_none o)) (sym (none_found k));
    };
  }
