use Rattle.std.proofs.Common.{◌≡◌, ◌∙◌, ◌<◌, ◌∷◌, [], ℕ, length, get_or, replicate, subst, sym, ap, refl}
use Rattle.tester_types.specs.declared.level.Drive.TheVariants as drive
use Rattle.edge_gen.specs.Held.{Held}
use Rattle.die_sim.specs.Die.{Image, Device, IsOfNet, fixed_of}
use Rattle.die_sim.specs.Stepped.{first_state}
use Rattle.die_sim.specs.declared.image.StuckAt.{StuckAt}
use Rattle.cycle_run.specs.Step.{HoldsSchedules}
use Rattle.cycle_run.specs.Setup.{code_in}
use Rattle.die_words.specs.Lanes.{IsLaneOf}
use Rattle.word_run.proofs.StartLemmas.{starts}
use Rattle.word_run.proofs.run.start.Goals as goal

pub returns : goal.returns
returns c =
    let setup = c.args.setup.now in
    let faults = c.args.faults.now in
    let made = c.in_ok-board.ensures in
    starts setup faults
    (record {
      number = 0;
      board = record {
        dies = c.load.new.self;
        bound = c.in_ok-board.board.bound;
        last = c.in_ok-board.board.last;
        drives = c.in_ok-board.board.drives;
        windows = c.in_ok-board.board.windows;
      };
      schedules = c.in_ok-new.field-0;
      alive = c.first_lanes.result;
      firsts = c.in_ok-none_found.field-0;
    })
    (record { dies = c.load.ensures.image ∙ made.of.dies; bound = made.of.bound; last = made.of.last; windows = made.of.windows })
    (made.last ∙ ap (λ (n : ℕ). replicate n drive.Unknown) (c.signals.ensures.count ∙ sym c.requires.set_up.signals))
    (subst (λ (i : Image). (k : ℕ) (d : StuckAt) (device : Device) → k < length faults → IsOfNet device i
    → device.fixed ≡ fixed_of (length i.circuit.net.names) (get_or faults k d ∷ [])
    → IsLaneOf c.load.new.self k device (first_state device)) made.of.dies c.load.ensures.lanes)
    refl c.first_lanes.ensures c.in_ok-none_found.ensures
    (subst (λ (h : Held). HoldsSchedules (code_in setup) setup.skews.now h) (sym c.in_ok-new.ensures) tt)
    c.signals.ensures.conditions c.requires.few
