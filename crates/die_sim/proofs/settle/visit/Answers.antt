use Rattle.std.proofs.Common.{◌≡◌, ◌∙◌, ℕ, List, length, get_or, sym, ap, subst}
use Rattle.tester_types.specs.declared.level.Level.{Level}
use Rattle.die_sim.specs.Cells.{CanRead, no_cell}
use Rattle.die_sim.specs.Die.{wanted}
use Rattle.die_sim.specs.Pending.{place_at}
use Rattle.die_sim.specs.Settling.{circuit_of, drivers_of}
use Rattle.die_sim.specs.Walk.{Puts}
use Rattle.die_sim.proofs.CellLemmas.{cell_wanted, cell_reads}
use Rattle.die_sim.proofs.settle.visit.Goals as goal

pub level-level-requires-clause-reads : goal.level-level-requires-clause-reads
level-level-requires-clause-reads c =
    let count : length (drivers_of c.args.wiring.now) ≡ length c.as_slice.result.now =
    c.requires.wiring.whole.drivers ∙ sym c.requires.seated.levels_count ∙ ap (λ (v : List Level). length v) (sym c.as_slice.ensures.value) in
    subst (λ (n : ℕ). CanRead n c.args.wiring.now.cells.pins.items (get_or c.args.wiring.now.cells.cells.items c.args.place no_cell)) count
    (cell_reads (circuit_of c.args.wiring.now) c.requires.wiring.whole c.args.wiring.now.fixed.items c.args.wiring.now.cells.cells.items c.args.wiring.now.cells.pins.items c.requires.wiring.gates c.args.place c.requires.within)

pub returns-clause-visits : goal.returns-clause-visits
returns-clause-visits c held =
    let drivers = (drivers_of c.args.wiring.now) in
    let there : place_at c.args.nets.now.pending c.args.g ≡ c.args.place =
    subst (λ (n : ℕ). place_at c.args.nets.now.pending n ≡ c.args.place) c.requires.gate (c.requires.seated.seats.here c.args.place c.requires.within) in
    let sets = c.clear_at.ensures.sets c.args.g there in
    let is : c.level-level.result ≡ wanted drivers c.args.wiring.now.fixed.items held c.args.nets.now.levels.items c.args.g =
    c.level-level.ensures
    ∙ cell_wanted (circuit_of c.args.wiring.now) c.requires.wiring.whole c.args.wiring.now.fixed.items c.args.wiring.now.cells.cells.items c.args.wiring.now.cells.pins.items c.requires.wiring.gates c.args.place c.requires.within held c.as_slice.result.now
    ∙ ap (λ (v : List Level). wanted drivers c.args.wiring.now.fixed.items held v (get_or (circuit_of c.args.wiring.now).order c.args.place 0)) c.as_slice.ensures.value
    ∙ ap (λ (n : ℕ). wanted drivers c.args.wiring.now.fixed.items held c.args.nets.now.levels.items n) c.requires.gate in
    record {
      was = c.requires.active;
      cleared = c.clear_at.new.self;
      clear = sets.here;
      rest = sets.others;
      puts = subst (λ (l : Level). Puts drivers c.args.g l c.args.nets.now.levels.items c.put_level.new.nets.levels.items c.clear_at.new.self c.put_level.new.nets.pending) is c.put_level.ensures.puts;
    }
