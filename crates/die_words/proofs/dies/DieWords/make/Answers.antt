use Rattle.std.proofs.Common.{rules, length, subst}
use Rattle.std.specs.Arc.{arc_value}
use Rattle.bench_net.specs.Circuit.{Circuit, IsWhole}
use Rattle.die_sim.specs.Readers.{AreReaderPlaces}
use Rattle.die_words.specs.Flat.{AreFlat}
use Rattle.die_words.specs.Capture.{AreRegisters}
use Rattle.die_words.specs.Board.{FitNets}
use Rattle.die_words.proofs.BoardLemmas.{board_bound}
use Rattle.die_words.proofs.dies.DieWords.make.Goals as goal

pub invariant_of-result : goal.invariant_of-result
invariant_of-result c =
    let gates = c.in_ok-gates.gates in
    let registers = c.in_ok-registers.registers in
    let readers = c.in_ok-readers.readers in (
      record {
        whole = subst (λ (x : Circuit). IsWhole x) c.deref-3.ensures c.in_ok-nets.ensures.whole;
        bound =
            board_bound (arc_value c.in_ok-net.net) (arc_value c.die.inside.net) (arc_value c.in_ok-bind.bind) (arc_value c.die.inside.bind)
            (search rules) (search rules) c.die.invariant.bound;
        wiring = record {
          gates = subst (λ (x : Circuit). AreFlat x gates.gates.items gates.pins.items) c.deref.ensures c.in_ok-gates.ensures;
          registers =
              subst (λ (x : Circuit). AreRegisters x.net.drivers registers.nets.items registers.sources.items (length x.net.drivers))
              c.deref-2.ensures c.in_ok-registers.ensures;
          readers = subst (λ (x : Circuit). AreReaderPlaces x readers.starts.items readers.places.items) c.deref-4.ensures c.in_ok-readers.ensures;
        };
      },
      subst (λ (x : Circuit). FitNets x c.in_ok-nets.nets) c.deref-3.ensures c.in_ok-nets.ensures.fit,
    )
