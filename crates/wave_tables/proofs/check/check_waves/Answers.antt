use Rattle.std.proofs.Common.{arith, pos}
use Rattle.wave_tables.specs.Check.{read_fault}
use Rattle.wave_tables.proofs.FirstLemmas.{first_more, first_found}
use Rattle.wave_tables.proofs.check.check_waves.Goals as goal

pub returns-in-Err : goal.returns-in-Err
returns-in-Err c = λ place.
    let at = rw c.as_slice.ensures at (c.in-Err.ensures place) in
    first_found (read_fault place (pos c.args.period)) c.args.waves.now c.loop-wave.wave-index c.wave-item.result
    place c.in-Err.trouble (omega arith) c.wave-item.is (c.loop-wave.invariant place) at

pub loop-wave-preserved : goal.loop-wave-preserved
loop-wave-preserved c = λ place.
    let none = rw c.as_slice.ensures at (c.in-Ok.ensures place) in
    first_more (read_fault place (pos c.args.period)) c.args.waves.now c.loop-wave.wave-index c.wave-item.result
    (omega arith) c.wave-item.is (c.loop-wave.invariant place) none
