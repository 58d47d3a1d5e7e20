use Rattle.std.proofs.Common.{◌-◌, arith}
use Rattle.tester_types.proofs.WaveLemmas.{below_upto}
use Rattle.tester_types.proofs.wave_search.start.Goals as goal

pub returns-then-key_in-key-clause-below : goal.returns-then-key_in-key-clause-below
returns-then-key_in-key-clause-below c =
    below_upto c.args.waves.now c.requires c.args.key (c.args.from - 1) c.args.from c.index-waves-from.result
    (omega (arith, c.if-from-eq0.false, c.if-from-waves.false)) c.index-waves-from.is
    (omega (arith, c.key_in.ensures, c.if-key_in-key.true)) (omega (arith, c.if-from-eq0.false))
