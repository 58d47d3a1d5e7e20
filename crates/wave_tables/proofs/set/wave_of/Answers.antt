use Rattle.std.proofs.Common.{◌∙◌}
use Rattle.tester_types.proofs.WaveLemmas.{find-reverse_rising}
use Rattle.wave_tables.proofs.set.wave_of.Goals as goal

pub returns : goal.returns
returns c =
    c.wave.ensures ∙ find-reverse_rising c.args.signal c.args.character c.args.waves.now c.requires.rising
