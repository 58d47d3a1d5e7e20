use Rattle.std.proofs.Common.{ap, ◌∙◌, List, map}
use Rattle.std.specs.Prelude.{codes}
use Rattle.flat_stil.specs.Working.{prints}
use Rattle.tester_types.specs.declared.wave.Wave.{Wave}
use Rattle.flat_parts.specs.FlatText.{wave_line}
use Rattle.flat_stil.proofs.SheetLemmas.{block_written}
use Rattle.flat_stil.proofs.tables.put_waveforms.Goals as goal

pub returns : goal.returns
returns c =
    block_written c.args.sheet.now c.put_line.new.self c.put_waves.new.sheet c.close.new.self (codes "Waveforms {")
    (map (wave_line c.args.code.now) c.args.table.now.waves) c.put_line.ensures
    (c.put_waves.ensures ∙ ap (λ (ws : List Wave). prints c.put_line.new.self (map (wave_line c.args.code.now) ws)) c.as_slice.ensures) c.close.ensures
