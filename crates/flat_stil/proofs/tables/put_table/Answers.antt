use Rattle.std.proofs.Common.{◌∷◌}
use Rattle.std.specs.Prelude.{codes}
use Rattle.flat_parts.specs.FlatText.{opening, period_line, waveform_lines}
use Rattle.flat_stil.proofs.SheetLemmas.{line_then, block_written}
use Rattle.flat_stil.proofs.tables.put_table.Goals as goal

pub returns : goal.returns
returns c =
    block_written c.args.sheet.now c.begin.new.self c.put_waveforms.new.sheet c.close.new.self (opening (codes "WaveformTable \"w") c.args.number)
    (period_line c.args.table.now.period ∷ waveform_lines c.args.code.now c.args.table.now) c.begin.ensures
    (line_then c.begin.new.self c.put_period.new.sheet c.put_waveforms.new.sheet (period_line c.args.table.now.period)
    (waveform_lines c.args.code.now c.args.table.now) c.put_period.ensures c.put_waveforms.ensures) c.close.ensures
