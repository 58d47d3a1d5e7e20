use Rattle.std.proofs.Common.{ap, ◌∙◌, List, map}
use Rattle.std.specs.Prelude.{codes}
use Rattle.flat_stil.specs.Working.{prints}
use Rattle.packed_code.specs.declared.parts.CodeSignal.{CodeSignal}
use Rattle.flat_parts.specs.FlatText.{signal_line}
use Rattle.flat_stil.proofs.SheetLemmas.{block_written}
use Rattle.flat_stil.proofs.signals.put_signals.Goals as goal

pub returns : goal.returns
returns c =
    block_written c.args.sheet.now c.put_line.new.self c.put_each.new.sheet c.close.new.self (codes "Signals {") (map signal_line c.args.code.now.signals)
    c.put_line.ensures
    (c.put_each.ensures ∙ ap (λ (l : List CodeSignal). prints c.put_line.new.self (map signal_line l)) c.signal_list.ensures) c.close.ensures
