use Rattle.std.proofs.Common.{ap, ◌∙◌, Option}
use Rattle.flat_stil.specs.Working.{Written, prints}
use Rattle.flat_parts.specs.FlatText.{flat_lines}
use Rattle.flat_stil.proofs.FlatLemmas.{is_written}
use Rattle.flat_stil.proofs.flattening.written.Goals as goal

pub returns : goal.returns
returns c =
    is_written c.args.code.now c.put_lines.new.sheet c.into_text.result
    (c.in_ok-put_lines.ensures ∙ ap (λ (w : Option Written). prints w (flat_lines c.args.code.now)) c.in_ok-sheet.ensures) c.into_text.ensures
