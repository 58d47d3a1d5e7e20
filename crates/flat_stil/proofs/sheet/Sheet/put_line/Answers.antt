use Rattle.std.proofs.Common.{◌∙◌, ap, Option}
use Rattle.std.specs.Prelude.{codes}
use Rattle.std.specs.List.{flat_map}
use Rattle.flat_stil.specs.Working.{Written, part_text, wrote}
use Rattle.flat_stil.proofs.SheetLemmas.{prints_line}
use Rattle.flat_stil.proofs.sheet.Sheet.put_line.Goals as goal

pub returns : goal.returns
returns c =
    c.put.ensures ∙ ap (λ (w : Option Written). wrote w (codes "\n")) c.put_parts.ensures
    ∙ prints_line c.args.self.now (flat_map part_text c.args.parts.now)
