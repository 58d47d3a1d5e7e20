use Rattle.std.proofs.Common.{sym, ap, ◌∙◌, ℕ, List, [], ◌∷◌, get_or}
use Rattle.flat_stil.specs.Working.{prints}
use Rattle.packed_code.specs.Conditions.{characters_of}
use Rattle.flat_parts.specs.FlatText.{row_line, row_text}
use Rattle.flat_stil.proofs.SheetLemmas.{prints_nothing, line_at}
use Rattle.flat_stil.proofs.rows.put_each.Goals as goal

pub loop-number-init : goal.loop-number-init
loop-number-init c = sym (prints_nothing c.args.sheet.now)

pub loop-number-preserved : goal.loop-number-preserved
loop-number-preserved c =
    line_at (row_line c.args.code.now) c.args.sheet.now c.loop-number.sheet _ c.loop-number.number c.loop-number.invariant
    (c.put_row.ensures ∙ ap (λ (r : List ℕ). prints c.loop-number.sheet (row_text c.args.code.now c.loop-number.number r ∷ []))
    (c.row_at.ensures ∙ ap (λ (l : List ℕ). characters_of c.args.code.now.rows (get_or l c.loop-number.number 0)) c.requires))
