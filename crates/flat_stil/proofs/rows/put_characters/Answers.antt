use Rattle.std.proofs.Common.{sym, ap, ◌∙◌, ℕ, List}
use Rattle.flat_stil.specs.Working.{wrote}
use Rattle.flat_parts.specs.FlatText.{signal_item, character_item, name_of}
use Rattle.flat_stil.proofs.SheetLemmas.{wrote_nothing, text_at}
use Rattle.flat_stil.proofs.rows.put_characters.Goals as goal

pub loop-signal-init : goal.loop-signal-init
loop-signal-init c = sym (wrote_nothing c.args.sheet.now)

pub loop-signal-preserved : goal.loop-signal-preserved
loop-signal-preserved c =
    text_at (signal_item c.args.code.now c.args.row.now) c.args.sheet.now c.loop-signal.sheet _ c.loop-signal.signal c.loop-signal.invariant
    (c.put_character.ensures ∙ ap (λ (n : List ℕ). wrote c.loop-signal.sheet (character_item n c.character_at.result)) c.name_at.ensures
    ∙ ap (λ (l : ℕ). wrote c.loop-signal.sheet (character_item (name_of c.args.code.now c.loop-signal.signal) l)) c.character_at.ensures)
