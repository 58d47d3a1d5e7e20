use Rattle.std.proofs.Common.{ap, ◌∙◌, ◌++◌, ℕ, List}
use Rattle.std.specs.Prelude.{codes}
use Rattle.std.specs.List.{flat_map}
use Rattle.flat_stil.specs.Working.{wrote}
use Rattle.tester_types.specs.declared.wave.Event.{Event}
use Rattle.flat_parts.specs.FlatText.{wave_front, event_item, name_of}
use Rattle.flat_stil.proofs.SheetLemmas.{three_pieces}
use Rattle.flat_stil.proofs.tables.put_wave.Goals as goal

pub returns : goal.returns
returns c =
    three_pieces c.args.sheet.now c.put_front.new.sheet c.put_events.new.sheet c.put_line.new.self
    (wave_front (name_of c.args.code.now c.args.wave.now.signal) c.args.wave.now.character ++ codes "{ ") (flat_map event_item c.args.wave.now.events) (codes "} }")
    (c.put_front.ensures ∙ ap (λ (n : List ℕ). wrote c.args.sheet.now (wave_front n c.args.wave.now.character ++ codes "{ ")) c.name_at.ensures)
    (c.put_events.ensures ∙ ap (λ (es : List Event). wrote c.put_front.new.sheet (flat_map event_item es)) c.as_slice.ensures)
    c.put_line.ensures
