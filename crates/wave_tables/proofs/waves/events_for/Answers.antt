use Rattle.std.proofs.Common.{◌++◌, ◌∙◌, ap, arith, List, ℕ, take, Option}
use Rattle.std.specs.List.{filter_map}
use Rattle.std.specs.Option.{option_to_list}
use Rattle.tester_types.specs.declared.wave.Event.{Event}
use Rattle.wave_tables.specs.declared.times.ReadEvent.{ReadEvent}
use Rattle.wave_tables.specs.Made.{event_read}
use Rattle.wave_tables.proofs.TakenLemmas.{filter_map_taken}
use Rattle.wave_tables.proofs.waves.events_for.Goals as goal

pub loop-event-preserved : goal.loop-event-preserved
loop-event-preserved c =
    let seen : ReadEvent → Option Event = event_read c.args.wave.now.characters c.args.character in
    let found = c.in_ok-event_for.ensures
    ∙ ap (λ (ls : List ℕ). event_read ls c.args.character c.event-item.result) c.as_slice.ensures in
    c.in_ok-push_found.ensures
    ∙ ap (λ (l : List Event). l ++ option_to_list c.in_ok-event_for.field-0) c.loop-event.invariant
    ∙ ap (λ (o : Option Event). filter_map seen (take c.loop-event.event-index c.as_slice-event-items.result.now)
    ++ option_to_list o) found
    ∙ filter_map_taken seen c.as_slice-event-items.result.now c.loop-event.event-index c.event-item.result
    (omega arith) c.event-item.is
