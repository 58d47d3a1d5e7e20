use Rattle.std.proofs.Common.{arith, ◌∙◌, refl, ap, inl, inr, subst, Err}
use Rattle.code_listing.specs.declared.fault.ListFault.{ListFault}
use Rattle.code_listing.specs.Lines.{Lists, IsFor}
use Rattle.code_listing.specs.Listing.{listing_of}
use Rattle.tool_inputs.specs.declared.status.Status.TheVariants.{Done}
use Rattle.text_commands.specs.TextListing.{signal_names}
use Rattle.text_commands.proofs.CommandLemmas.{events_wanting}
use Rattle.code_listing.specs.Text.{names_of, events_text}
use Rattle.text_commands.proofs.commands.events.Goals as goal

pub returns-in-Ok-put_events : goal.returns-in-Ok-put_events
returns-in-Ok-put_events g c = λ file. record {
  status = Done;
  text = events_text (names_of c.in-Ok.code) (listing_of c.in-Ok.code);
  wanted = (c.in-Ok.ensures.blocks, c.in-Ok.ensures.listed, ap (λ names. events_text names (listing_of c.in-Ok.code)) c.in-Ok.ensures.names ∙ ap (events_text (signal_names c.in-Ok.ensures.blocks)) c.in-Ok.ensures.listing);
  ends = record { ends = inl (refl, c.in-Ok-put_events.ensures.lists); count = omega arith };
}

pub returns-in-Err-NoMemory : goal.returns-in-Err-NoMemory
returns-in-Err-NoMemory g c = λ file.
    events_wanting file c.args.bytes.now c.in-Ok.code (g.K.Sink.told c.args.out.now) (g.K.Sink.told c.put_events.new.sink) _ (g.K.Sink.faults c.args.out.now)
    (g.K.Sink.faults c.put_events.new.sink) _ c.no_memory.result c.in-Ok.ensures
    (subst (λ (f : ListFault). Lists {A = Unit {0}} (g.K.Sink.told c.args.out.now) (events_text (names_of c.in-Ok.code) (listing_of c.in-Ok.code)) (Err f)
    (g.K.Sink.told c.put_events.new.sink)) c.in-Err-NoMemory.field-0-is c.in-Err-NoMemory.ensures.lists)
    c.in-Err-NoMemory.ensures.count c.no_memory.ensures

pub returns : goal.returns
returns g c = λ file. record {
  status = Done;
  text = events_text (names_of c.in-Ok.code) (listing_of c.in-Ok.code);
  wanted = (c.in-Ok.ensures.blocks, c.in-Ok.ensures.listed, ap (λ names. events_text names (listing_of c.in-Ok.code)) c.in-Ok.ensures.names ∙ ap (events_text (signal_names c.in-Ok.ensures.blocks)) c.in-Ok.ensures.listing);
  ends = record {
    ends = inr (
      refl,
      subst (λ (f : ListFault). Lists {A = Unit {0}} (g.K.Sink.told c.args.out.now) (events_text (names_of c.in-Ok.code) (listing_of c.in-Ok.code)) (Err f) (g.K.Sink.told c.put_events.new.sink))
          c.in-Err-Sink.field-0-is c.in-Err-Sink.ensures.lists,
      subst (λ (f : ListFault). IsFor {A = Unit {0}} (g.K.Sink.faults c.args.out.now) (g.K.Sink.faults c.put_events.new.sink) (Err f))
          c.in-Err-Sink.field-0-is c.in-Err-Sink.ensures.cause,
    );
    count = omega arith;
  };
}
