use Rattle.std.proofs.Common.{arith, refl, ap, inl, inr, subst, Err}
use Rattle.code_listing.specs.declared.fault.ListFault.{ListFault}
use Rattle.code_listing.specs.Lines.{ListsWhole, IsFor}
use Rattle.code_listing.specs.Listing.{listing_of}
use Rattle.tool_inputs.specs.declared.status.Status.TheVariants.{Done, OutOfMemory}
use Rattle.tool_inputs.specs.Endings.{memory_line}
use Rattle.text_commands.specs.Commands.Wanting.{at_once}
use Rattle.text_commands.proofs.CommandLemmas.{ends_same}
use Rattle.code_listing.specs.Text.{cycles_text}
use Rattle.text_commands.proofs.commands.cycles.Goals as goal

pub returns-in-Ok-put_cycles : goal.returns-in-Ok-put_cycles
returns-in-Ok-put_cycles g c = λ file. record {
  status = Done;
  text = cycles_text (listing_of c.in-Ok.code);
  wanted = (c.in-Ok.ensures.blocks, c.in-Ok.ensures.listed, ap cycles_text c.in-Ok.ensures.listing);
  ends = record { ends = inl (refl, c.in-Ok-put_cycles.ensures.puts); count = omega arith };
}

pub returns-in-Err-NoMemory : goal.returns-in-Err-NoMemory
returns-in-Err-NoMemory g c = λ file. record {
  status = OutOfMemory;
  text = memory_line;
  wanted = at_once refl;
  ends = ends_same (g.K.Sink.told c.args.out.now) (g.K.Sink.told c.put_cycles.new.sink) _ (g.K.Sink.faults c.args.out.now)
      (g.K.Sink.faults c.put_cycles.new.sink) _ memory_line OutOfMemory c.no_memory.result
      (subst (λ (f : ListFault). ListsWhole (g.K.Sink.told c.args.out.now) (cycles_text (listing_of c.in-Ok.code)) (Err f) (g.K.Sink.told c.put_cycles.new.sink))
      c.in-Err-NoMemory.field-0-is c.in-Err-NoMemory.ensures.puts)
      c.in-Err-NoMemory.ensures.count c.no_memory.ensures;
}

pub returns : goal.returns
returns g c = λ file. record {
  status = Done;
  text = cycles_text (listing_of c.in-Ok.code);
  wanted = (c.in-Ok.ensures.blocks, c.in-Ok.ensures.listed, ap cycles_text c.in-Ok.ensures.listing);
  ends = record {
    ends = inr (
      refl,
      subst (λ (f : ListFault). ListsWhole (g.K.Sink.told c.args.out.now) (cycles_text (listing_of c.in-Ok.code)) (Err f) (g.K.Sink.told c.put_cycles.new.sink))
          c.in-Err-Sink.field-0-is c.in-Err-Sink.ensures.puts,
      subst (λ (f : ListFault). IsFor {A = Unit {0}} (g.K.Sink.faults c.args.out.now) (g.K.Sink.faults c.put_cycles.new.sink) (Err f))
          c.in-Err-Sink.field-0-is c.in-Err-Sink.ensures.cause,
    );
    count = omega arith;
  };
}
