-- What was put of a run's text is how the run ends.
use Rattle.std.proofs.Common.{ℕ, List, Option, Ok, Err, refl, inl, inr}
use Rattle.tester_types.specs.declared.outside.SinkFault.{SinkFault}
use Rattle.tester_types.specs.Outside.{Prints}
use Rattle.tool_inputs.specs.declared.status.Status.{Status}
use Rattle.tool_inputs.specs.declared.status.Status.TheVariants.{WriteFault}
use Rattle.tool_inputs.specs.Endings.{Ends}

-- a text that was put whole
pub ends_whole : {held held' : Option (List ℕ)} {faults faults' : ℕ} {text : List ℕ} {status : Status} {done : Unit {0}}
    → Prints held faults text (Ok done) held' faults' → Ends held faults status text status held' faults'
ends_whole p = record { ends = inl (refl, p.puts); count = p.count }

-- a front of it
pub ends_front : {held held' : Option (List ℕ)} {faults faults' : ℕ} {text : List ℕ} {status : Status} {fault : SinkFault}
    → Prints held faults text (Err fault) held' faults' → Ends held faults status text WriteFault held' faults'
ends_front p = record { ends = inr (refl, p.puts, p.cause); count = p.count }
