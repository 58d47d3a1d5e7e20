-- The numbers with which the program exits.
use Rattle.std.specs.Prelude.{ℕ}
use Rattle.tool_inputs.specs.declared.status.Status.{Status}
use Rattle.tool_inputs.specs.declared.status.Status.TheVariants.{Done, Usage, ReadFault, WriteFault, RefusedStil, RefusedNet, RefusedPlan, TooFewSockets, OutOfMemory, TooLong, RefusedSaved, TooFlat, NoDie, TapeTooLong}

-- one number each, 0 where all went well
abbrev pub number_of : Status → ℕ
number_of Done = 0
number_of Usage = 1
number_of ReadFault = 2
number_of WriteFault = 3
number_of RefusedStil = 4
number_of RefusedNet = 5
number_of RefusedPlan = 6
number_of TooFewSockets = 7
number_of OutOfMemory = 8
number_of TooLong = 9
number_of RefusedSaved = 10
number_of TooFlat = 11
number_of NoDie = 12
number_of TapeTooLong = 13
