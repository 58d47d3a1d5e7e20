-- What is told of a fail, of a try and of a record beside the marks of cycles.
use Rattle.std.specs.Prelude.{map}
use Rattle.tester_types.specs.declared.record.Fail.{Fail}
use Rattle.tester_types.specs.declared.record.Trial.{Trial}
use Rattle.tester_types.specs.declared.record.Record.{Record}

-- a fail without the mark of its cycle
abbrev pub unmarked : Fail → Fail
unmarked f = record f { mark = 0 }

-- a try with such fails
abbrev pub unmarked_trial : Trial → Trial
unmarked_trial t = record t { kept = map unmarked t.kept }

-- a record with such tries
abbrev pub unmarked_record : Record → Record
unmarked_record entry = record entry { trials = map unmarked_trial entry.trials }
