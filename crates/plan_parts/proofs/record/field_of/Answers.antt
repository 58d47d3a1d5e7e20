use Rattle.csv.specs.Records.{fields_of}
use Rattle.plan_parts.proofs.RecordLemmas.{none_within}
use Rattle.plan_parts.proofs.record.field_of.Goals as goal

pub unreachable-requires : goal.unreachable-requires
unreachable-requires c = none_within (fields_of c.args.fields.now) c.args.place c.requires c.in-None.ensures.value
