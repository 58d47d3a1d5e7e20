use Rattle.std.proofs.Common.{◌∙◌}
use Rattle.csv.specs.Records.{fields_of}
use Rattle.plan_parts.proofs.RecordLemmas.{six_with}
use Rattle.plan_parts.proofs.record.put_moved.Goals as goal

pub returns : goal.returns
returns c =
    let same = six_with (fields_of c.args.fields.now) c.args.number c.field_of-kind.result.now c.as_bytes-site.result.now
    c.field_of-third.result.now c.field_of-fourth.result.now c.field_of-fifth.result.now c.field_of-sixth.result.now
    c.requires (c.as_bytes-site.ensures.value ∙ c.format.ensures.text) c.field_of-kind.ensures c.field_of-third.ensures
    c.field_of-fourth.ensures c.field_of-fifth.ensures c.field_of-sixth.ensures in
    rw (← same) c.put_fields.ensures
