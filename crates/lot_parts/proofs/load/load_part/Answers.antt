use Rattle.std.proofs.Common.{refl, ◌∙◌}
use Rattle.lot_parts.proofs.LoadLemmas.{failed_so, too_long_so}
use Rattle.lot_parts.proofs.load.load_part.Goals as goal

pub returns-in-Err-Failed-clause-reads : goal.returns-in-Err-Failed-clause-reads
returns-in-Err-Failed-clause-reads g c =
    failed_so _ _ _ c.args.file.now c.from_vec-name.result c.in-Err-Failed.field-0 c.in-Err-Failed.field-0-is
    (c.from_vec-name.ensures ∙ c.in-Ok.ensures.items ∙ c.as_bytes.ensures.value) c.in-Err-Failed.ensures.cause

pub returns-in-Err-TooLong-clause-reads : goal.returns-in-Err-TooLong-clause-reads
returns-in-Err-TooLong-clause-reads g c =
    too_long_so _ _ _ c.args.file.now c.from_vec-name.result _ c.in-Err-TooLong.field-0 c.in-Err-TooLong.field-0-is refl
    (c.from_vec-name.ensures ∙ c.in-Ok.ensures.items ∙ c.as_bytes.ensures.value) c.in-Err-TooLong.ensures.loads
