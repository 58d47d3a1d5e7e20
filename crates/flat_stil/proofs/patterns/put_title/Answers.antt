use Rattle.std.proofs.Common.{length, ◌∙◌, sym}
use Rattle.std.proofs.lemmas.Bool.{eqb-true}
use Rattle.flat_stil.proofs.LineLemmas.{no_title}
use Rattle.flat_stil.proofs.patterns.put_title.Goals as goal

pub returns-else-not-is_empty : goal.returns-else-not-is_empty
returns-else-not-is_empty c =
    no_title c.args.name.now c.args.sheet.now (eqb-true (length c.args.name.now) 0 (sym c.is_empty.ensures ∙ c.if-not-is_empty.false))
