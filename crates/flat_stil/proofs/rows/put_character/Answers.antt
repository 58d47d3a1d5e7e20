use Rattle.std.proofs.Common.{arith}
use Rattle.flat_stil.proofs.LineLemmas.{no_character}
use Rattle.flat_stil.proofs.rows.put_character.Goals as goal

pub returns-else-character-ne0 : goal.returns-else-character-ne0
returns-else-character-ne0 c = no_character c.args.name.now c.args.character c.args.sheet.now (omega arith)
