use Rattle.text_commands.proofs.FlatLemmas.{flat_by_numbers}
use Rattle.text_commands.proofs.laws.flat_by_numbers.Goals as goal

pub returns : goal.returns
returns c = flat_by_numbers
