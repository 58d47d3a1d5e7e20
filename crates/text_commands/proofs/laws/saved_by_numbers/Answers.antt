use Rattle.text_commands.proofs.SaveLemmas.{saved_by_numbers}
use Rattle.text_commands.proofs.laws.saved_by_numbers.Goals as goal

pub returns : goal.returns
returns c = saved_by_numbers
