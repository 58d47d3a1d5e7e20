use Rattle.stil_ast.proofs.KeepLemmas.{signal_keeps}
use Rattle.stil_ast.proofs.laws.signal_keeps_character.Goals as goal

pub returns : goal.returns
returns c = signal_keeps
