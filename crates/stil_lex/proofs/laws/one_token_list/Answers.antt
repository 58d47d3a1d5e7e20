use Rattle.stil_lex.proofs.Readings.{one_token_list}
use Rattle.stil_lex.proofs.laws.one_token_list.Goals as goal

pub returns : goal.returns
returns c = one_token_list
