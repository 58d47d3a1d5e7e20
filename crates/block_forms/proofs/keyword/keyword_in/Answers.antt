use Rattle.std.proofs.Common.{Some, None}
use Rattle.stil_form.specs.Lexeme.{lexeme_of}
use Rattle.block_forms.proofs.KeywordLemmas.{by_found}
use Rattle.block_forms.proofs.keyword.keyword_in.Goals as goal

pub returns-in-Some : goal.returns-in-Some
returns-in-Some g c =
    by_found c.args.words.now (lexeme_of c.args.part.now) (Some c.in-Some.row.now) c.in-Some.ensures

pub returns-in-None : goal.returns-in-None
returns-in-None g c =
    by_found c.args.words.now (lexeme_of c.args.part.now) None c.in-None.ensures
