use Rattle.stil_form.specs.Lexeme.{lexeme_at}
use Rattle.stil_form.proofs.HeadLemmas.{cut-is, first-out, count-out}
use Rattle.stil_form.proofs.source.head.Goals as goal

pub returns : goal.returns
returns c =
    rw (first-out c.args.stmt.now, count-out c.args.stmt.now)
    (cut-is (lexeme_at c.args.source.bytes.now) c.args.source.tokens.now _ _ c.min-first.result c.min.result c.min-first.ensures c.min.ensures)
