use Rattle.stil_tree.specs.Trees.{entry_of}
use Rattle.stil_form.proofs.HeadLemmas.{lexemes-cut}
use Rattle.stil_form.proofs.setting.head_at.Goals as goal

pub returns-clause-lexemes : goal.returns-clause-lexemes
returns-clause-lexemes c = lexemes-cut c.args.source c.cut.result (entry_of c.args.stmt.now) c.cut.ensures.bytes c.cut.ensures.tokens
