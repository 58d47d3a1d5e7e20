use Rattle.std.proofs.Common.{ap, sym, ◌∙◌}
use Rattle.stil_ast.specs.Data.Written.{statement_count}
use Rattle.stil_ast.proofs.BodyLemmas.{count-written_of}
use Rattle.stil_ast.proofs.body.PatBody.len.Goals as goal

pub returns : goal.returns
returns c =
    c.len.ensures ∙ (c.self.inside.stmts.ok.0 ∙ (sym (count-written_of c.self.inside.stmts.items) ∙ ap statement_count c.self.view_is))
