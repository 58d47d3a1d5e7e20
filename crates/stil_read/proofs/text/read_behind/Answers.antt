use Rattle.std.proofs.Common.{◌≡◌, ℕ, [], ◌∷◌, true, false, Result, map, sym, subst, rules}
use Rattle.stil_tree.specs.Trees.{entry_of}
use Rattle.stil_form.specs.declared.fault.FormKind.TheVariants as kind
use Rattle.stil_form.specs.declared.fault.FormFault.TheVariants as form
use Rattle.stil_form.specs.Setting.{setting, lexemes_at}
use Rattle.stil_ast.specs.declared.blocks.Blocks.{Blocks}
use Rattle.stil_ast.specs.Data.Refusal.{StilRefusal}
use Rattle.pat_read.specs.Refusal.{Tells}
use Rattle.stil_read.specs.Top.{is_stil_1_0}
use Rattle.stil_read.specs.Text.{TextAnswers}
use Rattle.stil_read.specs.Reads.{top_by}
use Rattle.stil_read.proofs.TextLemmas.{no_header, statement_refused, all_read}
use Rattle.stil_read.proofs.text.read_behind.Goals as goal

pub returns-then-not-is_header : goal.returns-then-not-is_header
returns-then-not-is_header c =
    let header : is_stil_1_0 (lexemes_at (setting c.args.source.bytes.now c.args.source.tokens.now []) (entry_of c.args.header.now)) ≡ false
    = search rules in
    no_header c.args.source.bytes.now c.args.source.tokens.now (entry_of c.args.header.now) (map entry_of c.args.stmts.now)
    c.refused.result header
    (subst (λ (n : ℕ). Tells c.args.source.bytes.now c.args.source.tokens.now (form.Refused kind.NoHeader n) c.refused.result)
    c.first_of.ensures c.refused.ensures)

pub returns-in-Ok : goal.returns-in-Ok
returns-in-Ok c =
    let header : is_stil_1_0 (lexemes_at (setting c.args.source.bytes.now c.args.source.tokens.now []) (entry_of c.args.header.now)) ≡ true
    = search rules in
    subst (λ (r : Result Blocks StilRefusal). TextAnswers c.args.source.bytes.now c.args.source.tokens.now (entry_of c.args.header.now ∷ map entry_of c.args.stmts.now) r)
    (sym c.ended_with.ensures)
    (all_read c.args.source.bytes.now c.args.source.tokens.now (entry_of c.args.header.now) (map entry_of c.args.stmts.now)
    (top_by c.in-Ok.ensures.0 c.read_statements.new.lists) header c.in-Ok.ensures.1)

pub returns-in-Err : goal.returns-in-Err
returns-in-Err c =
    let header : is_stil_1_0 (lexemes_at (setting c.args.source.bytes.now c.args.source.tokens.now []) (entry_of c.args.header.now)) ≡ true
    = search rules in
    statement_refused (λ (_ : Unit {0}). top_by c.in-Err.ensures.0 c.read_statements.new.lists)
    c.args.source.bytes.now c.args.source.tokens.now (entry_of c.args.header.now) (map entry_of c.args.stmts.now)
    c.in-Err.fault c.refused-in-Err.result header c.in-Err.ensures.1 c.refused-in-Err.ensures
