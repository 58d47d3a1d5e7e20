use Rattle.std.proofs.Common.{◌≡◌, ◌+◌, ◌∙◌, ℕ, List, ap, subst, min, length, take, arith}
use Rattle.std.proofs.lemmas.List.{take_min}
use Rattle.stil_lex.specs.declared.token.Token.{Token}
use Rattle.stil_tree.specs.Blocks.{IsBlock}
use Rattle.pat_read.specs.Refusal.{text_at}
use Rattle.pat_read.proofs.refusal.told.Goals as goal

min-comm : (a b : ℕ) → min a b ≡ min b a
min-comm a b = omega arith

pub returns : goal.returns
returns c =
    let tokens = c.args.source.tokens.now in
    let cut : take c.min-upto.result tokens ≡ take (c.args.first + 1) tokens =
    ap (λ n. take n tokens) (c.min-upto.ensures ∙ min-comm (length tokens) (c.args.first + 1)) ∙ take_min (c.args.first + 1) tokens in
    record {
      found = c.enclosing-keyword.result;
      is_block = subst (λ (ts : List Token). IsBlock ts c.enclosing-keyword.result) cut c.enclosing-keyword.ensures;
      is_kind = c.stil_kind.ensures;
      is_keyword = c.in_ok-block.ensures;
      is_name = c.in_ok-name.ensures ∙ ap (text_at c.args.source.bytes.now tokens) c.name_behind.ensures;
      is_line = c.line_at.ensures;
    }
