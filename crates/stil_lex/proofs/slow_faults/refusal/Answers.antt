use Rattle.std.proofs.Common.{sym, ◌∙◌, refl, inl, inr, arith}
use Rattle.stil_lex.specs.declared.fault.LexFault.TheVariants.{OpenQuote, OpenComment}
use Rattle.stil_lex.proofs.SlowFaults.{open_quote_is, open_comment_is, open_annotation_is, first_at, only_bad_quoted}
use Rattle.stil_lex.proofs.slow_faults.refusal.Goals as goal

pub returns-then-is_open_quote-clause-some : goal.returns-then-is_open_quote-clause-some
returns-then-is_open_quote-clause-some c =
    let here = open_quote_is c.args.text.now (sym c.is_open_quote.ensures ∙ c.if-is_open_quote.true) in
    first_at c.args.text.now c.args.at (OpenQuote c.args.at) (refl, here) refl

pub returns-then-is_open_comment-clause-some : goal.returns-then-is_open_comment-clause-some
returns-then-is_open_comment-clause-some c =
    let here = open_comment_is c.args.text.now (sym c.is_open_comment.ensures ∙ c.if-is_open_comment.true) in
    first_at c.args.text.now c.args.at (OpenComment c.args.at) (refl, inl here) refl

pub returns-then-is_open_annotation-clause-some : goal.returns-then-is_open_annotation-clause-some
returns-then-is_open_annotation-clause-some c =
    let here = open_annotation_is c.args.text.now (sym c.is_open_annotation.ensures ∙ c.if-is_open_annotation.true) in
    first_at c.args.text.now c.args.at (OpenComment c.args.at) (refl, inr here) refl

pub returns-in-Some-clause-some : goal.returns-in-Some-clause-some
returns-in-Some-clause-some c =
    let first = c.in-Some.ensures.some in
    record {
      here = inr (c.in-Some.skipped, refl, first.here);
      smallest = λ other h.
          let bad = only_bad_quoted c.args.text.now c.args.at (sym c.is_stray.ensures ∙ c.if-is_stray.false) (sym c.is_open_quote.ensures ∙ c.if-is_open_quote.false)
          (sym c.is_open_comment.ensures ∙ c.if-is_open_comment.false) (sym c.is_open_annotation.ensures ∙ c.if-is_open_annotation.false) other h in
          omega (arith, bad.1, first.smallest bad.0 bad.2);
    }

pub returns-clause-none : goal.returns-clause-none
returns-clause-none c = λ fault h.
    let bad = only_bad_quoted c.args.text.now c.args.at (sym c.is_stray.ensures ∙ c.if-is_stray.false) (sym c.is_open_quote.ensures ∙ c.if-is_open_quote.false)
    (sym c.is_open_comment.ensures ∙ c.if-is_open_comment.false) (sym c.is_open_annotation.ensures ∙ c.if-is_open_annotation.false) fault h in
    c.in_default.ensures.none bad.0 bad.2
