use Rattle.std.proofs.Common.{sym, ◌∙◌}
use Rattle.stil_lex.specs.Bytes.{double_quote, single_quote}
use Rattle.stil_lex.proofs.Slowly.{word_is, quoted_is, sign_text_is}
use Rattle.stil_lex.proofs.SlowlyBack.{no_token}
use Rattle.stil_lex.proofs.slow.token_kind.Goals as goal

pub returns-then-is_whole_word-clause-some : goal.returns-then-is_whole_word-clause-some
returns-then-is_whole_word-clause-some c = word_is c.args.text.now c.args.after.now (sym c.is_whole_word.ensures ∙ c.if-is_whole_word.true)

pub returns-then-is_quoted-clause-some : goal.returns-then-is_quoted-clause-some
returns-then-is_quoted-clause-some c = quoted_is double_quote c.args.text.now (sym c.is_quoted.ensures ∙ c.if-is_quoted.true)

pub returns-then-is_quoted-2-clause-some : goal.returns-then-is_quoted-2-clause-some
returns-then-is_quoted-2-clause-some c = quoted_is single_quote c.args.text.now (sym c.is_quoted-2.ensures ∙ c.if-is_quoted-2.true)

pub returns-then-is_sign_text-clause-some : goal.returns-then-is_sign_text-clause-some
returns-then-is_sign_text-clause-some c = sign_text_is c.args.text.now c.args.after.now (sym c.is_sign_text.ensures ∙ c.if-is_sign_text.true)

pub returns-clause-none : goal.returns-clause-none
returns-clause-none c =
    no_token c.args.text.now c.args.after.now (sym c.is_whole_word.ensures ∙ c.if-is_whole_word.false) (sym c.is_quoted.ensures ∙ c.if-is_quoted.false)
    (sym c.is_quoted-2.ensures ∙ c.if-is_quoted-2.false) (sym c.is_sign_text.ensures ∙ c.if-is_sign_text.false)
