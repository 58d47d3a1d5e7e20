use Rattle.std.proofs.Common.{sym, ◌∙◌}
use Rattle.std.proofs.lemmas.Bool.{false≢true}
use Rattle.std.proofs.lemmas.Slice.Eq.{bytes_eq-Decides}
use Rattle.log_parts.proofs.SaidLemmas.{blank_ends, number_ends, single_ends, word_ends, ends_so}
use Rattle.log_parts.proofs.said.before_number.Goals as goal

pub returns-in_err-words : goal.returns-in_err-words
returns-in_err-words c =
    rw c.from_residual.ensures (blank_ends c.args.word.now c.args.line.now c.in_err-words.ensures)

pub returns-then-not-are_digits : goal.returns-then-not-are_digits
returns-then-not-are_digits c =
    number_ends c.args.word.now c.args.line.now c.in_ok-words.words.now c.in_ok-words.number.now c.in_ok-words.ensures
    (sym c.are_digits.ensures ∙ c.if-not-are_digits.true)

pub returns-in_err-front : goal.returns-in_err-front
returns-in_err-front c =
    rw c.from_residual-in_err-front.ensures
    (single_ends c.args.word.now c.args.line.now c.in_ok-words.words.now c.in_ok-words.number.now c.in_ok-words.ensures
    c.in_err-front.ensures)

pub returns-then-eq : goal.returns-then-eq
returns-then-eq c =
    ends_so c.args.word.now c.args.line.now c.in_ok-words.words.now c.in_ok-words.number.now c.in_ok-front.front.now
    c.in_ok-front.last.now c.in_ok-words.ensures (sym c.are_digits.ensures ∙ c.if-not-are_digits.false) c.in_ok-front.ensures
    ((bytes_eq-Decides c.in_ok-front.last.now c.args.word.now).0 (sym c.eq.ensures ∙ c.if-eq.true))

pub returns-else-eq : goal.returns-else-eq
returns-else-eq c =
    word_ends c.args.word.now c.args.line.now c.in_ok-words.words.now c.in_ok-words.number.now c.in_ok-front.front.now
    c.in_ok-front.last.now c.requires c.in_ok-words.ensures c.in_ok-front.ensures
    (λ same. false≢true (sym c.if-eq.false ∙ c.eq.ensures
    ∙ (bytes_eq-Decides c.in_ok-front.last.now c.args.word.now).1 same))
