use Rattle.std.proofs.Common.{◌≡◌, ◌&&◌, ℕ, length, map, sym, ap, ◌∙◌, arith}
use Rattle.signal_groups.specs.Lexed.{lexeme_of, term_of, left_of}
use Rattle.signal_groups.proofs.LexedLemmas.{left-end, good_terms, bad_terms}
use Rattle.signal_groups.proofs.term.terms_in.Goals as goal

pub returns-then-both : goal.returns-then-both
returns-then-both c =
    let end : c.loop-at.at ≡ length c.args.lexemes.now = omega (arith, c.loop-at-test.false, c.loop-at.auto.at-end) in
    good_terms (c.loop-at.reading.good && c.in_ok-good.good) (map term_of c.add_item.new.terms.items) _ (sym c.if-both.ensures)
    (left-end (map term_of c.loop-at.terms.items) (map term_of c.add_item.new.terms.items) c.args.lexemes.now c.loop-at.reading
    c.in_ok-good.good c.in_ok-good.ensures
    ∙ ap (λ (at : ℕ). left_of (map term_of c.loop-at.terms.items) (map lexeme_of c.args.lexemes.now) at c.loop-at.reading) (sym end)
    ∙ c.loop-at.invariant.whole)

pub returns : goal.returns
returns c =
    let end : c.loop-at.at ≡ length c.args.lexemes.now = omega (arith, c.loop-at-test.false, c.loop-at.auto.at-end) in
    bad_terms (c.loop-at.reading.good && c.in_ok-good.good) (map term_of c.add_item.new.terms.items) _ (sym c.if-both.ensures)
    (left-end (map term_of c.loop-at.terms.items) (map term_of c.add_item.new.terms.items) c.args.lexemes.now c.loop-at.reading
    c.in_ok-good.good c.in_ok-good.ensures
    ∙ ap (λ (at : ℕ). left_of (map term_of c.loop-at.terms.items) (map lexeme_of c.args.lexemes.now) at c.loop-at.reading) (sym end)
    ∙ c.loop-at.invariant.whole)
