use Rattle.std.proofs.Common.{◌≡◌, ℕ, ◌+◌, ◌<◌, List, ◌++◌, map, length, drop, append_assoc, sym, ap, ◌∙◌}
use Rattle.std.specs.Prelude.{slice_index}
use Rattle.stil_ast.specs.Meaning.GroupText.{Lexeme}
use Rattle.stil_ast.specs.Meaning.GroupReading.{Within, lexemes, completed, behind_byte}
use Rattle.signal_groups.specs.Lexed.{lexeme_of, place_at}
use Rattle.signal_groups.proofs.LexedLemmas.{drop-at}
use Rattle.signal_groups.proofs.lexeme.lexemes.Goals as goal

-- one byte more of a text
one_more : (found more : List Lexeme) (place next : Within) (text : List ℕ) (at : ℕ) (whole : List Lexeme) → at < length text
    → more ≡ found ++ completed place (slice_index text at) → next ≡ behind_byte place (slice_index text at)
    → found ++ lexemes place (drop at text) ≡ whole → more ++ lexemes next (drop (at + 1) text) ≡ whole
one_more found more place next text at whole lt e n h =
    ap (λ ls. ls ++ lexemes next (drop (at + 1) text)) e
    ∙ ap (λ (p : Within). (found ++ completed place (slice_index text at)) ++ lexemes p (drop (at + 1) text)) n
    ∙ append_assoc found (completed place (slice_index text at))
    (lexemes (behind_byte place (slice_index text at)) (drop (at + 1) text))
    ∙ ap (λ (bytes : List ℕ). found ++ lexemes place bytes) (sym (drop-at text at 0 lt)) ∙ h

pub loop-at-preserved : goal.loop-at-preserved
loop-at-preserved c = record {
  behind = c.in_ok-place.ensures.behind;
  whole = one_more (map lexeme_of c.loop-at.found.items) (map lexeme_of c.take.new.found.items)
      (place_at c.args.text.now c.loop-at.at c.loop-at.place) (place_at c.args.text.now (c.loop-at.at + 1) c.in_ok-place.place)
      c.args.text.now c.loop-at.at _ c.loop-at-test.true c.in_ok-place.ensures.found c.in_ok-place.ensures.next
      c.loop-at.invariant.whole;
}
