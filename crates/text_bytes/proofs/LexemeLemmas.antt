-- Texts that are read as lexemes, with one blank more.
use Rattle.std.proofs.Common.{◌≡◌, ℕ, true, List, [], ◌∷◌, ap}
use Rattle.std.proofs.lemmas.Bool.{and_from}
use Rattle.std.specs.List.{list_all}
use Rattle.text_bytes.specs.Bytes.{is_blank}
use Rattle.text_bytes.specs.Lexemes.{Reads}

-- a text with a blank more in front is read as the same
pub reads-blank : {L : Type 0} (IsLexeme : L → List ℕ → Type 0) (ls : List L) (b : ℕ) (text : List ℕ) → is_blank b ≡ true
    → Reads IsLexeme ls text → Reads IsLexeme ls (b ∷ text)
reads-blank IsLexeme [] b text h r = and_from (is_blank b) (list_all is_blank text) h r
reads-blank IsLexeme (l ∷ ls) b text h r = record {
  blanks = b ∷ r.blanks;
  piece = r.piece;
  rest = r.rest;
  spelled = ap (λ (t : List ℕ). b ∷ t) r.spelled;
  are_blank = and_from (is_blank b) (list_all is_blank r.blanks) h r.are_blank;
  is_lexeme = r.is_lexeme;
  goes_on = r.goes_on;
}
