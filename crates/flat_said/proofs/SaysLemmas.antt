-- Statements in front of others: what they are spelled as, and that their pieces are pieces of a text.
use Rattle.std.proofs.Common.{◌≡◌, ℕ, Bool, true, false, not, ◌&&◌, List, [], ◌∷◌, ◌++◌, length, refl, sym, ap, subst, ◌∙◌, arith, append_assoc, append-nil}
use Rattle.std.specs.Prelude.{◌==◌, nat_lt}
use Rattle.std.specs.List.{AllByRecursion, list_all, flat_map}
use Rattle.std.proofs.lemmas.Bool.{and_parts, not-true, ltb-true, false≢true}
use Rattle.text_bytes.specs.Bytes.{is_blank, is_word, is_printing, begins_with}
use Rattle.stil_lex.specs.Bytes.{may_be_quoted, double_quote, single_quote}
use Rattle.stil_lex.specs.Pieces.{Piece, gap, IsPiece, IsQuoted, ann}
use Rattle.stil_lex.specs.Tokens.{spelled, ArePieces}
use Rattle.stil_lex.specs.Step.{is_ann}
use Rattle.stil_lex.specs.Slow.{comments_test, sign_byte_test}
use Rattle.stil_tree.specs.Signs.{semicolon, open_brace, close_brace}
use Rattle.line_texts.specs.Said.{Said, no_more, statement, braced, a_sign, pieces_of, each_said, word, a_name, a_text, blank, spaced, next_line}
use Rattle.line_texts.proofs.PieceLemmas.{is_piece-is, spelled-append, ArePieces-append}
use Rattle.flat_said.proofs.ListLemmas.{none_passes}

-- ---- statements

-- statements in front of others: their text, and that they are pieces where those behind them are
pub record Says (said : Said → Said) (text : List ℕ) : Type 0 where
  pub spells : (more : Said) → spelled (pieces_of (said more)) ≡ text ++ spelled (pieces_of more)
  pub are : (more : Said) (after : List ℕ) → ArePieces (pieces_of more) after → ArePieces (pieces_of (said more)) after

-- by another form of the text
pub says_as : {said : Said → Said} {text other : List ℕ} → text ≡ other → Says said text → Says said other
says_as {said} e says = subst (λ (t : List ℕ). Says said t) e says

-- nothing
pub says_nothing : Says (λ more. more) []
says_nothing = record { spells = λ more. refl; are = λ more after h. h }

-- statements, and others behind them
pub says_then : {first second : Said → Said} {text behind : List ℕ} → Says first text → Says second behind
    → Says (λ more. first (second more)) (text ++ behind)
says_then {first} {second} {text} {behind} f s = record {
  spells = λ more.
      f.spells (second more) ∙ ap (λ (ys : List ℕ). text ++ ys) (s.spells more)
      ∙ sym (append_assoc text behind (spelled (pieces_of more)));
  are = λ more after h. f.are (second more) after (s.are more after h);
}

-- those of each item of a list
pub says_each : {X : Type 0} (said : X → Said → Said) (text : X → List ℕ) (xs : List X)
    → AllByRecursion (λ x. Says (said x) (text x)) xs → Says (each_said said xs) (flat_map text xs)
says_each said text [] all = record { spells = λ more. refl; are = λ more after h. h }
says_each said text (x ∷ xs) all =
    says_then all.0 (says_each said text xs all.1)

-- ---- gaps and signs

blank_is : (after : List ℕ) → IsPiece blank after
unfolding is_blank
blank_is after = is_piece-is blank after refl

feed_is : (after : List ℕ) → IsPiece (gap (10 ∷ [])) after
unfolding is_blank
feed_is after = is_piece-is (gap (10 ∷ [])) after refl

semicolon_is : (after : List ℕ) → IsPiece (a_sign semicolon) after
unfolding is_word is_printing comments_test sign_byte_test
semicolon_is after = is_piece-is (a_sign semicolon) after refl

open_is : (after : List ℕ) → IsPiece (a_sign open_brace) after
unfolding is_word is_printing comments_test sign_byte_test
open_is after = is_piece-is (a_sign open_brace) after refl

close_is : (after : List ℕ) → IsPiece (a_sign close_brace) after
unfolding is_word is_printing comments_test sign_byte_test
close_is after = is_piece-is (a_sign close_brace) after refl

-- a space
pub says_space : Says spaced (32 ∷ [])
says_space = record { spells = λ more. refl; are = λ more after h. (blank_is (spelled (pieces_of more) ++ after), h) }

-- a line's end
pub says_line : Says next_line (10 ∷ [])
says_line = record { spells = λ more. refl; are = λ more after h. (feed_is (spelled (pieces_of more) ++ after), h) }

-- ---- heads

-- a head: its text, and that it is pieces before what is no word
pub record Heads (head : List Piece) (text : List ℕ) : Type 0 where
  pub spells : spelled head ≡ text
  pub are : (next : ℕ) (after : List ℕ) → is_word next ≡ false → ArePieces head (next ∷ after)

-- a head in front of a piece that is no word
semicolon_ends : is_word semicolon ≡ false
unfolding is_word
semicolon_ends = refl

brace_ends : is_word open_brace ≡ false
unfolding is_word
brace_ends = refl

-- a statement that `;` ends
pub says_statement : {head : List Piece} {text : List ℕ} → Heads head text → Says (statement head) (text ++ semicolon ∷ [])
says_statement {head} {text} h = record {
  spells = λ more.
      let rest = spelled (pieces_of more) in
      spelled-append head (a_sign semicolon ∷ pieces_of more) ∙ ap (λ (ys : List ℕ). ys ++ (semicolon ∷ rest)) h.spells
      ∙ sym (append_assoc text (semicolon ∷ []) rest);
  are = λ more after m.
      let rest = spelled (pieces_of more) ++ after in
      ArePieces-append head (a_sign semicolon ∷ pieces_of more) after (h.are semicolon rest semicolon_ends) (semicolon_is rest, m);
}

-- a statement with a block
pub says_braced : {head : List Piece} {text : List ℕ} {body : Said → Said} {inner : List ℕ} → Heads head text → Says body inner
    → Says (λ more. braced head (body no_more) more) (text ++ (open_brace ∷ (inner ++ close_brace ∷ [])))
says_braced {head} {text} {body} {inner} h b = record {
  spells = λ more.
      let rest = spelled (pieces_of more) in
      let inside = pieces_of (body no_more) in
      let behind = a_sign close_brace ∷ pieces_of more in
      spelled-append head (a_sign open_brace ∷ (inside ++ behind))
      ∙ ap (λ (ys : List ℕ). ys ++ (open_brace ∷ spelled (inside ++ behind))) h.spells
      ∙ ap (λ (ys : List ℕ). text ++ (open_brace ∷ ys))
      (spelled-append inside behind
      ∙ ap (λ (ys : List ℕ). ys ++ (close_brace ∷ rest)) (b.spells no_more ∙ append-nil inner)
      ∙ sym (append_assoc inner (close_brace ∷ []) rest))
      ∙ sym (append_assoc text (open_brace ∷ (inner ++ close_brace ∷ [])) rest);
  are = λ more after m.
      let inside = pieces_of (body no_more) in
      let behind = a_sign close_brace ∷ pieces_of more in
      ArePieces-append head (a_sign open_brace ∷ (inside ++ behind)) after
      (h.are open_brace (spelled (inside ++ behind) ++ after) brace_ends) (
        open_is (spelled (inside ++ behind) ++ after),
        ArePieces-append inside behind after (b.are no_more (spelled behind ++ after) tt)
            (close_is (spelled (pieces_of more) ++ after), m),
      );
}

-- ---- the pieces of heads

-- no piece
pub heads_nil : Heads [] []
heads_nil = record { spells = refl; are = λ next after h. tt }

-- a blank
pub heads_blank : {head : List Piece} {text : List ℕ} → Heads head text → Heads (blank ∷ head) (32 ∷ text)
heads_blank {head} {text} h = record {
  spells = ap (λ (ys : List ℕ). 32 ∷ ys) h.spells;
  are = λ next after e. (blank_is (spelled head ++ next ∷ after), h.are next after e);
}

-- a sign that is one before any text
pub heads_sign : (byte : ℕ) {head : List Piece} {text : List ℕ} → ((after : List ℕ) → IsPiece (a_sign byte) after) → Heads head text
    → Heads (a_sign byte ∷ head) (byte ∷ text)
heads_sign byte {head} {text} sign h = record {
  spells = ap (λ (ys : List ℕ). byte ∷ ys) h.spells;
  are = λ next after e. (sign (spelled head ++ next ∷ after), h.are next after e);
}

-- `=` and `.` are
pub equals_is : (after : List ℕ) → IsPiece (a_sign 61) after
unfolding is_word is_printing comments_test sign_byte_test
equals_is after = is_piece-is (a_sign 61) after refl

pub dot_is : (after : List ℕ) → IsPiece (a_sign 46) after
unfolding is_word is_printing comments_test sign_byte_test
dot_is after = is_piece-is (a_sign 46) after refl

-- ---- quotes

-- a text that may stand between quotes of this kind
pub record IsQuotable (quote : ℕ) (text : List ℕ) : Type 0 where
  pub plain : list_all (λ byte. not (byte == quote)) text ≡ true
  pub each : list_all may_be_quoted text ≡ true

quoted_is : (quote : ℕ) (text : List ℕ) → IsQuotable quote text → IsQuoted quote (quote ∷ text ++ quote ∷ [])
quoted_is quote text q = record {
  body = text;
  spelled = refl;
  first = none_passes (λ b. b == quote) text q.plain;
  each = q.each;
}

-- a name in double quotes
pub heads_name : {name : List ℕ} {head : List Piece} {text : List ℕ} → IsQuotable double_quote name → Heads head text
    → Heads (a_name name ∷ head) ((double_quote ∷ name ++ double_quote ∷ []) ++ text)
heads_name {name} {head} {text} q h = record {
  spells = ap (λ (ys : List ℕ). (double_quote ∷ name ++ double_quote ∷ []) ++ ys) h.spells;
  are = λ next after e. (quoted_is double_quote name q, h.are next after e);
}

-- a text in single quotes
pub heads_text : {inner : List ℕ} {head : List Piece} {text : List ℕ} → IsQuotable single_quote inner → Heads head text
    → Heads (a_text inner ∷ head) ((single_quote ∷ inner ++ single_quote ∷ []) ++ text)
heads_text {inner} {head} {text} q h = record {
  spells = ap (λ (ys : List ℕ). (single_quote ∷ inner ++ single_quote ∷ []) ++ ys) h.spells;
  are = λ next after e. (quoted_is single_quote inner q, h.are next after e);
}

-- ---- words

-- letters, digits and `_`, one at least, and not the word that opens an annotation
pub record IsPlainWord (text : List ℕ) : Type 0 where
  pub some : text ≡ [] → ⊥
  pub each : list_all is_word text ≡ true
  pub other : text ≡ ann → ⊥

-- the same as a test
abbrev pub is_plain_word : List ℕ → Bool
is_plain_word text = (nat_lt 0 (length text) && list_all is_word text) && not (is_ann text)

-- a text that passes it
pub plain_word_is : (text : List ℕ) → is_plain_word text ≡ true → IsPlainWord text
plain_word_is text h =
    let parts = and_parts (nat_lt 0 (length text) && list_all is_word text) (not (is_ann text)) h in
    let both = and_parts (nat_lt 0 (length text)) (list_all is_word text) parts.0 in
    record {
      some = λ none. let few = ap length none in omega (arith, ltb-true 0 (length text) both.0, few);
      each = both.1;
      other = λ is. false≢true (sym (not-true (is_ann text) parts.1) ∙ ap is_ann is);
    }

-- what stands behind a word
begins_apart : (text : List ℕ) (next : ℕ) (after : List ℕ) → begins_with is_word text ≡ false → is_word next ≡ false
    → begins_with is_word (text ++ next ∷ after) ≡ false
begins_apart [] next after h e = e
begins_apart (b ∷ text) next after h e = h

-- a word, before what is no word
pub heads_word : {first : List ℕ} {head : List Piece} {text : List ℕ} → IsPlainWord first → begins_with is_word text ≡ false
    → Heads head text → Heads (word first ∷ head) (first ++ text)
heads_word {first} {head} {text} w apart h = record {
  spells = ap (λ (ys : List ℕ). first ++ ys) h.spells;
  are = λ next after e. (
    record {
      not_empty = w.some;
      each = w.each;
      longest =
          ap (λ (ys : List ℕ). begins_with is_word (ys ++ next ∷ after)) h.spells ∙ begins_apart text next after apart e;
      no_annotation = λ is opens. w.other is;
    },
    h.are next after e,
  );
}

-- a word before a blank
blank_apart : (text : List ℕ) → begins_with is_word (32 ∷ text) ≡ false
unfolding is_word
blank_apart text = refl

pub heads_word_blank : {first : List ℕ} {head : List Piece} {text : List ℕ} → IsPlainWord first → Heads head text
    → Heads (word first ∷ blank ∷ head) (first ++ 32 ∷ text)
heads_word_blank {first} {head} {text} w h = heads_word w (blank_apart text) (heads_blank h)

-- the last word of a head
pub heads_last_word : {first : List ℕ} → IsPlainWord first → Heads (word first ∷ []) (first ++ [])
heads_last_word w = heads_word w refl heads_nil

-- a name before a blank
pub heads_name_blank : {name : List ℕ} {head : List Piece} {text : List ℕ} → IsQuotable double_quote name → Heads head text
    → Heads (a_name name ∷ blank ∷ head) ((double_quote ∷ name ++ double_quote ∷ []) ++ 32 ∷ text)
heads_name_blank q h = heads_name q (heads_blank h)

-- the last name of a head
pub heads_last_name : {name : List ℕ} → IsQuotable double_quote name
    → Heads (a_name name ∷ []) ((double_quote ∷ name ++ double_quote ∷ []) ++ [])
heads_last_name q = heads_name q heads_nil
