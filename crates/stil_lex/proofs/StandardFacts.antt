-- Known texts, read by the definitions alone.
use Rattle.std.proofs.Common.{◌≡◌, ℕ, true, false, List, [], ◌∷◌, refl, sym, ap, ◌∙◌, inl, inr}
use Rattle.std.proofs.lemmas.Bool.{false≢true}
use Rattle.std.specs.List.{list_all}
use Rattle.std.specs.Prelude.{codes}
use Rattle.stil_lex.specs.Bytes.{may_be_quoted}
use Rattle.text_bytes.specs.Bytes.{is_printable, begins_with, is_blank, is_word, is_printing}
use Rattle.stil_lex.specs.Pieces.{gap, token, IsWord, IsGap.blank, IsGap.comment, IsGap.annotation}
use Rattle.stil_lex.specs.Tokens.{Reads}
use Rattle.stil_lex.specs.Faults.{Refuses}
use Rattle.stil_lex.specs.Step.{is_ann}
use Rattle.stil_lex.specs.Text.{text_of}
use Rattle.stil_lex.specs.declared.token.TokenKind.TheVariants.{Word, Name, Text, Sign}
use Rattle.stil_lex.specs.declared.fault.LexFault.TheVariants.{BadByte, OpenQuote, OpenComment}

-- a word other than `Ann`
plain_word : (b : ℕ) (more after : List ℕ) → list_all is_word (b ∷ more) ≡ true → begins_with is_word after ≡ false
    → is_ann (b ∷ more) ≡ false → IsWord (b ∷ more) after
plain_word b more after each longest other =
    record {
      not_empty = λ e. cc;
      each = each;
      longest = longest;
      no_annotation = λ e _. false≢true (sym other ∙ ap is_ann e);
    }

-- `STIL 1.0;` is five tokens on the first line
pub head_line : Reads (codes "STIL 1.0;") (
    record { kind = Word; start = 0; end = 4; line = 1 }
    ∷ record { kind = Word; start = 5; end = 6; line = 1 }
    ∷ record { kind = Sign 46; start = 6; end = 7; line = 1 }
    ∷ record { kind = Word; start = 7; end = 8; line = 1 }
    ∷ record { kind = Sign 59; start = 8; end = 9; line = 1 }
    ∷ [])
unfolding is_word is_blank is_printing
head_line = record {
  pieces = token Word (83 ∷ 84 ∷ 73 ∷ 76 ∷ []) ∷ gap (32 ∷ []) ∷ token Word (49 ∷ []) ∷ token (Sign 46) (46 ∷ []) ∷ token Word (48 ∷ []) ∷ token (Sign 59) (59 ∷ []) ∷ [];
  each = (
    plain_word 83 (84 ∷ 73 ∷ 76 ∷ []) (codes " 1.0;") refl refl refl,
    (
      blank record { byte = 32; spelled = refl; blank = refl },
      (
        plain_word 49 [] (codes ".0;") refl refl refl,
        (
          record { spelled = refl; printing = refl; no_word = refl; no_quote = refl; no_comment = λ _. refl },
          (
            plain_word 48 [] (codes ";") refl refl refl,
            (
              record { spelled = refl; printing = refl; no_word = refl; no_quote = refl; no_comment = λ _. refl },
              tt,
            ),
          ),
        ),
      ),
    ),
  );
  whole = refl;
  are = refl;
}

-- a line feed inside a comment counts, and the comment ends at the first `*/`
pub comment_line : Reads (codes "/*\n*/a") (record { kind = Word; start = 5; end = 6; line = 2 } ∷ [])
unfolding is_word
comment_line = record {
  pieces = gap (47 ∷ 42 ∷ 10 ∷ 42 ∷ 47 ∷ []) ∷ token Word (97 ∷ []) ∷ [];
  each = (
    comment record { rest = 10 ∷ 42 ∷ 47 ∷ []; spelled = refl; closed = record { body = 10 ∷ []; spelled = refl; no_earlier = refl } },
    (
      plain_word 97 [] [] refl refl refl,
      tt,
    ),
  );
  whole = refl;
  are = refl;
}

-- `Ann {* } *}` is a gap, and no token
pub annotation_gap : Reads (codes "Ann {* } *}") []
unfolding is_blank
annotation_gap = record {
  pieces = gap (codes "Ann {* } *}") ∷ [];
  each = (
    annotation record {
      behind = codes " {* } *}";
      spelled = refl;
      opens = record { blanks = 32 ∷ []; rest = codes " } *}"; spelled = refl; are_blank = refl };
      closed = record { body = codes " } "; spelled = refl; no_earlier = refl };
    },
    tt,
  );
  whole = refl;
  are = refl;
}

-- `"a"'b'` is a Name and a Text, whose texts are `a` and `b`
pub quoted_texts : (text_of (codes "\"a\"'b'") (record { kind = Name; start = 0; end = 3; line = 1 }) ≡ codes "a")
    × (text_of (codes "\"a\"'b'") (record { kind = Text; start = 3; end = 6; line = 1 }) ≡ codes "b")
quoted_texts = (refl, refl)

-- the closing mark of a comment shares no byte with the opening one
pub overlapping_comment : Refuses (codes "/*/") (OpenComment 0)
overlapping_comment = record {
  pieces = [];
  rest = codes "/*/";
  each = tt;
  whole = refl;
  refusal = (refl, inl record { after = codes "/"; spelled = refl; no_end = refl });
}

-- the same of an annotation
pub overlapping_annotation : Refuses (codes "Ann {*}") (OpenComment 0)
unfolding is_blank
overlapping_annotation = record {
  pieces = [];
  rest = codes "Ann {*}";
  each = tt;
  whole = refl;
  refusal = (
    refl,
    inr record {
      behind = codes " {*}";
      spelled = refl;
      opens = record { blanks = 32 ∷ []; rest = codes "}"; spelled = refl; are_blank = refl };
      no_end = refl;
    },
  );
}

-- a quote without an end is refused at its place, whatever stands behind it
pub open_quote : Refuses (39 ∷ 1 ∷ []) (OpenQuote 0)
open_quote = record {
  pieces = [];
  rest = 39 ∷ 1 ∷ [];
  each = tt;
  whole = refl;
  refusal = (refl, record { quote = 39; after = 1 ∷ []; spelled = refl; quotes = refl; no_end = refl });
}

-- a bad byte in a closed quote is refused at its own place
pub bad_quoted : Refuses (39 ∷ 97 ∷ 1 ∷ 39 ∷ []) (BadByte 2)
unfolding is_blank is_printable may_be_quoted
bad_quoted = record {
  pieces = [];
  rest = 39 ∷ 97 ∷ 1 ∷ 39 ∷ [];
  each = tt;
  whole = refl;
  refusal = inr (
    1,
    refl,
    record {
      quote = 39;
      front = 97 ∷ [];
      byte = 1;
      back = [];
      after = [];
      spelled = refl;
      quotes = refl;
      first = refl;
      bad = refl;
      place = refl;
    },
  );
}
