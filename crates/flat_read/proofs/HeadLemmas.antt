-- The lexemes of heads with names, words and texts in them.
use Rattle.std.proofs.Common.{◌≡◌, ℕ, List, [], ◌∷◌, ap, ◌∙◌}
use Rattle.stil_form.specs.declared.part.SignKind.TheVariants.{Equals}
use Rattle.stil_form.specs.Lexeme.{word, name, text, sign}
use Rattle.line_texts.specs.Said as spoken
use Rattle.line_texts.specs.Lexemes.{lexemes_in}
use Rattle.line_texts.proofs.LexemeLemmas.{unquoted_word, unquoted_name, unquoted_text}

-- a name
pub lone_name : (called : List ℕ) → lexemes_in (spoken.a_name called ∷ []) ≡ name called ∷ []
lone_name called = ap (λ (n : List ℕ). name n ∷ []) (unquoted_name called)

-- a keyword and a name
pub named_head : (keyword called : List ℕ)
    → lexemes_in (spoken.word keyword ∷ spoken.blank ∷ spoken.a_name called ∷ []) ≡ word keyword ∷ name called ∷ []
named_head keyword called =
    ap (λ (k : List ℕ). word k ∷ lexemes_in (spoken.a_name called ∷ [])) (unquoted_word keyword)
    ∙ ap (λ (n : List ℕ). word keyword ∷ name n ∷ []) (unquoted_name called)

-- a keyword and a word
pub worded_head : (keyword bytes : List ℕ)
    → lexemes_in (spoken.word keyword ∷ spoken.blank ∷ spoken.word bytes ∷ []) ≡ word keyword ∷ word bytes ∷ []
worded_head keyword bytes =
    ap (λ (k : List ℕ). word k ∷ lexemes_in (spoken.word bytes ∷ [])) (unquoted_word keyword)
    ∙ ap (λ (w : List ℕ). word keyword ∷ word w ∷ []) (unquoted_word bytes)

-- a keyword and a text
pub texted_head : (keyword bytes : List ℕ)
    → lexemes_in (spoken.word keyword ∷ spoken.blank ∷ spoken.a_text bytes ∷ []) ≡ word keyword ∷ text bytes ∷ []
texted_head keyword bytes =
    ap (λ (k : List ℕ). word k ∷ lexemes_in (spoken.a_text bytes ∷ [])) (unquoted_word keyword)
    ∙ ap (λ (t : List ℕ). word keyword ∷ text t ∷ []) (unquoted_text bytes)

-- a name and a word
pub name_word : (called bytes : List ℕ)
    → lexemes_in (spoken.a_name called ∷ spoken.blank ∷ spoken.word bytes ∷ []) ≡ name called ∷ word bytes ∷ []
name_word called bytes =
    ap (λ (n : List ℕ). name n ∷ lexemes_in (spoken.word bytes ∷ [])) (unquoted_name called)
    ∙ ap (λ (w : List ℕ). name called ∷ word w ∷ []) (unquoted_word bytes)

-- a text and a word
pub text_word : (time bytes : List ℕ)
    → lexemes_in (spoken.a_text time ∷ spoken.blank ∷ spoken.word bytes ∷ []) ≡ text time ∷ word bytes ∷ []
text_word time bytes =
    ap (λ (t : List ℕ). text t ∷ lexemes_in (spoken.word bytes ∷ [])) (unquoted_text time)
    ∙ ap (λ (w : List ℕ). text time ∷ word w ∷ []) (unquoted_word bytes)

-- `"name"=character`
pub gift_head : (called : List ℕ) (character : ℕ)
    → lexemes_in (spoken.a_name called ∷ spoken.a_sign 61 ∷ spoken.word (character ∷ []) ∷ [])
    ≡ name called ∷ sign Equals ∷ word (character ∷ []) ∷ []
gift_head called character =
    ap (λ (n : List ℕ). name n ∷ sign Equals ∷ word (character ∷ []) ∷ []) (unquoted_name called)
