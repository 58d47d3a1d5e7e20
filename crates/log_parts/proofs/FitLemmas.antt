-- What is printed of numbers and names is read in the line of a fail.
use Rattle.std.proofs.Common.{◌≡◌, ℕ, nat_lt, Bool, true, false, ◌||◌, ◌&&◌, List, [], ◌∷◌, ◌++◌, length, ap, ◌∙◌, append_assoc}
use Rattle.std.specs.List.{list_all}
use Rattle.std.proofs.lemmas.Bool.{and_parts, and_from, cond_both, or_left, or_right, false≢true}
use Rattle.text_bytes.specs.Bytes.{is_digit}
use Rattle.text_bytes.specs.Numbers.{are_digits}
use Rattle.tester_types.specs.Printing.{is_bare, quoted, printed_name}
use Rattle.log_parts.specs.Tries.{bytes_then, digits_then, bare_then, byte_then, is_quote, quoted_then, named_then}

-- bytes of a kind, and what follows
bytes_fit : (kind : ℕ → Bool) (follows : List ℕ → Bool) (byte : ℕ) (bytes rest : List ℕ) → list_all kind (byte ∷ bytes) ≡ true
    → follows rest ≡ true → bytes_then kind follows (byte ∷ (bytes ++ rest)) ≡ true
bytes_fit kind follows byte [] rest all fits =
    and_from (kind byte) (bytes_then kind follows rest || follows rest) (and_parts (kind byte) true all).0
    (or_right (bytes_then kind follows rest) (follows rest) fits)
bytes_fit kind follows byte (next ∷ bytes) rest all fits =
    let parts = and_parts (kind byte) (list_all kind (next ∷ bytes)) all in
    and_from (kind byte) (bytes_then kind follows (next ∷ (bytes ++ rest)) || follows (next ∷ (bytes ++ rest))) parts.0
    (or_left (bytes_then kind follows (next ∷ (bytes ++ rest))) (follows (next ∷ (bytes ++ rest)))
    (bytes_fit kind follows next bytes rest parts.1 fits))

-- digits
pub digits_fit : (follows : List ℕ → Bool) (digits rest : List ℕ) → are_digits digits ≡ true → follows rest ≡ true
    → digits_then follows (digits ++ rest) ≡ true
digits_fit follows [] rest are fits = absurd (false≢true are)
digits_fit follows (byte ∷ bytes) rest are fits =
    bytes_fit is_digit follows byte bytes rest
    (and_parts (nat_lt 0 (length (byte ∷ bytes))) (list_all is_digit (byte ∷ bytes)) are).1 fits

-- bytes up to a double quote
quoted_fit : (follows : List ℕ → Bool) (name rest : List ℕ) → follows rest ≡ true
    → quoted_then follows (name ++ 34 ∷ rest) ≡ true
quoted_fit follows [] rest fits = or_right (quoted_then follows rest) (follows rest) fits
quoted_fit follows (byte ∷ name) rest fits =
    or_left (quoted_then follows (name ++ 34 ∷ rest)) (is_quote byte && follows (name ++ 34 ∷ rest))
    (quoted_fit follows name rest fits)

-- a name in double quotes
in_quotes : (follows : List ℕ → Bool) (name rest : List ℕ) → follows rest ≡ true
    → named_then follows (quoted name ++ rest) ≡ true
in_quotes follows name rest fits =
    or_right (bare_then follows (quoted name ++ rest)) (byte_then is_quote (quoted_then follows) (quoted name ++ rest))
    (ap (quoted_then follows) (append_assoc name (34 ∷ []) rest) ∙ quoted_fit follows name rest fits)

-- a name as it is printed
pub named_fit : (follows : List ℕ → Bool) (name rest : List ℕ) → follows rest ≡ true
    → named_then follows (printed_name name ++ rest) ≡ true
named_fit follows [] rest fits = in_quotes follows [] rest fits
named_fit follows (byte ∷ bytes) rest fits =
    cond_both (list_all is_bare (byte ∷ bytes)) (byte ∷ bytes) (quoted (byte ∷ bytes))
    (λ (l : List ℕ). named_then follows (l ++ rest) ≡ true)
    (λ bare. or_left (bare_then follows (byte ∷ (bytes ++ rest))) (byte_then is_quote (quoted_then follows) (byte ∷ (bytes ++ rest)))
    (bytes_fit is_bare follows byte bytes rest bare fits))
    (λ _. in_quotes follows (byte ∷ bytes) rest fits)
