-- A lexeme that is spelled at the front of a text is found there.
use Rattle.std.proofs.Common.{◌≡◌, ℕ, zero, suc, ◌+◌, ◌≤◌, ◌<◌, Bool, true, false, ◌&&◌, List, [], ◌∷◌, ◌++◌, length, drop, Option, Some, None, refl, sym, ap, subst, ◌∙◌, inl, inr, arith, append_assoc, length-append}
use Rattle.std.specs.Prelude.{◌==◌, nat_lt, nat_le}
use Rattle.std.proofs.lemmas.Bool.{and_parts, and_from, cond-true, cond-false, eqb-true, false≢true, lt-ltb, and_left, false_from_ne_true}
use Rattle.std.proofs.lemmas.Bool.Decides.{nat_tests}
use Rattle.std.proofs.lemmas.List.{drop_at}
use Rattle.std.specs.List.{list_all, prefix_len}
use Rattle.expr_text.specs.Bytes.{double_quote, open_paren, point, may_be_quoted}
use Rattle.text_bytes.specs.Bytes.{is_blank, is_digit, begins_name, is_word, begins_with, is_printable}
use Rattle.expr_text.specs.Lexeme.{Lexeme, literal, word, operator, opening, comma, closing, digits_from, number_of, sign_of, unit_text, bound_text, pointed, IsNumber, IsLexeme}
use Rattle.text_bytes.specs.Limits.{longest_name}
use Rattle.expr_text.specs.Front.{begins, begins_pair, unit_front, digits_of, decimals_of, pointed_len, number_len, number_front, bound_of, paren_len, short_name, called, word_front, quoted_front, sign_front, front_of}
use Rattle.expr_text.specs.declared.unit.Unit as units
use Rattle.expr_text.specs.declared.unit.Unit.TheVariants.{Plain, Seconds, Milliseconds, Microseconds, Nanoseconds, Picoseconds, Femtoseconds}
use Rattle.expr_text.specs.declared.expr.Operator.{Operator}
use Rattle.expr_text.specs.declared.expr.Operator.TheVariants.{Plus, Minus, Times, Over}
use Rattle.expr_text.specs.declared.expr.Bound.{Bound}
use Rattle.expr_text.specs.declared.expr.Bound.TheVariants.{Least, Greatest}
use Rattle.expr_text.specs.declared.token.Number.{Number}
use Rattle.expr_text.proofs.NumberLemmas.{digits_from-append}
use Rattle.text_bytes.proofs.ByteLemmas.{is_digit-word, is_digit-begins_name, blanks_no_word}
use Rattle.text_bytes.proofs.Spans.{cut, begins_with-weaker}
use Rattle.expr_text.proofs.FrontLemmas.{length-pointed}

-- a text that ends an operand before it: it goes on with no name and no number, and opens no parenthesis
pub record EndsOperand (text : List ℕ) : Type 0 where
  pub no_word : begins_with is_word text ≡ false
  pub no_point : begins point text ≡ false
  pub no_paren : paren_len text ≡ 0

-- what a text doesn't begin with
begins-other : (byte : ℕ) (text : List ℕ) → is_word byte ≡ true → begins_with is_word text ≡ false → begins byte text ≡ false
begins-other byte [] is_it h = refl
begins-other byte (b ∷ text) is_it h =
    false_from_ne_true (b == byte) (λ same. false≢true (sym h ∙ ap is_word (eqb-true b byte same) ∙ is_it))

begins_pair-other : (first second : ℕ) (text : List ℕ) → begins first text ≡ false → begins_pair first second text ≡ false
begins_pair-other first second [] h = refl
begins_pair-other first second (b ∷ text) h = and_left (b == first) (begins second text) h

-- behind a number without a unit stands none
unit-plain : (text : List ℕ) → begins_with is_word text ≡ false → unit_front text ≡ (Plain, 0)
unfolding unit_front begins_name is_digit is_word
unit-plain text h =
    let seconds : begins 115 text ≡ false = begins-other 115 text refl h in
    let milli : begins_pair 109 115 text ≡ false = begins_pair-other 109 115 text (begins-other 109 text refl h) in
    let micro : begins_pair 117 115 text ≡ false = begins_pair-other 117 115 text (begins-other 117 text refl h) in
    let nano : begins_pair 110 115 text ≡ false = begins_pair-other 110 115 text (begins-other 110 text refl h) in
    let pico : begins_pair 112 115 text ≡ false = begins_pair-other 112 115 text (begins-other 112 text refl h) in
    let femto : begins_pair 102 115 text ≡ false = begins_pair-other 102 115 text (begins-other 102 text refl h) in
    rw (seconds, milli, micro, nano, pico, femto) refl

-- the unit that is written is found
pub unit_is_found : (unit : units.Unit) (after : List ℕ) → begins_with is_word after ≡ false
    → unit_front (unit_text unit ++ after) ≡ (unit, length (unit_text unit))
unfolding unit_front
unit_is_found Plain after h = unit-plain after h
unit_is_found Seconds after h = refl
unit_is_found Milliseconds after h = refl
unit_is_found Microseconds after h = refl
unit_is_found Nanoseconds after h = refl
unit_is_found Picoseconds after h = refl
unit_is_found Femtoseconds after h = refl

-- no unit begins with a digit
unit_no_digit : (unit : units.Unit) (after : List ℕ) → begins_with is_word after ≡ false
    → begins_with is_digit (unit_text unit ++ after) ≡ false
unfolding is_digit
unit_no_digit Plain after h = begins_with-weaker is_digit is_word is_digit-word after h
unit_no_digit Seconds after h = refl
unit_no_digit Milliseconds after h = refl
unit_no_digit Microseconds after h = refl
unit_no_digit Nanoseconds after h = refl
unit_no_digit Picoseconds after h = refl
unit_no_digit Femtoseconds after h = refl

-- no unit begins with a point
unit_no_point : (unit : units.Unit) (after : List ℕ) → begins point after ≡ false
    → begins point (unit_text unit ++ after) ≡ false
unit_no_point Plain after h = h
unit_no_point Seconds after h = refl
unit_no_point Milliseconds after h = refl
unit_no_point Microseconds after h = refl
unit_no_point Nanoseconds after h = refl
unit_no_point Picoseconds after h = refl
unit_no_point Femtoseconds after h = refl

-- no decimals without a point
decimals-none : (text : List ℕ) → begins point text ≡ false → decimals_of text ≡ []
decimals-none [] h = refl
decimals-none (b ∷ text) h = cond-false (b == point) (digits_of text) [] h

-- the decimals that are written are found
decimals_are_found : (ds after : List ℕ) → list_all is_digit ds ≡ true → begins_with is_digit after ≡ false
    → begins point after ≡ false
    → decimals_of (pointed ds ++ after) ≡ ds
decimals_are_found [] after each no_digit no_point = decimals-none after no_point
decimals_are_found (d ∷ ds) after each no_digit no_point = (cut is_digit (d ∷ ds) after each no_digit).front_is

-- what stands behind the digits goes on with no digit
pointed_no_digit : (ds after : List ℕ) → begins_with is_digit after ≡ false
    → begins_with is_digit (pointed ds ++ after) ≡ false
unfolding is_digit
pointed_no_digit [] after h = h
pointed_no_digit (d ∷ ds) after h = refl

-- digits begin with a digit
digits_begin : (ds after : List ℕ) → 0 < length ds → list_all is_digit ds ≡ true → begins_with is_digit (ds ++ after) ≡ true
digits_begin [] after some each = absurd (omega (arith, some))
digits_begin (d ∷ ds) after some each = (and_parts (is_digit d) (list_all is_digit ds) each).0

-- a number at the front, from its parts
number_parts : (text digits decimals after : List ℕ) (unit : units.Unit)
    → text ≡ digits ++ (pointed decimals ++ (unit_text unit ++ after))
    → list_all is_digit digits ≡ true → list_all is_digit decimals ≡ true → EndsOperand after
    → number_front text ≡ (
      literal (number_of (digits_from 0 (digits ++ decimals)) (length decimals) unit),
      length digits +
          (length (pointed decimals) + length (unit_text unit)),
    )
unfolding number_front
number_parts text digits decimals after unit spelled are_digits are_decimals ends =
    let behind = unit_text unit ++ after in
    let no_digit = unit_no_digit unit after ends.no_word in
    let c = cut is_digit digits (pointed decimals ++ behind) are_digits (pointed_no_digit decimals behind no_digit) in
    let found = decimals_are_found decimals behind are_decimals no_digit (unit_no_point unit after ends.no_point) in
    let whole = digits ++ (pointed decimals ++ behind) in
    let back : drop (prefix_len is_digit whole) whole ≡ pointed decimals ++ behind = c.back_is in
    let ds : decimals_of (drop (prefix_len is_digit whole) whole) ≡ decimals = ap decimals_of back ∙ found in
    let len : number_len whole ≡ length (digits ++ pointed decimals) =
    omega (
      arith,
      c.len,
      ap (λ (xs : List ℕ). pointed_len (length xs)) ds,
      length-pointed decimals,
      length-append digits
          (pointed decimals),
    ) in
    let used : drop (number_len whole) whole ≡ behind =
    ap (drop (number_len whole)) (sym (append_assoc digits (pointed decimals) behind))
    ∙ drop_at (digits ++ pointed decimals) behind (number_len whole) (sym len) in
    let unit_is : unit_front (drop (number_len whole) whole) ≡ (unit, length (unit_text unit)) =
    ap unit_front used ∙ unit_is_found unit after ends.no_word in
    let digits_are : digits_of whole ≡ digits = c.front_is in
    subst (λ (t : List ℕ). number_front t ≡ (
      literal (number_of (digits_from 0 (digits ++ decimals)) (length decimals) unit),
      length digits +
          (length (pointed decimals) + length (unit_text unit)),
    )) (sym spelled)
    (rw (unit_is, ds, digits_are, digits_from-append 0 digits decimals)
    (ap (λ (n : ℕ). (literal (number_of (digits_from (digits_from 0 digits) decimals) (length decimals) unit), n))
    (omega (arith, c.len, length-pointed decimals))))

-- a text that begins with a digit begins with a number
front_digit : (all : List ℕ) → begins_with is_digit all ≡ true → front_of all ≡ Some (number_front all)
unfolding front_of
front_digit [] h = absurd (false≢true h)
front_digit (b ∷ all) h = cond-true (is_digit b) (Some (number_front (b ∷ all))) _ h

-- a number at the front
number_is_found : (text after : List ℕ) (number : Number) → IsNumber number text → EndsOperand after
    → front_of (text ++ after) ≡ Some (literal number, length text)
number_is_found text after number n ends =
    let whole : text ++ after ≡ n.digits ++ (pointed n.decimals ++ (unit_text n.unit ++ after)) =
    ap (λ ys. ys ++ after) n.spelled ∙ simp append_assoc in
    let long : length text ≡ length n.digits + (length (pointed n.decimals) + length (unit_text n.unit)) =
    omega (
      arith,
      ap length n.spelled,
      length-append n.digits (pointed n.decimals ++ unit_text n.unit),
      length-append
          (pointed n.decimals) (unit_text n.unit),
    ) in
    front_digit (text ++ after) (ap (begins_with is_digit) whole
    ∙ digits_begin n.digits (pointed n.decimals ++ (unit_text n.unit ++ after)) n.some n.are_digits)
    ∙ ap Some (number_parts (text ++ after) n.digits n.decimals after n.unit whole n.are_digits n.are_decimals ends
    ∙ ap (λ (m : Number). (literal m, length n.digits + (length (pointed n.decimals) + length (unit_text n.unit)))) (sym n.is)
    ∙ ap (λ (i : ℕ). (literal number, i)) (sym long))

-- a short name
short-name : (bytes : List ℕ) (len : ℕ) → length bytes ≤ longest_name → short_name bytes len ≡ Some (word bytes, len)
unfolding short_name
short-name bytes len short =
    cond-true (nat_le (length bytes) longest_name) (Some (word bytes, len)) None (le_test (length bytes) longest_name short)
  where
    le_test : (a b : ℕ) → a ≤ b → nat_le a b ≡ true
    le_test a b h = grind (arith, nat_tests)

-- without a parenthesis a word is a name
called-zero : (bound : Option Bound) (bytes : List ℕ) (paren : ℕ) → paren ≡ 0
    → called bound bytes paren ≡ short_name bytes (length bytes)
called-zero None bytes paren e = refl
called-zero (Some bound) bytes zero e = refl
called-zero (Some bound) bytes (suc n) e = absurd (omega (arith, e))

-- a text that begins with a letter begins with a word
front_letter : (all : List ℕ) → begins_with begins_name all ≡ true → front_of all ≡ word_front all
unfolding front_of
front_letter [] h = absurd (false≢true h)
front_letter (b ∷ all) h =
    cond-false (is_digit b) (Some (number_front (b ∷ all))) _ (is_digit-begins_name b h)
    ∙ cond-true (begins_name b) (word_front (b ∷ all)) _ h

begins_letter : (name after : List ℕ) → begins_with begins_name name ≡ true → begins_with begins_name (name ++ after) ≡ true
begins_letter [] after h = absurd (false≢true h)
begins_letter (b ∷ name) after h = h

-- a name without quotes at the front
bare_is_found : (name after : List ℕ) → begins_with begins_name name ≡ true → list_all is_word name ≡ true
    → length name ≤ longest_name → EndsOperand after
    → front_of (name ++ after) ≡ Some (word name, length name)
unfolding word_front
bare_is_found name after begins_so each short ends =
    let c = cut is_word name after each ends.no_word in
    front_letter (name ++ after) (begins_letter name after begins_so)
    ∙ ap (λ (ys : List ℕ). called (bound_of ys) ys
    (paren_len (drop (prefix_len is_word (name ++ after)) (name ++ after)))) c.front_is
    ∙ ap (λ (ys : List ℕ). called (bound_of name) name (paren_len ys)) c.back_is
    ∙ called-zero (bound_of name) name (paren_len after) ends.no_paren
    ∙ short-name name (length name) short

-- a quote may not stand between quotes
no_quote : may_be_quoted double_quote ≡ false
unfolding may_be_quoted is_printable
no_quote = refl

-- a name in quotes at the front
quoted_is_found : (name after : List ℕ) → 0 < length name → list_all may_be_quoted name ≡ true → length name ≤ longest_name
    → front_of (double_quote ∷ (name ++ double_quote ∷ after)) ≡ Some (word name, length name + 2)
unfolding front_of is_digit begins_name quoted_front is_word
quoted_is_found name after some each short =
    let rest = name ++ double_quote ∷ after in
    let c = cut may_be_quoted name (double_quote ∷ after) each no_quote in
    let closes : begins double_quote (drop (prefix_len may_be_quoted rest) rest) ≡ true =
    ap (begins double_quote) c.back_is in
    let longer : nat_lt 0 (prefix_len may_be_quoted rest) ≡ true =
    lt-ltb 0 (prefix_len may_be_quoted rest) (omega (arith, some, c.len)) in
    cond-true (begins double_quote (drop (prefix_len may_be_quoted rest) rest) && nat_lt 0
    (prefix_len may_be_quoted rest)) _ None (and_from _ _ closes longer)
    ∙ ap (λ (ys : List ℕ). short_name ys (prefix_len may_be_quoted rest + 2)) c.front_is
    ∙ ap (λ (n : ℕ). short_name name (n + 2)) c.len
    ∙ short-name name (length name + 2) short

-- a parenthesis is no blank and in no word
no_blank : is_blank open_paren ≡ false
unfolding is_blank
no_blank = refl

no_word : is_word open_paren ≡ false
unfolding begins_name is_digit is_word
no_word = refl

-- a parenthesis behind blanks
paren-found : (blanks after : List ℕ) → list_all is_blank blanks ≡ true
    → paren_len (blanks ++ open_paren ∷ after) ≡ suc (length blanks)
unfolding paren_len
paren-found blanks after each =
    let rest = blanks ++ open_paren ∷ after in
    let c = cut is_blank blanks (open_paren ∷ after) each no_blank in
    let opens : begins open_paren (drop (prefix_len is_blank rest) rest) ≡ true = ap (begins open_paren) c.back_is in
    cond-true (begins open_paren (drop (prefix_len is_blank rest) rest)) (prefix_len is_blank rest + 1) 0 opens
    ∙ omega (arith, c.len)

-- the words of calls
bound_words : (bound : Bound) → list_all is_word (bound_text bound) ≡ true
unfolding begins_name is_digit is_word
bound_words Least = refl
bound_words Greatest = refl

bound_begins : (bound : Bound) → begins_with begins_name (bound_text bound) ≡ true
unfolding begins_name is_word
bound_begins Least = refl
bound_begins Greatest = refl

bound_found : (bound : Bound) → bound_of (bound_text bound) ≡ Some bound
bound_found Least = refl
bound_found Greatest = refl

-- a call at the front
call_is_found : (bound : Bound) (blanks after : List ℕ) → list_all is_blank blanks ≡ true
    → front_of (bound_text bound ++ (blanks ++ open_paren ∷ after)) ≡ Some
    (opening (Some bound), length (bound_text bound) + suc (length blanks))
unfolding word_front
call_is_found bound blanks after each =
    let name = bound_text bound in
    let behind = blanks ++ open_paren ∷ after in
    let c = cut is_word name behind (bound_words bound) (blanks_no_word blanks (open_paren ∷ after) each no_word) in
    front_letter (name ++ behind) (begins_letter name behind (bound_begins bound))
    ∙ ap (λ (ys : List ℕ). called (bound_of ys) ys
    (paren_len (drop (prefix_len is_word (name ++ behind)) (name ++ behind)))) c.front_is
    ∙ ap (λ (ys : List ℕ). called (bound_of name) name (paren_len ys)) c.back_is
    ∙ ap (λ (o : Option Bound). called o name (paren_len behind)) (bound_found bound)
    ∙ ap (called (Some bound) name) (paren-found blanks after each)

-- lexemes that are operands by themselves
abbrev pub is_operand : Lexeme → Bool
is_operand (literal n) = true
is_operand (word bytes) = true
is_operand (operator op) = false
is_operand (opening bound) = false
is_operand comma = false
is_operand closing = false

-- an operator at the front
operator_is_found : (op : Operator) (after : List ℕ) → front_of (sign_of op ∷ after) ≡ Some (operator op, 1)
unfolding front_of is_digit begins_name sign_front is_word
operator_is_found Plus after = refl
operator_is_found Minus after = refl
operator_is_found Times after = refl
operator_is_found Over after = refl

-- a lexeme at the front, where an operand ends behind it
pub front_is_found : (lexeme : Lexeme) (piece after : List ℕ) → IsLexeme lexeme piece
    → (is_operand lexeme ≡ true → EndsOperand after)
    → front_of (piece ++ after) ≡ Some (lexeme, length piece)
unfolding front_of is_digit begins_name sign_front is_word
front_is_found (literal n) piece after is ends = number_is_found piece after n is (ends refl)
front_is_found (word bytes) piece after (inl is) ends =
    ap (λ (ys : List ℕ). front_of (ys ++ after)) is.spelled ∙ bare_is_found bytes after is.begins is.each is.short (ends refl)
    ∙ ap (λ (n : ℕ). Some (word bytes, n)) (ap length (sym is.spelled))
front_is_found (word bytes) piece after (inr is) ends =
    let whole : piece ++ after ≡ double_quote ∷ (bytes ++ double_quote ∷ after) =
    ap (λ ys. ys ++ after) is.spelled ∙ ap (λ ys. double_quote ∷ ys) (append_assoc bytes (double_quote ∷ []) after) in
    ap front_of whole ∙ quoted_is_found bytes after is.some is.each is.short
    ∙ ap (λ (n : ℕ). Some (word bytes, n)) (omega (arith, ap length is.spelled, length-append bytes (double_quote ∷ [])))
front_is_found (operator op) piece after is ends =
    ap (λ (ys : List ℕ). front_of (ys ++ after)) is ∙ operator_is_found op after
    ∙ ap (λ (n : ℕ). Some (operator op, n)) (ap length (sym is))
front_is_found (opening None) piece after is ends =
    ap (λ (ys : List ℕ). front_of (ys ++ after)) is ∙ ap (λ (n : ℕ). Some (opening None, n)) (ap length (sym is))
front_is_found (opening (Some bound)) piece after is ends =
    let whole : piece ++ after ≡ bound_text bound ++ (is.blanks ++ open_paren ∷ after) =
    ap (λ ys. ys ++ after) is.spelled ∙ simp append_assoc in
    ap front_of whole ∙ call_is_found bound is.blanks after is.are_blank
    ∙ ap (λ (n : ℕ). Some (opening (Some bound), n))
    (omega (
      arith,
      ap length is.spelled,
      length-append (bound_text bound)
          (is.blanks ++ open_paren ∷ []),
      length-append is.blanks (open_paren ∷ []),
    ))
front_is_found comma piece after is ends =
    ap (λ (ys : List ℕ). front_of (ys ++ after)) is ∙ ap (λ (n : ℕ). Some (comma, n)) (ap length (sym is))
front_is_found closing piece after is ends =
    ap (λ (ys : List ℕ). front_of (ys ++ after)) is ∙ ap (λ (n : ℕ). Some (closing, n)) (ap length (sym is))
