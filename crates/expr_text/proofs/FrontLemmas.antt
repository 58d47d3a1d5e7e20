-- The lexeme that is found at the front of a text is spelled there.
use Rattle.std.proofs.Common.{◌≡◌, ℕ, zero, suc, ◌+◌, ◌≤◌, ◌<◌, true, ◌&&◌, List, [], ◌∷◌, ◌++◌, length, take, drop, Option, Some, None, cond, refl, sym, ap, subst, ◌∙◌, inl, inr, arith, append_assoc, length-append}
use Rattle.std.specs.Prelude.{◌==◌, nat_lt, nat_le}
use Rattle.std.proofs.lemmas.Bool.{and_parts, cases_Bool, cond-true, cond-false, eqb-true, false≢true, ltb-true}
use Rattle.std.proofs.lemmas.Bool.Decides.{nat_tests}
use Rattle.std.proofs.lemmas.List.{drop_at, take-append-drop}
use Rattle.std.specs.List.{list_all, prefix_len}
use Rattle.std.specs.Str.{bytes_eq}
use Rattle.expr_text.specs.Bytes.{double_quote, open_paren, point, may_be_quoted}
use Rattle.text_bytes.specs.Bytes.{is_blank, is_digit, begins_name, is_word, begins_with}
use Rattle.expr_text.specs.Lexeme.{Lexeme, word, operator, opening, comma, closing, number_of, unit_text, bound_text, pointed, IsLexeme}
use Rattle.text_bytes.specs.Limits.{longest_name}
use Rattle.expr_text.specs.Front.{begins, begins_pair, unit_front, digits_of, decimals_of, pointed_len, number_len, number_front, bound_of, paren_len, short_name, called, word_front, quoted_front, sign_front, front_of}
use Rattle.expr_text.specs.declared.unit.Unit as units
use Rattle.expr_text.specs.declared.unit.Unit.TheVariants.{Plain, Seconds, Milliseconds, Microseconds, Nanoseconds, Picoseconds, Femtoseconds}
use Rattle.expr_text.specs.declared.expr.Operator.TheVariants.{Plus, Minus, Times, Over}
use Rattle.expr_text.specs.declared.expr.Bound.{Bound}
use Rattle.expr_text.specs.declared.expr.Bound.TheVariants.{Least, Greatest}
use Rattle.expr_text.proofs.NumberLemmas.{digits_from-append}
use Rattle.text_bytes.proofs.BoolLemmas.{chosen}
use Rattle.text_bytes.proofs.ByteLemmas.{is_word-begins_name}
use Rattle.text_bytes.proofs.Spans.{span}

-- two fronts that are the same
pub same_front : (l m : Lexeme) (i j : ℕ) → ◌≡◌ {A = Option (Lexeme × ℕ)} (Some (l, i)) (Some (m, j)) → (m ≡ l) × (j ≡ i)
same_front l m i j e =
    let inner : ◌≡◌ {A = Lexeme × ℕ} (m, j) (l, i) = cc in
    (ap (λ (p : Lexeme × ℕ). p.0) inner, ap (λ (p : Lexeme × ℕ). p.1) inner)

-- a byte that a text begins with
pub begins_is : (byte : ℕ) (text : List ℕ) → begins byte text ≡ true → (rest : List ℕ) × (text ≡ byte ∷ rest)
begins_is byte [] h = absurd (false≢true h)
begins_is byte (b ∷ text) h = (text, ap (λ c. c ∷ text) (eqb-true b byte h))

-- two bytes that a text begins with
pub begins_pair_is : (first second : ℕ) (text : List ℕ) → begins_pair first second text ≡ true
    → (rest : List ℕ) × (text ≡ first ∷ second ∷ rest)
begins_pair_is first second [] h = absurd (false≢true h)
begins_pair_is first second (b ∷ text) h =
    let parts = and_parts (b == first) (begins second text) h in
    let next = begins_is second text parts.1 in
    (next.0, ap (λ c. c ∷ text) (eqb-true b first parts.0) ∙ ap (λ ys. first ∷ ys) next.1)

-- a text that begins with a unit's letters
pub record IsUnit (text : List ℕ) (unit : units.Unit × ℕ) : Type 0 where
  pub rest : List ℕ
  pub spelled : text ≡ unit_text unit.0 ++ rest
  pub len : unit.1 ≡ length (unit_text unit.0)

-- two letters, or what else is there
unit_or : (first : ℕ) (unit : units.Unit) (text : List ℕ) (other : units.Unit × ℕ) → unit_text unit ≡ first ∷ 115 ∷ []
    → IsUnit text other
    → IsUnit text (cond (begins_pair first 115 text) (unit, 2) other)
unit_or first unit text other letters o =
    elim (cases_Bool (begins_pair first 115 text)) [
      | inl t ↦
          let found = begins_pair_is first 115 text t in
          let is : IsUnit text (unit, 2) =
          record {
            rest = found.0;
            spelled = found.1
                ∙ ap (λ ys. ys ++ found.0) (sym letters);
            len = ap length (sym letters);
          } in
          subst (IsUnit text) (sym (cond-true (begins_pair first 115 text) (unit, 2) other t)) is
      | inr f ↦ subst (IsUnit text) (sym (cond-false (begins_pair first 115 text) (unit, 2) other f)) o
    ]

-- the unit that is found
pub unit_is_so : (text : List ℕ) → IsUnit text (unit_front text)
unfolding unit_front
unit_is_so text =
    let plain : IsUnit text (Plain, 0) = record { rest = text; spelled = refl; len = refl } in
    let femto = unit_or 102 Femtoseconds text (Plain, 0) refl plain in
    let pico = unit_or 112 Picoseconds text _ refl femto in
    let nano = unit_or 110 Nanoseconds text _ refl pico in
    let micro = unit_or 117 Microseconds text _ refl nano in
    let milli = unit_or 109 Milliseconds text _ refl micro in
    elim (cases_Bool (begins 115 text)) [
      | inl t ↦
          let found = begins_is 115 text t in
          let is : IsUnit text (Seconds, 1) = record { rest = found.0; spelled = found.1; len = refl } in
          subst (IsUnit text) (sym (cond-true (begins 115 text) (Seconds, 1) _ t)) is
      | inr f ↦ subst (IsUnit text) (sym (cond-false (begins 115 text) (Seconds, 1) _ f)) milli
    ]

-- decimals that are found
pub record AreDecimals (text : List ℕ) : Type 0 where
  pub rest : List ℕ
  pub spelled : text ≡ pointed (decimals_of text) ++ rest
  pub each : list_all is_digit (decimals_of text) ≡ true

-- digits behind a point
pointed_digits : (digits text : List ℕ) (rest : List ℕ) → text ≡ digits ++ rest
    → (behind : List ℕ) × (point ∷ text ≡ pointed digits ++ behind)
pointed_digits [] text rest e = (point ∷ text, refl)
pointed_digits (d ∷ digits) text rest e = (rest, ap (λ ys. point ∷ ys) e)

pub decimals_are_so : (text : List ℕ) → AreDecimals text
decimals_are_so [] = record { rest = []; spelled = refl; each = refl }
decimals_are_so (b ∷ text) =
    elim (cases_Bool (b == point)) [
      | inl t ↦
          let s = span is_digit text in
          let is : decimals_of (b ∷ text) ≡ s.front = cond-true (b == point) (digits_of text) [] t ∙ s.front_is in
          let behind = pointed_digits s.front text s.back s.spelled in
          record {
            rest = behind.0;
            spelled = ap (λ c. c ∷ text) (eqb-true b point t) ∙ behind.1 ∙ ap (λ ds. pointed ds ++ behind.0) (sym is);
            each = ap (list_all is_digit) is ∙ s.each;
          }
      | inr f ↦
          let is : decimals_of (b ∷ text) ≡ [] = cond-false (b == point) (digits_of text) [] f in
          record { rest = b ∷ text; spelled = ap (λ ds. pointed ds ++ b ∷ text) (sym is); each = ap (list_all is_digit) is }
    ]

-- how long decimals are with their point
pub length-pointed : (ds : List ℕ) → length (pointed ds) ≡ pointed_len (length ds)
length-pointed [] = refl
length-pointed (d ∷ ds) = omega arith

-- a lexeme at the front of a text
pub record IsFront (text : List ℕ) (lexeme : Lexeme) (len : ℕ) : Type 0 where
  pub piece : List ℕ
  pub rest : List ℕ
  pub spelled : text ≡ piece ++ rest
  pub is : IsLexeme lexeme piece
  pub length_is : len ≡ length piece
  pub some : 0 < len

-- the same of what may be there
abbrev pub IsFrontOf : List ℕ → Option (Lexeme × ℕ) → Type 0
IsFrontOf text None = Unit {0}
IsFrontOf text (Some front) = IsFront text front.0 front.1

-- the number that is found
pub number_is_so : (b : ℕ) (text : List ℕ) → is_digit b ≡ true
    → IsFront (b ∷ text) (number_front (b ∷ text)).0 (number_front (b ∷ text)).1
unfolding number_front
number_is_so b text starts =
    let all = b ∷ text in
    let n = prefix_len is_digit all in
    let s = span is_digit all in
    let long : n ≡ 1 + prefix_len is_digit text = cond-true (is_digit b) (1 + prefix_len is_digit text) 0 starts in
    let digits = digits_of all in
    let behind = drop n all in
    let d = decimals_are_so behind in
    let decimals = decimals_of behind in
    let used : drop (number_len all) all ≡ d.rest =
    drop_number digits decimals d.rest all n (sym (take-append-drop n all)
    ∙ ap (λ ys. digits ++ ys) d.spelled) (ap length s.front_is ∙ sym s.len) in
    let u = unit_is_so (drop (number_len all) all) in
    let unit = unit_front (drop (number_len all) all) in
    record {
      piece = digits ++ (pointed decimals ++ unit_text unit.0);
      rest = u.rest;
      spelled =
          sym (take-append-drop n all)
          ∙ ap (λ ys. digits ++ ys) (d.spelled ∙ ap (λ ys. pointed decimals ++ ys) (sym used ∙ u.spelled))
          ∙ simp append_assoc;
      is = record {
        digits = digits;
        decimals = decimals;
        unit = unit.0;
        spelled = refl;
        some = omega (arith, ap length s.front_is, s.len, long);
        are_digits = ap (list_all is_digit) s.front_is ∙ s.each;
        are_decimals = d.each;
        is = ap (λ m. number_of m (length decimals) unit.0) (sym (digits_from-append 0 digits decimals));
      };
      length_is =
          let e = ap length s.front_is in
          omega (
            arith,
            e,
            s.len,
            length-pointed decimals,
            u.len,
            length-append digits
                (pointed decimals ++ unit_text unit.0),
            length-append (pointed decimals) (unit_text unit.0),
          );
      some = omega (arith, long);
    }
  where
    drop_number : (digits decimals rest all : List ℕ) (n : ℕ) → all ≡ digits ++ (pointed decimals ++ rest) → length digits ≡ n
        → drop (n + pointed_len (length decimals)) all ≡ rest
    drop_number digits decimals rest all n e is =
        ap (drop (n + pointed_len (length decimals))) (e ∙ sym (append_assoc digits (pointed decimals) rest))
        ∙ drop_at (digits ++ pointed decimals) rest (n + pointed_len (length decimals))
        (length-append digits (pointed decimals) ∙ omega (arith, is, length-pointed decimals))

-- `min` or `max`
pub bytes_eq_is : (xs ys : List ℕ) → bytes_eq xs ys ≡ true → xs ≡ ys
bytes_eq_is [] [] h = refl
bytes_eq_is [] (y ∷ ys) h = absurd (false≢true h)
bytes_eq_is (x ∷ xs) [] h = absurd (false≢true h)
bytes_eq_is (x ∷ xs) (y ∷ ys) h =
    let parts = and_parts (x == y) (bytes_eq xs ys) h in
    ap (λ z. z ∷ xs) (eqb-true x y parts.0) ∙ ap (λ zs. y ∷ zs) (bytes_eq_is xs ys parts.1)

pub bound_of_is : (bytes : List ℕ) (bound : Bound) → bound_of bytes ≡ Some bound → bytes ≡ bound_text bound
bound_of_is bytes bound e =
    elim (chosen (bytes_eq bytes (bound_text Least)) (Some Least)
    (cond (bytes_eq bytes (bound_text Greatest)) (Some Greatest) None) (Some bound) e) [
      | inl p ↦
          let same : ◌≡◌ {A = Option Bound} (Some Least) (Some bound) = p.1 in
          let is : Least ≡ bound = cc in
          bytes_eq_is bytes (bound_text Least) p.0 ∙ ap bound_text is
      | inr p ↦
          elim (chosen (bytes_eq bytes (bound_text Greatest)) (Some Greatest) None (Some bound) p.1) [
            | inl q ↦
                let same : ◌≡◌ {A = Option Bound} (Some Greatest) (Some bound) = q.1 in
                let is : Greatest ≡ bound = cc in
                bytes_eq_is bytes (bound_text Greatest) q.0 ∙ ap bound_text is
            | inr q ↦ let clash : ◌≡◌ {A = Option Bound} None (Some bound) = q.1 in cc
          ]
    ]

-- a parenthesis behind blanks
pub record IsParen (text : List ℕ) (len : ℕ) : Type 0 where
  pub blanks : List ℕ
  pub rest : List ℕ
  pub spelled : text ≡ (blanks ++ open_paren ∷ []) ++ rest
  pub are_blank : list_all is_blank blanks ≡ true
  pub length_is : len ≡ length (blanks ++ open_paren ∷ [])

pub paren_is_so : (text : List ℕ) (n : ℕ) → paren_len text ≡ suc n → IsParen text (suc n)
unfolding paren_len
paren_is_so text n e =
    let s = span is_blank text in
    elim (chosen (begins open_paren (drop (prefix_len is_blank text) text)) (prefix_len is_blank text + 1) 0 (suc n) e) [
      | inl p ↦
          let found = begins_is open_paren (drop (prefix_len is_blank text) text) p.0 in
          record {
            blanks = s.front;
            rest = found.0;
            spelled = s.spelled ∙ ap (λ ys. s.front ++ ys) (sym s.back_is ∙ found.1) ∙ simp append_assoc;
            are_blank = s.each;
            length_is = omega (arith, p.1, s.len, length-append s.front (open_paren ∷ []));
          }
      | inr p ↦ absurd (omega (arith, p.1))
    ]

-- a name that is short enough
pub short_name_is : (bytes : List ℕ) (len : ℕ) (lexeme : Lexeme) (n : ℕ) → short_name bytes len ≡ Some (lexeme, n)
    → (lexeme ≡ word bytes) × (n ≡ len) × (length bytes ≤ longest_name)
unfolding short_name
short_name_is bytes len lexeme n e =
    elim (chosen (nat_le (length bytes) longest_name) (Some (word bytes, len)) None (Some (lexeme, n)) e) [
      | inl p ↦
          let is = same_front (word bytes) lexeme len n p.1 in
          (is.0, is.1, le_from (length bytes) longest_name p.0)
      | inr p ↦ let clash : ◌≡◌ {A = Option (Lexeme × ℕ)} None (Some (lexeme, n)) = p.1 in cc
    ]
  where
    le_from : (a b : ℕ) → nat_le a b ≡ true → a ≤ b
    le_from a b h = grind (arith, nat_tests)

-- a name without quotes that is found
bare_is_so : (text bytes rest : List ℕ) (lexeme : Lexeme) (n : ℕ) → text ≡ bytes ++ rest → begins_with begins_name bytes ≡ true
    → list_all is_word bytes ≡ true
    → 0 < length bytes → short_name bytes (length bytes) ≡ Some (lexeme, n) → IsFront text lexeme n
bare_is_so text bytes rest lexeme n spelled begins_so each some e =
    let is = short_name_is bytes (length bytes) lexeme n e in
    let name : IsLexeme (word bytes) bytes = inl (record { spelled = refl; begins = begins_so; each = each; short = is.2 }) in
    record {
      piece = bytes;
      rest = rest;
      spelled = spelled;
      is = subst (λ (l : Lexeme). IsLexeme l bytes) (sym is.0) name;
      length_is = is.1;
      some = omega (arith, is.1);
    }

-- a call that is found
call_is_so : (text bytes rest : List ℕ) (bound : Bound) (lexeme : Lexeme) (m n : ℕ) → text ≡ bytes ++ rest
    → bytes ≡ bound_text bound → IsParen rest (suc m)
    → (lexeme ≡ opening (Some bound)) → n ≡ length bytes + suc m → IsFront text lexeme n
call_is_so text bytes rest bound lexeme m n spelled is_word_of p is is_len =
    let piece = bytes ++ (p.blanks ++ open_paren ∷ []) in
    let call : IsLexeme (opening (Some bound)) piece =
    record {
      blanks = p.blanks;
      spelled = ap
          (λ ys. ys ++ (p.blanks ++ open_paren ∷ [])) is_word_of;
      are_blank = p.are_blank;
    } in
    record {
      piece = piece;
      rest = p.rest;
      spelled = spelled ∙ ap (λ ys. bytes ++ ys) p.spelled ∙ sym (append_assoc bytes (p.blanks ++ open_paren ∷ []) p.rest);
      is = subst (λ (l : Lexeme). IsLexeme l piece) (sym is) call;
      length_is = omega (arith, is_len, p.length_is, length-append bytes (p.blanks ++ open_paren ∷ []));
      some = omega (arith, is_len);
    }

-- what a call or a name is
called_is_so : (text bytes rest : List ℕ) (bound : Option Bound) (paren : ℕ) (lexeme : Lexeme) (n : ℕ) → text ≡ bytes ++ rest
    → begins_with begins_name bytes ≡ true → list_all is_word bytes ≡ true → 0 < length bytes → bound_of bytes ≡ bound
    → paren_len rest ≡ paren
    → called bound bytes paren ≡ Some (lexeme, n) → IsFront text lexeme n
called_is_so text bytes rest None paren lexeme n spelled begins_so each some is_bound is_paren e =
    bare_is_so text bytes rest lexeme n spelled begins_so each some e
called_is_so text bytes rest (Some bound) zero lexeme n spelled begins_so each some is_bound is_paren e =
    bare_is_so text bytes rest lexeme n spelled begins_so each some e
called_is_so text bytes rest (Some bound) (suc m) lexeme n spelled begins_so each some is_bound is_paren e =
    let is = same_front (opening (Some bound)) lexeme (length bytes + suc m) n e in
    call_is_so text bytes rest bound lexeme m n spelled (bound_of_is bytes bound is_bound)
    (paren_is_so rest m is_paren) is.0 is.1

-- a text that begins with a letter begins with a name
word_begins : (b : ℕ) (text front back : List ℕ) → b ∷ text ≡ front ++ back → 0 < length front → begins_name b ≡ true
    → begins_with begins_name front ≡ true
word_begins b text [] back e some h = absurd (omega (arith, some))
word_begins b text (c ∷ front) back e some h = let same : b ≡ c = cc in ap begins_name (sym same) ∙ h

-- a name or a call that is found
pub word_is_so : (b : ℕ) (text : List ℕ) (lexeme : Lexeme) (n : ℕ) → begins_name b ≡ true
    → word_front (b ∷ text) ≡ Some (lexeme, n) → IsFront (b ∷ text) lexeme n
unfolding word_front
word_is_so b text lexeme n starts e =
    let all = b ∷ text in
    let s = span is_word all in
    let long : prefix_len is_word all ≡ 1 + prefix_len is_word text =
    cond-true (is_word b) (1 + prefix_len is_word text) 0 (is_word-begins_name b starts) in
    let some : 0 < length s.front = omega (arith, s.len, long) in
    called_is_so all s.front s.back (bound_of s.front) (paren_len s.back) lexeme n s.spelled
    (word_begins b text s.front s.back s.spelled some starts) s.each some refl refl
    (ap (λ (ys : List ℕ). called (bound_of ys) ys (paren_len s.back)) (sym s.front_is)
    ∙ ap (λ (ys : List ℕ). called (bound_of (take (prefix_len is_word all) all)) (take (prefix_len is_word all) all)
    (paren_len ys)) (sym s.back_is) ∙ e)

-- a name in quotes that is found
pub quoted_is_so : (text : List ℕ) (lexeme : Lexeme) (n : ℕ) → quoted_front text ≡ Some (lexeme, n)
    → IsFront (double_quote ∷ text) lexeme n
unfolding quoted_front
quoted_is_so text lexeme n e =
    let len = prefix_len may_be_quoted text in
    let s = span may_be_quoted text in
    elim (chosen (begins double_quote (drop len text) && nat_lt 0 len) (short_name (take len text) (len + 2)) None
    (Some (lexeme, n)) e) [
      | inl p ↦
          let parts = and_parts (begins double_quote (drop len text)) (nat_lt 0 len) p.0 in
          let behind = begins_is double_quote (drop len text) parts.0 in
          let some = ltb-true 0 len parts.1 in
          let is = short_name_is (take len text) (len + 2) lexeme n p.1 in
          let piece = double_quote ∷ (s.front ++ double_quote ∷ []) in
          let long = ap length s.front_is in
          let name : IsLexeme (word s.front) piece =
          inr (record {
            spelled = refl;
            some = omega (arith, s.len, some);
            each = s.each;
            short = omega
                (arith, is.2, long);
          }) in
          let is_word_of : word s.front ≡ lexeme = ap word (sym s.front_is) ∙ sym is.0 in
          record {
            piece = piece;
            rest = behind.0;
            spelled = ap (λ ys. double_quote ∷ ys) (s.spelled ∙ ap (λ ys. s.front ++ ys) (sym s.back_is ∙ behind.1)
                ∙ simp append_assoc);
            is = subst (λ (l : Lexeme). IsLexeme l piece) is_word_of name;
            length_is = omega (arith, is.1, s.len, length-append s.front (double_quote ∷ []));
            some = omega (arith, is.1);
          }
      | inr p ↦ let clash : ◌≡◌ {A = Option (Lexeme × ℕ)} None (Some (lexeme, n)) = p.1 in cc
    ]

-- one sign or another
sign_or : (b sign : ℕ) (text : List ℕ) (l lexeme : Lexeme) (n : ℕ) (other : Option (Lexeme × ℕ)) → IsLexeme l (sign ∷ [])
    → (other ≡ Some (lexeme, n) → IsFront (b ∷ text) lexeme n) → cond (b == sign) (Some (l, 1)) other ≡ Some (lexeme, n)
    → IsFront (b ∷ text) lexeme n
sign_or b sign text l lexeme n other is_l else_so e =
    elim (chosen (b == sign) (Some (l, 1)) other (Some (lexeme, n)) e) [
      | inl p ↦
          let is = same_front l lexeme 1 n p.1 in
          record {
            piece = sign ∷ [];
            rest = text;
            spelled = ap (λ c. c ∷ text) (eqb-true b sign p.0);
            is = subst (λ (m : Lexeme). IsLexeme m (sign ∷ [])) (sym is.0) is_l;
            length_is = is.1;
            some = omega (arith, is.1);
          }
      | inr p ↦ else_so p.1
    ]

-- a sign that is found
pub sign_is_so : (b : ℕ) (text : List ℕ) (lexeme : Lexeme) (n : ℕ) → sign_front b ≡ Some (lexeme, n)
    → IsFront (b ∷ text) lexeme n
unfolding sign_front
sign_is_so b text lexeme n =
    let none : ◌≡◌ {A = Option (Lexeme × ℕ)} None (Some (lexeme, n)) → IsFront (b ∷ text) lexeme n = λ e. cc in
    sign_or b 43 text (operator Plus) lexeme n _ refl
    (sign_or b 45 text (operator Minus) lexeme n _ refl
    (sign_or b 42 text (operator Times) lexeme n _ refl
    (sign_or b 47 text (operator Over) lexeme n _ refl
    (sign_or b open_paren text (opening None) lexeme n _ refl
    (sign_or b 44 text comma lexeme n _ refl
    (sign_or b 41 text closing lexeme n None refl none))))))

-- what is found at the front of a text stands there
pub front_is_so : (b : ℕ) (text : List ℕ) (lexeme : Lexeme) (n : ℕ) → front_of (b ∷ text) ≡ Some (lexeme, n)
    → IsFront (b ∷ text) lexeme n
unfolding front_of
front_is_so b text lexeme n e =
    let signs = sign_front b in
    let quotes = cond (b == double_quote) (quoted_front text) signs in
    let words = cond (begins_name b) (word_front (b ∷ text)) quotes in
    elim (chosen (is_digit b) (Some (number_front (b ∷ text))) words (Some (lexeme, n)) e) [
      | inl p ↦
          let found = number_front (b ∷ text) in
          let is = same_front found.0 lexeme found.1 n p.1 in
          subst (λ (l : Lexeme). IsFront (b ∷ text) l n) (sym is.0)
          (subst (IsFront (b ∷ text) found.0) (sym is.1) (number_is_so b text p.0))
      | inr p ↦
          elim (chosen (begins_name b) (word_front (b ∷ text)) quotes (Some (lexeme, n)) p.1) [
            | inl q ↦ word_is_so b text lexeme n q.0 q.1
            | inr q ↦
                elim (chosen (b == double_quote) (quoted_front text) signs (Some (lexeme, n)) q.1) [
                  | inl r ↦ subst (λ (c : ℕ). IsFront (c ∷ text) lexeme n) (sym (eqb-true b double_quote r.0))
                      (quoted_is_so text lexeme n r.1)
                  | inr r ↦ sign_is_so b text lexeme n r.1
                ]
          ]
    ]
