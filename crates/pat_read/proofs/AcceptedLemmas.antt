-- What readers accept has its form: names, lines and references; and what each statement keeps, all keep.
use Rattle.std.proofs.Common.{◌≡◌, ℕ, suc, ◌+◌, ◌^◌, ◌<◌, List, [], ◌∷◌, ◌++◌, length, drop, Result, Ok, Err, Option, Some, None, Bool, true, false, ◌&&◌, cond, nat_lt, nat_le, option_map, refl, subst, ◌∙◌, arith}
use Rattle.std.specs.Prelude.{option_and_then}
use Rattle.std.specs.List.{list_all}
use Rattle.std.proofs.lemmas.Bool.{and_parts, and_from, ltb-true, le-leb}
use Rattle.std.proofs.lemmas.List.{length-take, length-drop, length-map}
use Rattle.std.proofs.lemmas.List.Folds.{list_all-append}
use Rattle.text_bytes.specs.Bytes.{begins_name, is_printable, begins_with}
use Rattle.text_bytes.specs.Limits.{longest_name}
use Rattle.answers.specs.Reading.{and_then, reading}
use Rattle.stil_tree.specs.Trees.{Entry}
use Rattle.stil_form.specs.declared.fault.FormKind.{FormKind}
use Rattle.stil_form.specs.declared.front.Span.{Span}
use Rattle.stil_form.specs.Lexeme.{Lexeme, word, name, text, sign, lexeme_at, lexemes_of}
use Rattle.stil_form.specs.Words.{named_by, fits_name}
use Rattle.stil_form.specs.Fronts.{Ref, named, group, behind_name, reference_front, ranged, opened_front}
use Rattle.stil_form.specs.declared.part.SignKind.TheVariants as mark
use Rattle.stil_form.specs.Setting.{Setting, lexemes_at, line_at, at_statement}
use Rattle.stil_ast.specs.Data.Texts.{is_name}
use Rattle.stil_ast.specs.Data.Forms.{is_line, is_absent_or, is_range, is_sig_ref}
use Rattle.stil_ast.specs.declared.name.IndexRange.{IndexRange}
use Rattle.stil_ast.specs.declared.name.SigRef.{SigRef}
use Rattle.stil_ast.specs.declared.name.SigRef.TheVariants as ref
use Rattle.pat_read.specs.Accepted.{HasLines}
use Rattle.pat_read.specs.References.{within_32, range_of, named_ref, ref_of}

-- two steps that end well: what the first gives, and what the second makes of it
pub record BothOk {X Y F : Type 0} (r : Result X F) (next : X → Result Y F) (y : Y) : Type 0 where
  pub given : X
  pub met : r ≡ Ok given
  pub made : next given ≡ Ok y

-- what ends well has two steps that do
pub both_ok : {X Y F : Type 0} (r : Result X F) (next : X → Result Y F) (y : Y) → and_then r next ≡ Ok y → BothOk r next y
both_ok (Ok x) next y is = record { given = x; met = refl; made = is }
both_ok (Err fault) next y is = cc

-- what is said of a statement is said
pub said_at : {X : Type 0} (first : ℕ) (r : Result X FormKind) (x : X) → at_statement first r ≡ Ok x → r ≡ Ok x
said_at first (Ok y) x is = cc
said_at first (Err kind) x is = cc

-- an item, and those behind it
reads_on : {X E F : Type 0} (judge : List X → E → Result X F) (P : List X → Type 0) (before : List X) (es : List E)
    (read : List X) (r : Result X F) → ((x : X) → r ≡ Ok x → P (before ++ x ∷ []))
    → ((x : X) → reading judge (before ++ x ∷ []) es ≡ Ok read → P (before ++ x ∷ []) → P read)
    → and_then r (λ x. reading judge (before ++ x ∷ []) es) ≡ Ok read → P read
reads_on judge P before es read (Ok x) one later is = later x is (one x refl)
reads_on judge P before es read (Err fault) one later is = cc

-- what each item keeps of those before it, all keep
pub reading-keeps : {X E F : Type 0} (judge : List X → E → Result X F) (P : List X → Type 0)
    → ((before : List X) (e : E) (x : X) → judge before e ≡ Ok x → P before → P (before ++ x ∷ []))
    → (before : List X) (es : List E) (read : List X) → reading judge before es ≡ Ok read → P before → P read
reading-keeps judge P one before [] read is held =
    let same : before ≡ read = cc in subst P same held
reading-keeps judge P one before (e ∷ es) read is held =
    reads_on judge P before es read (judge before e) (λ x judged. one before e x judged held)
    (λ x. reading-keeps judge P one (before ++ x ∷ []) es read) is

-- one more item that passes
pub list_all-one : {X : Type 0} (test : X → Bool) (before : List X) (x : X) → list_all test before ≡ true → test x ≡ true
    → list_all test (before ++ x ∷ []) ≡ true
list_all-one test before x held passes =
    list_all-append test before (x ∷ []) ∙ and_from (list_all test before) (test x && true) held (and_from (test x) true passes refl)

-- where each item passes that is read, all do
pub reading-each : {X E F : Type 0} (judge : List X → E → Result X F) (test : X → Bool)
    → ((before : List X) (e : E) (x : X) → judge before e ≡ Ok x → test x ≡ true)
    → (es : List E) (read : List X) → reading judge [] es ≡ Ok read → list_all test read ≡ true
reading-each judge test one es read is =
    reading-keeps judge (λ xs. list_all test xs ≡ true)
    (λ before e x judged held. list_all-one test before x held (one before e x judged)) [] es read is refl

-- where a head has a lexeme there is a token
pub within_tokens : (s : Setting) (e : Entry) (n : ℕ) → n < length (lexemes_at s e) → e.first + n < length s.tokens
within_tokens s e n h =
    omega (
      arith,
      h,
      length-take e.count (drop e.first (lexemes_of s.bytes s.tokens)),
      length-drop e.first (lexemes_of s.bytes s.tokens),
      length-map s.tokens (lexeme_at s.bytes),
    )

-- the first lexeme of a head has a line, and so has the second
pub first_line : (s : Setting) → HasLines s → (e : Entry) → 0 < length (lexemes_at s e) → is_line (line_at s.tokens e.first) ≡ true
first_line s lines e h = lines e.first (omega (arith, within_tokens s e 0 h))

pub second_line : (s : Setting) → HasLines s → (e : Entry) → 1 < length (lexemes_at s e)
    → is_line (line_at s.tokens (suc e.first)) ≡ true
second_line s lines e h = lines (suc e.first) (omega (arith, within_tokens s e 1 h))

-- some bytes where they are kept
kept_where : (b : Bool) (x y : List ℕ) → cond {A = Option (List ℕ)} b (Some x) None ≡ Some y → (b ≡ true) × (x ≡ y)
kept_where true x y is = (refl, cc)
kept_where false x y is = cc

-- bytes that fit a name are one
is_name-fits : (bytes : List ℕ) → fits_name bytes ≡ true → is_name bytes ≡ true
is_name-fits [] is = cc
is_name-fits (c ∷ cs) is =
    let all = and_parts (nat_lt 0 (length (c ∷ cs)) && nat_le (length (c ∷ cs)) longest_name) (list_all is_printable (c ∷ cs)) is in
    let size = and_parts (nat_lt 0 (length (c ∷ cs))) (nat_le (length (c ∷ cs)) longest_name) all.0 in
    and_from (nat_le (length (c ∷ cs)) 1024) (list_all is_printable (c ∷ cs)) size.1 all.1

-- what is called so has a name's form
pub is_name-named_by : (one : Lexeme) (called : List ℕ) → named_by one ≡ Some called → is_name called ≡ true
is_name-named_by (word bytes) called is =
    let kept = kept_where (begins_with begins_name bytes && fits_name bytes) bytes called is in
    let both = and_parts (begins_with begins_name bytes) (fits_name bytes) kept.0 in
    subst (λ (b : List ℕ). is_name b ≡ true) kept.1 (is_name-fits bytes both.1)
is_name-named_by (name bytes) called is =
    let kept = kept_where (fits_name bytes) bytes called is in
    subst (λ (b : List ℕ). is_name b ≡ true) kept.1 (is_name-fits bytes kept.0)
is_name-named_by (text bytes) called is = cc
is_name-named_by (sign kind) called is = cc

-- a reference whose name has its form
abbrev pub FitsRef : Ref → Type 0
FitsRef (named called span) = is_name called ≡ true
FitsRef (group expression) = Unit {0}

-- a name without indices
bare : (called : List ℕ) (rest : List Lexeme) (found : Ref × List Lexeme) → is_name called ≡ true
    → Some (named called None, rest) ≡ Some found → FitsRef found.0
bare called rest found fits is =
    let same : (named called None, rest) ≡ found = cc in subst (λ (f : Ref × List Lexeme). FitsRef f.0) same fits

-- a name with indices
with_indices : (called : List ℕ) (o : Option (Span × List Lexeme)) (found : Ref × List Lexeme) → is_name called ≡ true
    → option_map (ranged called) o ≡ Some found → FitsRef found.0
with_indices called None found fits is = cc
with_indices called (Some spanned) found fits is =
    let same : ranged called spanned ≡ found = cc in subst (λ (f : Ref × List Lexeme). FitsRef f.0) same fits

-- a reference behind its name
behind : (rest : List Lexeme) (called : List ℕ) (found : Ref × List Lexeme) → is_name called ≡ true
    → behind_name rest called ≡ Some found → FitsRef found.0
behind [] called found fits is = bare called [] found fits is
behind (word b ∷ rest) called found fits is = bare called (word b ∷ rest) found fits is
behind (name b ∷ rest) called found fits is = bare called (name b ∷ rest) found fits is
behind (text b ∷ rest) called found fits is = bare called (text b ∷ rest) found fits is
behind (sign mark.Open ∷ rest) called found fits is = with_indices called (opened_front rest) found fits is
behind (sign mark.Close ∷ rest) called found fits is = bare called (sign mark.Close ∷ rest) found fits is
behind (sign mark.Dot ∷ rest) called found fits is = bare called (sign mark.Dot ∷ rest) found fits is
behind (sign mark.Equals ∷ rest) called found fits is = bare called (sign mark.Equals ∷ rest) found fits is
behind (sign mark.Hash ∷ rest) called found fits is = bare called (sign mark.Hash ∷ rest) found fits is
behind (sign mark.Percent ∷ rest) called found fits is = bare called (sign mark.Percent ∷ rest) found fits is
behind (sign mark.Slash ∷ rest) called found fits is = bare called (sign mark.Slash ∷ rest) found fits is
behind (sign mark.Backslash ∷ rest) called found fits is = bare called (sign mark.Backslash ∷ rest) found fits is
behind (sign mark.Colon ∷ rest) called found fits is = bare called (sign mark.Colon ∷ rest) found fits is
behind (sign mark.Plus ∷ rest) called found fits is = bare called (sign mark.Plus ∷ rest) found fits is
behind (sign mark.Minus ∷ rest) called found fits is = bare called (sign mark.Minus ∷ rest) found fits is
behind (sign mark.Bang ∷ rest) called found fits is = bare called (sign mark.Bang ∷ rest) found fits is
behind (sign (mark.Other b) ∷ rest) called found fits is = bare called (sign (mark.Other b) ∷ rest) found fits is

-- a reference that begins with a name
called_front : (one : Lexeme) (o : Option (List ℕ)) (rest : List Lexeme) (found : Ref × List Lexeme) → named_by one ≡ o
    → option_and_then (behind_name rest) o ≡ Some found → FitsRef found.0
called_front one None rest found called is = cc
called_front one (Some c) rest found called is = behind rest c found (is_name-named_by one c called) is

-- the reference at a front fits
pub fits_front : (head : List Lexeme) (found : Ref × List Lexeme) → reference_front head ≡ Some found → FitsRef found.0
fits_front [] found is = cc
fits_front (text b ∷ rest) found is =
    let same : (group b, rest) ≡ found = cc in subst (λ (f : Ref × List Lexeme). FitsRef f.0) same tt
fits_front (word b ∷ rest) found is = called_front (word b) (named_by (word b)) rest found refl is
fits_front (name b ∷ rest) found is = called_front (name b) (named_by (name b)) rest found refl is
fits_front (sign k ∷ rest) found is = called_front (sign k) (named_by (sign k)) rest found refl is

-- indices that are within 32 bits
in_range : (b : Bool) (first last : ℕ) (range : Option IndexRange)
    → within_32 (cond {A = Option (ℕ × ℕ)} b (Some (first, last)) None) ≡ Ok range
    → (b ≡ true) × (Some (record { first = first; last = last }) ≡ range)
in_range true first last range is = (refl, cc)
in_range false first last range is = cc

-- an index of 32 bits
pub small : (n : ℕ) → nat_lt n (2 ^ 32) ≡ true → nat_le n 4294967295 ≡ true
small n h = le-leb n 4294967295 (omega (arith, ltb-true n (2 ^ 32) h))

-- the indices of a name
pub is_range-range_of : (span : Option Span) (range : Option IndexRange) → range_of span ≡ Ok range
    → is_absent_or is_range range ≡ true
is_range-range_of None range is =
    let same : None ≡ range = cc in subst (λ (r : Option IndexRange). is_absent_or is_range r ≡ true) same refl
is_range-range_of (Some span) range is =
    let found = in_range (nat_lt span.first (2 ^ 32) && nat_lt span.last (2 ^ 32)) span.first span.last range is in
    let both = and_parts (nat_lt span.first (2 ^ 32)) (nat_lt span.last (2 ^ 32)) found.0 in
    subst (λ (r : Option IndexRange). is_absent_or is_range r ≡ true) found.1
    (and_from (nat_le span.first 4294967295) (nat_le span.last 4294967295) (small span.first both.0) (small span.last both.1))

-- a reference
pub is_sig_ref-ref_of : (line : ℕ) (found : Ref) (reference : SigRef) → is_line line ≡ true → FitsRef found
    → ref_of line found ≡ Ok reference → is_sig_ref reference ≡ true
is_sig_ref-ref_of line (named called span) reference is_one fits is =
    let both = both_ok (range_of span) (λ range. Ok (named_ref called range)) reference is in
    let same : named_ref called both.given ≡ reference = cc in
    subst (λ (r : SigRef). is_sig_ref r ≡ true) same
    (and_from (is_name called) (is_absent_or is_range both.given) fits (is_range-range_of span both.given both.met))
is_sig_ref-ref_of line (group expression) reference is_one fits is =
    let same : ref.Group (record { text = expression; line = line }) ≡ reference = cc in
    subst (λ (r : SigRef). is_sig_ref r ≡ true) same is_one
