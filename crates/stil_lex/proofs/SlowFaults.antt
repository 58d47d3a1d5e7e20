-- The plain slow search finds the fault of a text: what passes its tests is refused, and what is refused passes them.
use Rattle.std.proofs.Common.{◌≡◌, ℕ, ◌+◌, ◌≤◌, ◌<◌, true, false, ◌&&◌, not, List, [], ◌∷◌, ◌++◌, length, take, drop, get_or, Option, Some, None, IfSome, IfNone, refl, sym, ap, subst, ◌∙◌, inl, inr, arith, append_assoc, eq-eqb, length-append}
use Rattle.std.specs.Prelude.{◌==◌, nat_lt}
use Rattle.std.specs.List.{list_any, position_or_len}
use Rattle.std.proofs.lemmas.Bool.{and_parts, and_from, false≢true, eqb-true, lt-ltb, ltb-true, not-true, not_from_false, cases_order, cases_lt}
use Rattle.std.proofs.lemmas.List.{take-append-drop, drop_more, length-take-le, get_or_at}
use Rattle.stil_lex.specs.Bytes.{slash, star, close_brace, may_be_quoted, starts_pair, has_pair}
use Rattle.text_bytes.specs.Bytes.{is_blank, is_printing}
use Rattle.stil_lex.specs.Tokens.{spelled}
use Rattle.stil_lex.specs.Faults.{is_quote, IsStray, HasBadQuoted, HasOpenQuote, HasOpenComment, HasOpenAnnotation, IsRefusal, Refuses, IsFault, place}
use Rattle.stil_lex.specs.Step.{pair_place, mark_len}
use Rattle.stil_lex.specs.Slow.{opened_test}
use Rattle.stil_lex.specs.SlowFaults.{stray_test, open_quote_test, unclosed_test, open_comment_test, open_annotation_test, bad_rest_test, bad_quoted_test, IsFirstBad, IsFirstRefusal, IsReadUpTo}
use Rattle.stil_lex.specs.declared.fault.LexFault.{LexFault}
use Rattle.stil_lex.specs.declared.fault.LexFault.TheVariants.{NoMemory, BadByte, OpenQuote, OpenComment}
use Rattle.stil_lex.proofs.Pairs.{pair_cases, pair_place-none, starts_pair_is}
use Rattle.stil_lex.proofs.Words.{opened_from_mark, mark_len-opens}
use Rattle.stil_lex.proofs.Quotes.{quote_cases}
use Rattle.stil_lex.proofs.Pieces.{position-quote, position-none}
use Rattle.stil_lex.proofs.Readings.{one_reading, refusal_stops}
use Rattle.stil_lex.proofs.Slowly.{list_any-no_place, opened_is, drop-mark_len}
use Rattle.stil_lex.proofs.SlowlyBack.{stops_where_none}

-- the same, back
pub stray_test-is : (text : List ℕ) → IsStray text → stray_test text ≡ true
stray_test-is text s =
    ap stray_test s.spelled
    ∙ and_from (not (is_blank s.byte)) (not (is_printing s.byte)) (not_from_false (is_blank s.byte) s.no_blank) (not_from_false (is_printing s.byte) s.no_print)

-- a quote without an end
pub open_quote_is : (text : List ℕ) → open_quote_test text ≡ true → HasOpenQuote text
open_quote_is [] h = absurd (false≢true h)
open_quote_is (b ∷ rest) h =
    let n = position_or_len (λ c. c == b) rest in
    let parts = and_parts (is_quote b) (n == length rest) h in
    record { quote = b; after = rest; spelled = refl; quotes = parts.0; no_end = list_any-no_place b rest (eqb-true n (length rest) parts.1) }

-- the same, back
pub open_quote_test-is : (text : List ℕ) → HasOpenQuote text → open_quote_test text ≡ true
open_quote_test-is text o =
    let n = position_or_len (λ c. c == o.quote) o.after in
    ap open_quote_test o.spelled
    ∙ and_from (is_quote o.quote) (n == length o.after) o.quotes (eq-eqb n (length o.after) (position-none (λ c. c == o.quote) o.after o.no_end))

-- a pair that stands nowhere
pub unclosed_is : (first second : ℕ) (text : List ℕ) → unclosed_test first second text ≡ true
    → has_pair first second text ≡ false
unfolding unclosed_test
unclosed_is first second text h =
    elim (pair_cases first second text) [
      | inl f ↦
          let long = ap length f.spelled ∙ length-append f.body (first ∷ second ∷ f.after) in
          absurd (omega (arith, eqb-true (pair_place first second text) (length text) h, f.place, long))
      | inr n ↦ n.0
    ]

-- the same, back
pub unclosed_test-is : (first second : ℕ) (text : List ℕ) → has_pair first second text ≡ false
    → unclosed_test first second text ≡ true
unfolding unclosed_test
unclosed_test-is first second text h = eq-eqb (pair_place first second text) (length text) (pair_place-none first second text h)

-- a comment without an end
pub open_comment_is : (text : List ℕ) → open_comment_test text ≡ true → HasOpenComment text
unfolding open_comment_test
open_comment_is text h =
    let parts = and_parts (starts_pair slash star text) (unclosed_test star slash (drop 2 text)) h in
    let found = starts_pair_is slash star text parts.0 in
    record { after = found.0; spelled = found.1; no_end = unclosed_is star slash found.0 (ap (λ ys. unclosed_test star slash (drop 2 ys)) (sym found.1) ∙ parts.1) }

-- the same, back
pub open_comment_test-is : (text : List ℕ) → HasOpenComment text → open_comment_test text ≡ true
unfolding open_comment_test
open_comment_test-is text o =
    and_from (starts_pair slash star text) (unclosed_test star slash (drop 2 text)) (ap (starts_pair slash star) o.spelled)
    (ap (λ ys. unclosed_test star slash (drop 2 ys)) o.spelled ∙ unclosed_test-is star slash o.after o.no_end)

-- an annotation without an end
pub open_annotation_is : (text : List ℕ) → open_annotation_test text ≡ true → HasOpenAnnotation text
unfolding open_annotation_test
open_annotation_is text h =
    let behind = drop 3 text in
    let parts = and_parts (opened_test text) (unclosed_test star close_brace (drop (mark_len behind) behind)) h in
    let front = opened_is text parts.0 in
    let o = (opened_from_mark behind front.1).opens in
    record {
      behind = behind;
      spelled = front.0;
      opens = o;
      no_end = unclosed_is star close_brace o.rest (ap (unclosed_test star close_brace) (sym (drop-mark_len behind o)) ∙ parts.1);
    }

-- the same, back
pub open_annotation_test-is : (text : List ℕ) → HasOpenAnnotation text
    → open_annotation_test text ≡ true
unfolding open_annotation_test
open_annotation_test-is text a =
    let o = a.opens in
    let marked : 0 < mark_len a.behind = omega (arith, mark_len-opens a.behind o) in
    let behind : drop 3 text ≡ a.behind = ap (drop 3) a.spelled in
    and_from (opened_test text) (unclosed_test star close_brace (drop (mark_len (drop 3 text)) (drop 3 text)))
    (ap opened_test a.spelled ∙ lt-ltb 0 (mark_len a.behind) marked)
    (ap (λ ys. unclosed_test star close_brace (drop (mark_len ys) ys)) behind
    ∙ (ap (unclosed_test star close_brace) (drop-mark_len a.behind o) ∙ unclosed_test-is star close_brace o.rest a.no_end))

-- a byte in a closed quote that may not be quoted, of what stands behind the opening quote
pub bad_rest_is : (quote : ℕ) (rest : List ℕ) (skipped : ℕ) → is_quote quote ≡ true
    → bad_rest_test quote rest skipped ≡ true
    → HasBadQuoted (quote ∷ rest) skipped
unfolding bad_rest_test
bad_rest_is quote rest skipped quotes h =
    let n = position_or_len (λ c. c == quote) rest in
    let parts = and_parts (nat_lt n (length rest) && nat_lt skipped n) (not (may_be_quoted (get_or rest skipped 0))) h in
    let both = and_parts (nat_lt n (length rest)) (nat_lt skipped n) parts.0 in
    elim (quote_cases quote rest) [
      | inl f ↦
          let below : skipped < length f.body = omega (arith, ltb-true skipped n both.1, f.place) in
          let front = take skipped f.body in
          let byte = get_or f.body skipped 0 in
          let back = drop (skipped + 1) f.body in
          let width : length front ≡ skipped = length-take-le skipped f.body (omega arith) in
          let split : f.body ≡ front ++ byte ∷ back =
          sym (take-append-drop skipped f.body) ∙ ap (λ ys. front ++ ys) (drop_more f.body skipped 0 below) in
          let whole : rest ≡ (front ++ byte ∷ back) ++ quote ∷ f.after = f.spelled ∙ ap (λ ys. ys ++ quote ∷ f.after) split in
          let same : get_or rest skipped 0 ≡ byte =
          ap (λ ys. get_or ys skipped 0) (whole ∙ append_assoc front (byte ∷ back) (quote ∷ f.after)) ∙ get_or_at front byte (back ++ quote ∷ f.after) 0 skipped width in
          record {
            quote = quote;
            front = front;
            byte = byte;
            back = back;
            after = f.after;
            spelled = ap (λ ys. quote ∷ ys) whole;
            quotes = quotes;
            first = ap (list_any (λ c. c == quote)) (sym split) ∙ f.first;
            bad = ap may_be_quoted (sym same) ∙ not-true (may_be_quoted (get_or rest skipped 0)) parts.1;
            place = sym width;
          }
      | inr n_one ↦ absurd (omega (arith, ltb-true n (length rest) both.0, n_one.1))
    ]

-- the same of the text
pub bad_quoted_is : (text : List ℕ) (skipped : ℕ) → bad_quoted_test text skipped ≡ true
    → HasBadQuoted text skipped
bad_quoted_is [] skipped h = absurd (false≢true h)
bad_quoted_is (b ∷ rest) skipped h =
    let parts = and_parts (is_quote b) (bad_rest_test b rest skipped) h in
    bad_rest_is b rest skipped parts.0 parts.1

-- the same, back
pub bad_quoted_test-is : (text : List ℕ) (skipped : ℕ) → HasBadQuoted text skipped
    → bad_quoted_test text skipped ≡ true
unfolding bad_rest_test
bad_quoted_test-is text skipped h =
    let body = h.front ++ h.byte ∷ h.back in
    let rest = body ++ h.quote ∷ h.after in
    let n = position_or_len (λ c. c == h.quote) rest in
    let end : n ≡ length body = position-quote h.quote body h.after h.first in
    let width : length body ≡ length h.front + (1 + length h.back) = omega (arith, length-append h.front (h.byte ∷ h.back)) in
    let long : length rest ≡ length body + (1 + length h.after) = omega (arith, length-append body (h.quote ∷ h.after)) in
    let byte : get_or rest skipped 0 ≡ h.byte =
    ap (λ ys. get_or ys skipped 0) (append_assoc h.front (h.byte ∷ h.back) (h.quote ∷ h.after))
    ∙ get_or_at h.front h.byte (h.back ++ h.quote ∷ h.after) 0 skipped (sym h.place) in
    ap (λ ys. bad_quoted_test ys skipped) h.spelled
    ∙ and_from (is_quote h.quote) (bad_rest_test h.quote rest skipped) h.quotes
    (and_from (nat_lt n (length rest) && nat_lt skipped n) (not (may_be_quoted (get_or rest skipped 0)))
    (and_from (nat_lt n (length rest)) (nat_lt skipped n) (lt-ltb n (length rest) (omega arith)) (lt-ltb skipped n (omega (arith, h.place))))
    (not_from_false (may_be_quoted (get_or rest skipped 0)) (ap may_be_quoted byte ∙ h.bad)))

-- such a byte stands within the text
pub bad_quoted_within : (text : List ℕ) (skipped : ℕ) → HasBadQuoted text skipped
    → skipped < length text
bad_quoted_within text skipped h =
    let body = h.front ++ h.byte ∷ h.back in
    omega (arith, h.place, ap length h.spelled, length-append body (h.quote ∷ h.after), length-append h.front (h.byte ∷ h.back))

-- no byte before this one is such a byte
abbrev pub NoneBadBelow : ℕ → List ℕ → Type 0
NoneBadBelow skipped text = (other : ℕ) → other < skipped → HasBadQuoted text other → ⊥

-- one byte more
pub none_bad-more : (skipped : ℕ) (text : List ℕ) → NoneBadBelow skipped text
    → bad_quoted_test text skipped ≡ false → NoneBadBelow (skipped + 1) text
none_bad-more skipped text none fails other below h =
    elim (cases_order other skipped) [
      | inl same ↦ false≢true (sym fails ∙ bad_quoted_test-is text skipped (subst (HasBadQuoted text) same h))
      | inr (inl less) ↦ none other less h
      | inr (inr more) ↦ absurd (omega (arith, below, more))
    ]

-- where none is before it, it is the first
pub first_bad : (skipped : ℕ) (text : List ℕ) → NoneBadBelow skipped text
    → bad_quoted_test text skipped ≡ true → IsFirstBad text skipped
first_bad skipped text none passes =
    let here = bad_quoted_is text skipped passes in
    record {
      within = bad_quoted_within text skipped here;
      here = here;
      smallest = λ other h.
          elim (cases_lt other skipped) [ inl less ↦ absurd (none other less h) | inr least ↦ least ];
    }

-- a refusal stands at the first byte or behind it
pub refusal_behind : (text : List ℕ) (at : ℕ) (fault : LexFault) → IsRefusal text at fault
    → at ≤ place fault
refusal_behind text at NoMemory h = absurd h
refusal_behind text at (BadByte p) (inl h) = omega (arith, h.0)
refusal_behind text at (BadByte p) (inr h) = omega (arith, h.1)
refusal_behind text at (OpenQuote p) h = omega (arith, h.0)
refusal_behind text at (OpenComment p) h = omega (arith, h.0)

-- a refusal at the first byte is the first
pub first_at : (text : List ℕ) (at : ℕ) (fault : LexFault) → IsRefusal text at fault
    → place fault ≡ at → IsFirstRefusal text at fault
first_at text at fault here is = record { here = here; smallest = λ other h. omega (arith, is, refusal_behind text at other h) }

-- what passes none of the tests at its front has no refusal but bad bytes in a quote
pub only_bad_quoted : (text : List ℕ) (at : ℕ) → stray_test text ≡ false
    → open_quote_test text ≡ false → open_comment_test text ≡ false
    → open_annotation_test text ≡ false → (fault : LexFault) → IsRefusal text at fault
    → (skipped : ℕ) × (place fault ≡ at + 1 + skipped) × HasBadQuoted text skipped
only_bad_quoted text at stray quote comment annotation NoMemory h = absurd h
only_bad_quoted text at stray quote comment annotation (BadByte p) (inl h) = absurd (false≢true (sym stray ∙ stray_test-is text h.1))
only_bad_quoted text at stray quote comment annotation (BadByte p) (inr h) = h
only_bad_quoted text at stray quote comment annotation (OpenQuote p) h = absurd (false≢true (sym quote ∙ open_quote_test-is text h.1))
only_bad_quoted text at stray quote comment annotation (OpenComment p) (e, inl h) = absurd (false≢true (sym comment ∙ open_comment_test-is text h))
only_bad_quoted text at stray quote comment annotation (OpenComment p) (e, inr h) = absurd (false≢true (sym annotation ∙ open_annotation_test-is text h))

-- the pieces are as long as the text up to their end
pub read_len : (bytes : List ℕ) (at : ℕ) (r : IsReadUpTo bytes at) → length (spelled r.pieces) ≡ at
read_len bytes at r = sym (ap length r.whole) ∙ length-take-le at bytes r.within

-- a refusal of a text stands where its pieces end
pub refusal_here : (bytes : List ℕ) (at : ℕ) (fault : LexFault) → IsReadUpTo bytes at
    → Refuses bytes fault → IsRefusal (drop at bytes) at fault
refusal_here bytes at fault r o =
    let joined : spelled r.pieces ++ drop at bytes ≡ spelled o.pieces ++ o.rest =
    ap (λ ys. ys ++ drop at bytes) (sym r.whole) ∙ (take-append-drop at bytes ∙ o.whole) in
    let same = one_reading r.pieces o.pieces (drop at bytes) o.rest r.each o.each (stops_where_none (drop at bytes) r.stops) (refusal_stops o.rest _ fault o.refusal) joined in
    let here : length (spelled o.pieces) ≡ at = ap (λ ps. length (spelled ps)) (sym same.0) ∙ read_len bytes at r in
    subst (λ (n : ℕ). IsRefusal (drop at bytes) n fault) here (subst (λ (ys : List ℕ). IsRefusal ys (length (spelled o.pieces)) fault) (sym same.1) o.refusal)

-- the first refusal there is the fault of the text
pub fault_is : (bytes : List ℕ) (at : ℕ) (fault : LexFault) → IsReadUpTo bytes at
    → IsFirstRefusal (drop at bytes) at fault → IsFault bytes fault
fault_is bytes at fault r f = record {
  here = record {
    pieces = r.pieces;
    rest = drop at bytes;
    each = r.each;
    whole = sym (take-append-drop at bytes) ∙ ap (λ ys. ys ++ drop at bytes) r.whole;
    refusal = subst (λ (n : ℕ). IsRefusal (drop at bytes) n fault) (sym (read_len bytes at r)) f.here;
  };
  smallest = λ other o. f.smallest other (refusal_here bytes at other r o);
}

-- the first refusal there, where there is one, is the fault of the text
pub found_is : (bytes : List ℕ) (at : ℕ) (found : Option LexFault) → IsReadUpTo bytes at
    → IfSome found (λ fault. IsFirstRefusal (drop at bytes) at fault)
    → IfSome found (λ fault. IsFault bytes fault)
found_is bytes at None r f = tt
found_is bytes at (Some fault) r f = fault_is bytes at fault r f

-- where there is none, the text has no fault
pub none_is : (bytes : List ℕ) (at : ℕ) (found : Option LexFault) → IsReadUpTo bytes at
    → IfNone found ((fault : LexFault) → IsRefusal (drop at bytes) at fault → ⊥)
    → IfNone found ((fault : LexFault) → IsFault bytes fault → ⊥)
none_is bytes at None r none = λ fault f. none fault (refusal_here bytes at fault r f.here)
none_is bytes at (Some fault) r none = tt
