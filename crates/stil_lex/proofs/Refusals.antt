-- A refusal of what stands at the front of a text is what `front_of` says, or stands behind it.
use Rattle.std.proofs.Common.{◌≡◌, ℕ, ◌+◌, ◌≤◌, ◌<◌, true, false, List, [], ◌∷◌, ◌++◌, length, take, Err, refl, sym, ap, subst, ◌∙◌, inl, inr, arith, eq-eqb, ne_eqb, length-append, eqb}
use Rattle.std.specs.Prelude.{◌==◌, nat_lt}
use Rattle.std.proofs.lemmas.Bool.{cond-true, cond-false, eqb-true, false≢true, or_cases, false_from_ne_true, lt-ltb}
use Rattle.std.proofs.lemmas.List.{drop_at, take_at}
use Rattle.std.specs.List.{list_all, list_any, prefix_len, position_or_len}
use Rattle.stil_lex.specs.Bytes.{has_pair, may_be_quoted, slash, star, open_brace, close_brace, double_quote, single_quote}
use Rattle.text_bytes.specs.Bytes.{is_word, is_blank, is_printing}
use Rattle.stil_lex.specs.Pieces.{ann}
use Rattle.stil_lex.specs.Faults.{is_quote, HasBadQuoted, IsRefusal, place}
use Rattle.stil_lex.specs.Step.{closed_front, quoted_front, sign_front, front_of, pair_place}
use Rattle.stil_lex.specs.declared.token.TokenKind.{TokenKind}
use Rattle.stil_lex.specs.declared.token.TokenKind.TheVariants.{Name, Text}
use Rattle.stil_lex.specs.declared.fault.LexFault.{LexFault}
use Rattle.stil_lex.specs.declared.fault.LexFault.TheVariants.{NoMemory, BadByte, OpenQuote, OpenComment}
use Rattle.stil_lex.proofs.Pairs.{pair_place-none}
use Rattle.text_bytes.proofs.Spans.{prefix_len-bad}
use Rattle.text_bytes.proofs.ByteLemmas.{is_printing-word}
use Rattle.stil_lex.proofs.Pieces.{position-quote, position-none, annotation_front}

-- the code finds a refusal that stands no later, and at the same place this one
pub record FindsFirst (text : List ℕ) (at : ℕ) (fault : LexFault) : Type 0 where
  pub found : LexFault
  pub is : front_of at text ≡ Err found
  pub no_later : place found ≤ place fault
  pub same : place found ≡ place fault → found ≡ fault

-- where the code finds just this refusal
pub finds_it : (text : List ℕ) (at : ℕ) (fault : LexFault) → front_of at text ≡ Err fault → FindsFirst text at fault
finds_it text at fault is = record { found = fault; is = is; no_later = omega arith; same = λ _. refl }

-- a stray byte is found
pub stray_is_found : (at b : ℕ) (after : List ℕ) → is_blank b ≡ false → is_printing b ≡ false → front_of at (b ∷ after) ≡ Err (BadByte at)
unfolding front_of is_printing
stray_is_found at b after n_blank n_print =
    let n_word : is_word b ≡ false = false_from_ne_true (is_word b) (λ is. false≢true (sym n_print ∙ is_printing-word b is)) in
    let n_double : (b == double_quote) ≡ false = false_from_ne_true (b == double_quote) (λ is. false≢true (sym n_print ∙ ap is_printing (eqb-true b double_quote is))) in
    let n_single : (b == single_quote) ≡ false = false_from_ne_true (b == single_quote) (λ is. false≢true (sym n_print ∙ ap is_printing (eqb-true b single_quote is))) in
    rw (n_word, n_blank, n_double, n_single, n_print)

-- a quote is read as the code reads quotes
pub quote_front : (at quote : ℕ) (after : List ℕ) → is_quote quote ≡ true
    → (kind : TokenKind) × (front_of at (quote ∷ after) ≡ quoted_front at quote kind after)
unfolding front_of is_word is_blank
quote_front at quote after quotes =
    elim (or_cases (quote == double_quote) (quote == single_quote) quotes) [
      | inl is ↦ (Name, subst (λ (q : ℕ). front_of at (q ∷ after) ≡ quoted_front at q Name after) (sym (eqb-true quote double_quote is)) refl)
      | inr is ↦ (Text, subst (λ (q : ℕ). front_of at (q ∷ after) ≡ quoted_front at q Text after) (sym (eqb-true quote single_quote is)) refl)
    ]

-- a quote without an end is found
pub open_quote_is_found : (at quote : ℕ) (kind : TokenKind) (after : List ℕ) → list_any (λ b. b == quote) after ≡ false
    → quoted_front at quote kind after ≡ Err (OpenQuote at)
unfolding quoted_front
open_quote_is_found at quote kind after n_end =
    cond-true (position_or_len (λ b. b == quote) after == length after) _ _ (eq-eqb _ _ (position-none (λ b. b == quote) after n_end))

-- in a closed quote the first bad byte is found
pub bad_quoted_is_found : (at quote : ℕ) (kind : TokenKind) (body after : List ℕ) → list_any (λ b. b == quote) body ≡ false
    → prefix_len may_be_quoted body < length body
    → quoted_front at quote kind (body ++ quote ∷ after) ≡ Err (BadByte (at + 1 + prefix_len may_be_quoted body))
unfolding quoted_front
bad_quoted_is_found at quote kind body after first bad =
    let rest = body ++ quote ∷ after in
    let n = position_or_len (λ b. b == quote) rest in
    let here : n ≡ length body = position-quote quote body after first in
    let front : take n rest ≡ body = take_at body (quote ∷ after) n (sym here) in
    let less : eqb n (length rest) ≡ false = ne_eqb _ _ (λ e. omega (arith, e, here, length-append body (quote ∷ after))) in
    cond-false (n == length rest) (Err (OpenQuote at)) _ less
    ∙ rw (front, here) (cond-true (nat_lt (prefix_len may_be_quoted body) (length body)) _ _ (lt-ltb _ _ bad))

-- a comment or an annotation without an end is found
pub open_closed_is_found : (at n first second : ℕ) (opening rest : List ℕ) → n ≡ length opening → has_pair first second rest ≡ false
    → closed_front at n first second (opening ++ rest) ≡ Err (OpenComment at)
unfolding closed_front
open_closed_is_found at n first second opening rest is_n n_end =
    rw (drop_at opening rest n (sym is_n))
    (cond-true (pair_place first second rest == length rest) _ _ (eq-eqb _ _ (pair_place-none first second rest n_end)))

-- a comment without an end is found
pub open_comment_is_found : (at : ℕ) (rest : List ℕ) → has_pair star slash rest ≡ false → front_of at (slash ∷ star ∷ rest) ≡ Err (OpenComment at)
unfolding front_of sign_front is_word is_blank is_printing
open_comment_is_found at rest n_end = open_closed_is_found at 2 star slash (slash ∷ star ∷ []) rest refl n_end

-- an annotation without an end is found
pub open_annotation_is_found : (at : ℕ) (blanks rest : List ℕ) → list_all is_blank blanks ≡ true → has_pair star close_brace rest ≡ false
    → front_of at (ann ++ (blanks ++ open_brace ∷ star ∷ rest)) ≡ Err (OpenComment at)
open_annotation_is_found at blanks rest are n_end =
    annotation_front at blanks rest are
    ∙ open_closed_is_found at (3 + (length blanks + 2)) star close_brace (ann ++ (blanks ++ open_brace ∷ star ∷ [])) rest (simp length-append (omega arith)) n_end

-- a bad byte in a closed quote, or one before it, is found
pub bad_quoted_finds : (text : List ℕ) (at fault_place skipped : ℕ) → fault_place ≡ at + 1 + skipped
    → HasBadQuoted text skipped → FindsFirst text at (BadByte fault_place)
bad_quoted_finds text at fault_place skipped is_place h =
    let body = h.front ++ h.byte ∷ h.back in
    let m = prefix_len may_be_quoted body in
    let early : m ≤ length h.front = prefix_len-bad may_be_quoted h.front h.back h.byte h.bad in
    let bad : m < length body = omega (arith, early, length-append h.front (h.byte ∷ h.back)) in
    let read = quote_front at h.quote (body ++ h.quote ∷ h.after) h.quotes in
    record {
      found = BadByte (at + 1 + m);
      is = ap (front_of at) h.spelled ∙ (read.1 ∙ bad_quoted_is_found at h.quote read.0 body h.after h.first bad);
      no_later = omega (arith, early, is_place, h.place);
      same = λ e. ap BadByte e;
    }

-- a refusal is found, or one before it
pub refusal_is_found : (text : List ℕ) (at : ℕ) (fault : LexFault) → IsRefusal text at fault → FindsFirst text at fault
refusal_is_found text at NoMemory h = absurd h
refusal_is_found text at (BadByte p) (inl h) =
    finds_it text at (BadByte p) (ap (front_of at) h.1.spelled ∙ (stray_is_found at h.1.byte h.1.after h.1.no_blank h.1.no_print ∙ ap (λ q. Err (BadByte q)) (sym h.0)))
refusal_is_found text at (BadByte p) (inr h) = bad_quoted_finds text at p h.0 h.1 h.2
refusal_is_found text at (OpenQuote p) h =
    let read = quote_front at h.1.quote h.1.after h.1.quotes in
    finds_it text at (OpenQuote p) (ap (front_of at) h.1.spelled ∙ (read.1 ∙ (open_quote_is_found at h.1.quote read.0 h.1.after h.1.no_end ∙ ap (λ q. Err (OpenQuote q)) (sym h.0))))
refusal_is_found text at (OpenComment p) (e, inl h) =
    finds_it text at (OpenComment p) (ap (front_of at) h.spelled ∙ (open_comment_is_found at h.after h.no_end ∙ ap (λ q. Err (OpenComment q)) (sym e)))
refusal_is_found text at (OpenComment p) (e, inr h) =
    finds_it text at (OpenComment p) (ap (front_of at) (h.spelled ∙ ap (λ ys. ann ++ ys) h.opens.spelled)
    ∙ (open_annotation_is_found at h.opens.blanks h.opens.rest h.opens.are_blank h.no_end ∙ ap (λ q. Err (OpenComment q)) (sym e)))
