-- A word, and the annotation that the word `Ann` opens.
use Rattle.std.proofs.Common.{◌≡◌, ℕ, ◌+◌, ◌<◌, true, ◌&&◌, List, [], ◌∷◌, ◌++◌, length, take, drop, Ok, refl, sym, ap, ◌∙◌, inl, inr, arith, append_assoc, length-append, eqb}
use Rattle.std.specs.Prelude.{nat_lt}
use Rattle.std.proofs.lemmas.Bool.{cond_both, cond-true, cond-false, eqb-true, false≢true, and_parts, and_from, lt-ltb, ltb-true, cases_Bool}
use Rattle.std.proofs.lemmas.List.{drop_at, take_at}
use Rattle.std.specs.List.{list_all, prefix_len}
use Rattle.stil_lex.specs.Bytes.{starts_pair, star, open_brace, close_brace}
use Rattle.text_bytes.specs.Bytes.{begins_with, is_blank, is_word}
use Rattle.stil_lex.specs.Pieces.{IsGap.annotation, OpensAnnotation, ann}
use Rattle.stil_lex.specs.Step.{a_token, closed_front, word_front, mark_len, is_ann}
use Rattle.stil_lex.specs.declared.token.TokenKind.TheVariants.{Word}
use Rattle.stil_lex.proofs.Pairs.{starts_pair_is}
use Rattle.text_bytes.proofs.Spans.{span, prefix_len-span}
use Rattle.stil_lex.proofs.Found.{IsSo, closed_is_so}

-- the test of the word is right
pub is_ann_is : (text : List ℕ) → is_ann text ≡ true → text ≡ ann
is_ann_is [] h = absurd (false≢true h)
is_ann_is (x ∷ []) h = absurd (false≢true h)
is_ann_is (x ∷ y ∷ []) h = absurd (false≢true h)
is_ann_is (x ∷ y ∷ z ∷ []) h =
    let parts = and_parts (eqb x 65 && eqb y 110) (eqb z 110) h in
    let front = and_parts (eqb x 65) (eqb y 110) parts.0 in
    let first = eqb-true x 65 front.0 in
    let second = eqb-true y 110 front.1 in
    let third = eqb-true z 110 parts.1 in
    cc
is_ann_is (x ∷ y ∷ z ∷ w ∷ more) h = absurd (false≢true h)

-- an annotation's opening is as long as its blanks and its mark
pub mark_len-blanks : (blanks rest : List ℕ) → list_all is_blank blanks ≡ true → mark_len (blanks ++ open_brace ∷ star ∷ rest) ≡ length blanks + 2
unfolding mark_len is_blank
mark_len-blanks blanks rest are_blank =
    let text = blanks ++ open_brace ∷ star ∷ rest in
    let len : prefix_len is_blank text ≡ length blanks = prefix_len-span is_blank blanks (open_brace ∷ star ∷ rest) are_blank refl in
    let behind : drop (prefix_len is_blank text) text ≡ open_brace ∷ star ∷ rest = drop_at blanks (open_brace ∷ star ∷ rest) _ (sym len) in
    rw (behind, len)

-- the same of any text that opens an annotation
pub mark_len-opens : (text : List ℕ) (o : OpensAnnotation text) → mark_len text ≡ length o.blanks + 2
mark_len-opens text o = ap mark_len o.spelled ∙ mark_len-blanks o.blanks o.rest o.are_blank

-- the other way, a text with such an opening opens an annotation
pub record Opened (text : List ℕ) : Type 0 where
  pub opens : OpensAnnotation text
  pub len : mark_len text ≡ length opens.blanks + 2

pub opened_from_mark : (text : List ℕ) → 0 < mark_len text → Opened text
unfolding mark_len
opened_from_mark text h =
    let s = span is_blank text in
    let behind : drop (prefix_len is_blank text) text ≡ s.back = rw s.len (ap (λ ys. drop (length s.front) ys) s.spelled ∙ drop_at s.front s.back _ refl) in
    elim (cases_Bool (starts_pair open_brace star (drop (prefix_len is_blank text) text))) [
      | inl opens ↦
          let found = starts_pair_is open_brace star s.back (rw behind at opens) in
          record {
            opens = record { blanks = s.front; rest = found.0; spelled = s.spelled ∙ ap (λ ys. s.front ++ ys) found.1; are_blank = s.each };
            len = cond-true _ _ _ opens ∙ ap (λ n. n + 2) s.len;
          }
      | inr fails ↦
          let none = cond-false (starts_pair open_brace star (drop (prefix_len is_blank text) text)) (prefix_len is_blank text + 2) 0 fails in
          absurd (omega arith)
    ]

-- an annotation is found as it is
pub annotation_is_so : (at n : ℕ) (text behind : List ℕ) (o : OpensAnnotation behind) → text ≡ ann ++ behind → n ≡ 3 + (length o.blanks + 2)
    → IsSo text at (closed_front at n star close_brace text)
annotation_is_so at n text behind o spelled is_n =
    let mark = o.blanks ++ open_brace ∷ star ∷ [] in
    let opening = ann ++ mark in
    let joined : behind ≡ mark ++ o.rest = o.spelled ∙ simp append_assoc in
    let whole : text ≡ opening ++ o.rest = spelled ∙ ap (λ ys. ann ++ ys) joined in
    rw whole (closed_is_so at n star close_brace opening o.rest (simp length-append (omega arith))
    (λ by after e closed. annotation record {
      behind = mark ++ by;
      spelled = refl;
      opens = record { blanks = o.blanks; rest = by; spelled = simp append_assoc; are_blank = o.are_blank };
      closed = closed;
    })
    (λ n_one. (
      refl,
      inr record {
        behind = mark ++ o.rest;
        spelled = refl;
        opens = record { blanks = o.blanks; rest = o.rest; spelled = simp append_assoc; are_blank = o.are_blank };
        no_end = n_one;
      },
    )))

-- a word or an annotation is found as it is
pub word_is_so : (at : ℕ) (text : List ℕ) → begins_with is_word text ≡ true → IsSo text at (word_front at text)
unfolding word_front
word_is_so at text starts =
    let s = span is_word text in
    let front : take (prefix_len is_word text) text ≡ s.front = rw s.len (ap (λ ys. take (length s.front) ys) s.spelled ∙ take_at s.front s.back _ refl) in
    let not_empty : s.front ≡ [] → ⊥ = λ empty. false≢true (sym s.stops ∙ ap (begins_with is_word) (sym (s.spelled ∙ ap (λ ys. ys ++ s.back) empty)) ∙ starts) in
    let behind : s.front ≡ ann → drop 3 text ≡ s.back = λ e. ap (drop 3) (s.spelled ∙ ap (λ ys. ys ++ s.back) e) in
    let test = is_ann (take (prefix_len is_word text) text) && nat_lt 0 (mark_len (drop 3 text)) in
    cond_both test (closed_front at (3 + mark_len (drop 3 text)) star close_brace text) (Ok (a_token Word (prefix_len is_word text))) (IsSo text at)
    (λ passes.
    let parts = and_parts (is_ann (take (prefix_len is_word text) text)) (nat_lt 0 (mark_len (drop 3 text))) passes in
    let is_it : s.front ≡ ann = sym front ∙ is_ann_is _ parts.0 in
    let o = opened_from_mark (drop 3 text) (ltb-true 0 (mark_len (drop 3 text)) parts.1) in
    annotation_is_so at (3 + mark_len (drop 3 text)) text (drop 3 text) o.opens (s.spelled ∙ ap (λ ys. ys ++ s.back) is_it ∙ ap (λ ys. ann ++ ys) (sym (behind is_it))) (ap (λ n. 3 + n) o.len))
    (λ fails. record {
      by = s.front;
      after = s.back;
      spelled = s.spelled;
      is_len = s.len;
      piece = record {
        not_empty = not_empty;
        each = s.each;
        longest = s.stops;
        no_annotation = λ e o.
            let is_it = ap is_ann (front ∙ e) in
            let marked : 0 < mark_len (drop 3 text) = rw (ap mark_len (behind e)) (omega (arith, mark_len-opens s.back o)) in
            false≢true (sym fails ∙ and_from (is_ann (take (prefix_len is_word text) text)) (nat_lt 0 (mark_len (drop 3 text))) is_it (lt-ltb 0 (mark_len (drop 3 text)) marked));
      };
    })
