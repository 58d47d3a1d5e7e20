-- A Name or a Text, a quote without an end, and a byte that may not be quoted.
use Rattle.std.proofs.Common.{◌≡◌, ℕ, ◌+◌, true, false, not, List, [], ◌∷◌, ◌++◌, length, take, Ok, Err, refl, sym, ap, ◌∙◌, inl, inr, ◌⊎◌, arith, append_assoc, eq-eqb, length-append, cond}
use Rattle.std.specs.Prelude.{◌==◌, nat_lt}
use Rattle.std.proofs.lemmas.Bool.{cond_both, eqb-true, false≢true, ltb-true, ltb-false, not-false}
use Rattle.std.proofs.lemmas.List.{take_at, append-nil}
use Rattle.std.specs.List.{list_all, list_any, prefix_len, position_or_len}
use Rattle.stil_lex.specs.Bytes.{may_be_quoted}
use Rattle.text_bytes.specs.Bytes.{begins_with}
use Rattle.stil_lex.specs.Pieces.{IsToken, IsQuoted}
use Rattle.stil_lex.specs.Faults.{is_quote}
use Rattle.stil_lex.specs.Step.{a_token, quoted_front}
use Rattle.stil_lex.specs.declared.token.TokenKind.{TokenKind}
use Rattle.stil_lex.specs.declared.fault.LexFault.TheVariants.{BadByte, OpenQuote}
use Rattle.text_bytes.proofs.Spans.{span, list_any-not}
use Rattle.stil_lex.proofs.Found.{IsSo}

-- a text ends, or has a first such byte
pub record FirstQuote (quote : ℕ) (rest : List ℕ) : Type 0 where
  pub body : List ℕ
  pub after : List ℕ
  pub spelled : rest ≡ body ++ quote ∷ after
  pub first : list_any (λ b. b == quote) body ≡ false
  pub place : position_or_len (λ b. b == quote) rest ≡ length body

pub quote_cases : (quote : ℕ) (rest : List ℕ)
    → FirstQuote quote rest ⊎ ((list_any (λ b. b == quote) rest ≡ false) × (position_or_len (λ b. b == quote) rest ≡ length rest))
quote_cases quote rest =
    let s = span (λ b. not (b == quote)) rest in
    from_span s.front s.back s.spelled s.each s.stops s.len
  where
    from_span : (front back : List ℕ) → rest ≡ front ++ back → list_all (λ b. not (b == quote)) front ≡ true → begins_with (λ b. not (b == quote)) back ≡ false
        → position_or_len (λ b. b == quote) rest ≡ length front
        → FirstQuote quote rest ⊎ ((list_any (λ b. b == quote) rest ≡ false) × (position_or_len (λ b. b == quote) rest ≡ length rest))
    from_span front [] spelled each stops len =
        let same : rest ≡ front = spelled ∙ append-nil front in
        inr (ap (list_any (λ b. b == quote)) same ∙ list_any-not (λ b. b == quote) front each, len ∙ ap length (sym same))
    from_span front (b ∷ after) spelled each stops len =
        let is_it : b ≡ quote = eqb-true b quote (not-false (b == quote) stops) in
        inl record {
          body = front;
          after = after;
          spelled = spelled ∙ ap (λ q. front ++ q ∷ after) is_it;
          first = list_any-not (λ b. b == quote) front each;
          place = len;
        }

-- a closed quote whose bytes may be quoted is a token; else its first bad byte is refused
pub closed_quote_is_so : (at quote : ℕ) (kind : TokenKind) (body after : List ℕ) → is_quote quote ≡ true
    → ((text behind : List ℕ) → IsQuoted quote text → IsToken kind text behind)
    → list_any (λ b. b == quote) body ≡ false
    → IsSo (quote ∷ (body ++ quote ∷ after)) at
    (cond (nat_lt (prefix_len may_be_quoted body) (length body)) (Err (BadByte (at + 1 + prefix_len may_be_quoted body))) (Ok (a_token kind (length body + 2))))
closed_quote_is_so at quote kind body after quotes is_kind first =
    let s = span may_be_quoted body in
    from_span s.front s.back s.spelled s.each s.stops s.len
  where
    from_span : (front back : List ℕ) → body ≡ front ++ back → list_all may_be_quoted front ≡ true → begins_with may_be_quoted back ≡ false
        → prefix_len may_be_quoted body ≡ length front
        → IsSo (quote ∷ (body ++ quote ∷ after)) at
        (cond (nat_lt (prefix_len may_be_quoted body) (length body)) (Err (BadByte (at + 1 + prefix_len may_be_quoted body))) (Ok (a_token kind (length body + 2))))
    from_span front [] spelled each stops len =
        let same : body ≡ front = spelled ∙ append-nil front in
        let all : prefix_len may_be_quoted body ≡ length body = len ∙ ap length (sym same) in
        cond_both (nat_lt (prefix_len may_be_quoted body) (length body)) (Err (BadByte (at + 1 + prefix_len may_be_quoted body))) (Ok (a_token kind (length body + 2)))
        (IsSo (quote ∷ (body ++ quote ∷ after)) at)
        (λ less. absurd (omega (arith, ltb-true (prefix_len may_be_quoted body) (length body) less)))
        (λ _. record {
          by = quote ∷ (body ++ quote ∷ []);
          after = after;
          spelled = simp append_assoc;
          is_len = simp length-append (omega arith);
          piece = is_kind (quote ∷ (body ++ quote ∷ [])) after (record { body = body; spelled = refl; first = first; each = rw same each });
        })
    from_span front (b ∷ back) spelled each stops len =
        let long = ap length spelled ∙ length-append front (b ∷ back) in
        cond_both (nat_lt (prefix_len may_be_quoted body) (length body)) (Err (BadByte (at + 1 + prefix_len may_be_quoted body))) (Ok (a_token kind (length body + 2)))
        (IsSo (quote ∷ (body ++ quote ∷ after)) at)
        (λ _. inr (
          prefix_len may_be_quoted body,
          refl,
          record {
            quote = quote;
            front = front;
            byte = b;
            back = back;
            after = after;
            spelled = ap (λ ys. quote ∷ (ys ++ quote ∷ after)) spelled;
            quotes = quotes;
            first = rw (sym spelled) first;
            bad = stops;
            place = len;
          },
        ))
        (λ more. absurd (omega (arith, ltb-false (prefix_len may_be_quoted body) (length body) more, long)))

-- a quote is found as it is
pub quoted_is_so : (at quote : ℕ) (kind : TokenKind) (rest : List ℕ) → is_quote quote ≡ true
    → ((text behind : List ℕ) → IsQuoted quote text → IsToken kind text behind)
    → IsSo (quote ∷ rest) at (quoted_front at quote kind rest)
unfolding quoted_front
quoted_is_so at quote kind rest quotes is_kind =
    let n = position_or_len (λ b. b == quote) rest in
    let closed = cond (nat_lt (prefix_len may_be_quoted (take n rest)) n) (Err (BadByte (at + 1 + prefix_len may_be_quoted (take n rest)))) (Ok (a_token kind (n + 2))) in
    elim (quote_cases quote rest) [
      | inl f ↦
          cond_both (n == length rest) (Err (OpenQuote at)) closed (IsSo (quote ∷ rest) at)
          (λ all. absurd (omega (arith, f.place, eqb-true n (length rest) all, ap length f.spelled ∙ length-append f.body (quote ∷ f.after))))
          (λ _.
          let front : take n rest ≡ f.body = ap (λ ys. take n ys) f.spelled ∙ take_at f.body (quote ∷ f.after) n (sym f.place) in
          rw (front, f.place, f.spelled) (closed_quote_is_so at quote kind f.body f.after quotes is_kind f.first))
      | inr n_one ↦
          cond_both (n == length rest) (Err (OpenQuote at)) closed (IsSo (quote ∷ rest) at)
          (λ _. (refl, record { quote = quote; after = rest; spelled = refl; quotes = quotes; no_end = n_one.0 }))
          (λ fails. absurd (false≢true (sym fails ∙ eq-eqb n (length rest) n_one.1)))
    ]
