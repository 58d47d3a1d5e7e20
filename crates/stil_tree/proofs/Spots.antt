-- The statement that is open outside all braces, a token at a time.
use Rattle.std.proofs.Common.{◌≡◌, ◌⊎◌, ℕ, ◌+◌, ◌-◌, ◌<◌, true, false, List, [], ◌∷◌, ◌++◌, length, take, get_or, refl, sym, ap, ◌∙◌, subst, inl, inr, arith, length-append, append_assoc}
use Rattle.std.proofs.lemmas.Bool.{cond-true, cond-false, cases_order, false≢true}
use Rattle.std.proofs.lemmas.List.{same_from_push, length_push, take_more}
use Rattle.std.proofs.lemmas.List.Sums.{fold_push}
use Rattle.stil_lex.specs.declared.token.Token.{Token}
use Rattle.stil_tree.specs.Signs.{semicolon, open_brace, close_brace, is_sign}
use Rattle.stil_tree.specs.Blocks.{braces_behind, open_braces, EndsStatement, BeginsAt}
use Rattle.stil_tree.specs.declared.block.Spot.{Spot}
use Rattle.stil_tree.specs.Step.{IsSpot}
use Rattle.stil_tree.proofs.Steps.{is_kind-other}

-- a list is empty, or has a last element
pub record IsPush {A : Type 0} (xs : List A) : Type 0 where
  pub front : List A
  pub last : A
  pub spelled : xs ≡ front ++ last ∷ []

pub push_cases : {A : Type 0} (xs : List A) → (xs ≡ []) ⊎ IsPush xs
push_cases [] = inl refl
push_cases (x ∷ xs) =
    elim (push_cases xs) [
      | inl e ↦ inr record { front = []; last = x; spelled = ap (λ ys. x ∷ ys) e }
      | inr p ↦ inr record { front = x ∷ p.front; last = p.last; spelled = ap (λ ys. x ∷ ys) p.spelled }
    ]

-- the token ends the statement that is open behind these tokens
abbrev pub Ends : List Token → Token → Type 0
Ends xs t = ((is_sign semicolon t ≡ true) × (open_braces xs ≡ 0)) ⊎ ((is_sign close_brace t ≡ true) × (open_braces xs ≡ 1))

-- an end stays one behind more tokens
pub ends-push : (xs : List Token) (t : Token) (index : ℕ) → EndsStatement xs index → EndsStatement (xs ++ t ∷ []) index
ends-push xs t index e = record {
  front = e.front;
  token = e.token;
  back = e.back ++ t ∷ [];
  spelled = ap (λ ys. ys ++ t ∷ []) e.spelled ∙ append_assoc e.front (e.token ∷ e.back) (t ∷ []);
  place = e.place;
  ends = e.ends;
}

-- an end is the last token, or one before it
pub ends_cases : (xs : List Token) (t : Token) (index : ℕ) → EndsStatement (xs ++ t ∷ []) index → ((index ≡ length xs) × Ends xs t) ⊎ EndsStatement xs index
ends_cases xs t index e =
    elim (push_cases e.back) [
      | inl none ↦
          let same = same_from_push xs e.front t e.token (e.spelled ∙ ap (λ ys. e.front ++ e.token ∷ ys) none) in
          let front : e.front ≡ xs = sym same.0 in
          let token : e.token ≡ t = sym same.1 in
          inl (e.place ∙ ap length front, subst (λ (ys : List Token). Ends ys t) front (subst (Ends e.front) token e.ends))
      | inr p ↦
          let whole : xs ++ t ∷ [] ≡ e.front ++ e.token ∷ p.front ++ p.last ∷ [] =
          e.spelled ∙ (ap (λ ys. e.front ++ e.token ∷ ys) p.spelled ∙ sym (append_assoc e.front (e.token ∷ p.front) (p.last ∷ []))) in
          inr record {
            front = e.front;
            token = e.token;
            back = p.front;
            spelled = (same_from_push xs (e.front ++ e.token ∷ p.front) t p.last whole).0;
            place = e.place;
            ends = e.ends;
          }
    ]

-- an end stands within the tokens
pub ends_below : (xs : List Token) (index : ℕ) → EndsStatement xs index → index < length xs
ends_below xs index e = omega (arith, e.place, ap length e.spelled ∙ length-append e.front (e.token ∷ e.back))

-- behind no token
pub begins-start : BeginsAt [] 0
begins-start = record { within = omega arith; after_end = inl refl; still_open = λ index above e. absurd (omega (arith, ends_below [] index e)) }

-- behind a token that ends the statement
pub begins-end : (xs : List Token) (t : Token) → Ends xs t → BeginsAt (xs ++ t ∷ []) (length xs + 1)
begins-end xs t ends = record {
  within = omega (arith, length_push xs t);
  after_end = inr (length xs, refl, record { front = xs; token = t; back = []; spelled = refl; place = refl; ends = ends });
  still_open = λ index above e. absurd (omega (arith, ends_below (xs ++ t ∷ []) index e, length_push xs t));
}

-- behind a token that doesn't
pub begins-on : (xs : List Token) (t : Token) (start : ℕ) → BeginsAt xs start → (Ends xs t → ⊥) → BeginsAt (xs ++ t ∷ []) start
begins-on xs t start b goes = record {
  within = let long = length_push xs t in let within = b.within in omega arith;
  after_end = elim b.after_end [ inl e ↦ inl e | inr e ↦ inr (e.0, e.1, ends-push xs t e.0 e.2) ];
  still_open = λ index above e. elim (ends_cases xs t index e) [ inl last ↦ goes last.1 | inr before ↦ b.still_open index above before ];
}

-- a spot of a token
abbrev pub IsNext : List Token → Spot → Type 0
IsNext tokens s = IsSpot tokens s.start s.braces

pub spot-start : IsSpot [] 0 0
spot-start = record { begins = begins-start; are_open = refl }

-- the braces behind one token more, by the token
pub braces-push : (xs : List Token) (t : Token) → open_braces (xs ++ t ∷ []) ≡ braces_behind (open_braces xs) t
braces-push xs t = fold_push braces_behind 0 xs t

-- a spot where no statement ends
pub spot-on : (xs : List Token) (t : Token) (start braces behind : ℕ) → IsSpot xs start braces → (Ends xs t → ⊥)
    → behind ≡ braces_behind braces t → IsSpot (xs ++ t ∷ []) start behind
spot-on xs t start braces behind s goes is =
    record { begins = begins-on xs t start s.begins goes; are_open = is ∙ (ap (λ n. braces_behind n t) s.are_open ∙ sym (braces-push xs t)) }

-- a spot where one does
pub spot-end : (xs : List Token) (t : Token) (start braces behind : ℕ) → IsSpot xs start braces → Ends xs t
    → behind ≡ braces_behind braces t → IsSpot (xs ++ t ∷ []) (length xs + 1) behind
spot-end xs t start braces behind s ends is =
    record { begins = begins-end xs t ends; are_open = is ∙ (ap (λ n. braces_behind n t) s.are_open ∙ sym (braces-push xs t)) }

-- behind a `{`
pub spot-open : (xs : List Token) (t : Token) (start braces : ℕ) → is_sign open_brace t ≡ true → IsSpot xs start braces
    → IsSpot (xs ++ t ∷ []) start (braces + 1)
spot-open xs t start braces is s =
    let n_end : is_sign semicolon t ≡ false = is_kind-other open_brace semicolon t.kind is refl in
    let n_close : is_sign close_brace t ≡ false = is_kind-other open_brace close_brace t.kind is refl in
    spot-on xs t start braces (braces + 1) s
    (λ e. elim e [ inl a ↦ false≢true (sym n_end ∙ a.0) | inr b ↦ false≢true (sym n_close ∙ b.0) ])
    (sym (cond-true (is_sign open_brace t) (braces + 1) _ is))

-- the braces behind a `}`
pub braces-close : (t : Token) (braces : ℕ) → is_sign close_brace t ≡ true → braces - 1 ≡ braces_behind braces t
braces-close t braces is =
    let n_open : is_sign open_brace t ≡ false = is_kind-other close_brace open_brace t.kind is refl in
    sym (cond-false (is_sign open_brace t) (braces + 1) _ n_open ∙ cond-true (is_sign close_brace t) (braces - 1) braces is)

-- behind a `}` that closes the last open brace
pub spot-close : (xs : List Token) (t : Token) (start braces : ℕ) → is_sign close_brace t ≡ true → braces ≡ 1
    → IsSpot xs start braces → IsSpot (xs ++ t ∷ []) (length xs + 1) (braces - 1)
spot-close xs t start braces is one s =
    spot-end xs t start braces (braces - 1) s (inr (is, sym s.are_open ∙ one)) (braces-close t braces is)

-- behind one that doesn't
pub spot-inner : (xs : List Token) (t : Token) (start braces : ℕ) → is_sign close_brace t ≡ true → (braces ≡ 1 → ⊥)
    → IsSpot xs start braces → IsSpot (xs ++ t ∷ []) start (braces - 1)
spot-inner xs t start braces is other s =
    let n_end : is_sign semicolon t ≡ false = is_kind-other close_brace semicolon t.kind is refl in
    spot-on xs t start braces (braces - 1) s
    (λ e. elim e [ inl a ↦ false≢true (sym n_end ∙ a.0) | inr b ↦ other (s.are_open ∙ b.1) ])
    (braces-close t braces is)

-- the braces behind a token that is none
pub braces-other : (t : Token) (braces : ℕ) → is_sign open_brace t ≡ false → is_sign close_brace t ≡ false
    → braces ≡ braces_behind braces t
braces-other t braces n_open n_close =
    sym (cond-false (is_sign open_brace t) (braces + 1) _ n_open ∙ cond-false (is_sign close_brace t) (braces - 1) braces n_close)

-- behind any other token
pub spot-other : (xs : List Token) (t : Token) (start braces : ℕ) → is_sign open_brace t ≡ false → is_sign close_brace t ≡ false
    → (is_sign semicolon t ≡ true → braces ≡ 0 → ⊥) → IsSpot xs start braces → IsSpot (xs ++ t ∷ []) start braces
spot-other xs t start braces n_open n_close goes s =
    spot-on xs t start braces braces s
    (λ e. elim e [ inl a ↦ goes a.0 (s.are_open ∙ a.1) | inr b ↦ false≢true (sym n_close ∙ b.0) ])
    (braces-other t braces n_open n_close)

-- a statement does not begin where one that is open later ended
pub begins_later : (tokens : List Token) (first last : ℕ) → BeginsAt tokens first → BeginsAt tokens last → first < last → ⊥
begins_later tokens first last p q less =
    elim q.after_end [
      | inl none ↦ absurd (omega (arith, none, less))
      | inr e ↦ p.still_open e.0 (omega (arith, e.1, less)) e.2
    ]

-- the start of the open statement is one
pub one_start : (tokens : List Token) (start other : ℕ) → BeginsAt tokens start → BeginsAt tokens other → start ≡ other
one_start tokens start other b c =
    elim (cases_order start other) [
      | inl e ↦ e
      | inr differs ↦
          elim differs [
            | inl less ↦ absurd (begins_later tokens start other b c less)
            | inr more ↦ absurd (begins_later tokens other start c b more)
          ]
    ]

-- a loop over the tokens
pub goes_on : (tokens : List Token) (at : ℕ) (d : Token) (next : Spot) → at < length tokens
    → IsNext (take at tokens ++ get_or tokens at d ∷ []) next → IsNext (take (at + 1) tokens) next
goes_on tokens at d next below more = subst (λ (ts : List Token). IsNext ts next) (sym (take_more tokens at d below)) more
