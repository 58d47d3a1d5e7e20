-- Tokens up to their first delimiter, and behind it.
use Rattle.std.proofs.Common.{◌≡◌, ◌⊎◌, ℕ, ◌+◌, ◌<◌, true, not, List, [], ◌∷◌, ◌++◌, length, drop, get_or, refl, sym, ap, ◌∙◌, inl, inr, arith, length-append, append_assoc}
use Rattle.std.specs.List.{list_any, position_or_len}
use Rattle.std.proofs.lemmas.Bool.{or_from, cond-true, cond-false, cases_Bool}
use Rattle.std.proofs.lemmas.List.{drop_at, get_or_at}
use Rattle.stil_lex.specs.declared.token.Token.{Token}
use Rattle.stil_tree.specs.Signs.{is_delimiter}
use Rattle.stil_tree.specs.Grammar.{AreHead}

-- tokens are a head, or a head with a delimiter behind it
pub record FirstDelimiter (tokens : List Token) : Type 0 where
  pub head : List Token
  pub delimiter : Token
  pub rest : List Token
  pub spelled : tokens ≡ head ++ delimiter ∷ rest
  pub are_head : AreHead head
  pub is_it : is_delimiter delimiter ≡ true
  pub place : position_or_len is_delimiter tokens ≡ length head

pub delimiter_cases : (tokens : List Token) → FirstDelimiter tokens ⊎ (position_or_len is_delimiter tokens ≡ length tokens)
delimiter_cases [] = inr refl
delimiter_cases (t ∷ tokens) =
    elim (cases_Bool (is_delimiter t)) [
      | inl is ↦
          inl record {
            head = [];
            delimiter = t;
            rest = tokens;
            spelled = refl;
            are_head = refl;
            is_it = is;
            place = cond-false (not (is_delimiter t)) (1 + position_or_len is_delimiter tokens) 0 (ap not is);
          }
      | inr other ↦
          let step = cond-true (not (is_delimiter t)) (1 + position_or_len is_delimiter tokens) 0 (ap not other) in
          elim (delimiter_cases tokens) [
            | inl f ↦
                inl record {
                  head = t ∷ f.head;
                  delimiter = f.delimiter;
                  rest = f.rest;
                  spelled = ap (λ ts. t ∷ ts) f.spelled;
                  are_head = or_from (is_delimiter t) (list_any is_delimiter f.head) other f.are_head;
                  is_it = f.is_it;
                  place = step ∙ omega (arith, f.place);
                }
            | inr all ↦ inr (step ∙ omega (arith, all))
          ]
    ]

-- the first delimiter of tokens, where it is within them
pub record IsCut (tokens : List Token) (count : ℕ) (d : Token) : Type 0 where
  pub head : List Token
  pub rest : List Token
  pub spelled : tokens ≡ head ++ get_or tokens count d ∷ rest
  pub are_head : AreHead head
  pub count_is : count ≡ length head
  pub behind : drop (count + 1) tokens ≡ rest

pub cut : (tokens : List Token) (count : ℕ) (d : Token) → count ≡ position_or_len is_delimiter tokens → count < length tokens → IsCut tokens count d
cut tokens count d is below =
    elim (delimiter_cases tokens) [
      | inl f ↦
          let place : length f.head ≡ count = sym (is ∙ f.place) in
          let delimiter : get_or tokens count d ≡ f.delimiter = ap (λ ts. get_or ts count d) f.spelled ∙ get_or_at f.head f.delimiter f.rest d count place in
          let long : length (f.head ++ f.delimiter ∷ []) ≡ count + 1 = length-append f.head (f.delimiter ∷ []) ∙ omega (arith, place) in
          record {
            head = f.head;
            rest = f.rest;
            spelled = f.spelled ∙ ap (λ t. f.head ++ t ∷ f.rest) (sym delimiter);
            are_head = f.are_head;
            count_is = sym place;
            behind = ap (drop (count + 1)) (f.spelled ∙ sym (append_assoc f.head (f.delimiter ∷ []) f.rest)) ∙ drop_at (f.head ++ f.delimiter ∷ []) f.rest (count + 1) long;
          }
      | inr all ↦ absurd (omega (arith, is, all, below))
    ]
