-- The plain slow reader of the open block: the tokens that end a statement outside all braces.
use Rattle.std.proofs.Common.{◌≡◌, ◌⊎◌, ℕ, ◌+◌, ◌≤◌, ◌<◌, true, List, ◌∷◌, ◌++◌, length, take, drop, get_or, refl, sym, ap, ◌∙◌, subst, inl, inr, arith, length-append}
use Rattle.std.proofs.lemmas.Bool.{cases_order}
use Rattle.std.proofs.lemmas.List.{drop_more, take-append-drop, length-take-le}
use Rattle.stil_lex.specs.declared.token.Token.{Token}
use Rattle.stil_tree.specs.Signs.{semicolon, close_brace, is_sign}
use Rattle.stil_tree.specs.Blocks.{open_braces, EndsStatement, BeginsAt}

-- a token is an end, by the braces that are open before it
abbrev pub Ends : List Token → Token → Type 0
Ends front t = ((is_sign semicolon t ≡ true) × (open_braces front ≡ 0)) ⊎ ((is_sign close_brace t ≡ true) × (open_braces front ≡ 1))

-- a token that is one stands at the index of an end
pub at-ends : (tokens : List Token) (index : ℕ) (d : Token) → index < length tokens
    → Ends (take index tokens) (get_or tokens index d) → EndsStatement tokens index
at-ends tokens index d below ends = record {
  front = take index tokens;
  token = get_or tokens index d;
  back = drop (index + 1) tokens;
  spelled = sym (take-append-drop index tokens) ∙ ap (λ ts. take index tokens ++ ts) (drop_more tokens index d below);
  place = sym (length-take-le index tokens (omega arith));
  ends = ends;
}

-- the last end among so many tokens is known: the open statement begins behind it
pub record IsLast (tokens : List Token) (read start : ℕ) : Type 0 where
  pub within : start ≤ read
  pub after_end : (start ≡ 0) ⊎ ((before : ℕ) × (start ≡ before + 1) × EndsStatement tokens before)
  pub no_later : (index : ℕ) → start ≤ index → index < read → EndsStatement tokens index → ⊥

-- at a token that ends the statement
pub last-end : (tokens : List Token) (read start : ℕ) → EndsStatement tokens read → IsLast tokens (read + 1) (read + 1)
last-end tokens read start ends = record {
  within = omega arith;
  after_end = inr (read, refl, ends);
  no_later = λ index above before e. absurd (omega (arith, above, before));
}

-- at one that doesn't
pub last-on : (tokens : List Token) (read start : ℕ) → IsLast tokens read start → (EndsStatement tokens read → ⊥)
    → IsLast tokens (read + 1) start
last-on tokens read start l goes = record {
  within = omega (arith, l.within);
  after_end = l.after_end;
  no_later = λ index above below e.
      elim (cases_order index read) [
        | inl same ↦ goes (subst (λ (n : ℕ). EndsStatement tokens n) same e)
        | inr (inl less) ↦ l.no_later index above less e
        | inr (inr more) ↦ omega (arith, below, more)
      ];
}

-- at the end
pub last-done : (tokens : List Token) (start : ℕ) → IsLast tokens (length tokens) start → BeginsAt tokens start
last-done tokens start l = record {
  within = l.within;
  after_end = l.after_end;
  still_open = λ index above e.
      let long = ap length e.spelled ∙ length-append e.front (e.token ∷ e.back) in
      l.no_later index above (omega (arith, long, e.place)) e;
}
