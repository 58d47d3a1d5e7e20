-- One step of the code, by the token.
use Rattle.std.proofs.Common.{◌≡◌, ℕ, ◌+◌, ◌-◌, ◌<◌, true, false, ◌||◌, List, ◌∷◌, length, refl, ap, ◌∙◌, arith, eq-eqb, ne_eqb, eqb}
use Rattle.std.specs.Prelude.{◌==◌}
use Rattle.std.proofs.lemmas.Bool.{cond-true, cond-false, eqb-true, false≢true, or_parts}
use Rattle.stil_lex.specs.declared.token.Token.{Token}
use Rattle.stil_lex.specs.declared.token.TokenKind.{TokenKind}
use Rattle.stil_lex.specs.declared.token.TokenKind.TheVariants.{Word, Name, Text, Sign}
use Rattle.stil_tree.specs.Signs.{semicolon, open_brace, close_brace, is_kind, is_sign, is_delimiter}
use Rattle.stil_tree.specs.Trees.{Trees, end, block}
use Rattle.stil_tree.specs.Grammar.{most_levels}
use Rattle.stil_tree.specs.Step.{join, Frame, going, failed, ended_by, closed, step}
use Rattle.stil_tree.specs.declared.fault.TreeFault.TheVariants.{OpenStatement, TooDeep}

-- a sign is no other sign
pub is_kind-other : (byte other : ℕ) (kind : TokenKind) → is_kind byte kind ≡ true → eqb byte other ≡ false → is_kind other kind ≡ false
is_kind-other byte other Word is differs = absurd (false≢true is)
is_kind-other byte other Name is differs = absurd (false≢true is)
is_kind-other byte other Text is differs = absurd (false≢true is)
is_kind-other byte other (Sign b) is differs = ap (λ c. eqb c other) (eqb-true b byte is) ∙ differs

-- a head token changes nothing
pub step-head : (at : ℕ) (frames : List Frame) (done : Trees) (first : ℕ) (t : Token) → is_delimiter t ≡ false
    → step at frames done first t ≡ going frames done first
unfolding step
step-head at frames done first t h =
    let parts = or_parts (is_sign semicolon t || is_sign open_brace t) (is_sign close_brace t) h in
    let both = or_parts (is_sign semicolon t) (is_sign open_brace t) parts.0 in
    rw (both.0, both.1, parts.1)

-- a `;` ends a statement
pub step-semicolon : (at : ℕ) (frames : List Frame) (done : Trees) (first : ℕ) (t : Token) → is_sign semicolon t ≡ true
    → step at frames done first t ≡ going frames (ended_by done first (at - first)) (at + 1)
unfolding step
step-semicolon at frames done first t is = rw is

-- a `{` opens a block
pub step-open : (at : ℕ) (frames : List Frame) (done : Trees) (first : ℕ) (t : Token) → is_sign open_brace t ≡ true → length frames < most_levels
    → step at frames done first t ≡ going (record { before = done; first = first; count = at - first } ∷ frames) end (at + 1)
unfolding step
step-open at frames done first t is few =
    let other : is_sign semicolon t ≡ false = is_kind-other open_brace semicolon t.kind is refl in
    let less : (length frames == most_levels) ≡ false = ne_eqb (length frames) most_levels (λ e. omega (arith, e)) in
    rw (other, is, less)

-- a `{` too many
pub step-deep : (at : ℕ) (frames : List Frame) (done : Trees) (first : ℕ) (t : Token) → is_sign open_brace t ≡ true → length frames ≡ most_levels
    → step at frames done first t ≡ failed (TooDeep at)
unfolding step
step-deep at frames done first t is many =
    let other : is_sign semicolon t ≡ false = is_kind-other open_brace semicolon t.kind is refl in
    let full : (length frames == most_levels) ≡ true = eq-eqb (length frames) most_levels many in
    rw (other, is, full)

-- a `}` closes a block, or is refused
pub step-close : (at : ℕ) (frames : List Frame) (done : Trees) (first : ℕ) (t : Token) → is_sign close_brace t ≡ true
    → step at frames done first t ≡ closed at frames done first
unfolding step
step-close at frames done first t is =
    let one : is_sign semicolon t ≡ false = is_kind-other close_brace semicolon t.kind is refl in
    let two : is_sign open_brace t ≡ false = is_kind-other close_brace open_brace t.kind is refl in
    rw (one, two, is)

-- a `}` behind a finished head closes the innermost block
pub closed-done : (at : ℕ) (f : Frame) (fs : List Frame) (done : Trees) (first : ℕ) → first ≡ at
    → closed at (f ∷ fs) done first ≡ going fs (join f.before (block f.first f.count done end)) (at + 1)
closed-done at f fs done first e = cond-true (first == at) _ _ (eq-eqb first at e)

-- a `}` behind an unfinished head is refused
pub closed-open : (at : ℕ) (f : Frame) (fs : List Frame) (done : Trees) (first : ℕ) → first < at → closed at (f ∷ fs) done first ≡ failed (OpenStatement first)
closed-open at f fs done first less =
    cond-false (first == at) (going fs (join f.before (block f.first f.count done end)) (at + 1)) (failed (OpenStatement first)) (ne_eqb first at (λ e. omega (arith, e, less)))
