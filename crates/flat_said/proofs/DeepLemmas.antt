-- Statements that nest too deep: what their tokens are refused for.
use Rattle.std.proofs.Common.{◌≡◌, ◌⊎◌, ℕ, suc, ◌+◌, ◌-◌, ◌<◌, ◌≤◌, Bool, true, false, ◌&&◌, List, [], ◌∷◌, ◌++◌, length, Ok, Err, refl, sym, ap, subst, ◌∙◌, arith, inl, inr}
use Rattle.std.specs.Prelude.{nat_lt}
use Rattle.std.proofs.lemmas.Bool.{and_parts, and_from, cases_lt, lt-ltb, true≢false}
use Rattle.stil_lex.specs.Tokens.{spelled, token_at, tokens_of}
use Rattle.stil_lex.specs.declared.token.Token.{Token}
use Rattle.stil_lex.specs.declared.token.TokenKind.TheVariants.{Sign}
use Rattle.stil_lex.proofs.Loop.{tokens_of-append}
use Rattle.stil_tree.specs.Signs.{semicolon, open_brace, close_brace, is_sign}
use Rattle.stil_tree.specs.Trees.{Trees, end, block}
use Rattle.stil_tree.specs.Grammar.{most_levels, AreHead, Parses}
use Rattle.stil_tree.specs.Faults.{IsFault}
use Rattle.stil_tree.specs.Step.{join, Frame, State, going, failed, ended_by, run, outcome, forest_of}
use Rattle.stil_tree.specs.declared.fault.TreeFault.{TreeFault}
use Rattle.stil_tree.specs.declared.fault.TreeFault.TheVariants.{TooDeep}
use Rattle.stil_tree.proofs.Steps.{step-semicolon, step-open, step-deep, step-close, closed-done}
use Rattle.stil_tree.proofs.Runs.{run-append, run-failed, run-head, run-parses}
use Rattle.stil_tree.proofs.Reached.{fault_is_found, forest_is_found}
use Rattle.stil_ast.proofs.CheckedLemmas.{only_second}
use Rattle.line_texts.specs.Said.{Said, no_more, space, statement, braced, a_sign, pieces_of, count_of, trees_at}
use Rattle.line_texts.specs.Tests.{is_head, fits}
use Rattle.line_texts.proofs.TreeLemmas.{head_is, said_parses}
use Rattle.flat_said.specs.Shape.{is_shaped}

-- ---- runs over tokens

-- there are too many levels
abbrev pub IsDeep : State → Type 0
IsDeep s = (place : ℕ) × (s ≡ failed (TooDeep place))

-- it stays so
deep_more : (at : ℕ) (s : State) (xs ys : List Token) → IsDeep (run at s xs) → IsDeep (run at s (xs ++ ys))
deep_more at s xs ys d =
    (d.0, run-append at s xs ys ∙ ap (λ (z : State). run (at + length xs) z ys) d.1 ∙ run-failed (at + length xs) (TooDeep d.0) ys)

-- behind a head
head_on : (frames : List Frame) (done : Trees) (at : ℕ) (head behind : List Token) → AreHead head
    → IsDeep (run (at + length head) (going frames done at) behind) → IsDeep (run at (going frames done at) (head ++ behind))
head_on frames done at head behind h d = (
  d.0,
  run-append at (going frames done at) head behind
      ∙ ap (λ (z : State). run (at + length head) z behind) (run-head at frames done at head h) ∙ d.1,
)

-- behind a `;`
semicolon_on : (frames : List Frame) (done : Trees) (first at : ℕ) (stop : Token) (rest : List Token) → is_sign semicolon stop ≡ true
    → IsDeep (run (at + 1) (going frames (ended_by done first (at - first)) (at + 1)) rest)
    → IsDeep (run at (going frames done first) (stop ∷ rest))
semicolon_on frames done first at stop rest is d =
    (d.0, ap (λ (z : State). run (at + 1) z rest) (step-semicolon at frames done first stop is) ∙ d.1)

-- behind a `{`
open_on : (frames : List Frame) (done : Trees) (first at : ℕ) (brace : Token) (rest : List Token) → is_sign open_brace brace ≡ true
    → length frames < most_levels
    → IsDeep (run (at + 1) (going (record { before = done; first = first; count = at - first } ∷ frames) end (at + 1)) rest)
    → IsDeep (run at (going frames done first) (brace ∷ rest))
open_on frames done first at brace rest is few d =
    (d.0, ap (λ (z : State). run (at + 1) z rest) (step-open at frames done first brace is few) ∙ d.1)

-- at a `{` too many
open_deep : (frames : List Frame) (done : Trees) (first at : ℕ) (brace : Token) (rest : List Token) → is_sign open_brace brace ≡ true
    → length frames ≡ most_levels → IsDeep (run at (going frames done first) (brace ∷ rest))
open_deep frames done first at brace rest is many =
    (at, ap (λ (z : State). run (at + 1) z rest) (step-deep at frames done first brace is many) ∙ run-failed (at + 1) (TooDeep at) rest)

-- behind a block and its `}`
close_on : (frames : List Frame) (f : Frame) (at : ℕ) (body : Trees) (inner : List Token) (close : Token) (rest : List Token)
    → run at (going (f ∷ frames) end at) inner ≡ going (f ∷ frames) body (at + length inner) → is_sign close_brace close ≡ true
    → IsDeep (run (at + length inner + 1)
    (going frames (join f.before (block f.first f.count body end)) (at + length inner + 1)) rest)
    → IsDeep (run at (going (f ∷ frames) end at) (inner ++ close ∷ rest))
close_on frames f at body inner close rest inside is d =
    let upto = at + length inner in (
      d.0,
      run-append at (going (f ∷ frames) end at) inner (close ∷ rest)
          ∙ ap (λ (z : State). run upto z (close ∷ rest)) inside
          ∙ ap (λ (z : State). run (upto + 1) z rest)
          (step-close upto (f ∷ frames) body upto close is ∙ closed-done upto f frames body upto refl)
          ∙ d.1,
    )

-- ---- statements

not_fits : (depth : ℕ) (head inside behind : Bool) → head ≡ true → depth < most_levels
    → ((nat_lt depth most_levels && head) && (inside && behind)) ≡ false → (inside && behind) ≡ false
not_fits depth head inside behind h few e =
    only_second (nat_lt depth most_levels && head) (inside && behind)
    (and_from (nat_lt depth most_levels) head (lt-ltb depth most_levels few) h) e

-- statements that nest too deep, behind so many open blocks
pub too_deep : (frames : List Frame) (done : Trees) (at : ℕ) (before : List ℕ) (s : Said) → length frames ≤ most_levels
    → is_shaped s ≡ true → fits (length frames) s ≡ false
    → IsDeep (run at (going frames done at) (tokens_of before (pieces_of s)))
too_deep frames done at before no_more few shaped deep = absurd (true≢false deep)
too_deep frames done at before (space text more) few shaped deep = too_deep frames done at (before ++ text) more few shaped deep
too_deep frames done at before (statement head more) few shaped deep =
    let parts = and_parts (nat_lt 0 (count_of head) && is_head head) (is_shaped more) shaped in
    let form = and_parts (nat_lt 0 (count_of head)) (is_head head) parts.0 in
    let tokens = tokens_of before head in
    let here = before ++ spelled head in
    let behind = here ++ (semicolon ∷ []) in
    let place = at + length tokens in
    let rest : fits (length frames) more ≡ false =
    only_second (nat_lt 0 (count_of head) && is_head head) (fits (length frames) more) parts.0 deep in
    subst (λ (ts : List Token). IsDeep (run at (going frames done at) ts))
    (sym (tokens_of-append before head (a_sign semicolon ∷ pieces_of more)))
    (head_on frames done at tokens (token_at here (Sign semicolon) (semicolon ∷ []) ∷ tokens_of behind (pieces_of more))
    (head_is before head form.1)
    (semicolon_on frames done at place (token_at here (Sign semicolon) (semicolon ∷ [])) (tokens_of behind (pieces_of more)) refl
    (too_deep frames (ended_by done at (place - at)) (place + 1) behind more few parts.1 rest)))
too_deep frames done at before (braced head body more) few shaped deep =
    let parts = and_parts (is_head head) (is_shaped body && is_shaped more) shaped in
    let both = and_parts (is_shaped body) (is_shaped more) parts.1 in
    let tokens = tokens_of before head in
    let here = before ++ spelled head in
    let opening = token_at here (Sign open_brace) (open_brace ∷ []) in
    let inside = here ++ (open_brace ∷ []) in
    let inner = tokens_of inside (pieces_of body) in
    let closed = inside ++ spelled (pieces_of body) in
    let closing = token_at closed (Sign close_brace) (close_brace ∷ []) in
    let behind = closed ++ (close_brace ∷ []) in
    let rest = tokens_of behind (pieces_of more) in
    let place = at + length tokens in
    let f : Frame = record { before = done; first = at; count = place - at } in
    let from = place + 1 in
    let upto = from + length inner in
    let are : tokens_of before (pieces_of (braced head body more)) ≡ tokens ++ opening ∷ (inner ++ closing ∷ rest) =
    tokens_of-append before head (a_sign open_brace ∷ (pieces_of body ++ (a_sign close_brace ∷ pieces_of more)))
    ∙ ap (λ (ts : List Token). tokens ++ opening ∷ ts) (tokens_of-append inside (pieces_of body) (a_sign close_brace ∷ pieces_of more)) in
    subst (λ (ts : List Token). IsDeep (run at (going frames done at) ts)) (sym are)
    (head_on frames done at tokens (opening ∷ (inner ++ closing ∷ rest)) (head_is before head parts.0)
    (elim (cases_lt (length frames) most_levels) [
      | inr many ↦ open_deep frames done at place opening (inner ++ closing ∷ rest) refl (omega (arith, many, few))
      | inl less ↦
          open_on frames done at place opening (inner ++ closing ∷ rest) refl less
          (elim (cases_fit (fits (suc (length frames)) body) (fits (length frames) more)
          (not_fits (length frames) (is_head head) (fits (suc (length frames)) body) (fits (length frames) more) parts.0 less deep)) [
            | inl fails ↦
                deep_more from (going (f ∷ frames) end from) inner (closing ∷ rest)
                (too_deep (f ∷ frames) end from inside body (omega (arith, less)) both.0 fails)
            | inr (passes, fails) ↦
                close_on frames f from (trees_at from body) inner closing rest
                (run-parses (f ∷ frames) (said_parses (suc (length frames)) from inside body passes) refl end) refl
                (too_deep frames (join done (block at (place - at) (trees_at from body) end)) (upto + 1) behind more few both.1 fails)
          ])
    ]))
  where
    cases_fit : (x y : Bool) → (x && y) ≡ false → (x ≡ false) ⊎ ((x ≡ true) × (y ≡ false))
    cases_fit true y e = inr (refl, e)
    cases_fit false y e = inl refl

-- ---- whole texts

-- what is answered of statements that nest too deep
pub forest_deep : (s : Said) → is_shaped s ≡ true → fits 0 s ≡ false
    → (place : ℕ) × (forest_of (tokens_of [] (pieces_of s)) ≡ Err (TooDeep place))
forest_deep s shaped deep =
    let d = too_deep [] end 0 [] s (omega arith) shaped deep in
    (d.0, ap (outcome (length (tokens_of [] (pieces_of s)))) d.1)

-- their tokens are no statements
pub deep_is_no_forest : (s : Said) → is_shaped s ≡ true → fits 0 s ≡ false → (forest : Trees)
    → Parses (tokens_of [] (pieces_of s)) forest → ⊥
deep_is_no_forest s shaped deep forest parses =
    let d = forest_deep s shaped deep in
    clash d.0 (sym d.1 ∙ forest_is_found (tokens_of [] (pieces_of s)) forest parses)
  where
    clash : (place : ℕ) → Err (TooDeep place) ≡ Ok forest → ⊥
    clash place e = cc

-- their fault is that they do
pub deep_is_fault : (s : Said) → is_shaped s ≡ true → fits 0 s ≡ false → (fault : TreeFault) → IsFault (tokens_of [] (pieces_of s)) fault
    → (place : ℕ) × (fault ≡ TooDeep place)
deep_is_fault s shaped deep fault is =
    let d = forest_deep s shaped deep in
    (d.0, same d.0 (sym (fault_is_found (tokens_of [] (pieces_of s)) fault is) ∙ d.1))
  where
    same : (place : ℕ) → ◌≡◌ {A = Rattle.std.specs.Prelude.Result Trees TreeFault} (Err fault) (Err (TooDeep place)) → fault ≡ TooDeep place
    same place e = cc
