-- The code's run over what the grammar says are statements.
use Rattle.std.proofs.Common.{◌≡◌, ℕ, zero, suc, ◌+◌, ◌-◌, ◌<◌, List, [], ◌∷◌, ◌++◌, length, refl, sym, ap, ◌∙◌, arith, length-append, add-zero}
use Rattle.std.specs.List.{list_any}
use Rattle.std.proofs.lemmas.Bool.{or_parts}
use Rattle.stil_lex.specs.declared.token.Token.{Token}
use Rattle.stil_tree.specs.Signs.{is_delimiter}
use Rattle.stil_tree.specs.Trees.{Trees, end, plain, block}
use Rattle.stil_tree.specs.Grammar.{most_levels, AreHead, ParsesAt, ParsesAt.nothing, ParsesAt.skipped, ParsesAt.ended, ParsesAt.nested}
use Rattle.stil_tree.specs.Step.{join, Frame, State, going, failed, ended_by, step_on, run}
use Rattle.stil_tree.specs.declared.fault.TreeFault.{TreeFault}
use Rattle.stil_tree.proofs.Steps.{step-head, step-semicolon, step-open, step-close, closed-done}

-- nothing behind statements
pub join-end : (done : Trees) → join done end ≡ done
join-end end = refl
join-end (plain first count more) = ap (plain first count) (join-end more)
join-end (block first count body more) = ap (block first count body) (join-end more)

-- statements behind statements
pub join_assoc : (a b c : Trees) → join (join a b) c ≡ join a (join b c)
join_assoc end b c = refl
join_assoc (plain first count more) b c = ap (plain first count) (join_assoc more b c)
join_assoc (block first count body more) b c = ap (block first count body) (join_assoc more b c)

-- a statement of some head tokens
pub ended_by-some : (done : Trees) (first n : ℕ) → 0 < n → ended_by done first n ≡ join done (plain first n end)
ended_by-some done first zero some = absurd (omega (arith, some))
ended_by-some done first (suc n) some = refl

-- a list that is not empty has a length
pub filled : (head : List Token) → (head ≡ [] → ⊥) → 0 < length head
filled [] some = absurd (some refl)
filled (t ∷ head) some = omega arith

-- a run over tokens in two parts
pub run-append : (at : ℕ) (s : State) (xs ys : List Token) → run at s (xs ++ ys) ≡ run (at + length xs) (run at s xs) ys
run-append at s [] ys = ap (λ n. run n s ys) (sym (add-zero at))
run-append at s (t ∷ xs) ys =
    let place : at + 1 + length xs ≡ at + length (t ∷ xs) = omega arith in
    run-append (at + 1) (step_on at s t) xs ys ∙ ap (λ n. run n (run (at + 1) (step_on at s t) xs) ys) place

-- a fault stays
pub run-failed : (at : ℕ) (fault : TreeFault) (ts : List Token) → run at (failed fault) ts ≡ failed fault
run-failed at fault [] = refl
run-failed at fault (t ∷ ts) = run-failed (at + 1) fault ts

-- a head changes nothing
pub run-head : (at : ℕ) (frames : List Frame) (done : Trees) (first : ℕ) (head : List Token) → AreHead head
    → run at (going frames done first) head ≡ going frames done first
run-head at frames done first [] h = refl
run-head at frames done first (t ∷ head) h =
    let parts = or_parts (is_delimiter t) (list_any is_delimiter head) h in
    ap (λ s. run (at + 1) s head) (step-head at frames done first t parts.0) ∙ run-head (at + 1) frames done first head parts.1

-- statements of the grammar are run to their trees
pub run-parses : (frames : List Frame) {depth at : ℕ} {found : Trees} {tokens : List Token}
    → ParsesAt depth at found tokens → depth ≡ length frames → (done : Trees)
    → run at (going frames done at) tokens ≡ going frames (join done found) (at + length tokens)
run-parses frames (nothing depth at) same done = ap (λ t. going frames t at) (sym (join-end done)) ∙ ap (going frames (join done end)) (sym (add-zero at))
run-parses frames (skipped depth at more stop rest is behind) same done =
    let none : at - at ≡ 0 = omega arith in
    let place : at + 1 + length rest ≡ at + length (stop ∷ rest) = omega arith in
    ap (λ s. run (at + 1) s rest) (step-semicolon at frames done at stop is ∙ ap (λ n. going frames (ended_by done at n) (at + 1)) none)
    ∙ (run-parses frames behind same done ∙ ap (going frames (join done more)) place)
run-parses frames (ended depth at more head stop rest some are_head is behind) same done =
    let n = length head in
    let added = join done (plain at n end) in
    let width : at + n - at ≡ n = omega arith in
    let place : at + n + 1 + length rest ≡ at + length (head ++ stop ∷ rest) = omega (arith, length-append head (stop ∷ rest)) in
    run-append at (going frames done at) head (stop ∷ rest)
    ∙ (ap (λ s. run (at + n) s (stop ∷ rest)) (run-head at frames done at head are_head)
    ∙ (ap (λ s. run (at + n + 1) s rest) (step-semicolon (at + n) frames done at stop is ∙ ap (λ t. going frames t (at + n + 1)) (ap (ended_by done at) width ∙ ended_by-some done at n (filled head some)))
    ∙ (run-parses frames behind same added
    ∙ (ap (λ t. going frames t (at + n + 1 + length rest)) (join_assoc done (plain at n end) more)
    ∙ ap (going frames (join done (plain at n more))) place))))
run-parses frames (nested depth at body more head brace inner close rest few are_head opens inside closes behind) same done =
    let n = length head in
    let f : Frame = record { before = done; first = at; count = at + n - at } in
    let from = at + n + 1 in
    let upto = from + length inner in
    let width : at + n - at ≡ n = omega arith in
    let deeper : suc depth ≡ length (f ∷ frames) = ap suc same in
    let few_frames : length frames < most_levels = rw (sym same) few in
    let place : upto + 1 + length rest ≡ at + length (head ++ brace ∷ (inner ++ close ∷ rest)) =
    omega (arith, length-append head (brace ∷ (inner ++ close ∷ rest)), length-append inner (close ∷ rest)) in
    run-append at (going frames done at) head (brace ∷ (inner ++ close ∷ rest))
    ∙ (ap (λ s. run (at + n) s (brace ∷ (inner ++ close ∷ rest))) (run-head at frames done at head are_head)
    ∙ (ap (λ s. run from s (inner ++ close ∷ rest)) (step-open (at + n) frames done at brace opens few_frames)
    ∙ (run-append from (going (f ∷ frames) end from) inner (close ∷ rest)
    ∙ (ap (λ s. run upto s (close ∷ rest)) (run-parses (f ∷ frames) inside deeper end)
    ∙ (ap (λ s. run (upto + 1) s rest) (step-close upto (f ∷ frames) body upto close closes ∙ closed-done upto f frames body upto refl)
    ∙ (ap (λ k. run (upto + 1) (going frames (join done (block at k body end)) (upto + 1)) rest) width
    ∙ (run-parses frames behind same (join done (block at n body end))
    ∙ (ap (λ t. going frames t (upto + 1 + length rest)) (join_assoc done (block at n body end) more)
    ∙ ap (going frames (join done (block at n body more))) place))))))))
