-- The tokens of one level, a token at a time.
use Rattle.std.proofs.Common.{◌≡◌, ℕ, suc, ◌+◌, ◌-◌, ◌<◌, true, false, List, [], ◌∷◌, ◌++◌, length, refl, sym, ap, ◌∙◌, subst, arith, length-append, append_assoc, add-zero}
use Rattle.std.specs.List.{list_any}
use Rattle.std.proofs.lemmas.Bool.{or_from, or_parts}
use Rattle.std.proofs.lemmas.List.{append-nil}
use Rattle.stil_lex.specs.declared.token.Token.{Token}
use Rattle.stil_tree.specs.Signs.{semicolon, open_brace, close_brace, is_sign, is_delimiter}
use Rattle.stil_tree.specs.Trees.{Trees, end, plain, block}
use Rattle.stil_tree.specs.Grammar.{most_levels, AreHead, ParsesAt, ParsesAt.nothing, ParsesAt.skipped, ParsesAt.ended, ParsesAt.nested}
use Rattle.stil_tree.specs.Faults.{IsLevel}
use Rattle.stil_tree.specs.Step.{join, ended_by}
use Rattle.stil_tree.proofs.Runs.{join-end}
use Rattle.stil_tree.proofs.Sound.{ParsesAt-at, ParsesAt-append}

-- a head with one token more
pub AreHead-push : (head : List Token) (t : Token) → AreHead head → is_delimiter t ≡ false → AreHead (head ++ t ∷ [])
AreHead-push [] t h other = or_from (is_delimiter t) false other refl
AreHead-push (x ∷ head) t h other =
    let parts = or_parts (is_delimiter x) (list_any is_delimiter head) h in
    or_from (is_delimiter x) (list_any is_delimiter (head ++ t ∷ [])) parts.0 (AreHead-push head t parts.1 other)

-- a level without tokens
pub level-start : (depth from : ℕ) → IsLevel depth from end from []
level-start depth from = record { front = []; head = []; spelled = refl; parses = nothing depth from; are_head = refl; begins = sym (add-zero from) }

-- one head token more
pub level-head : (depth from : ℕ) (done : Trees) (first : ℕ) (tokens : List Token) (t : Token) → IsLevel depth from done first tokens → is_delimiter t ≡ false
    → IsLevel depth from done first (tokens ++ t ∷ [])
level-head depth from done first tokens t l other =
    record {
      front = l.front;
      head = l.head ++ t ∷ [];
      spelled = ap (λ ts. ts ++ t ∷ []) l.spelled ∙ append_assoc l.front l.head (t ∷ []);
      parses = l.parses;
      are_head = AreHead-push l.head t l.are_head other;
      begins = l.begins;
    }

-- a level whose head is empty, from its statements
pub level-done : (depth from : ℕ) (done : Trees) (first : ℕ) (tokens : List Token) → ParsesAt depth from done tokens
    → first ≡ from + length tokens → IsLevel depth from done first tokens
level-done depth from done first tokens p begins =
    record { front = tokens; head = []; spelled = sym (append-nil tokens); parses = p; are_head = refl; begins = begins }

-- statements behind those that are done
pub level-more : (depth from : ℕ) (done : Trees) (first : ℕ) (tokens : List Token)
    (l : IsLevel depth from done first tokens) (more : Trees) (behind : List Token)
    → ParsesAt depth first more behind → ParsesAt depth from (join done more) (l.front ++ behind)
level-more depth from done first tokens l more behind p = ParsesAt-append l.parses more behind (ParsesAt-at (from + length l.front) l.begins p)

-- a `;` behind a head, maybe an empty one
pub level-semicolon : (depth from : ℕ) (done : Trees) (first : ℕ) (tokens : List Token) (t : Token) (at : ℕ)
    → IsLevel depth from done first tokens → is_sign semicolon t ≡ true
    → at ≡ from + length tokens → IsLevel depth from (ended_by done first (at - first)) (at + 1) (tokens ++ t ∷ [])
level-semicolon depth from done first tokens t at l is is_at =
    let spelled : tokens ++ t ∷ [] ≡ l.front ++ (l.head ++ t ∷ []) = ap (λ ts. ts ++ t ∷ []) l.spelled ∙ append_assoc l.front l.head (t ∷ []) in
    let width : at - first ≡ length l.head = omega (arith, is_at, l.begins, ap length l.spelled, length-append l.front l.head) in
    level-done depth from (ended_by done first (at - first)) (at + 1) (tokens ++ t ∷ [])
    (rw (spelled, width) (by_head l.head l.are_head))
    (omega (arith, is_at, length-append tokens (t ∷ [])))
  where
    by_head : (head : List Token) → AreHead head → ParsesAt depth from (ended_by done first (length head)) (l.front ++ (head ++ t ∷ []))
    by_head [] are =
        subst (λ (d : Trees). ParsesAt depth from d (l.front ++ t ∷ [])) (join-end done)
        (level-more depth from done first tokens l end (t ∷ []) (skipped depth first end t [] is (nothing depth (first + 1))))
    by_head (h ∷ head) are =
        level-more depth from done first tokens l (plain first (suc (length head)) end) (h ∷ head ++ t ∷ [])
        (ended depth first end (h ∷ head) t [] (λ e. cc) are is (nothing depth (first + length (h ∷ head) + 1)))

-- a block behind a head, maybe an empty one
pub level-block : (depth from : ℕ) (done : Trees) (first : ℕ)
    (outer : List Token) (count at : ℕ) (body : Trees) (brace : Token) (inner : List Token) (close : Token)
    → IsLevel depth from done first outer → depth < most_levels → is_sign open_brace brace ≡ true → is_sign close_brace close ≡ true
    → first + count ≡ from + length outer → ParsesAt (suc depth) (from + length outer + 1) body inner → at ≡ from + length outer + 1 + length inner
    → IsLevel depth from (join done (block first count body end)) (at + 1) (outer ++ brace ∷ (inner ++ close ∷ []))
level-block depth from done first outer count at body brace inner close l few opens closes is_count p is_at =
    let spelled : outer ++ brace ∷ (inner ++ close ∷ []) ≡ l.front ++ (l.head ++ brace ∷ (inner ++ close ∷ [])) =
    ap (λ ts. ts ++ brace ∷ (inner ++ close ∷ [])) l.spelled ∙ append_assoc l.front l.head (brace ∷ (inner ++ close ∷ [])) in
    let long = ap length l.spelled ∙ length-append l.front l.head in
    let width : length l.head ≡ count = omega (arith, is_count, l.begins, long) in
    let place : from + length outer + 1 ≡ first + length l.head + 1 = omega (arith, l.begins, long) in
    let nest = nested depth first body end l.head brace inner close [] few l.are_head opens (ParsesAt-at (first + length l.head + 1) place p) closes (nothing depth (first + length l.head + 1 + length inner + 1)) in
    level-done depth from (join done (block first count body end)) (at + 1) (outer ++ brace ∷ (inner ++ close ∷ []))
    (rw (spelled, sym width) (level-more depth from done first outer l (block first (length l.head) body end) (l.head ++ brace ∷ (inner ++ close ∷ [])) nest))
    (omega (arith, is_at, length-append outer (brace ∷ (inner ++ close ∷ [])), length-append inner (close ∷ [])))
