-- What the code's run finds is what the definitions say.
use Rattle.std.proofs.Common.{◌≡◌, ℕ, ◌+◌, List, ◌∷◌, ◌++◌, length, sym, subst, arith, length-append, append_assoc, add-zero}
use Rattle.stil_lex.specs.declared.token.Token.{Token}
use Rattle.stil_tree.specs.Trees.{Trees, plain, block}
use Rattle.stil_tree.specs.Grammar.{ParsesAt, ParsesAt.nothing, ParsesAt.skipped, ParsesAt.ended, ParsesAt.nested}
use Rattle.stil_tree.specs.Step.{join}

-- at another index that is the same number
pub ParsesAt-at : {depth at : ℕ} {found : Trees} {tokens : List Token} (other : ℕ) → at ≡ other
    → ParsesAt depth at found tokens → ParsesAt depth other found tokens
ParsesAt-at {depth} {at} {found} {tokens} other same p = subst (λ (n : ℕ). ParsesAt depth n found tokens) same p

-- statements behind statements
pub ParsesAt-append : {depth at : ℕ} {found : Trees} {tokens : List Token} → ParsesAt depth at found tokens → (more : Trees) (behind : List Token)
    → ParsesAt depth (at + length tokens) more behind → ParsesAt depth at (join found more) (tokens ++ behind)
ParsesAt-append (nothing depth at) more behind q = ParsesAt-at at (add-zero at) q
ParsesAt-append (skipped depth at found stop rest is p) more behind q =
    skipped depth at (join found more) stop (rest ++ behind) is (ParsesAt-append p more behind (ParsesAt-at (at + 1 + length rest) (omega arith) q))
ParsesAt-append (ended depth at found head stop rest some are_head is p) more behind q =
    let n = length head in
    let place : at + length (head ++ stop ∷ rest) ≡ at + n + 1 + length rest = omega (arith, length-append head (stop ∷ rest)) in
    subst (ParsesAt depth at (plain at n (join found more))) (sym (append_assoc head (stop ∷ rest) behind))
    (ended depth at (join found more) head stop (rest ++ behind) some are_head is (ParsesAt-append p more behind (ParsesAt-at (at + n + 1 + length rest) place q)))
ParsesAt-append (nested depth at body found head brace inner close rest few are_head opens inside closes p) more behind q =
    let n = length head in
    let upto = at + n + 1 + length inner in
    let place : at + length (head ++ brace ∷ (inner ++ close ∷ rest)) ≡ upto + 1 + length rest =
    omega (arith, length-append head (brace ∷ (inner ++ close ∷ rest)), length-append inner (close ∷ rest)) in
    let spelled : head ++ brace ∷ (inner ++ close ∷ (rest ++ behind)) ≡ head ++ brace ∷ (inner ++ close ∷ rest) ++ behind = simp append_assoc in
    subst (ParsesAt depth at (block at n body (join found more))) spelled
    (nested depth at body (join found more) head brace inner close (rest ++ behind) few are_head opens inside closes (ParsesAt-append p more behind (ParsesAt-at (upto + 1 + length rest) place q)))
