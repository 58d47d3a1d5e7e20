-- The indices of a range, by their places.
use Rattle.std.proofs.Common.{◌≡◌, ℕ, suc, ◌<◌, ◌≤◌, ◌+◌, ◌-◌, cond, List, length, get_or, reverse, sym, ap, ◌∙◌, arith}
use Rattle.std.proofs.lemmas.Bool.{le-leb, lt-leb}
use Rattle.std.proofs.lemmas.List.{get_or-reverse, length-reverse}
use Rattle.stil_ast.specs.Data.Texts.{upwards, indices}
use Rattle.stil_ast.specs.declared.name.IndexRange.{IndexRange}
use Rattle.stil_ast.proofs.FormLemmas.{get_or-upwards, length-upwards}

abbrev up : IndexRange → List ℕ
up r = upwards r.first (suc (r.last - r.first))

abbrev down : IndexRange → List ℕ
down r = upwards r.last (suc (r.first - r.last))

indices_up : (r : IndexRange) → r.first ≤ r.last → indices r ≡ up r
indices_up r le = ap (λ b. cond b (up r) (reverse (down r))) (le-leb r.first r.last le)

indices_down : (r : IndexRange) → r.last < r.first → indices r ≡ reverse (down r)
indices_down r lt = ap (λ b. cond b (up r) (reverse (down r))) (lt-leb r.first r.last lt)

pub length-indices_up : (r : IndexRange) → r.first ≤ r.last → length (indices r) ≡ r.last - r.first + 1
length-indices_up r le = ap length (indices_up r le) ∙ length-upwards r.first (suc (r.last - r.first)) ∙ omega arith

pub length-indices_down : (r : IndexRange) → r.last < r.first → length (indices r) ≡ r.first - r.last + 1
length-indices_down r lt =
    ap length (indices_down r lt) ∙ length-reverse (down r) ∙ length-upwards r.last (suc (r.first - r.last)) ∙ omega arith

pub get_or-indices_up : (r : IndexRange) (k : ℕ) → r.first ≤ r.last → k < length (indices r)
    → r.first + k ≡ get_or (indices r) k 0
get_or-indices_up r k le lt =
    sym (ap (λ is. get_or is k 0) (indices_up r le)
    ∙ get_or-upwards r.first (suc (r.last - r.first)) k (omega (arith, lt, length-indices_up r le)))

pub get_or-indices_down : (r : IndexRange) (k : ℕ) → r.last < r.first → k < length (indices r)
    → r.first - k ≡ get_or (indices r) k 0
get_or-indices_down r k le lt =
    let n = length-upwards r.last (suc (r.first - r.last)) in
    let count = length-indices_down r le in
    let at : get_or (upwards r.last (suc (r.first - r.last))) (length (down r) - 1 - k) 0 ≡ r.last + (length (down r) - 1 - k) =
    get_or-upwards r.last (suc (r.first - r.last)) (length (down r) - 1 - k) (omega (arith, lt, n, count)) in
    let back : r.last + (length (down r) - 1 - k) ≡ r.first - k = omega (arith, lt, n, count) in
    sym (ap (λ is. get_or is k 0) (indices_down r le)
    ∙ get_or-reverse (down r) k 0 (omega (arith, lt, n, count)) ∙ at ∙ back)
