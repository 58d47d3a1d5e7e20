-- The count of a flat tree is how many vectors it runs.
use Rattle.std.proofs.Common.{◌≡◌, ℕ, zero, suc, ◌+◌, ◌*◌, Bool, true, false, length, refl, sym, ap, ◌∙◌, length-append, arith}
use Rattle.stil_ast.specs.Meaning.State.{State}
use Rattle.stil_ast.specs.Meaning.Flattening.{joined}
use Rattle.stil_ast.specs.Meaning.Running.{Ran, times}
use Rattle.stil_ast.specs.Meaning.Flat.{Flat, done, table, character, back, cycle, repeat, save, saved, flat_run}
use Rattle.flat_tree.specs.Items.{item_front}
use Rattle.flat_tree.specs.declared.steps.FlatItem.{FlatItem}
use Rattle.flat_tree.proofs.FlatLemmas.{item_front-joined}
use Rattle.cycle_comp.specs.Counting.{vector_count}

pub times-count : (n : ℕ) (f : State → Ran State) (k : ℕ) → ((s : State) → length (f s).made ≡ k) → (s : State)
    → length (times n f s).made ≡ n * k
times-count zero f k e s = omega arith
times-count (suc n) f k e s =
    length-append (f s).made (times n f (f s).here).made ∙ omega (arith, e s, times-count n f k e (f s).here)

pub saved-count : (putting : Bool) (s : State) (r : Ran State) → length (saved putting s r).made ≡ length r.made
saved-count true s r = refl
saved-count false s r = refl

pub run-count : (f : Flat) (base s : State) → length (flat_run f base s).made ≡ vector_count f
run-count done base s = refl
run-count (table t rest) base s = run-count rest base _
run-count (character signal c rest) base s = run-count rest base _
run-count (back signal rest) base s = run-count rest base _
run-count (cycle mark spot rest) base s = omega (arith, run-count rest base s)
run-count (repeat count body rest) base s =
    let r = times count (flat_run body base) s in
    length-append r.made (flat_run rest base r.here).made
    ∙ omega (arith, times-count count (flat_run body base) (vector_count body) (run-count body base) s, run-count rest base r.here)
run-count (save putting body rest) base s =
    let r = saved putting s (flat_run body s s) in
    length-append r.made (flat_run rest base r.here).made
    ∙ omega (arith, saved-count putting s (flat_run body s s), run-count body s s, run-count rest base r.here)

count-joined : (a b : Flat) → vector_count (joined a b) ≡ vector_count a + vector_count b
count-joined done b = omega arith
count-joined (table t rest) b = count-joined rest b
count-joined (character signal x rest) b = count-joined rest b
count-joined (back signal rest) b = count-joined rest b
count-joined (cycle mark spot rest) b = omega (arith, count-joined rest b)
count-joined (repeat count body rest) b = omega (arith, count-joined rest b)
count-joined (save putting body rest) b = omega (arith, count-joined rest b)

-- an item adds its count to that of what stands behind it
pub item-count : (item : FlatItem) (rest : Flat)
    → vector_count (item_front item rest) ≡ vector_count (item_front item done) + vector_count rest
item-count item rest =
    ap vector_count (sym (item_front-joined item done rest)) ∙ count-joined (item_front item done) rest
