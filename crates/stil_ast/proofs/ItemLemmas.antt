-- Runs of data judged without spreading them: how many items they are, and whether they are one alone.
use Rattle.std.proofs.Common.{◌≡◌, ℕ, zero, suc, ◌+◌, ◌*◌, ◌≤◌, List, [], ◌∷◌, ◌++◌, get_or, set, Option, Some, None, refl, sym, ap, ◌∙◌, arith, length, append_assoc, append-nil, replicate, option_map, if◌then◌else◌}
use Rattle.std.specs.Prelude.{◌==◌}
use Rattle.std.proofs.lemmas.Bool.{cond-false, ne_eqb}
use Rattle.std.proofs.lemmas.List.{length-append, length-replicate, replicate-append-replicate}
use Rattle.std.proofs.lemmas.List.Elements.{All-head, All-tail}
use Rattle.std.proofs.lemmas.List.Sums.{sum_by-cons}
use Rattle.text_bytes.specs.Limits.{most_repeats}
use Rattle.stil_ast.specs.Data.Items.{item_of, items_of, KeepRepeats, run_length, first_item, lone_item}
use Rattle.stil_ast.specs.Meaning.Statements.{Item}
use Rattle.stil_ast.specs.declared.data.VecItem.{VecItem}
use Rattle.stil_ast.specs.declared.data.ItemRun.{ItemRun}

pub run_length-cons : (run : ItemRun) (runs : List ItemRun) → run_length (run ∷ runs) ≡ run.times + run_length runs
run_length-cons run runs = sum_by-cons (λ (r : ItemRun). r.times) run runs

-- how many items runs stand for
pub length-items_of : (runs : List ItemRun) → length (items_of runs) ≡ run_length runs
length-items_of [] = refl
length-items_of (run ∷ runs) =
    length-append (replicate run.times (item_of run.item)) (items_of runs)
    ∙ ap (λ n. n + length (items_of runs)) (length-replicate run.times (item_of run.item))
    ∙ ap (λ n. run.times + n) (length-items_of runs) ∙ sym (run_length-cons run runs)

-- the items of runs, and of one run more
pub items_of-more : (runs : List ItemRun) (run : ItemRun) →
    items_of (runs ++ run ∷ []) ≡ items_of runs ++ replicate run.times (item_of run.item)
items_of-more [] run = append-nil (replicate run.times (item_of run.item))
items_of-more (first ∷ runs) run =
    ap (λ items. replicate first.times (item_of first.item) ++ items) (items_of-more runs run)
    ∙ sym (append_assoc (replicate first.times (item_of first.item)) (items_of runs) (replicate run.times (item_of run.item)))

-- the items of runs of which the last is made longer
pub items_of-longer : (runs : List ItemRun) (at times : ℕ) (last : ItemRun) (item : VecItem) → suc at ≡ length runs
    → last ≡ get_or runs at last → item_of last.item ≡ item_of item
    → items_of (set runs at (record { item = last.item; times = last.times + times }))
    ≡ items_of runs ++ replicate times (item_of item)
items_of-longer [] at times last item one is same = elim (let f : ⊥ = omega (arith, one) in f) [ ]
items_of-longer (run ∷ []) zero times last item one is same =
    append-nil (replicate (last.times + times) (item_of last.item))
    ∙ sym (replicate-append-replicate last.times times (item_of last.item))
    ∙ ap (λ i. replicate last.times (item_of last.item) ++ replicate times i) same
    ∙ ap (λ (r : ItemRun). replicate r.times (item_of r.item) ++ replicate times (item_of item)) is
    ∙ ap (λ items. items ++ replicate times (item_of item)) (sym (append-nil (replicate run.times (item_of run.item))))
items_of-longer (run ∷ more ∷ runs) zero times last item one is same = elim (let f : ⊥ = omega (arith, one) in f) [ ]
items_of-longer (run ∷ runs) (suc at) times last item one is same =
    ap (λ items. replicate run.times (item_of run.item) ++ items)
    (items_of-longer runs at times last item (omega (arith, one)) is same)
    ∙ sym (append_assoc (replicate run.times (item_of run.item)) (items_of runs) (replicate times (item_of item)))

-- n runs stand for at most n times as many items as one may stand for
pub length-items_of-le : (runs : List ItemRun) → KeepRepeats runs → length (items_of runs) ≤ length runs * most_repeats
length-items_of-le [] keep = omega arith
length-items_of-le (run ∷ runs) keep =
    omega (
      arith,
      length-items_of (run ∷ runs),
      run_length-cons run runs,
      length-items_of runs,
      All-head (λ (r : ItemRun). r.times ≤ most_repeats) run runs keep,
      length-items_of-le runs (All-tail (λ (r : ItemRun). r.times ≤ most_repeats) run runs keep),
    )

-- the one item of a list of one
abbrev pub only_of : List Item → Option Item
only_of [] = None
only_of (item ∷ []) = Some item
only_of (item ∷ more ∷ items) = None

-- an item, and then no more
one_more : (item : VecItem) (items : List Item) (n : ℕ) → length items ≡ n
    → option_map item_of (if 1 + n == 1 then Some item else None) ≡ only_of (item_of item ∷ items)
one_more item [] n e = ap (λ m. option_map item_of (if 1 + m == 1 then Some item else None)) (sym e)
one_more item (i ∷ items) n e =
    ap (option_map item_of) (cond-false (1 + n == 1) (Some item) None (ne_eqb (1 + n) 1 (λ same. omega arith)))

-- a run behind which others stand
lone-cons : (item : VecItem) (times : ℕ) (runs : List ItemRun)
    → option_map item_of (lone_item runs) ≡ only_of (items_of runs)
    → option_map item_of (if times + run_length runs == 1 then first_item (record { item = item; times = times } ∷ runs) else None)
    ≡ only_of (replicate times (item_of item) ++ items_of runs)
lone-cons item zero runs before =
    ap (λ n. option_map item_of (if n == 1 then first_item runs else None)) (let e : 0 + run_length runs ≡ run_length runs = omega arith in e)
    ∙ before
lone-cons item (suc zero) runs before = one_more item (items_of runs) (run_length runs) (length-items_of runs)
lone-cons item (suc (suc n)) runs before =
    ap (option_map item_of) (cond-false (suc (suc n) + run_length runs == 1) (first_item (record { item = item; times = suc (suc n) } ∷ runs)) None
    (ne_eqb (suc (suc n) + run_length runs) 1 (λ same. omega arith)))

-- the one item that runs stand for is the one item of their list
pub lone_item-is : (runs : List ItemRun) → option_map item_of (lone_item runs) ≡ only_of (items_of runs)
lone_item-is [] = refl
lone_item-is (run ∷ runs) =
    ap (λ n. option_map item_of (if n == 1 then first_item (run ∷ runs) else None)) (run_length-cons run runs)
    ∙ lone-cons run.item run.times runs (lone_item-is runs)
