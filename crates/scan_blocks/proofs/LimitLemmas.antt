-- Cells that are added one after another are kept where they are within their limits.
use Rattle.std.proofs.Common.{◌≡◌, ◌+◌, ◌-◌, ℕ, ◌&&◌, Bool, true, false, List, [], ◌∷◌, ◌++◌, append_assoc, append-nil, Option, Some, None, Result, Ok, Err, cond, nat_le, refl, sym, ap, ◌∙◌, arith}
use Rattle.std.specs.List.{list_all}
use Rattle.std.proofs.lemmas.Bool.{leb-true, le-leb, leb-false, lt-leb, cond-true, cond-false}
use Rattle.std.proofs.lemmas.List.Sums.{sum_by-cons}
use Rattle.std.proofs.Math.Bool.{and-false}
use Rattle.std.proofs.Math.Dec.{leb-zero}
use Rattle.stil_form.specs.declared.fault.FormKind.{FormKind}
use Rattle.stil_form.specs.declared.fault.FormKind.TheVariants.{OutOfRange}
use Rattle.stil_form.specs.Fronts.{indices_of}
use Rattle.stil_ast.specs.Data.BlockForms.{cell_size, cell_count}
use Rattle.stil_ast.specs.declared.name.IndexRange.{IndexRange}
use Rattle.stil_ast.specs.declared.name.NameRef.{NameRef}
use Rattle.scan_blocks.specs.declared.cells.CellsLeft.{CellsLeft}
use Rattle.scan_blocks.specs.Cells.{has_small}
use Rattle.scan_blocks.specs.Working.{with_cell, with_indices, within_limits}

-- the cells so far, and how many more there may be; none where they are beyond a limit
abbrev pub Left : Type 0
Left = Option CellsLeft

-- one more cell, by its name and its indices
abbrev range_added : Left → List ℕ → Option IndexRange → Left
range_added c called None = with_cell c called None
range_added c called (Some range) =
    with_indices c called (indices_of (record { first = range.first; last = range.last }))

-- one more cell
abbrev pub one_added : Left → NameRef → Left
one_added c x = range_added c x.name x.range

-- more cells
abbrev pub added : Left → List NameRef → Left
added c [] = c
added c (x ∷ xs) = added (one_added c x) xs

-- whether more cells are within their limits
abbrev are_within : List NameRef → ℕ → Bool
are_within cells left = list_all has_small cells && nat_le (cell_count cells) left

-- the cells so far, and more
abbrev pub judged : Left → List NameRef → Result (List NameRef) FormKind
judged None cells = Err OutOfRange
judged (Some before) cells = cond (are_within cells before.left) (Ok (before.cells ++ cells)) (Err OutOfRange)

-- so many are left, and some of them are taken
taken_first : (size count left : ℕ) (b : Bool) → nat_le count (left - size) ≡ b → nat_le size left ≡ true
    → nat_le (size + count) left ≡ b
taken_first size count left true is room =
    let few = leb-true count (left - size) is in
    let fits = leb-true size left room in
    le-leb (size + count) left (omega (arith, few, fits))
taken_first size count left false is room =
    let many = leb-false count (left - size) is in
    let fits = leb-true size left room in
    lt-leb (size + count) left (omega (arith, many, fits))

no_room : (size count left : ℕ) → nat_le size left ≡ false → nat_le (size + count) left ≡ false
no_room size count left is = let many = leb-false size left is in lt-leb (size + count) left (omega (arith, many))

-- the size of a cell counts
counted : (x : NameRef) (xs : List NameRef) → cell_count (x ∷ xs) ≡ cell_size x.range + cell_count xs
counted x xs = sum_by-cons (λ (c : NameRef). cell_size c.range) x xs

-- both tests, where the first is so
first_holds : (a b c d : Bool) → a ≡ true → c ≡ d → (b && c) ≡ ((a && b) && d)
first_holds true b c d is same = ap (λ e. b && e) same
first_holds false b c d is same = cc

-- a cell whose indices are small, by whether there is room
with_room : (before : CellsLeft) (x : NameRef) (xs : List NameRef) (b : Bool) → nat_le (cell_size x.range) before.left ≡ b
    → has_small x ≡ true
    → judged (with_cell (Some before) x.name x.range) xs ≡ judged (Some before) (x ∷ xs)
with_room before x xs true room small =
    ap (λ o. judged o xs) (cond-true (nat_le (cell_size x.range) before.left) _ _ room)
    ∙ ap (λ b. cond b (Ok ((before.cells ++ x ∷ []) ++ xs)) (Err OutOfRange))
    (first_holds (has_small x) (list_all has_small xs) (nat_le (cell_count xs) (before.left - cell_size x.range))
    (nat_le (cell_count (x ∷ xs)) before.left) small
    (sym (ap (λ n. nat_le n before.left) (counted x xs)
    ∙ taken_first (cell_size x.range) (cell_count xs) before.left
    (nat_le (cell_count xs) (before.left - cell_size x.range)) refl room)))
    ∙ ap (λ cells. cond (are_within (x ∷ xs) before.left) (Ok cells) (Err OutOfRange))
    (append_assoc before.cells (x ∷ []) xs)
with_room before x xs false room small =
    ap (λ o. judged o xs) (cond-false (nat_le (cell_size x.range) before.left) _ _ room)
    ∙ sym (cond-false (are_within (x ∷ xs) before.left) _ _
    (ap (λ b. list_all has_small (x ∷ xs) && b)
    (ap (λ n. nat_le n before.left) (counted x xs) ∙ no_room (cell_size x.range) (cell_count xs) before.left room)
    ∙ and-false (list_all has_small (x ∷ xs))))

-- a cell with indices, by whether they are small
with_small : (before : CellsLeft) (called : List ℕ) (range : IndexRange) (xs : List NameRef) (b : Bool)
    → has_small (record { name = called; range = Some range }) ≡ b
    → judged (one_added (Some before) (record { name = called; range = Some range })) xs
    ≡ judged (Some before) (record { name = called; range = Some range } ∷ xs)
with_small before called range xs true small =
    let x : NameRef = record { name = called; range = Some range } in
    ap (λ o. judged (with_indices (Some before) called o) xs) (cond-true (has_small x) _ _ small)
    ∙ with_room before x xs (nat_le (cell_size x.range) before.left) refl small
with_small before called range xs false small =
    let x : NameRef = record { name = called; range = Some range } in
    ap (λ o. judged (with_indices (Some before) called o) xs) (cond-false (has_small x) _ _ small)
    ∙ sym (ap (λ b. cond ((b && list_all has_small xs) && nat_le (cell_count (x ∷ xs)) before.left)
    (Ok (before.cells ++ x ∷ xs)) (Err OutOfRange)) small)

-- what is beyond a limit stays so
none_stays : (called : List ℕ) (o : Option (ℕ × ℕ)) (xs : List NameRef) → judged (with_indices None called o) xs
    ≡ Err OutOfRange
none_stays called None xs = refl
none_stays called (Some pair) xs = refl

-- one more cell is judged with those behind it
judged_with : (c : Left) (called : List ℕ) (range : Option IndexRange) (xs : List NameRef)
    → judged (range_added c called range) xs ≡ judged c (record { name = called; range = range } ∷ xs)
judged_with (Some before) called None xs =
    with_room before (record { name = called; range = None }) xs (nat_le 1 before.left) refl refl
judged_with (Some before) called (Some range) xs =
    with_small before called range xs (has_small (record { name = called; range = Some range })) refl
judged_with None called None xs = refl
judged_with None called (Some range) xs =
    none_stays called (indices_of (record { first = range.first; last = range.last })) xs

judged_more : (c : Left) (x : NameRef) (xs : List NameRef) → judged (one_added c x) xs ≡ judged c (x ∷ xs)
judged_more c x xs = judged_with c x.name x.range xs

-- cells that are added are judged
pub limits : (c : Left) (cells : List NameRef) → within_limits (added c cells) ≡ judged c cells
limits None [] = refl
limits (Some before) [] =
    ap (λ cells. Ok cells) (sym (append-nil before.cells))
    ∙ sym (cond-true (are_within [] before.left) _ _ (leb-zero before.left))
limits c (x ∷ xs) = limits (one_added c x) xs ∙ judged_more c x xs
