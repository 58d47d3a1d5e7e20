-- What forms say of lists: names that differ are distinct, cells are counted without spreading them, and signals are
-- named without where they were declared.
use Rattle.std.proofs.Common.{◌≡◌, ℕ, zero, suc, ◌+◌, ◌-◌, ◌<◌, Bool, true, false, not, get_or, arith, List, [], ◌∷◌, Option, Some, None, refl, sym, ap, ◌∙◌, length, reverse, nat_le, if◌then◌else◌, ◌++◌, map, flat_map}
use Rattle.std.specs.Prelude.{sum_by}
use Rattle.std.specs.List.{list_any, AllByRecursion, IsDistinct}
use Rattle.std.proofs.lemmas.List.{length-map, length-reverse, map-append}
use Rattle.std.proofs.lemmas.Simd.{map-map}
use Rattle.std.proofs.lemmas.List.Sums.{sum_by-cons}
use Rattle.std.proofs.lemmas.List.Concat.{length-flat_map}
use Rattle.std.proofs.lemmas.Bool.{and_parts, or_parts, not-true}
use Rattle.stil_ast.specs.Data.Texts.{upwards, indices, indexed, names_with}
use Rattle.stil_ast.specs.Data.Forms.{all_differ}
use Rattle.stil_ast.specs.Data.BlockForms.{range_size, cell_size, cell_count}
use Rattle.stil_ast.specs.Meaning.Signals.{Signal, declared_as, declared, signal_texts}
use Rattle.stil_ast.specs.Meaning.Chains.{cells_of}
use Rattle.stil_ast.specs.declared.name.IndexRange.{IndexRange}
use Rattle.stil_ast.specs.declared.name.NameRef.{NameRef}
use Rattle.stil_ast.specs.declared.signal.SignalDecl.{SignalDecl}
use Rattle.stil_ast.specs.declared.scan.CellsDecl.{CellsDecl}

-- no item of a list passes
none_pass : {A : Type 0} (test : A → Bool) (xs : List A) → list_any test xs ≡ false
    → AllByRecursion (λ (x : A). test x ≡ false) xs
none_pass test [] h = tt
none_pass test (x ∷ xs) h = let parts = or_parts (test x) (list_any test xs) h in (parts.0, none_pass test xs parts.1)

-- items that differ are distinct
pub IsDistinct-from_all_differ : {A : Type 0} (equal : A → A → Bool) (xs : List A) → all_differ equal xs ≡ true
    → IsDistinct equal xs
unfolding IsDistinct
IsDistinct-from_all_differ equal [] h = tt
IsDistinct-from_all_differ equal (x ∷ xs) h =
    let parts = and_parts (not (list_any (equal x) xs)) (all_differ equal xs) h in
    (none_pass (equal x) xs (not-true (list_any (equal x) xs) parts.0), IsDistinct-from_all_differ equal xs parts.1)

pub length-upwards : (from count : ℕ) → length (upwards from count) ≡ count
length-upwards from zero = refl
length-upwards from (suc count) = ap suc (length-upwards (suc from) count)

-- the number at a place
pub get_or-upwards : (from count i : ℕ) → i < count → get_or (upwards from count) i 0 ≡ from + i
get_or-upwards from zero i h = absurd (omega arith)
get_or-upwards from (suc count) zero h = omega arith
get_or-upwards from (suc count) (suc i) h = omega (arith, get_or-upwards (suc from) count i (omega arith))

either_way : (up : Bool) (r : IndexRange)
    → length (if up then upwards r.first (suc (r.last - r.first)) else reverse (upwards r.last (suc (r.first - r.last))))
    ≡ (if up then suc (r.last - r.first) else suc (r.first - r.last))
either_way true r = length-upwards r.first (suc (r.last - r.first))
either_way false r =
    length-reverse (upwards r.last (suc (r.first - r.last))) ∙ length-upwards r.last (suc (r.first - r.last))

-- how many indices a range has
pub length-indices : (r : IndexRange) → length (indices r) ≡ range_size r
length-indices r = either_way (nat_le r.first r.last) r

length-names_with : (name : List ℕ) (range : Option IndexRange) → length (names_with name range) ≡ cell_size range
length-names_with name None = refl
length-names_with name (Some range) = length-map (indices range) (indexed name) ∙ length-indices range

counted_cells : (cells : List NameRef)
    → sum_by (λ (r : NameRef). length (names_with r.name r.range)) cells ≡ cell_count cells
counted_cells [] = refl
counted_cells (c ∷ cells) =
    sum_by-cons (λ (r : NameRef). length (names_with r.name r.range)) c cells
    ∙ ap (λ n. n + sum_by (λ (r : NameRef). length (names_with r.name r.range)) cells) (length-names_with c.name c.range)
    ∙ ap (λ n. cell_size c.range + n) (counted_cells cells)
    ∙ sym (sum_by-cons (λ (r : NameRef). cell_size r.range) c cells)

-- how many cells a chain has
pub length-cells_of : (c : CellsDecl) → length (cells_of c) ≡ cell_count c.cells
length-cells_of c = length-flat_map (λ (r : NameRef). names_with r.name r.range) c.cells ∙ counted_cells c.cells

texts_of_one : (d : SignalDecl) (range : Option IndexRange)
    → map (λ (s : Signal). s.text) (declared_as d range) ≡ names_with d.name range
texts_of_one d None = refl
texts_of_one d (Some range) = map-map _ _ (indices range)

-- the texts of all signals, without where they were declared
pub signal_texts-are : (declarations : List SignalDecl)
    → map (λ (s : Signal). s.text) (flat_map declared declarations) ≡ signal_texts declarations
signal_texts-are [] = refl
signal_texts-are (d ∷ declarations) =
    map-append (λ (s : Signal). s.text) (declared d) (flat_map declared declarations)
    ∙ ap (λ texts. texts ++ map (λ (s : Signal). s.text) (flat_map declared declarations)) (texts_of_one d d.range)
    ∙ ap (λ texts. names_with d.name d.range ++ texts) (signal_texts-are declarations)
