-- Entries that run vectors.
use Rattle.std.proofs.Common.{◌≡◌, ℕ, zero, suc, List, [], ◌∷◌, ◌++◌, map, refl, ap, ◌∙◌}
use Rattle.std.proofs.lemmas.List.{map-append}
use Rattle.text_bytes.proofs.ListLemmas.{slice_get-more}
use Rattle.stil_ast.specs.Meaning.State.{Vector}
use Rattle.packed_code.specs.declared.instr.Entry.{Entry}
use Rattle.packed_code.specs.Meaning.{repeated}
use Rattle.cycle_comp.specs.Entries.{AreEntries}
use Rattle.cycle_comp.specs.Writing.{often}

pub entries-more : (first : ℕ) (rows more : List (List ℕ)) (vectors : List Vector) (entries : List Entry)
    → AreEntries first rows vectors entries → AreEntries first (rows ++ more) vectors entries
entries-more first rows more [] [] are = tt
entries-more first rows more [] (e ∷ entries) are = absurd are
entries-more first rows more (v ∷ vectors) [] are = absurd are
entries-more first rows more (v ∷ vectors) (e ∷ entries) are = (
  record { table = are.0.table; row = slice_get-more rows more e.row _ are.0.row; mark = are.0.mark },
  entries-more first rows more vectors entries are.1,
)

pub entries-append : (first : ℕ) (rows : List (List ℕ)) (vectors more : List Vector) (entries behind : List Entry)
    → AreEntries first rows vectors entries → AreEntries first rows more behind
    → AreEntries first rows (vectors ++ more) (entries ++ behind)
entries-append first rows [] more [] behind p q = q
entries-append first rows [] more (e ∷ entries) behind p q = absurd p
entries-append first rows (v ∷ vectors) more [] behind p q = absurd p
entries-append first rows (v ∷ vectors) more (e ∷ entries) behind p q =
    (p.0, entries-append first rows vectors more entries behind p.1 q)

-- the same vectors so often
pub entries-often : (first : ℕ) (rows : List (List ℕ)) (n : ℕ) (vectors : List Vector) (entries : List Entry)
    → AreEntries first rows vectors entries → AreEntries first rows (often n vectors) (repeated n entries)
unfolding often repeated
entries-often first rows zero vectors entries are = tt
entries-often first rows (suc n) vectors entries are =
    entries-append first rows vectors (often n vectors) entries (repeated n entries) are
    (entries-often first rows n vectors entries are)

-- no entries run no vectors
pub entries-none : (first : ℕ) (rows : List (List ℕ)) (vectors : List Vector) → AreEntries first rows vectors []
    → vectors ≡ []
entries-none first rows [] are = refl
entries-none first rows (v ∷ vectors) are = absurd are

-- what is seen of items so often
pub map-often : {A B : Type 0} (f : A → B) (n : ℕ) (xs : List A) → map f (often n xs) ≡ often n (map f xs)
unfolding often
map-often f zero xs = refl
map-often f (suc n) xs = map-append f xs (often n xs) ∙ ap (λ ys. map f xs ++ ys) (map-often f n xs)
