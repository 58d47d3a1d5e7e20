-- The number of a row where no row stands twice, and the entry of a vector.
use Rattle.std.proofs.Common.{◌≡◌, ℕ, zero, suc, ◌+◌, Bool, true, false, cond, List, [], ◌∷◌, ◌++◌, length, map, min, Option, Some, refl, sym, ap, subst, ◌∙◌, append_assoc, ◌⊎◌, inl, inr}
use Rattle.std.specs.Prelude.{slice_get, unwrap_or}
use Rattle.std.proofs.lemmas.List.{append-nil}
use Rattle.std.specs.Cmp.Lexicographic.{bytes_decides}
use Rattle.text_bytes.proofs.ListLemmas.{slice_get-more}
use Rattle.stil_ast.specs.Data.Texts.{same, has_name}
use Rattle.stil_ast.specs.Meaning.State.{Vector}
use Rattle.stil_ast.specs.Meaning.ExecutiveData.{distinct_rows, row_of}
use Rattle.stil_ast.specs.Meaning.Running.{Made}
use Rattle.cycle_comp.specs.Writing.{row_in}
use Rattle.cycle_comp.specs.Written.{HasEachOnce}
use Rattle.cycle_comp.specs.Passes.{row_number, entry_in, GoesOn}
use Rattle.cycle_comp.proofs.RowsOnce.{distinct_rows-extends, has_row-at}

-- ---- numbers

-- in a list with one more in front
number-step : (rows : List (List ℕ)) (r row : List ℕ)
    → ((n : ℕ) → slice_get rows n ≡ Some row → slice_get rows (row_number rows row) ≡ Some row)
    → (n : ℕ) → slice_get (r ∷ rows) n ≡ Some row → (b : Bool) → same row r ≡ b
    → slice_get (r ∷ rows) (cond b 0 (suc (row_number rows row))) ≡ Some row
number-step rows r row more n e true is = ap (λ (x : List ℕ). Some x) (sym ((bytes_decides row r).0 is))
number-step rows r row more zero e false is =
    let own : row ≡ r = cc in
    let yes : same row r ≡ true = (bytes_decides row r).1 own in
    absurd cc
number-step rows r row more (suc n) e false is = more n e

-- a row that is there has the number that is looked up
number-found : (rows : List (List ℕ)) (n : ℕ) (row : List ℕ) → slice_get rows n ≡ Some row
    → slice_get rows (row_number rows row) ≡ Some row
number-found [] n row e = absurd cc
number-found (r ∷ rows) n row e =
    number-step rows r row (λ k. number-found rows k row) n e (same row r) refl

-- where none stands twice it is its number
pub number-is : (rows : List (List ℕ)) (n : ℕ) (row : List ℕ) → HasEachOnce rows → slice_get rows n ≡ Some row
    → n ≡ row_number rows row
number-is rows n row once e = once n (row_number rows row) row e (number-found rows n row e)

-- the entry of a vector whose row was put among rows
pub entry-is : (first : ℕ) (rows all : List (List ℕ)) (v : Vector) (table short number : ℕ) → v.table ≡ Some table
    → short ≡ min (first + table) 65535 → slice_get rows number ≡ Some (row_of v) → GoesOn rows all
    → record { table = short; row = number; mark = v.mark } ≡ entry_in first all v
entry-is first rows all v table short number e is at on =
    let there = slice_get-more rows on.more number (row_of v) at in
    let own = number-is all number (row_of v) on.each_once
    (subst (λ (rs : List (List ℕ)). slice_get rs number ≡ Some (row_of v)) (sym on.are) there) in
    let same_table : short ≡ min (first + unwrap_or v.table 0) 65535 =
    is ∙ ap (λ (t : Option ℕ). min (first + unwrap_or t 0) 65535) (sym e) in
    ap (λ (t : ℕ). record { table = t; row = number; mark = v.mark }) same_table
    ∙ ap (λ (r : ℕ). record { table = min (first + unwrap_or v.table 0) 65535; row = r; mark = v.mark }) own

-- ---- rows without a repeated one

pub nothing_twice : HasEachOnce []
nothing_twice i j row e f = absurd cc

-- the place of a row in a list with one more: before it, or at its end
at_end : (rows : List (List ℕ)) (last row : List ℕ) (i : ℕ) → slice_get (rows ++ last ∷ []) i ≡ Some row
    → (slice_get rows i ≡ Some row) ⊎ ((i ≡ length rows) × (row ≡ last))
at_end [] last row zero e = inr (refl, cc)
at_end [] last row (suc i) e = absurd cc
at_end (r ∷ rows) last row zero e = inl e
at_end (r ∷ rows) last row (suc i) e = step (at_end rows last row i e)
  where
    step : (slice_get rows i ≡ Some row) ⊎ ((i ≡ length rows) × (row ≡ last))
        → (slice_get rows i ≡ Some row) ⊎ ((suc i ≡ suc (length rows)) × (row ≡ last))
    step (inl there) = inl there
    step (inr p) = inr (ap suc p.0, p.1)

once-more : (rows : List (List ℕ)) (last : List ℕ) → HasEachOnce rows → has_name rows last ≡ false
    → HasEachOnce (rows ++ last ∷ [])
once-more rows last once new i j row e f = step (at_end rows last row i e) (at_end rows last row j f)
  where
    not_there : (k : ℕ) → slice_get rows k ≡ Some row → row ≡ last → ⊥
    not_there k at is =
        let yes = has_row-at rows k last (at ∙ ap (λ (x : List ℕ). Some x) is) in
        absurd cc

    step : (slice_get rows i ≡ Some row) ⊎ ((i ≡ length rows) × (row ≡ last))
        → (slice_get rows j ≡ Some row) ⊎ ((j ≡ length rows) × (row ≡ last)) → i ≡ j
    step (inl a) (inl b) = once i j row a b
    step (inl a) (inr q) = absurd (not_there i a q.1)
    step (inr p) (inl b) = absurd (not_there j b p.1)
    step (inr p) (inr q) = p.0 ∙ sym q.0

once-cond : (b : Bool) (rows : List (List ℕ)) (row : List ℕ) → has_name rows row ≡ b → HasEachOnce rows
    → HasEachOnce (cond b rows (rows ++ row ∷ []))
once-cond true rows row e once = once
once-cond false rows row e once = once-more rows row once e

pub distinct_rows-once : (before rows : List (List ℕ)) → HasEachOnce before → HasEachOnce (distinct_rows before rows)
distinct_rows-once before [] once = once
distinct_rows-once before (row ∷ rows) once =
    distinct_rows-once (cond (has_name before row) before (before ++ row ∷ [])) rows
    (once-cond (has_name before row) before row refl once)

-- ---- rows that go on

pub goes_on-earlier : (rows after all : List (List ℕ)) (made : List Made) → after ≡ distinct_rows rows (map row_in made)
    → GoesOn after all → GoesOn rows all
goes_on-earlier rows after all made e on =
    let x = distinct_rows-extends rows (map row_in made) in
    record {
      more = x.more ++ on.more;
      are = on.are ∙ (ap (λ (rs : List (List ℕ)). rs ++ on.more) (e ∙ x.are) ∙ append_assoc rows x.more on.more);
      each_once = on.each_once;
    }

pub goes_on-here : (rows : List (List ℕ)) → HasEachOnce rows → GoesOn rows rows
goes_on-here rows once = record { more = []; are = sym (append-nil rows); each_once = once }
