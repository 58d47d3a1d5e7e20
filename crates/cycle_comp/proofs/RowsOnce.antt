-- Rows, each once.
use Rattle.std.proofs.Common.{◌≡◌, ℕ, zero, suc, Bool, true, false, cond, List, [], ◌∷◌, ◌++◌, Some, refl, sym, ap, ◌∙◌, append_assoc}
use Rattle.std.proofs.lemmas.List.{append-nil}
use Rattle.std.proofs.lemmas.List.Folds.{list_any-append}
use Rattle.std.specs.Prelude.{slice_get}
use Rattle.std.specs.List.{AllByRecursion}
use Rattle.std.proofs.lemmas.Bool.{or_left, or_right}
use Rattle.stil_ast.proofs.TextLemmas.{same-refl}
use Rattle.stil_ast.specs.Data.Texts.{same, has_name}
use Rattle.stil_ast.specs.Meaning.ExecutiveData.{distinct_rows}
use Rattle.cycle_comp.specs.Writing.{often}

-- rows with others behind them
pub record Extends (before after : List (List ℕ)) : Type 0 where
  pub more : List (List ℕ)
  pub are : after ≡ before ++ more

-- a row behind those that are there, once
abbrev with_row : List (List ℕ) → List ℕ → List (List ℕ)
with_row before row = cond (has_name before row) before (before ++ row ∷ [])

extends-cond : (b : Bool) (before : List (List ℕ)) (row : List ℕ) → Extends before (cond b before (before ++ row ∷ []))
extends-cond true before row = record { more = []; are = sym (append-nil before) }
extends-cond false before row = record { more = row ∷ []; are = refl }

extends-trans : (a b c : List (List ℕ)) → Extends a b → Extends b c → Extends a c
extends-trans a b c p q = record {
  more = p.more ++ q.more;
  are = q.are ∙ (ap (λ (rows : List (List ℕ)). rows ++ q.more) p.are ∙ append_assoc a p.more q.more);
}

pub distinct_rows-extends : (before rows : List (List ℕ)) → Extends before (distinct_rows before rows)
distinct_rows-extends before [] = record { more = []; are = sym (append-nil before) }
distinct_rows-extends before (row ∷ rows) =
    extends-trans before (with_row before row) (distinct_rows (with_row before row) rows)
    (extends-cond (has_name before row) before row) (distinct_rows-extends (with_row before row) rows)

pub distinct_rows-append : (before rows more : List (List ℕ))
    → distinct_rows before (rows ++ more) ≡ distinct_rows (distinct_rows before rows) more
distinct_rows-append before [] more = refl
distinct_rows-append before (row ∷ rows) more = distinct_rows-append (with_row before row) rows more

-- a row that is there stays
has_row-extends : (before after : List (List ℕ)) (row : List ℕ) → Extends before after → has_name before row ≡ true
    → has_name after row ≡ true
has_row-extends before after row x e =
    ap (λ (rows : List (List ℕ)). has_name rows row) x.are
    ∙ (list_any-append (same row) before x.more ∙ or_left (has_name before row) (has_name x.more row) e)

-- and is there once it was put
has_row-cond : (b : Bool) (before : List (List ℕ)) (row : List ℕ) → has_name before row ≡ b
    → has_name (cond b before (before ++ row ∷ [])) row ≡ true
has_row-cond true before row e = e
has_row-cond false before row e =
    list_any-append (same row) before (row ∷ [])
    ∙ or_right (has_name before row) (has_name (row ∷ []) row) (or_left (same row row) false (same-refl row))

-- all rows are there
abbrev AreThere : List (List ℕ) → List (List ℕ) → Type 0
AreThere there rows = AllByRecursion (λ (row : List ℕ). has_name there row ≡ true) rows

distinct_rows-there : (before rows : List (List ℕ)) → AreThere (distinct_rows before rows) rows
distinct_rows-there before [] = tt
distinct_rows-there before (row ∷ rows) = (
  has_row-extends (with_row before row) (distinct_rows (with_row before row) rows) row
      (distinct_rows-extends (with_row before row) rows) (has_row-cond (has_name before row) before row refl),
  distinct_rows-there (with_row before row) rows,
)

-- rows that are there add nothing
there-adds_none : (there rows : List (List ℕ)) → AreThere there rows → distinct_rows there rows ≡ there
there-adds_none there [] are = refl
there-adds_none there (row ∷ rows) are =
    ap (λ (b : Bool). distinct_rows (cond b there (there ++ row ∷ [])) rows) are.0 ∙ there-adds_none there rows are.1

-- nor does a row that has a number
pub has_row-at : (rows : List (List ℕ)) (n : ℕ) (row : List ℕ) → slice_get rows n ≡ Some row → has_name rows row ≡ true
has_row-at [] n row e = absurd cc
has_row-at (r ∷ rows) zero row e =
    let own : row ≡ r = cc in
    or_left (same row r) (has_name rows row) (ap (same row) (sym own) ∙ same-refl row)
has_row-at (r ∷ rows) (suc n) row e = or_right (same row r) (has_name rows row) (has_row-at rows n row e)

pub numbered-adds_none : (rows : List (List ℕ)) (n : ℕ) (row : List ℕ) → slice_get rows n ≡ Some row
    → distinct_rows rows (row ∷ []) ≡ rows
numbered-adds_none rows n row e = there-adds_none rows (row ∷ []) (has_row-at rows n row e, tt)

-- the same rows so often again
again-adds_none : (n : ℕ) (there rows : List (List ℕ)) → distinct_rows there rows ≡ there
    → distinct_rows there (often n rows) ≡ there
unfolding often
again-adds_none zero there rows e = refl
again-adds_none (suc n) there rows e =
    distinct_rows-append there rows (often n rows)
    ∙ (ap (λ (now : List (List ℕ)). distinct_rows now (often n rows)) e ∙ again-adds_none n there rows e)

pub distinct_rows-often : (n : ℕ) (before rows : List (List ℕ))
    → distinct_rows before (often (suc n) rows) ≡ distinct_rows before rows
unfolding often
distinct_rows-often n before rows =
    distinct_rows-append before rows (often n rows)
    ∙ again-adds_none n (distinct_rows before rows) rows
    (there-adds_none (distinct_rows before rows) rows (distinct_rows-there before rows))
