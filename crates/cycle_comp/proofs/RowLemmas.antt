-- The rows of vectors that can run meet the conditions on a code's rows.
use Rattle.std.proofs.Common.{◌≡◌, ℕ, Bool, true, false, List, [], ◌∷◌, ◌++◌, length, refl, sym, subst, append_assoc, if◌then◌else◌}
use Rattle.std.specs.List.{list_all, AllByRecursion}
use Rattle.std.proofs.lemmas.List.{append-nil}
use Rattle.stil_ast.specs.Data.Texts.{has_name}
use Rattle.stil_ast.specs.Meaning.ExecutiveData.{distinct_rows}
use Rattle.packed_code.specs.RowBytes.{is_place}
use Rattle.packed_code.specs.Conditions.{EachBehind, IsRow}

-- a row with a character or none for each signal
pub record IsGoodRow (signals : ℕ) (row : List ℕ) : Type 0 where
  pub places : length row ≡ signals
  pub characters : list_all is_place row ≡ true

-- one more item, as it should be behind all
pub each_push : {A : Type 0} (Fits : List A → A → Type 0) (before items : List A) (x : A)
    → EachBehind Fits before items
    → Fits (before ++ items) x → EachBehind Fits before (items ++ x ∷ [])
each_push {A} Fits before [] x each fits = (subst (λ (b : List A). Fits b x) (append-nil before) fits, tt)
each_push {A} Fits before (y ∷ ys) x each fits = (
  each.0,
  each_push Fits (before ++ y ∷ []) ys x each.1
      (subst (λ (b : List A). Fits b x) (sym (append_assoc before (y ∷ []) ys)) fits),
)

-- one row more, if it is new
with_row : (signals : ℕ) (before : List (List ℕ)) (row : List ℕ) (b : Bool) → has_name before row ≡ b
    → EachBehind (IsRow signals) [] before → IsGoodRow signals row
    → EachBehind (IsRow signals) [] (if b then before else before ++ (row ∷ []))
with_row signals before row true is each good = each
with_row signals before row false is each good =
    each_push (IsRow signals) [] before row each
    (record { places = good.places; characters = good.characters; fresh = is })

-- rows, each once
pub rows_are : (signals : ℕ) (before rows : List (List ℕ)) → EachBehind (IsRow signals) [] before
    → AllByRecursion (IsGoodRow signals) rows → EachBehind (IsRow signals) [] (distinct_rows before rows)
rows_are signals before [] each good = each
rows_are signals before (row ∷ rows) each good =
    rows_are signals (if has_name before row then before else before ++ (row ∷ [])) rows
    (with_row signals before row (has_name before row) refl each good.0) good.1
