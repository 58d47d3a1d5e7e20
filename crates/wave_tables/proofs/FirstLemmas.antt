-- The first fault of items that are judged one after another.
use Rattle.std.proofs.Common.{◌≡◌, ℕ, suc, ◌+◌, ◌<◌, ◌≤◌, List, Option, Some, None, length, get_or, drop, sym, ap, subst, ◌∙◌, arith}
use Rattle.std.specs.List.{enumerate_from}
use Rattle.std.specs.Prelude.{slice_get}
use Rattle.wave_tables.proofs.TakenLemmas.{drop_found}
use Rattle.std.proofs.Math.Seq.{drop-cons}
use Rattle.std.proofs.lemmas.List.{drop_all}
use Rattle.std.specs.Prelude.{Result, Ok, Err}
use Rattle.stil_ast.specs.Data.Places.{Place}
use Rattle.stil_ast.specs.Faults.Found.{or_else, first_in}
use Rattle.stil_ast.specs.declared.fault.StilFault.{StilFault}
use Rattle.stil_ast.specs.Faults.TableFaults.{Timed}
use Rattle.expr_text.specs.Ratio.{Ratio}
use Rattle.wave_tables.specs.Check.{Trouble, IsAt, JudgesAt}

-- the fault of the first of two
pub at_first : (place : Place) (a b : Option StilFault) (e : Trouble) → IsAt place a e → IsAt place (or_else a b) e
at_first place a b e h = λ at same. ap (λ (o : Option StilFault). or_else o b) (h at same)

-- that of the second, where the first has none
pub none_first : (a b : Option StilFault) → a ≡ None → or_else a b ≡ b
none_first a b none = ap (λ (o : Option StilFault). or_else o b) none

-- a pass that answers the same fault, however many of the waves are of the executives before
pub judges_same : {A : Type 0} (t : Timed Ratio) (before number : ℕ) (inner outer : ℕ → Option StilFault)
    (Wanted : A → Type 0) (r : Result A Trouble) → ((base : ℕ) → outer base ≡ inner base)
    → JudgesAt t before number inner Wanted r → JudgesAt t before number outer Wanted r
judges_same t before number inner outer Wanted (Ok x) same h = ((λ base at. same base ∙ h.0 base at), h.1)
judges_same t before number inner outer Wanted (Err e) same h = λ base at.
    subst (λ (o : Option StilFault). IsAt t.place o e) (sym (same base)) (h base at)

-- none of those before has a fault: the first is that of those from here on
pub first_step : {X : Type 0} (f : X → Option StilFault) (xs : List X) (i : ℕ) (x : X) → i < length xs
    → x ≡ get_or xs i x
    → first_in f (drop i xs) ≡ or_else (f x) (first_in f (drop (i + 1) xs))
first_step f xs i x within is =
    let next : suc i ≡ i + 1 = omega arith in
    ap (first_in f) (drop-cons xs i x within)
    ∙ ap (λ y. or_else (f y) (first_in f (drop (suc i) xs))) (sym is)
    ∙ ap (λ (n : ℕ). or_else (f x) (first_in f (drop n xs))) next

-- an item without a fault
pub first_more : {X : Type 0} (f : X → Option StilFault) (xs : List X) (i : ℕ) (x : X) → i < length xs
    → x ≡ get_or xs i x
    → first_in f xs ≡ first_in f (drop i xs) → f x ≡ None → first_in f xs ≡ first_in f (drop (i + 1) xs)
first_more f xs i x within is before none =
    before ∙ first_step f xs i x within is
    ∙ ap (λ (o : Option StilFault). or_else o (first_in f (drop (i + 1) xs))) none

-- an item with a fault
pub first_found : {X : Type 0} (f : X → Option StilFault) (xs : List X) (i : ℕ) (x : X) (place : Place) (e : Trouble)
    → i < length xs → x ≡ get_or xs i x
    → first_in f xs ≡ first_in f (drop i xs) → IsAt place (f x) e → IsAt place (first_in f xs) e
first_found f xs i x place e within is before at =
    rw (before ∙ first_step f xs i x within is) (at_first place (f x) (first_in f (drop (i + 1) xs)) e at)

-- all items are without a fault
pub first_none : {X : Type 0} (f : X → Option StilFault) (xs : List X) (i : ℕ) → length xs ≤ i
    → first_in f xs ≡ first_in f (drop i xs) → first_in f xs ≡ None
first_none f xs i past before = before ∙ ap (first_in f) (drop_all i xs past)

-- the first of numbered items, from one on
pub first_numbered : {X : Type 0} (f : ℕ × X → Option StilFault) (xs : List X) (i : ℕ) (x : X) → slice_get xs i ≡ Some x
    → first_in f (enumerate_from i (drop i xs))
    ≡ or_else (f (i, x)) (first_in f (enumerate_from (i + 1) (drop (i + 1) xs)))
first_numbered f xs i x at = ap (λ l. first_in f (enumerate_from i l)) (drop_found xs i x at)
