-- What is known of a latest vector, and that it stays so.
use Rattle.std.proofs.Common.{◌≡◌, ℕ, zero, suc, ◌+◌, Bool, true, false, ◌||◌, List, [], ◌∷◌, map, eqb, get_or, Option, Some, None, refl, sym, ap, subst, ◌∙◌, arith, ◌⊎◌, inl, inr}
use Rattle.std.specs.Prelude.{slice_get}
use Rattle.std.specs.List.{list_all}
use Rattle.std.specs.Cmp.{both_ways}
use Rattle.std.proofs.lemmas.Bool.{cases_Bool, and_from, and_parts, eqb-true}
use Rattle.text_bytes.proofs.ListLemmas.{slice_get-more}
use Rattle.tester_types.specs.declared.wave.Table.{Table}
use Rattle.stil_ast.specs.Meaning.State.{State}
use Rattle.stil_ast.specs.Meaning.Dealing.{has_signal}
use Rattle.stil_ast.specs.Meaning.Running.{Made}
use Rattle.stil_ast.specs.Meaning.ExecutiveData.{distinct_rows}
use Rattle.stil_ast.specs.Faults.CodeFaults.{has_wave, have_waves}
use Rattle.cycle_comp.specs.declared.state.Latest.{Latest}
use Rattle.cycle_comp.specs.Known.{Known, unknown, known, row_of_characters, has_wave_at, AreJudged, IsKnown}
use Rattle.cycle_comp.specs.Writing.{row_in}
use Rattle.cycle_comp.proofs.RowsOnce.{distinct_rows-extends}

-- ---- the waves of all signals, and those of each

-- where all have their waves each of them has it, and back
waves_at : (t : Option Table) (k : ℕ) (characters : List (Option ℕ)) → have_waves t k characters ≡ true → (x : ℕ)
    → has_wave t (k + x) (get_or characters x None) ≡ true
waves_at t k [] e x = refl
waves_at t k (c ∷ characters) e zero =
    let here : k + zero ≡ k = omega arith in
    ap (λ (s : ℕ). has_wave t s c) here ∙ (and_parts (has_wave t k c) (have_waves t (k + 1) characters) e).0
waves_at t k (c ∷ characters) e (suc x) =
    let next : k + suc x ≡ k + 1 + x = omega arith in
    ap (λ (s : ℕ). has_wave t s (get_or characters x None)) next
    ∙ waves_at t (k + 1) characters (and_parts (has_wave t k c) (have_waves t (k + 1) characters) e).1 x

waves_from : (t : Option Table) (k : ℕ) (characters : List (Option ℕ))
    → ((x : ℕ) → has_wave t (k + x) (get_or characters x None) ≡ true) → have_waves t k characters ≡ true
waves_from t k [] each = refl
waves_from t k (c ∷ characters) each =
    let here : k ≡ k + zero = omega arith in
    and_from (has_wave t k c) (have_waves t (k + 1) characters) (ap (λ (s : ℕ). has_wave t s c) here ∙ each zero)
    (waves_from t (k + 1) characters (λ x.
    let next : k + 1 + x ≡ k + suc x = omega arith in
    ap (λ (s : ℕ). has_wave t s (get_or characters x None)) next ∙ each (suc x)))

-- the same from the first signal on
waves_each : (t : Option Table) (characters : List (Option ℕ)) → have_waves t 0 characters ≡ true → (x : ℕ)
    → has_wave t x (get_or characters x None) ≡ true
waves_each t characters e x =
    let same : x ≡ 0 + x = omega arith in
    ap (λ (s : ℕ). has_wave t s (get_or characters x None)) same ∙ waves_at t 0 characters e x

waves_all : (t : Option Table) (characters : List (Option ℕ)) → ((x : ℕ) → has_wave t x (get_or characters x None) ≡ true)
    → have_waves t 0 characters ≡ true
waves_all t characters each =
    waves_from t 0 characters (λ x.
    let same : 0 + x ≡ x = omega arith in ap (λ (s : ℕ). has_wave t s (get_or characters x None)) same ∙ each x)

-- a signal of a list passes what all of it pass
has_one : (b : Bool) (p : ℕ → Bool) (s x : ℕ) (more : Bool) → eqb s x ≡ b → p s ≡ true → (b || more) ≡ true
    → (more ≡ true → p x ≡ true) → p x ≡ true
has_one true p s x more is here has next = subst (λ (y : ℕ). p y ≡ true) (eqb-true s x is) here
has_one false p s x more is here has next = next has

all-has : (p : ℕ → Bool) (signals : List ℕ) (x : ℕ) → list_all p signals ≡ true → has_signal signals x ≡ true
    → p x ≡ true
all-has p [] x e has = absurd cc
all-has p (s ∷ signals) x e has =
    let both = and_parts (p s) (list_all p signals) e in
    has_one (eqb s x) p s x (has_signal signals x) refl both.0 has (λ more. all-has p signals x both.1 more)

-- and where each signal passes, so does a list
all-each : (p : ℕ → Bool) (signals : List ℕ) → ((x : ℕ) → p x ≡ true) → list_all p signals ≡ true
all-each p [] each = refl
all-each p (s ∷ signals) each = and_from (p s) (list_all p signals) (each s) (all-each p signals each)

-- ---- a vector

-- whether the signals that have changed have their waves says it of all
pub changed_judged : (tables : List Table) (s : Known) (l : Latest) → s.latest ≡ Some l → AreJudged tables s
    → list_all (has_wave_at tables l.table s.told.characters) s.changed
    ≡ have_waves (slice_get tables l.table) 0 s.told.characters
changed_judged tables s l e judged =
    let t = slice_get tables l.table in
    let characters = s.told.characters in
    let p = has_wave_at tables l.table characters in
    both_ways (list_all p s.changed) (have_waves t 0 characters)
    (λ all. waves_all t characters (λ x. each x all (cases_Bool (has_signal s.changed x))))
    (λ all. all-each p s.changed (λ x. waves_each t characters all x))
  where
    each : (x : ℕ) → list_all (has_wave_at tables l.table s.told.characters) s.changed ≡ true
        → (has_signal s.changed x ≡ true) ⊎ (has_signal s.changed x ≡ false)
        → has_wave_at tables l.table s.told.characters x ≡ true
    each x all (inl has) = all-has (has_wave_at tables l.table s.told.characters) s.changed x all has
    each x all (inr not) = judged l x e not

-- nothing is known at first
pub known-nothing : (tables : List Table) (rows : List (List ℕ)) (told : State) (s : Known) → s ≡ unknown told
    → IsKnown tables rows s
known-nothing tables rows told s e =
    let none : s.latest ≡ None = ap (λ (k : Known). k.latest) e in
    record { judged = λ l signal is not. absurd cc; numbered = λ l is unchanged. absurd cc }

-- what a vector tells that was made
pub known-made : (tables : List Table) (rows : List (List ℕ)) (s : Known) (table row : ℕ)
    → have_waves (slice_get tables table) 0 s.told.characters ≡ true
    → slice_get rows row ≡ Some (row_of_characters s.told.characters) → IsKnown tables rows (known s table row)
known-made tables rows s table row waves at =
    let own : Latest = record { table = table; row = row } in
    record {
      judged =
          λ l signal e not.
          let same : own ≡ l = cc in
          subst (λ (x : Latest). has_wave_at tables x.table s.told.characters signal ≡ true) same
          (waves_each (slice_get tables table) s.told.characters waves signal);
      numbered =
          λ l e none.
          let same : own ≡ l = cc in
          subst (λ (x : Latest). slice_get rows x.row ≡ Some (row_of_characters s.told.characters)) same at;
    }

-- ---- what stays known

-- of a state that is the same
pub known-as : (tables : List Table) (rows : List (List ℕ)) (s same : Known) → s ≡ same → IsKnown tables rows same
    → IsKnown tables rows s
known-as tables rows s same e k = subst (λ (x : Known). IsKnown tables rows x) (sym e) k

-- with more rows
pub known-later : (tables : List Table) (rows after : List (List ℕ)) (made : List Made) (s : Known)
    → after ≡ distinct_rows rows (map row_in made) → IsKnown tables rows s → IsKnown tables after s
known-later tables rows after made s e k =
    let x = distinct_rows-extends rows (map row_in made) in
    record {
      judged = k.judged;
      numbered =
          λ l is none.
          subst (λ (rs : List (List ℕ)). slice_get rs l.row ≡ Some (row_of_characters s.told.characters)) (sym (e ∙ x.are))
          (slice_get-more rows x.more l.row (row_of_characters s.told.characters) (k.numbered l is none));
    }
