-- What a W, a Macro or a Call names, and when it is refused.
use Rattle.std.proofs.Common.{◌≡◌, ℕ, zero, suc, ◌+◌, ◌||◌, Bool, true, false, not, cond, List, [], ◌∷◌, Option, Some, None, refl, ap, ◌∙◌, length, map, drop, slice_get, nat_lt, arith}
use Rattle.std.specs.List.{list_any, position_or_len}
use Rattle.std.specs.Option.{option_map}
use Rattle.text_bytes.specs.Limits.{deepest_calls}
use Rattle.text_bytes.proofs.ListLemmas.{suc-plus}
use Rattle.tester_types.specs.declared.wave.Table.{Table}
use Rattle.stil_ast.specs.Data.Texts.{same}
use Rattle.stil_ast.specs.Data.Written.{Written}
use Rattle.stil_ast.specs.Meaning.Resolved.{Scope}
use Rattle.stil_ast.specs.Faults.AssignmentFaults.{Walked, Checked, refused, then_check, bar_if, Callee, Standing, fault_on, check_arguments}
use Rattle.stil_ast.specs.Faults.PatternFaults.{inside_body, same_callee, back_from, with_own, check_body, check_call}
use Rattle.stil_ast.specs.declared.body.Assignment.{Assignment}
use Rattle.stil_ast.specs.declared.blocks.BodyDef.{BodyDef}
use Rattle.stil_ast.specs.declared.fault.StilKind.TheVariants.{TooLarge, ShiftForm, UnknownName, Cyclic}
use Rattle.macro_expand.proofs.PlaceLemmas.{barred, not_barred, not_ruled_out}

-- where the first item passes a test, or doesn't
first-passes : {A : Type 0} (test : A → Bool) (x : A) (xs : List A) → test x ≡ true → position_or_len test (x ∷ xs) ≡ 0
first-passes test x xs e = ap (λ (b : Bool). cond (not b) (1 + position_or_len test xs) 0) e

first-fails : {A : Type 0} (test : A → Bool) (x : A) (xs : List A) → test x ≡ false
    → position_or_len test (x ∷ xs) ≡ 1 + position_or_len test xs
first-fails test x xs e = ap (λ (b : Bool). cond (not b) (1 + position_or_len test xs) 0) e

nowhere_step : {A : Type 0} (test : A → Bool) (x : A) (xs : List A) (b : Bool) → test x ≡ b
    → position_or_len test (x ∷ xs) ≡ length (x ∷ xs)
    → (position_or_len test xs ≡ length xs → list_any test xs ≡ false) → (test x || list_any test xs) ≡ false
nowhere_step test x xs true is e rest = absurd (omega (arith, first-passes test x xs is, e))
nowhere_step test x xs false is e rest =
    ap (λ (b : Bool). b || list_any test xs) is ∙ rest (omega (arith, first-fails test x xs is, e))

-- what is found nowhere
pub found_nowhere : {A : Type 0} (test : A → Bool) (xs : List A) → position_or_len test xs ≡ length xs → list_any test xs ≡ false
found_nowhere test [] e = refl
found_nowhere test (x ∷ xs) e = nowhere_step test x xs (test x) refl e (found_nowhere test xs)

somewhere_step : {A : Type 0} (test : A → Bool) (x : A) (xs : List A) (b : Bool) → test x ≡ b
    → (position_or_len test (x ∷ xs) ≡ length (x ∷ xs) → ⊥)
    → ((position_or_len test xs ≡ length xs → ⊥) → list_any test xs ≡ true) → (test x || list_any test xs) ≡ true
somewhere_step test x xs true is e rest = ap (λ (b : Bool). b || list_any test xs) is
somewhere_step test x xs false is e rest =
    ap (λ (b : Bool). b || list_any test xs) is ∙ rest (λ none. e (omega (arith, first-fails test x xs is, none)))

-- what is found somewhere
pub found_somewhere : {A : Type 0} (test : A → Bool) (xs : List A) → (position_or_len test xs ≡ length xs → ⊥)
    → list_any test xs ≡ true
found_somewhere test [] e = absurd (e refl)
found_somewhere test (x ∷ xs) e = somewhere_step test x xs (test x) refl e (found_somewhere test xs)

-- the name of a table, and those of the tables behind it
table_at : (tables : List Table) (i : ℕ) (name : List ℕ) → option_map (λ (t : Table). t.name) (slice_get tables i) ≡ Some name
    → map (λ (t : Table). t.name) (drop i tables) ≡ name ∷ map (λ (t : Table). t.name) (drop (suc i) tables)
table_at [] i name e = cc
table_at (t ∷ tables) zero name e =
    let same : t.name ≡ name = cc in ap (λ (n : List ℕ). n ∷ map (λ (t : Table). t.name) tables) same
table_at (t ∷ tables) (suc i) name e = table_at tables i name e

-- a table of the name that is looked for
pub table_found : (tables : List Table) (i : ℕ) (n name : List ℕ) → option_map (λ (t : Table). t.name) (slice_get tables i) ≡ Some n
    → same name n ≡ true → i + position_or_len (same name) (map (λ (t : Table). t.name) (drop i tables)) ≡ i
table_found tables i n name at e =
    let here = ap (position_or_len (same name)) (table_at tables i n at)
    ∙ first-passes (same name) n (map (λ (t : Table). t.name) (drop (suc i) tables)) e in
    omega (arith, here)

-- a table of another name
pub table_missed : (tables : List Table) (i : ℕ) (n name : List ℕ) → option_map (λ (t : Table). t.name) (slice_get tables i) ≡ Some n
    → same name n ≡ false
    → i + 1 + position_or_len (same name) (map (λ (t : Table). t.name) (drop (i + 1) tables))
    ≡ i + position_or_len (same name) (map (λ (t : Table). t.name) (drop i tables))
table_missed tables i n name at e =
    let here = ap (position_or_len (same name)) (table_at tables i n at)
    ∙ first-fails (same name) n (map (λ (t : Table). t.name) (drop (suc i) tables)) e in
    let next = ap (λ (j : ℕ). position_or_len (same name) (map (λ (t : Table). t.name) (drop j tables))) (suc-plus i) in
    omega (arith, here, next)

module _ (sc : Scope) (check : Standing → Written → Walked → Checked) (s : Standing) (line : ℕ) (c : Callee) (assigns : List Assignment) (w : Walked) where
  abbrev form : Walked → Checked
  form = bar_if s.in_shift (fault_on sc s line ShiftForm) (check_body sc check s line c assigns c.found)

  behind_form : nat_lt s.calls deepest_calls ≡ true → s.in_shift ≡ false
      → check_call sc check s line c assigns w ≡ check_body sc check s line c assigns c.found w
  behind_form few e =
      not_ruled_out (nat_lt s.calls deepest_calls) (fault_on sc s line TooLarge) form w few
      ∙ not_barred s.in_shift (fault_on sc s line ShiftForm) (check_body sc check s line c assigns c.found) w e

  -- a call of nothing
  pub call_unknown : nat_lt s.calls deepest_calls ≡ true → s.in_shift ≡ false → c.found ≡ None
      → check_call sc check s line c assigns w ≡ refused (fault_on sc s line UnknownName)
  call_unknown few out e =
      behind_form few out ∙ ap (λ (o : Option BodyDef). check_body sc check s line c assigns o w) e

  -- the rules on a call's body, and what is behind them
  abbrev inside : BodyDef → Walked → Checked
  inside d w =
      then_check (check_arguments sc s assigns w)
      (λ now. back_from w (check (inside_body c s) d.body (with_own sc assigns now)))

  -- a call of a body that runs already
  pub call_cyclic : (d : BodyDef) → nat_lt s.calls deepest_calls ≡ true → s.in_shift ≡ false → c.found ≡ Some d
      → list_any (same_callee c) s.running ≡ true
      → check_call sc check s line c assigns w ≡ refused (fault_on sc s line Cyclic)
  call_cyclic d few out found e =
      behind_form few out ∙ ap (λ (o : Option BodyDef). check_body sc check s line c assigns o w) found
      ∙ barred (list_any (same_callee c) s.running) (fault_on sc s line Cyclic) (inside d) w e

  -- a call of a body that may run
  pub call_runs : (d : BodyDef) → nat_lt s.calls deepest_calls ≡ true → s.in_shift ≡ false → c.found ≡ Some d
      → list_any (same_callee c) s.running ≡ false → check_call sc check s line c assigns w ≡ inside d w
  call_runs d few out found e =
      behind_form few out ∙ ap (λ (o : Option BodyDef). check_body sc check s line c assigns o w) found
      ∙ not_barred (list_any (same_callee c) s.running) (fault_on sc s line Cyclic) (inside d) w e
