-- The first fault of the tables, one table after another.
use Rattle.std.proofs.Common.{◌≡◌, ℕ, zero, suc, ◌+◌, ◌<◌, ◌||◌, Bool, false, List, [], ◌∷◌, Option, Some, None, length, nat_le, refl, sym, ap, ◌∙◌, arith}
use Rattle.std.specs.Prelude.{slice_get}
use Rattle.std.specs.List.{list_any, filter_map, cons_option, enumerate_from}
use Rattle.text_bytes.proofs.ListLemmas.{slice_get-there}
use Rattle.text_bytes.specs.Limits.{most_waves}
use Rattle.stil_ast.specs.Data.Places.{Place}
use Rattle.stil_ast.specs.Meaning.Signals.{Names}
use Rattle.stil_ast.specs.Meaning.Tables.{table_of, inherited_by, leads_into_cycle, waveforms, wave_count}
use Rattle.stil_ast.specs.Faults.Found.{first_in, fault_at, on_line, unless}
use Rattle.stil_ast.specs.Faults.TableFaults.{Timed, inherit_found, inherit_fault, waves_of_first, table_fault, tables_fault}
use Rattle.stil_ast.specs.declared.fault.StilFault.{StilFault}
use Rattle.stil_ast.specs.declared.fault.StilKind.TheVariants.{TooLarge}
use Rattle.stil_ast.specs.declared.name.Named.{Named}
use Rattle.stil_ast.specs.declared.timing.TableDecl.{TableDecl}
use Rattle.expr_text.specs.Ratio.{Ratio}
use Rattle.wave_tables.specs.declared.lineage.Whole.{Whole}
use Rattle.wave_tables.specs.Lineage.{AreWhole}
use Rattle.wave_tables.specs.Check.{count_fault, behind_names}
use Rattle.stil_ast.proofs.FoundLemmas.{or_else-none, not_refused}
use Rattle.wave_tables.proofs.RowLemmas.{sum_more}

name_free : (p : Place) (tables : List TableDecl) (i : Named) (names : List Named) (o : Option ℕ)
    → table_of tables i.name ≡ o
    → inherit_fault p tables i ≡ None
    → list_any (leads_into_cycle tables) (filter_map (λ (i : Named). table_of tables i.name) names) ≡ false
    → list_any (leads_into_cycle tables) (filter_map (λ (i : Named). table_of tables i.name) (i ∷ names)) ≡ false
name_free p tables i names None is none rest =
    absurd (never (sym (ap (inherit_found (on_line p i.line) tables) is) ∙ none))
  where
    never : {f : StilFault} → Some f ≡ None → ⊥
    never e = cc
name_free p tables i names (Some k) is none rest =
    let free : leads_into_cycle tables k ≡ false =
    not_refused (leads_into_cycle tables k) _ (sym (ap (inherit_found (on_line p i.line) tables) is) ∙ none) in
    ap (λ (o : Option ℕ). list_any (leads_into_cycle tables)
    (cons_option o (filter_map (λ (i : Named). table_of tables i.name) names))) is
    ∙ ap (λ (b : Bool). b || list_any (leads_into_cycle tables)
    (filter_map (λ (i : Named). table_of tables i.name) names)) free ∙ rest

names_free : (p : Place) (tables : List TableDecl) (names : List Named) → first_in (inherit_fault p tables) names ≡ None
    → list_any (leads_into_cycle tables) (filter_map (λ (i : Named). table_of tables i.name) names) ≡ false
names_free p tables [] e = refl
names_free p tables (i ∷ names) e =
    name_free p tables i names (table_of tables i.name) refl
    (or_else-none (inherit_fault p tables i) (first_in (inherit_fault p tables) names) e).0
    (names_free p tables names (or_else-none (inherit_fault p tables i) (first_in (inherit_fault p tables) names) e).1)

-- a table whose names have no fault leads into no cycle
pub free_at : (t : Timed Ratio) (wholes : List (Option Whole)) (k : ℕ) (d : TableDecl) → AreWhole t wholes
    → k < length t.tables
    → slice_get t.tables k ≡ Some d → first_in (inherit_fault t.place t.tables) d.inherits ≡ None
    → leads_into_cycle t.tables k ≡ false
free_at t wholes k d whole within at none =
    whole.closed k within
    ∙ ap (λ (o : Option TableDecl). list_any (leads_into_cycle t.tables) (inherited_by t.tables o)) at
    ∙ names_free t.place t.tables d.inherits none

none_at : {X : Type 0} (f : ℕ × X → Option StilFault) (n : ℕ) (xs : List X) (i : ℕ) (x : X)
    → first_in f (enumerate_from n xs) ≡ None
    → slice_get xs i ≡ Some x → f (n + i, x) ≡ None
none_at f n [] i x e at = cc
none_at f n (y ∷ ys) zero x e at =
    let same : y ≡ x = cc in
    let here : n + 0 ≡ n = omega arith in
    ap (λ (m : ℕ). f (m, x)) here ∙ ap (λ z. f (n, z)) (sym same)
    ∙ (or_else-none (f (n, y)) (first_in f (enumerate_from (n + 1) ys)) e).0
none_at f n (y ∷ ys) (suc i) x e at =
    let moved : n + suc i ≡ n + 1 + i = omega arith in
    ap (λ (m : ℕ). f (m, x)) moved
    ∙ none_at f (n + 1) ys i x (or_else-none (f (n, y)) (first_in f (enumerate_from (n + 1) ys)) e).1 at

-- where no table has a fault none leads into a cycle
pub all_free : (t : Timed Ratio) (before : ℕ) (wholes : List (Option Whole)) → AreWhole t wholes
    → tables_fault t before ≡ None
    → (k : ℕ) → k < length t.tables → leads_into_cycle t.tables k ≡ false
all_free t before wholes whole none k within =
    let d : (d : TableDecl) × (slice_get t.tables k ≡ Some d) = slice_get-there t.tables k within in
    let at_zero : 0 + k ≡ k = omega arith in
    let here : table_fault t before (k, d.0) ≡ None =
    ap (λ (n : ℕ). table_fault t before (n, d.0)) (sym at_zero)
    ∙ none_at (table_fault t before) 0 t.tables k d.0 none d.1 in
    free_at t wholes k d.0 whole within d.1
    (or_else-none (first_in (inherit_fault t.place t.tables) d.0.inherits) (behind_names t before (k, d.0)) here).0

-- the waves of so many tables, and one more
pub waves_more : (names : Names) (tables : List TableDecl) (k : ℕ)
    → waves_of_first names tables (k + 1)
    ≡ waves_of_first names tables k + wave_count (waveforms names tables k) (length names.signals)
waves_more names tables k = sum_more (λ table. wave_count (waveforms names tables table) (length names.signals)) k

-- the judgement of the number of waves, from their total
pub count_is : (t : Timed Ratio) (base before total k : ℕ) (d : TableDecl)
    → before ≡ base + waves_of_first t.names t.tables k
    → total ≡ before + wave_count (waveforms t.names t.tables k) (length t.names.signals)
    → count_fault t base (k, d) ≡ unless (nat_le total most_waves) (fault_at (on_line t.place d.line) TooLarge) None
count_is t base before total k d at sum =
    let next : suc k ≡ k + 1 = omega arith in
    let whole : base + waves_of_first t.names t.tables (suc k) ≡ total =
    ap (λ (n : ℕ). base + waves_of_first t.names t.tables n) next
    ∙ omega (arith, waves_more t.names t.tables k, at, sum) in
    ap (λ (n : ℕ). unless (nat_le n most_waves) (fault_at (on_line t.place d.line) TooLarge) None) whole
