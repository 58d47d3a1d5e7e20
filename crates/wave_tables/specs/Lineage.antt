-- How the code holds what a table has in all.
use Rattle.std.specs.Prelude.{◌≡◌, ◌<◌, ◌++◌, ◌||◌, ◌⊎◌, ℕ, true, false, not, List, [], ◌∷◌, Option, Some, None, length, map, flat_map, slice_get, slice_index, slice_index_or, is_some, Bool}
use Rattle.std.specs.List.{list_any}
use Rattle.std.specs.Option.{option_or}
use Rattle.stil_ast.specs.Meaning.Signals.{Names}
use Rattle.stil_ast.specs.Meaning.Tables.{Waveform, own_of, own_period, last_of, inherited, lineage, goes_on, leads_into_cycle}
use Rattle.stil_ast.specs.Faults.TableFaults.{Timed}
use Rattle.stil_ast.specs.declared.name.Quoted.{Quoted}
use Rattle.stil_ast.specs.declared.timing.TableDecl.{TableDecl}
use Rattle.expr_text.specs.Ratio.{Ratio}
use Rattle.wave_tables.specs.declared.times.ReadTime.{ReadTime}
use Rattle.wave_tables.specs.declared.lineage.Whole.{Whole}
use Rattle.wave_tables.specs.Scope.{IsTimeOf}
use Rattle.wave_tables.specs.Sources.{Maps, Fills}

-- a period's time, where there is a period
abbrev pub IsPeriod : Timed Ratio → Option Quoted → Option ReadTime → Type 0
IsPeriod t None None = Unit {0}
IsPeriod t (Some q) (Some read) = IsTimeOf t q read
IsPeriod t _ _ = ⊥

-- the waveforms of tables that are put in one after another
abbrev pub waveforms_in : Names → List TableDecl → List ℕ → List Waveform
waveforms_in names tables ks = flat_map (λ (k : ℕ). own_of names k (slice_get tables k)) ks

-- the period of tables that are put in one after another
abbrev pub period_in : List TableDecl → List ℕ → Option Quoted
period_in tables ks = last_of (map (λ (k : ℕ). own_period (slice_get tables k)) ks)

-- whether a table is there
abbrev pub is_there : List (Option Whole) → ℕ → Bool
is_there wholes k = is_some (slice_index_or wholes k None)

-- it has what these tables have, put in one after another
pub record HasOf (t : Timed Ratio) (ks : List ℕ) (whole : Whole) : Type 0 where
  pub slots : Maps (length t.names.signals) (waveforms_in t.names t.tables ks) whole.slots.items
  pub period : IsPeriod t (period_in t.tables ks) whole.period

-- a table over one that it inherits
pub record IsOver (top under new : Whole) : Type 0 where
  pub slots : Fills top.slots.items under.slots.items new.slots.items
  pub period : new.period ≡ option_or top.period under.period

-- a table is there, with all that it has
pub record IsMade (t : Timed Ratio) (wholes : List (Option Whole)) (k : ℕ) : Type 0 where
  pub whole : Whole
  pub there : slice_index_or wholes k None ≡ Some whole
  pub has : HasOf t (lineage t.tables k) whole

-- each of these tables is
abbrev pub AreMadeAt : Timed Ratio → List (Option Whole) → List ℕ → Type 0
AreMadeAt t wholes ks = (i : ℕ) → i < length ks → IsMade t wholes (slice_index ks i)

-- a table has all that it inherits, where what it inherits was there
abbrev pub IsAdded : Timed Ratio → List (List ℕ) → List (Option Whole) → ℕ → Whole → Type 0
IsAdded t inherits old k whole =
    AreMadeAt t old (slice_index_or inherits k [])
    → HasOf t (flat_map (lineage t.tables) (slice_index_or inherits k []) ++ (k ∷ [])) whole

-- a table is put in where it is ready and isn't there
pub record AddsAt (t : Timed Ratio) (inherits : List (List ℕ)) (is_ready : Bool) (number : ℕ)
    (old new : List (Option Whole)) (added : Bool) : Type 0 where
  pub size : length new ≡ length old
  pub others : (k : ℕ) → (number ≡ k → ⊥) → slice_index_or new k None ≡ slice_index_or old k None
  pub kept : added ≡ false → new ≡ old
  pub there : number < length old → is_there new number ≡ (is_there old number || is_ready)
  pub was : is_there old number ≡ true → new ≡ old
  pub has : added ≡ true → (whole : Whole) → slice_index_or new number None ≡ Some whole
      → (is_ready ≡ true) × IsAdded t inherits old number whole

-- the tables that are ready are put in
pub record Adds (t : Timed Ratio) (inherits : List (List ℕ)) (ready : List Bool) (old new : List (Option Whole))
    (added : Bool) : Type 0 where
  pub size : length new ≡ length old
  pub there : (k : ℕ) → k < length old → is_there new k ≡ (is_there old k || slice_index_or ready k false)
  pub kept : added ≡ false → new ≡ old
  pub grows : (k : ℕ) (whole : Whole) → slice_index_or old k None ≡ Some whole → slice_index_or new k None ≡ Some whole
  pub has : (k : ℕ) (whole : Whole) → slice_index_or new k None ≡ Some whole
      → (slice_index_or old k None ≡ Some whole)
      ⊎ ((slice_index_or ready k false ≡ true) × IsAdded t inherits old k whole)

-- each table that is there has what its lineage has, if it leads into no cycle
abbrev pub HaveAll : Timed Ratio → List (Option Whole) → Type 0
HaveAll t wholes =
    (k : ℕ) (whole : Whole) → slice_index_or wholes k None ≡ Some whole → leads_into_cycle t.tables k ≡ false
    → HasOf t (lineage t.tables k) whole

-- those tables are there from which one can't go on so often
pub record IsLevel (t : Timed Ratio) (n : ℕ) (wholes : List (Option Whole)) : Type 0 where
  pub size : length wholes ≡ length t.tables
  pub there : (k : ℕ) → k < length t.tables → is_there wholes k ≡ not (goes_on t.tables n k)
  pub have : HaveAll t wholes

-- all tables that lead into no cycle are there; whoever inherits only such leads into none
pub record AreWhole (t : Timed Ratio) (wholes : List (Option Whole)) : Type 0 where
  pub size : length wholes ≡ length t.tables
  pub there : (k : ℕ) → k < length t.tables → is_there wholes k ≡ not (leads_into_cycle t.tables k)
  pub have : HaveAll t wholes
  pub closed : (k : ℕ) → k < length t.tables
      → leads_into_cycle t.tables k ≡ list_any (leads_into_cycle t.tables) (inherited t.tables k)
