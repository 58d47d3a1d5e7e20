-- A table that inherits nothing is made of itself alone, and none of its waveforms comes from another table.
use Rattle.std.proofs.Common.{◌≡◌, ℕ, suc, ℤ, ◌+◌, Bool, true, false, not, ◌&&◌, List, [], ◌∷◌, ◌++◌, length, map, Option, Some, None, refl, sym, ap, subst, ◌∙◌, arith, cond, inl, inr}
use Rattle.std.specs.Prelude.{◌==◌, slice_get, reverse, find}
use Rattle.std.specs.List.{AllByRecursion, enumerate_from, flat_map, list_any}
use Rattle.std.proofs.lemmas.Bool.{cases_Bool, ne_eqb, eq-eqb, and_left, or_from, false≢true}
use Rattle.std.proofs.lemmas.List.{append-nil}
use Rattle.text_bytes.proofs.ListLemmas.{all_append, all_reverse, all_numbered}
use Rattle.stil_ast.specs.Meaning.Signals.{Names}
use Rattle.stil_ast.specs.Meaning.Members.{members}
use Rattle.stil_ast.specs.Meaning.Tables.{Waveform, unnumbered, numbered, own_waveforms, inherited_by, inherited, put_in, lineage, own_of, waveforms, defines, waveform_of, later, last_of, own_period, period_text}
use Rattle.stil_ast.specs.Faults.Found.{first_in}
use Rattle.stil_ast.specs.Faults.TableFaults.{Timed, is_waveform, stands, late_event, late_waveform, inherited_fault}
use Rattle.stil_ast.specs.declared.name.Named.{Named}
use Rattle.stil_ast.specs.declared.timing.WaveDecl.{WaveDecl}
use Rattle.stil_ast.specs.declared.timing.SignalWaves.{SignalWaves}
use Rattle.stil_ast.specs.declared.timing.TableDecl.{TableDecl}
use Rattle.packed_code.proofs.Lists.{all_mapped, all_of_any}
use Rattle.flat_fine.proofs.ListLemmas.{within}
use Rattle.flat_fine.proofs.LookupLemmas.{above}
use Rattle.flat_fine.proofs.FaultLemmas.{none_first}

each_from : {A : Type 0} (P : ℕ × A → Type 0) (from : ℕ) (xs : List A)
    → ((number : ℕ) (x : A) → slice_get xs number ≡ Some x → P (number + from, x)) → AllByRecursion P (enumerate_from from xs)
each_from P from [] each = tt
each_from P from (x ∷ xs) each = (
  subst (λ (n : ℕ). P (n, x)) (omega arith) (each 0 x refl),
  each_from P (from + 1) xs (λ number y at. subst (λ (n : ℕ). P (n, y)) (omega arith) (each (suc number) y at)),
)

pub each_numbered : {A : Type 0} (P : ℕ × A → Type 0) (xs : List A) → ((number : ℕ) (x : A) → slice_get xs number ≡ Some x → P (number, x))
    → AllByRecursion P (enumerate_from 0 xs)
each_numbered P xs each = each_from P 0 xs (λ number x at. subst (λ (n : ℕ). P (n, x)) (omega arith) (each number x at))

-- a table without inherited ones is put in alone
pub lineage_is : (tables : List TableDecl) (k : ℕ) (d : TableDecl) → slice_get tables k ≡ Some d → d.inherits ≡ []
    → lineage tables k ≡ k ∷ []
lineage_is tables k d at none =
    let more = above k (length tables) (within tables k d at) in
    let own : inherited tables k ≡ [] =
    ap (inherited_by tables) at ∙ ap (λ (names : List Named). inherited_by tables (Some (record d { inherits = names }))) none in
    ap (λ (n : ℕ). put_in tables n k) more.1
    ∙ ap (λ (ks : List ℕ). flat_map (put_in tables more.0) ks ++ (k ∷ [])) own

-- its period is its own
pub period_is : (tables : List TableDecl) (k : ℕ) (d : TableDecl) → slice_get tables k ≡ Some d → d.inherits ≡ []
    → period_text tables k ≡ d.period
period_is tables k d at none =
    ap (λ (ks : List ℕ). last_of (map (λ (j : ℕ). own_period (slice_get tables j)) ks)) (lineage_is tables k d at none)
    ∙ ap (λ (o : Option TableDecl). later (own_period o) None) at

-- and so are its waveforms
pub waveforms_are : (names : Names) (tables : List TableDecl) (k : ℕ) (d : TableDecl) → slice_get tables k ≡ Some d → d.inherits ≡ []
    → waveforms names tables k ≡ own_waveforms names k d
waveforms_are names tables k d at none =
    ap (flat_map (λ (j : ℕ). own_of names j (slice_get tables j))) (lineage_is tables k d at none)
    ∙ append-nil (own_of names k (slice_get tables k))
    ∙ ap (own_of names k) at

-- a waveform stands in this table
abbrev pub IsOf : ℕ → Waveform → Type 0
IsOf k w = w.table ≡ k

-- a waveform without its number
abbrev bare : Names → ℕ → SignalWaves → WaveDecl → Waveform
bare names k s w =
    record { table = k; number = 0; signals = members names s.reference; characters = w.characters; events = w.events }

bare_of : (names : Names) (k : ℕ) (declarations : List SignalWaves)
    → AllByRecursion (IsOf k) (flat_map (λ (s : SignalWaves). map (bare names k s) s.waves) declarations)
bare_of names k [] = tt
bare_of names k (s ∷ declarations) =
    all_append (IsOf k) (map (bare names k s) s.waves) (flat_map (λ (s : SignalWaves). map (bare names k s) s.waves) declarations)
    (all_mapped (IsOf k) (bare names k s) s.waves (all_of_any (λ (w : WaveDecl). k ≡ k) s.waves (λ w. refl))) (bare_of names k declarations)

-- a table's own waveforms stand in it
pub own_of_table : (names : Names) (k : ℕ) (d : TableDecl) → AllByRecursion (IsOf k) (own_waveforms names k d)
own_of_table names k d =
    all_mapped (IsOf k) numbered (enumerate_from 0 (unnumbered names k d))
    (all_numbered (IsOf k) 0 (unnumbered names k d) (bare_of names k d.waveforms))

-- what is found has what each has
abbrev Found : (Waveform → Type 0) → Option Waveform → Type 0
Found P None = Unit {0}
Found P (Some w) = P w

found_has : (P : Waveform → Type 0) (test : Waveform → Bool) (all : List Waveform) → AllByRecursion P all → Found P (find test all)
found_has P test [] each = tt
found_has P test (w ∷ all) each = by_test (test w) (found_has P test all each.1)
  where
    by_test : (b : Bool) → Found P (find test all) → Found P (cond b (Some w) (find test all))
    by_test true h = each.0
    by_test false h = h

-- where no test passes, none of them does
pub none_any : {A : Type 0} (test : A → Bool) (xs : List A) → ((x : A) → test x ≡ false) → list_any test xs ≡ false
none_any test [] none = refl
none_any test (x ∷ xs) none = or_from (test x) (list_any test xs) (none x) (none_any test xs none)

-- a waveform of another table doesn't stand among those of a table
other_waveform : (k : ℕ) (w : Waveform) (o : Option Waveform) → (w.table ≡ k → ⊥) → Found (IsOf k) o → is_waveform w o ≡ false
other_waveform k w None other of = refl
other_waveform k w (Some v) other of =
    and_left (v.table == w.table) (v.number == w.number) (ne_eqb v.table w.table (λ e. other (sym e ∙ of)))

other_stands : (k : ℕ) (all : List Waveform) (w : Waveform) → AllByRecursion (IsOf k) all → (w.table ≡ k → ⊥) → stands all w ≡ false
other_stands k all w each other =
    none_any (λ (signal : ℕ). list_any (λ (character : ℕ). is_waveform w (waveform_of all signal character)) w.characters) w.signals (λ signal.
    none_any (λ (character : ℕ). is_waveform w (waveform_of all signal character)) w.characters (λ character.
    other_waveform k w (waveform_of all signal character) other
    (found_has (IsOf k) (defines signal character) (reverse all) (all_reverse (IsOf k) all each))))

module _ {V : Type 0} (t : Timed V) (period : ℤ) (k : ℕ) (all : List Waveform) (each : AllByRecursion (IsOf k) all) where
  -- no waveform is late in a table that has none of others
  never_late : (w : Waveform) → late_waveform t period k all w ≡ None
  never_late w =
      elim (cases_Bool (w.table == k)) [
        | inl own ↦
            ap (λ (b : Bool). first_in (late_event t period) (cond (not b && stands all w) w.events [])) own
        | inr f ↦
            let other : w.table ≡ k → ⊥ = λ e. false≢true (sym f ∙ eq-eqb w.table k e) in
            ap (λ (b : Bool). first_in (late_event t period) (cond (not (w.table == k) && b) w.events []))
            (other_stands k all w each other)
            ∙ ap (λ (b : Bool). first_in (late_event t period) (cond (not b && false) w.events [])) f
      ]

  none_late : (other : ℕ × TableDecl) → first_in (late_waveform t period k all) (own_waveforms t.names other.0 other.1) ≡ None
  none_late other =
      none_first (late_waveform t period k all) (own_waveforms t.names other.0 other.1)
      (all_of_any (λ (w : Waveform). late_waveform t period k all w ≡ None) (own_waveforms t.names other.0 other.1) never_late)

-- a table that inherits nothing has no inherited event that is late
pub none_inherited : {V : Type 0} (t : Timed V) (period : ℤ) (k : ℕ) (d : TableDecl) → slice_get t.tables k ≡ Some d → d.inherits ≡ []
    → inherited_fault t period k ≡ None
none_inherited t period k d at none =
    let all = waveforms t.names t.tables k in
    let each : AllByRecursion (IsOf k) all =
    subst (AllByRecursion (IsOf k)) (sym (waveforms_are t.names t.tables k d at none)) (own_of_table t.names k d) in
    none_first (λ (other : ℕ × TableDecl). first_in (late_waveform t period k all) (own_waveforms t.names other.0 other.1))
    (enumerate_from 0 t.tables)
    (all_of_any (λ (other : ℕ × TableDecl). first_in (late_waveform t period k all) (own_waveforms t.names other.0 other.1) ≡ None)
    (enumerate_from 0 t.tables) (none_late t period k all each))
