-- The tables of an executive in which nothing is faulty meet the conditions on a code's tables.
use Rattle.std.proofs.Common.{◌≡◌, ℕ, ℤ, pos, negsuc, suc, ◌+◌, ◌<◌, ◌≤◌, ◌&&◌, true, List, [], ◌∷◌, length, Option, Some, None, Result, Ok, Err, refl, sym, ap, subst, ◌∙◌, arith}
use Rattle.std.specs.Prelude.{int_le, nat_abs, slice_get, nat_le}
use Rattle.std.specs.List.{list_all, enumerate_from, AllByRecursion}
use Rattle.std.proofs.lemmas.Bool.{and_parts, leb-true}
use Rattle.std.proofs.lemmas.Option.{none-some}
use Rattle.text_bytes.specs.Limits.{most_waves, longest_period}
use Rattle.text_bytes.proofs.ListLemmas.{all_got, all_from}
use Rattle.stil_ast.specs.Data.BlockForms.{is_signal_waves, is_table_decl}
use Rattle.stil_ast.specs.Data.Forms.{is_absent_or, is_line, is_named, is_quoted}
use Rattle.stil_ast.specs.Data.Texts.{is_name}
use Rattle.stil_ast.specs.Faults.Found.{on_line, fault_at, unless, or_else, first_in}
use Rattle.stil_ast.specs.Faults.TableFaults.{Timed, with_period, signal_fault, inherit_fault, inherited_fault, late_waveform, waves_of_first, table_fault, tables_fault}
use Rattle.stil_ast.specs.Meaning.Tables.{Waveform, own_waveforms, own_of, lineage, waveforms, waves_of, period_text, time_or_zero, period_of, made_table, made_tables}
use Rattle.stil_ast.specs.Meaning.Times.{time_at}
use Rattle.stil_ast.specs.declared.name.Quoted.{Quoted}
use Rattle.stil_ast.specs.declared.fault.StilFault.{StilFault}
use Rattle.stil_ast.specs.declared.fault.StilKind.TheVariants.{TooLarge}
use Rattle.stil_ast.specs.declared.timing.TableDecl.{TableDecl}
use Rattle.stil_ast.proofs.FoundLemmas.{or_else-none}
use Rattle.tester_types.specs.declared.wave.Table.{Table}
use Rattle.packed_code.specs.Conditions.{IsName}
use Rattle.cycle_comp.proofs.EachLemmas.{all_map, all_flat_map, all_both}
use Rattle.burst_exec.proofs.WaveLemmas.{passed}
use Rattle.cycle_comp.proofs.EventLemmas.{timed}
use Rattle.cycle_comp.proofs.FoundLemmas.{first_all, all_under, numbered_at}
use Rattle.cycle_comp.proofs.WaveLemmas.{IsGoodWave, IsOwn, IsJudged, own_are, waves_are}
use Rattle.cycle_comp.proofs.NameLemmas.{name_is}

-- a table over so many signals that a code may have, but for how many waves stand before it
pub record IsGoodTable (signals : ℕ) (t : Table) : Type 0 where
  pub name : IsName t.name
  pub some : 0 < t.period
  pub period : t.period ≤ 1000000000000
  pub waves : AllByRecursion (IsGoodWave signals t.period) t.waves

-- a number without its sign
above_none : (z : ℤ) → int_le (pos 1) z ≡ true → 0 < nat_abs z
above_none (pos n) h = let one : 1 ≤ n = leb-true 1 n h in omega (arith, one)
above_none (negsuc n) h = absurd cc

below_most : (z : ℤ) (most : ℕ) → int_le (pos 1) z ≡ true → int_le z (pos most) ≡ true → nat_abs z ≤ most
below_most (pos n) most low h = leb-true n most h
below_most (negsuc n) most low h = absurd cc

-- one time of a text
one_time : (r : Result ℤ StilFault) (a b : ℤ) → r ≡ Ok a → r ≡ Ok b → a ≡ b
one_time r a b p q = cc

-- a time that is there
time_is : (r : Result ℤ StilFault) (z : ℤ) → r ≡ Ok z → time_or_zero r ≡ nat_abs z
time_is (Ok y) z is = let same : y ≡ z = cc in ap nat_abs same
time_is (Err f) z is = absurd cc

module _ {V : Type 0} (t : Timed V) (before : ℕ) where
  -- the period of a table without a fault, and what is judged by it
  pub record HasPeriod (table : ℕ) (d : TableDecl) : Type 0 where
    pub text : Quoted
    pub text_is : period_text t.tables table ≡ Some text
    pub period : ℤ
    pub period_is : time_at t.times t.vars t.place text ≡ Ok period
    pub low : int_le (pos 1) period ≡ true
    pub high : int_le period (pos longest_period) ≡ true
    pub own : first_in (signal_fault t period) d.waveforms ≡ None
    pub inherited : inherited_fault t period table ≡ None

  by_period : (table : ℕ) (d : TableDecl) (o : Option Quoted) → period_text t.tables table ≡ o
      → with_period t d.line o (λ period.
      or_else (first_in (signal_fault t period) d.waveforms)
      (or_else (inherited_fault t period table)
      (unless (nat_le (before + waves_of_first t.names t.tables (suc table)) most_waves)
      (fault_at (on_line t.place d.line) TooLarge) None))) ≡ None
      → HasPeriod table d
  by_period table d None is fine = absurd (none-some _ (sym fine))
  by_period table d (Some q) is fine =
      let at = timed (time_at t.times t.vars t.place q) _ fine in
      let z : ℤ = at.0 in
      let inside = passed (int_le (pos 1) z && int_le z (pos longest_period)) _ _ at.2 in
      let sides = and_parts (int_le (pos 1) z) (int_le z (pos longest_period)) inside.0 in
      let own = or_else-none (first_in (signal_fault t z) d.waveforms) _ inside.1 in
      let rest = or_else-none (inherited_fault t z table) _ own.1 in
      record {
        text = q;
        text_is = is;
        period = z;
        period_is = at.1;
        low = sides.0;
        high = sides.1;
        own = own.0;
        inherited = rest.0;
      }

  pub has_period : (table : ℕ) (d : TableDecl) → table_fault t before (table, d) ≡ None → HasPeriod table d
  has_period table d fine =
      by_period table d (period_text t.tables table) refl
      (or_else-none (first_in (inherit_fault t.place t.tables) d.inherits) _ fine).1

  module _ (fine : tables_fault t before ≡ None)
      (forms : AllByRecursion (λ (d : TableDecl). is_table_decl d ≡ true) t.tables) where
    -- each table under its number
    fine_at : (table : ℕ) (d : TableDecl) → slice_get t.tables table ≡ Some d → table_fault t before (table, d) ≡ None
    fine_at table d at =
        let zeroed : 0 + table ≡ table = omega arith in
        subst (λ (n : ℕ). table_fault t before (n, d) ≡ None) zeroed
        (all_under (λ n d. table_fault t before (n, d) ≡ None) 0 t.tables table d
        (first_all (table_fault t before) (enumerate_from 0 t.tables) fine) at)

    -- what its form says of it
    waves_form : (d : TableDecl) → is_table_decl d ≡ true → list_all is_signal_waves d.waveforms ≡ true
    waves_form d form =
        (and_parts _ (list_all is_signal_waves d.waveforms)
        (and_parts _ (is_line d.line) form).0).1

    name_form : (d : TableDecl) → is_table_decl d ≡ true → is_name d.name ≡ true
    name_form d form =
        (and_parts (is_name d.name) (is_absent_or is_quoted d.period)
        (and_parts (is_name d.name && is_absent_or is_quoted d.period) (list_all is_named d.inherits)
        (and_parts (is_name d.name && is_absent_or is_quoted d.period && list_all is_named d.inherits)
        (list_all is_signal_waves d.waveforms)
        (and_parts (is_name d.name && is_absent_or is_quoted d.period && list_all is_named d.inherits
        && list_all is_signal_waves d.waveforms) (is_line d.line) form).0).0).0).0

    module _ (heir : ℕ) (e : TableDecl) (has : HasPeriod heir e) where
      -- the waveforms of the heir
      abbrev all : List Waveform
      all = waveforms t.names t.tables heir

      -- waveforms of a table that may be missing
      own_judged : (table : ℕ) (o : Option TableDecl) → slice_get t.tables table ≡ o
          → AllByRecursion (IsJudged t heir has.period all) (own_of t.names table o)
      own_judged table None at = tt
      own_judged table (Some d) at =
          let its = has_period table d (fine_at table d at) in
          let form = all_got (λ (d : TableDecl). is_table_decl d ≡ true) t.tables table d forms at in
          let zeroed : 0 + table ≡ table = omega arith in
          let late : first_in (late_waveform t has.period heir all) (own_waveforms t.names table d) ≡ None =
          subst (λ (n : ℕ). first_in (late_waveform t has.period heir all) (own_waveforms t.names n d) ≡ None) zeroed
          (all_under (λ n d. first_in (late_waveform t has.period heir all) (own_waveforms t.names n d) ≡ None) 0
          t.tables table d (first_all _ (enumerate_from 0 t.tables) has.inherited) at) in
          all_from
          (λ (w : Waveform). IsOwn t table its.period w × (late_waveform t has.period heir all w ≡ None))
          (IsJudged t heir has.period all)
          (λ w is. record {
            own = its.period;
            fine = is.0.fine;
            few = is.0.few;
            late = is.1;
            heir = λ same. same_period table d its (sym is.0.table_is ∙ same);
          })
          (own_waveforms t.names table d)
          (all_both _ _ (own_waveforms t.names table d)
          (own_are t table its.period d its.own (waves_form d form))
          (first_all (late_waveform t has.period heir all) (own_waveforms t.names table d) late))
        where
          same_period : (table : ℕ) (d : TableDecl) (its : HasPeriod table d) → table ≡ heir → its.period ≡ has.period
          same_period table d its same =
              let texts : ◌≡◌ {A = Option Quoted} (Some its.text) (Some has.text) =
              sym its.text_is ∙ ap (period_text t.tables) same ∙ has.text_is in
              let text : its.text ≡ has.text = cc in
              one_time (time_at t.times t.vars t.place has.text) its.period has.period
              (ap (time_at t.times t.vars t.place) (sym text) ∙ its.period_is) has.period_is

      judged : AllByRecursion (IsJudged t heir has.period all) all
      judged =
          all_flat_map (λ (k : ℕ). own_of t.names k (slice_get t.tables k)) (λ (k : ℕ). Unit {0})
          (IsJudged t heir has.period all)
          (λ k _. own_judged k (slice_get t.tables k) refl) (lineage t.tables heir) (nothing (lineage t.tables heir))
        where
          nothing : (ks : List ℕ) → AllByRecursion (λ (k : ℕ). Unit {0}) ks
          nothing [] = tt
          nothing (k ∷ ks) = (tt, nothing ks)

      -- the table that is made
      pub good_table : is_table_decl e ≡ true
          → IsGoodTable (length t.names.signals) (made_table t.times t.vars t.names t.place t.tables (heir, e))
      good_table form =
          let period : period_of t.times t.vars t.place (period_text t.tables heir) ≡ nat_abs has.period =
          ap (period_of t.times t.vars t.place) has.text_is
          ∙ time_is (time_at t.times t.vars t.place has.text) has.period has.period_is in
          record {
            name = name_is e.name (name_form e form);
            some = subst (λ (n : ℕ). 0 < n) (sym period) (above_none has.period has.low);
            period = subst (λ (n : ℕ). n ≤ 1000000000000) (sym period) (below_most has.period longest_period has.low has.high);
            waves =
                subst (λ (n : ℕ). AllByRecursion (IsGoodWave (length t.names.signals) n)
                (waves_of t.times t.vars t.place all (length t.names.signals))) (sym period)
                (waves_are t heir has.period all (length t.names.signals) judged);
          }

    -- all tables that are made
    pub good_tables : AllByRecursion (IsGoodTable (length t.names.signals))
        (made_tables t.times t.vars t.names t.place t.tables)
    good_tables =
        all_map (made_table t.times t.vars t.names t.place t.tables)
        (λ (p : ℕ × TableDecl). slice_get t.tables p.0 ≡ Some p.1) (IsGoodTable (length t.names.signals))
        (λ p at. good_table p.0 p.1 (has_period p.0 p.1 (fine_at p.0 p.1 at))
        (all_got (λ (d : TableDecl). is_table_decl d ≡ true) t.tables p.0 p.1 forms at))
        (enumerate_from 0 t.tables) (numbered_at t.tables)
