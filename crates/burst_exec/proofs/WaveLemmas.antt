-- Tables without a fault don't bring the waves above their limit.
use Rattle.std.proofs.Common.{◌≡◌, ℕ, suc, ◌+◌, ◌≤◌, Bool, true, false, List, [], ◌∷◌, length, Option, Some, None, refl, sym, ap, ◌∙◌, subst, arith}
use Rattle.std.specs.Prelude.{ℤ, pos, int_le, ◌&&◌, Result, Ok, Err, nat_le}
use Rattle.std.specs.List.{enumerate_from}
use Rattle.std.proofs.lemmas.Bool.{leb-true}
use Rattle.std.proofs.lemmas.Option.{none-some}
use Rattle.text_bytes.specs.Limits.{most_waves, longest_period}
use Rattle.stil_ast.specs.Faults.Found.{fault_at, on_line, unless, or_else, first_in}
use Rattle.stil_ast.specs.Faults.TableFaults.{Timed, with_time, with_period, signal_fault, inherit_fault, inherited_fault, waves_of_first, table_fault, tables_fault}
use Rattle.stil_ast.specs.Meaning.Tables.{period_text}
use Rattle.stil_ast.specs.Meaning.Times.{time_at}
use Rattle.stil_ast.specs.declared.fault.StilFault.{StilFault}
use Rattle.stil_ast.specs.declared.fault.StilKind.TheVariants.{TooLarge, OutOfRange}
use Rattle.stil_ast.specs.declared.name.Quoted.{Quoted}
use Rattle.stil_ast.specs.declared.timing.TableDecl.{TableDecl}
use Rattle.stil_ast.proofs.FoundLemmas.{or_else-none}

-- a test that has no fault is passed
pub passed : (b : Bool) (f : StilFault) (rest : Option StilFault) → unless b f rest ≡ None → (b ≡ true) × (rest ≡ None)
passed true f rest h = (refl, h)
passed false f rest h = absurd (none-some f (sym h))

-- the last table of a list has no fault where none has one
last-none : (rule : ℕ × TableDecl → Option StilFault) (n : ℕ) (d : TableDecl) (tables : List TableDecl)
    → first_in rule (enumerate_from n (d ∷ tables)) ≡ None → (e : TableDecl) × (rule (n + length tables, e) ≡ None)
last-none rule n d [] h =
    let here : n + 0 ≡ n = omega arith in
    (d, ap (λ (k : ℕ). rule (k, d)) here ∙ (or_else-none (rule (n, d)) None h).0)
last-none rule n d (c ∷ tables) h =
    let more = last-none rule (n + 1) c tables (or_else-none (rule (n, d)) (first_in rule (enumerate_from (n + 1) (c ∷ tables))) h).1 in
    let same : n + suc (length tables) ≡ n + 1 + length tables = omega arith in
    (more.0, ap (λ (k : ℕ). rule (k, more.0)) same ∙ more.1)

module _ {V : Type 0} (t : Timed V) where
  with-time : (r : Result ℤ StilFault) (rest : ℤ → Option StilFault) → with_time r rest ≡ None → (p : ℤ) × (rest p ≡ None)
  with-time (Ok p) rest h = (p, h)
  with-time (Err f) rest h = absurd (none-some f (sym h))

  with-period : (line : ℕ) (o : Option Quoted) (rest : ℤ → Option StilFault) → with_period t line o rest ≡ None
      → (p : ℤ) × (rest p ≡ None)
  with-period line None rest h = cc
  with-period line (Some q) rest h =
      let fits = λ (p : ℤ). int_le (pos 1) p && int_le p (pos longest_period) in
      let fault = fault_at (on_line t.place q.line) OutOfRange in
      let timed = with-time (time_at t.times t.vars t.place q) (λ (p : ℤ). unless (fits p) fault (rest p)) h in
      (timed.0, (passed (fits timed.0) fault (rest timed.0) timed.1).1)

  -- a table without a fault doesn't bring the waves above their limit
  few_with : (before k : ℕ) (d : TableDecl) → table_fault t before (k, d) ≡ None
      → before + waves_of_first t.names t.tables (suc k) ≤ most_waves
  few_with before k d h =
      let last = unless (nat_le (before + waves_of_first t.names t.tables (suc k)) most_waves) (fault_at (on_line t.place d.line) TooLarge) None in
      let rest = λ (p : ℤ). or_else (first_in (signal_fault t p) d.waveforms) (or_else (inherited_fault t p k) last) in
      let front = first_in (inherit_fault t.place t.tables) d.inherits in
      let judged = with-period d.line (period_text t.tables k) rest
      (or_else-none front (with_period t d.line (period_text t.tables k) rest) h).1 in
      let own = (or_else-none (first_in (signal_fault t judged.0) d.waveforms) (or_else (inherited_fault t judged.0 k) last) judged.1).1 in
      let counted = (or_else-none (inherited_fault t judged.0 k) last own).1 in
      leb-true (before + waves_of_first t.names t.tables (suc k)) most_waves
      (passed (nat_le (before + waves_of_first t.names t.tables (suc k)) most_waves)
      (fault_at (on_line t.place d.line) TooLarge) None counted).0

  -- nor do all tables
  pub few_waves : (before : ℕ) → before ≤ most_waves → tables_fault t before ≡ None
      → before + waves_of_first t.names t.tables (length t.tables) ≤ most_waves
  few_waves before few none = by_tables t.tables refl
    where
      by_tables : (tables : List TableDecl) → t.tables ≡ tables
          → before + waves_of_first t.names t.tables (length t.tables) ≤ most_waves
      by_tables [] is =
          let same : before + 0 ≡ before = omega arith in
          rw is (subst (λ (n : ℕ). n ≤ most_waves) (sym same) few)
      by_tables (d ∷ tables) is =
          let last = last-none (table_fault t before) 0 d tables (ap (λ ts. first_in (table_fault t before) (enumerate_from 0 ts)) (sym is) ∙ none) in
          let none : 0 + length tables ≡ length tables = omega arith in
          let count : suc (0 + length tables) ≡ length t.tables = ap suc none ∙ sym (ap length is) in
          subst (λ (n : ℕ). before + waves_of_first t.names t.tables n ≤ most_waves) count
          (few_with before (0 + length tables) last.0 last.1)
