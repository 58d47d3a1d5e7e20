-- The first fault of the parts of an executive.
use Rattle.std.proofs.Common.{◌≡◌, ℕ, ◌+◌, ◌-◌, ◌^◌, ◌≤◌, List, length, take, Option, Some, None, refl, sym, ap, ◌∙◌, subst, inl, inr, ◌⊎◌, arith}
use Rattle.std.specs.Prelude.{Result, Ok, Err, IfOk, IfErr, min, slice_get, sum_by}
use Rattle.text_bytes.specs.Limits.{most_waves}
use Rattle.answers.specs.Answers.{Blames, Finds}
use Rattle.stil_ast.specs.Faults.Found.{or_else}
use Rattle.stil_ast.specs.Faults.BurstFaults.{exec_names_fault}
use Rattle.stil_ast.specs.Faults.ExecutiveFaults.{timed_of, exec_waves, exec_walked, exec_fault, check_patterns, checked_fault}
use Rattle.stil_ast.specs.Faults.TableFaults.{tables_fault}
use Rattle.stil_ast.specs.Meaning.Bursts.{Played, played, exec_scans}
use Rattle.stil_ast.specs.Meaning.Chains.{Chain}
use Rattle.stil_ast.specs.Meaning.Executive.{table_list, chain_list, exec_value}
use Rattle.stil_ast.specs.Meaning.Variables.{picked, variables_fault}
use Rattle.stil_ast.specs.declared.blocks.Blocks.{Blocks}
use Rattle.stil_ast.specs.declared.executive.ExecDecl.{ExecDecl}
use Rattle.stil_ast.specs.declared.fault.StilFault.{StilFault}
use Rattle.stil_ast.specs.Data.Refusal.{StilRefusal}
use Rattle.answers.specs.declared.short.Short.TheVariants as refusal
use Rattle.stil_ast.proofs.FoundLemmas.{or_else-none, or_else-both}
use Rattle.tester_types.specs.declared.wave.Table.{Table}
use Rattle.expr_text.specs.Ratio.{Ratio}
use Rattle.time_expr.specs.TimeIn.{AreNames}
use Rattle.time_expr.specs.TimesOf.{times_of}
use Rattle.pattern_order.specs.Answer.{IsNamesFault}
use Rattle.scan_chain.specs.Fault.{chain_list_fault, Scans}
use Rattle.wave_tables.proofs.CountLemmas.{waves_counted}
use Rattle.wave_tables.specs.Waves.{waves_at}
use Rattle.burst_exec.specs.Staged.{names_fault, values_fault, waves_fault, ends_fault, staged_fault, patterns_fault, whole_fault, order_of, AreValues, tables_of, waves_of, chains_of}
use Rattle.burst_exec.proofs.ListLemmas.{sum_next}
use Rattle.burst_exec.proofs.WaveLemmas.{few_waves}

-- a refusal by a fault
refuses : (o : Option StilFault) (r : StilRefusal)
    → (r ≡ refusal.NoMemory) ⊎ ((f : StilFault) × (r ≡ refusal.Fault f) × (o ≡ Some f)) → Blames o r
refuses o r (inl m) = λ f same. cc
refuses o r (inr h) = λ f same. let is = h.1 in let first = h.2 in cc

-- what is so of blocks is so of the same ones
pub in_blocks : (a b : Blocks) (n : ℕ) (e : ExecDecl) (Is : Blocks → Type 0) → a ≡ b
    → (slice_get a.executives n ≡ Some e → Is a) → slice_get b.executives n ≡ Some e → Is b
in_blocks a b n e Is same h at = subst (λ (x : Blocks). slice_get x.executives n ≡ Some e → Is x) same h at

-- what each call answers
pub names_found : (blocks : Blocks) (e : ExecDecl) (r : Result (List Played) StilRefusal)
    → IfOk r (λ order. (exec_names_fault blocks e ≡ None) × (order ≡ played blocks e))
    → IfErr r (λ r. (r ≡ refusal.NoMemory) ⊎ IsNamesFault blocks e r)
    → Finds (names_fault blocks e) (λ order. order ≡ order_of blocks e) r
unfolding names_fault order_of
names_found blocks e (Ok order) found fault = found
names_found blocks e (Err r) found (inl m) = refuses (exec_names_fault blocks e) r (inl m)
names_found blocks e (Err r) found (inr h) = refuses (exec_names_fault blocks e) r (inr (h.fault, h.is, h.first))

pub values_found : (blocks : Blocks) (e : ExecDecl) (r : Result (List (List ℕ × Ratio)) StilRefusal)
    → IfOk r (λ vars. (variables_fault times_of (picked blocks e) ≡ None) × AreNames (exec_value times_of blocks e) vars)
    → IfErr r (λ r. (r ≡ refusal.NoMemory)
    ⊎ ((f : StilFault) × (r ≡ refusal.Fault f) × (variables_fault times_of (picked blocks e) ≡ Some f)))
    → Finds (values_fault blocks e) (AreValues blocks e) r
unfolding values_fault AreValues
values_found blocks e (Ok vars) found fault = found
values_found blocks e (Err r) found fault = refuses (variables_fault times_of (picked blocks e)) r fault

pub values_are : (blocks : Blocks) (e : ExecDecl) (vars : List (List ℕ × Ratio)) → AreValues blocks e vars
    → AreNames (exec_value times_of blocks e) vars
unfolding AreValues
values_are blocks e vars h = h

pub tables_found : (blocks : Blocks) (waves : ℕ) (e : ExecDecl) (r : Result (List Table) StilRefusal)
    → IfOk r (λ set. (tables_fault (timed_of times_of blocks e) waves ≡ None) × (set ≡ table_list times_of blocks e))
    → IfErr r (λ r. (r ≡ refusal.NoMemory)
    ⊎ ((f : StilFault) × (r ≡ refusal.Fault f) × (tables_fault (timed_of times_of blocks e) waves ≡ Some f)))
    → Finds (waves_fault blocks waves e) (λ tables. tables ≡ tables_of blocks e) r
unfolding waves_fault tables_of
tables_found blocks waves e (Ok set) found fault = found
tables_found blocks waves e (Err r) found fault =
    refuses (tables_fault (timed_of times_of blocks e) waves) r fault

pub chains_found : (blocks : Blocks) (e : ExecDecl) (title : List ℕ) (r : Result (List Chain) StilRefusal)
    → title ≡ exec_scans blocks e → Scans blocks title r
    → Finds (ends_fault blocks e) (λ chains. chains ≡ chains_of blocks e) r
unfolding ends_fault chains_of
chains_found blocks e title r is h = subst (λ (x : List ℕ). Scans blocks x r) is h

pub chains_there : (blocks : Blocks) (e : ExecDecl) (chains : List Chain) → chains ≡ chains_of blocks e
    → chains ≡ chain_list blocks e
unfolding chains_of
chains_there blocks e chains h = h

-- one table more is counted
sums_more : (before s k count more : ℕ) → count ≡ min (before + s) (2 ^ 32 - 1) → more ≡ min k (2 ^ 32 - 1)
    → min (count + more) (2 ^ 32 - 1) ≡ min (before + (s + k)) (2 ^ 32 - 1)
sums_more before s k count more h g = omega (arith, h, g)

pub waves_next : (tables : List Table) (n before count more : ℕ) (t : Table) → slice_get tables n ≡ Some t
    → count ≡ min (before + sum_by (λ (x : Table). length x.waves) (take n tables)) (2 ^ 32 - 1)
    → more ≡ min (length (waves_at (slice_get tables n))) (2 ^ 32 - 1)
    → min (count + more) (2 ^ 32 - 1) ≡ min (before + sum_by (λ (x : Table). length x.waves) (take (n + 1) tables)) (2 ^ 32 - 1)
waves_next tables n before count more t at h g =
    let own = g ∙ ap (λ (o : Option Table). min (length (waves_at o)) (2 ^ 32 - 1)) at in
    sums_more before (sum_by (λ (x : Table). length x.waves) (take n tables)) (length t.waves) count more h own
    ∙ ap (λ (k : ℕ). min (before + k) (2 ^ 32 - 1)) (sym (sum_next (λ (x : Table). length x.waves) tables n t at))

module _ (blocks : Blocks) (waves : ℕ) (e : ExecDecl) where
  -- refused for its names
  pub for_names : (r : StilRefusal) → Blames (names_fault blocks e) r → Blames (staged_fault blocks waves e) r
  unfolding staged_fault
  for_names r h = λ f same. rw (h f same) refl

  -- for its variables
  pub for_values : (r : StilRefusal) → names_fault blocks e ≡ None → Blames (values_fault blocks e) r
      → Blames (staged_fault blocks waves e) r
  unfolding staged_fault
  for_values r names h = λ f same. rw names (rw (h f same) refl)

  -- for its tables
  pub for_tables : (r : StilRefusal) → names_fault blocks e ≡ None → values_fault blocks e ≡ None
      → Blames (waves_fault blocks waves e) r → Blames (staged_fault blocks waves e) r
  unfolding staged_fault
  for_tables r names values h = λ f same. rw names (rw values (rw (h f same) refl))

  -- for its chains
  pub for_chains : (r : StilRefusal) → names_fault blocks e ≡ None → values_fault blocks e ≡ None
      → waves_fault blocks waves e ≡ None → Blames (ends_fault blocks e) r
      → Blames (staged_fault blocks waves e) r
  unfolding staged_fault
  for_chains r names values tables h = λ f same. rw names (rw values (rw tables (h f same)))

  -- nothing refuses it
  pub for_nothing : names_fault blocks e ≡ None → values_fault blocks e ≡ None → waves_fault blocks waves e ≡ None
      → ends_fault blocks e ≡ None → staged_fault blocks waves e ≡ None
  unfolding staged_fault
  for_nothing names values tables chains = rw names (rw values (rw tables chains))

  -- how many waves there are behind it
  pub waves_there : (tables : List Table) (count : ℕ) → tables ≡ tables_of blocks e
      → count ≡ min (waves + sum_by (λ t. length t.waves) tables) (2 ^ 32 - 1)
      → count ≡ min (waves + waves_of blocks e) (2 ^ 32 - 1)
  unfolding tables_of waves_of
  waves_there tables count is counted =
      counted
      ∙ ap (λ (ts : List Table). min (waves + sum_by (λ t. length t.waves) ts) (2 ^ 32 - 1)) is
      ∙ ap (λ (n : ℕ). min (waves + n) (2 ^ 32 - 1)) (waves_counted blocks e)

  -- behind executives without too many waves there are not too many
  pub few_here : waves ≤ most_waves → staged_fault blocks waves e ≡ None → waves + exec_waves blocks e ≤ most_waves
  unfolding staged_fault waves_fault
  few_here few none =
      let first = or_else-none (names_fault blocks e)
      (or_else (values_fault blocks e) (or_else (waves_fault blocks waves e) (ends_fault blocks e))) none in
      let second = or_else-none (values_fault blocks e) (or_else (waves_fault blocks waves e) (ends_fault blocks e)) first.1 in
      let third = or_else-none (waves_fault blocks waves e) (ends_fault blocks e) second.1 in
      few_waves (timed_of times_of blocks e) waves few third.0

-- the last of five behind the first four
behind_four : (a b c d rest : Option StilFault)
    → or_else a (or_else b (or_else c (or_else d rest))) ≡ or_else (or_else a (or_else b (or_else c d))) rest
behind_four a b c d rest =
    ap (or_else a) (ap (or_else b) (or_else-both c d rest) ∙ or_else-both b (or_else c d) rest)
    ∙ or_else-both a (or_else b (or_else c d)) rest

-- the first fault of an executive, behind others
pub whole_is : (blocks : Blocks) (before : List ExecDecl) (e : ExecDecl)
    → exec_fault times_of blocks before e
    ≡ whole_fault blocks (sum_by (exec_waves blocks) before) (sum_by (exec_walked blocks) before) e
unfolding whole_fault staged_fault patterns_fault names_fault values_fault waves_fault ends_fault
whole_is blocks before e =
    behind_four (exec_names_fault blocks e) (variables_fault times_of (picked blocks e))
    (tables_fault (timed_of times_of blocks e) (sum_by (exec_waves blocks) before)) (chain_list_fault blocks e)
    (checked_fault (check_patterns blocks e (played blocks e) (sum_by (exec_walked blocks) before)))
