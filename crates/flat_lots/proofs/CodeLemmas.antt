-- The code of a flat text has the signals of its source's code, no chains, and cycles with the same moments: `flat_code`.
use Rattle.std.proofs.Common.{◌≡◌, ℕ, zero, suc, ◌+◌, ◌<◌, ◌≤◌, ℤ, List, [], ◌∷◌, ◌++◌, map, length, take, drop, sym, ap, ◌∙◌, subst, arith, ⊎_elim}
use Rattle.std.specs.List.{AllByRecursion, flat_map, range_with_len}
use Rattle.std.proofs.lemmas.Bool.{cases_lt}
use Rattle.std.proofs.lemmas.Grind.{flat_map-append}
use Rattle.std.proofs.lemmas.List.{get_or_past}
use Rattle.text_bytes.proofs.ListLemmas.{slice_get-there}
use Rattle.tester_types.specs.declared.cycle.Cycle.{Cycle}
use Rattle.packed_code.specs.Program.{Exec, Program}
use Rattle.packed_code.specs.Cycles.{cycles_of}
use Rattle.die_sim.specs.Die.{Device}
use Rattle.stil_ast.specs.Meaning.Chains.{Chain}
use Rattle.stil_ast.specs.Meaning.Executive.{table_list}
use Rattle.stil_ast.specs.declared.blocks.Blocks.{Blocks}
use Rattle.stil_ast.specs.declared.executive.ExecDecl.{ExecDecl}
use Rattle.time_expr.specs.TimesOf.{times_of}
use Rattle.cycle_comp.specs.Compiled.{chain_of}
use Rattle.stil_program.specs.Program.{IsBlocksCode}
use Rattle.stil_program.proofs.ProgramLemmas.{execs_are, tables_are, exec_at, at_place}
use Rattle.flat_laws.specs.SameProgram.{IsSameProgram}
use Rattle.site_meaning.specs.Trials.{execs_of}
use Rattle.site_meaning.specs.Alike.{AreCodesAlike}
use Rattle.site_meaning.proofs.AlikeDies.{say_all}
use Rattle.flat_lots.specs.Chains.{HasNoChains}
use Rattle.flat_lots.proofs.PlayLemmas.{AreBeside, ExecsBeside}
use Rattle.flat_lots.proofs.TryLemmas.{CodesBeside}
use Rattle.flat_lots.proofs.CycleLemmas.{cycles_beside, all_same}

-- what is so of all is so of those that are no less than the first of them
all_low : (first most : ℕ) (cs : List Cycle) → AllByRecursion (λ (c : Cycle). (first ≤ c.table) × (c.table < most)) cs
    → AllByRecursion (λ (c : Cycle). first ≤ c.table) cs
all_low first most [] all = tt
all_low first most (c ∷ cs) all = (all.0.0, all_low first most cs all.1)

-- executives one by one
execs_beside : (code other : Program) (skews : List ℤ) (die : Device) (from count : ℕ)
    → ((k : ℕ) → from ≤ k → k < from + count → AreBeside code other skews die (cycles_of code k) (cycles_of other k))
    → ExecsBeside code other skews die (map (cycles_of code) (range_with_len from count)) (map (cycles_of other) (range_with_len from count))
execs_beside code other skews die from zero each = tt
execs_beside code other skews die from (suc count) each = (
  each from (omega arith) (omega arith),
  execs_beside code other skews die (from + 1) count (λ k low high. each k (omega (arith, low)) (omega (arith, high))),
)

module _ (code source other : Program) (blocks : Blocks) (alike : AreCodesAlike code source) (same : IsSameProgram times_of source blocks)
    (is : IsBlocksCode blocks other) where
  -- the same signals
  pub signals_are : code.signals ≡ other.signals
  signals_are = alike.signals ∙ sym same.signals ∙ sym is.code_is.signals

  -- as many executives
  count_is : length code.execs ≡ length other.execs
  count_is = alike.execs ∙ sym same.count ∙ sym (execs_are blocks other is)

  -- without chains
  pub no_chains : HasNoChains other
  no_chains exec =
      ⊎_elim
      (λ (low : exec < length blocks.executives).
      let e = slice_get-there blocks.executives exec low in
      (exec_at blocks other is exec e.0 e.1).chains_are ∙ ap (λ (cs : List Chain). map chain_of cs) (same.unchained e.0))
      (λ (high : length blocks.executives ≤ exec).
      ap (λ (x : Exec). x.chains)
      (get_or_past other.execs exec (record { name = []; chains = []; instrs = [] }) (omega (arith, high, execs_are blocks other is))))
      (cases_lt exec (length blocks.executives))

  -- the cycles of an executive
  exec_beside : (skews : List ℤ) (die : Device) (k : ℕ) → k < length blocks.executives
      → AreBeside code other skews die (cycles_of code k) (cycles_of other k)
  exec_beside skews die k low =
      let found = slice_get-there blocks.executives k low in
      let e : ExecDecl = found.0 in
      let front = take k blocks.executives in
      let back = drop (k + 1) blocks.executives in
      let own = table_list times_of blocks e in
      let before = flat_map (table_list times_of blocks) front in
      let tables : other.tables ≡ before ++ (own ++ flat_map (table_list times_of blocks) back) =
      tables_are blocks other is ∙ ap (flat_map (table_list times_of blocks)) (at_place blocks.executives k e found.1)
      ∙ flat_map-append (table_list times_of blocks) front (e ∷ back) in
      let has = exec_at blocks other is k e found.1 in
      cycles_beside code other own before (flat_map (table_list times_of blocks) back) tables skews die (cycles_of code k) (cycles_of other k) _
      (all_low (length before) (length before + length own) (cycles_of other k) has.inside) has.cycles_are
      (all_same code source own (cycles_of code k) (cycles_of source k) _ alike.tables
      (say_all code.rows source.rows (cycles_of code k) (cycles_of source k) (alike.cycles k)) (same.cycles k e found.1))

  pub codes_beside : CodesBeside code other
  unfolding execs_of
  codes_beside skews die =
      subst (λ (n : ℕ). ExecsBeside code other skews die (execs_of code) (map (cycles_of other) (range_with_len 0 n))) count_is
      (execs_beside code other skews die 0 (length code.execs)
      (λ k low high. exec_beside skews die k (omega (arith, high, count_is, execs_are blocks other is))))
