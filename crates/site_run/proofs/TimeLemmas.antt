-- A try goes on in time by each cycle that its cursor gives, by at most a millisecond: `time_between`.
use Rattle.std.proofs.Common.{ℕ, zero, suc, ◌+◌, ◌*◌, ◌<◌, ◌≤◌, List, [], ◌∷◌, length, take, get_or, sym, ap, arith}
use Rattle.std.specs.List.{AllByRecursion}
use Rattle.std.proofs.lemmas.Option.{slice_get-get_or, get_or_from_slice_get}
use Rattle.tester_types.specs.declared.wave.Table.{Table}
use Rattle.tester_types.specs.declared.cycle.Cycle.{Cycle}
use Rattle.packed_code.specs.declared.instr.Entry.{Entry}
use Rattle.packed_code.specs.Program.{Program}
use Rattle.packed_code.specs.Conditions.{IsProgram}
use Rattle.packed_code.specs.Cycles.{period_of, timed}
use Rattle.packed_code.specs.Walk.{IsOf}
use Rattle.packed_code.proofs.WalkLemmas.{period_fits}
use Rattle.site_meaning.specs.Playing.{Stand, Going, after_cycle}
use Rattle.site_meaning.specs.Trials.{after_cycles}
use Rattle.cycle_run.specs.BatchLaws.{period_is, after_cycles-none, after_cycles-next}

no_table : Table
no_table = record { name = []; period = 0; waves = [] }

-- the period of a table that the program has
period_between : (code : Program) (number : ℕ) → IsProgram code → number < length code.tables
    → (0 < period_of code.tables number) × (period_of code.tables number ≤ 1000000000000)
period_between code number program within =
    let table = get_or code.tables number no_table in
    let found = slice_get-get_or code.tables number no_table within in
    let is = period_is code.tables number table found in
    let gets = sym (get_or_from_slice_get code.tables number table table found) in
    let fits = period_fits code number table program within gets in
    (omega (arith, is, fits.0), omega (arith, is, fits.1))

-- behind these cycles, of which each takes a femtosecond to a millisecond
abbrev GoesOn : Stand → Going → List Cycle → Type 0
GoesOn stand going cycles =
    (going.time + length cycles ≤ (after_cycles stand going cycles).time)
    × ((after_cycles stand going cycles).time ≤ going.time + 1000000000000 * length cycles)

module _ (stand : Stand) (program : IsProgram stand.code) where
  no_time : (going : Going) → GoesOn stand going []
  no_time going = let e = ap (λ (g : Going). g.time) (after_cycles-none stand going) in (omega (arith, e), omega (arith, e))

  -- behind the first so many of those that entries of the program give
  pub time_between : (start count : ℕ) (entries : List Entry) (going : Going)
      → AllByRecursion (λ (e : Entry). IsOf stand.code e.table e.row) entries
      → GoesOn stand going (take count (timed stand.code.tables start entries))
  time_between start zero entries going named = no_time going
  time_between start (suc n) [] going named = no_time going
  time_between start (suc n) (entry ∷ entries) going named =
      let cycle : Cycle = record { start = start; table = entry.table; row = entry.row; mark = entry.mark } in
      let period = period_of stand.code.tables entry.table in
      let between = period_between stand.code entry.table program named.0.table in
      let next = ap (λ (g : Going). g.time)
      (after_cycles-next stand going cycle (take n (timed stand.code.tables (start + period) entries))) in
      let later = time_between (start + period) n entries (after_cycle stand going cycle) named.1 in
      (omega (arith, next, between.0, later.0), omega (arith, next, between.1, later.1))
