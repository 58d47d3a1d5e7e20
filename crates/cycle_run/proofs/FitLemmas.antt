-- What runs fits: the cycles of an executive are few enough, and the skews of a site fit the program.
use Rattle.std.proofs.Common.{◌≡◌, ℕ, ℤ, ◌<◌, ◌≤◌, true, List, length, subst, arith}
use Rattle.cycle_run.specs.Step.{FitCode}
use Rattle.edge_gen.specs.Signals.{keeps_inside}
use Rattle.lot_plan.specs.Bound.{Bound, signals_of}
use Rattle.lot_plan.specs.Refusal.{IsBound}
use Rattle.lot_plan.specs.Skews.{skew_by, site_skews}
use Rattle.packed_code.proofs.WalkLemmas.{exec_is, length-cycles}
use Rattle.packed_code.specs.Conditions.{IsProgram}
use Rattle.packed_code.specs.Cycles.{exec_of, cycles_of}
use Rattle.packed_code.specs.Program.{Program}
use Rattle.packed_code.specs.declared.parts.CodeSignal.{CodeSignal}
use Rattle.packed_code.proofs.CountLemmas.{cycle_count-length}
use Rattle.plan_rows.specs.Rows.{skews_at}
use Rattle.site_meaning.proofs.PartLemmas.{skews_in-part_of}
use Rattle.site_meaning.proofs.SkewLemmas.{accepted_part}
use Rattle.std.proofs.lemmas.List.{length-map}
use Rattle.std.specs.Prelude.{All}
use Rattle.tester_types.specs.declared.wave.Table.{Table}

-- the cycles of an executive are few enough
pub few_cycles : (code : Program) (exec : ℕ) → IsProgram code → exec < length code.execs
    → length (cycles_of code exec) ≤ 281474976710656
few_cycles code exec program within =
    let few = (exec_is code exec program within).whole.cycles in
    let count = cycle_count-length (exec_of code exec).instrs in
    omega (arith, length-cycles code exec, few, count)

-- the skews of a site fit the program
pub skews_fit : (b : Bound) (site : ℕ) → IsProgram b.program → IsBound b → FitCode b.program (site_skews b site)
skews_fit b site program bound = record {
  one_each = length-map (signals_of b) (λ (signal : CodeSignal). skew_by (skews_at site b.rows) signal.name);
  inside = subst (λ (l : List ℤ). All (λ (t : Table). keeps_inside t l ≡ true) b.program.tables) (skews_in-part_of b site)
      (accepted_part b site program bound).inside;
}
