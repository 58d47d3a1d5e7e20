use Rattle.std.proofs.Common.{◌≡◌, ◌+◌, ◌<◌, ℕ, length, drop, pos, Option, sym, ap, ◌∙◌, arith}
use Rattle.std.proofs.lemmas.Grind.{common_steps}
use Rattle.text_bytes.proofs.ListLemmas.{drop-item}
use Rattle.stil_ast.specs.Meaning.Members.{members}
use Rattle.stil_ast.specs.Faults.Found.{or_else}
use Rattle.stil_ast.specs.declared.fault.StilFault.{StilFault}
use Rattle.wave_tables.specs.Scope.{timed}
use Rattle.wave_tables.specs.Own.{waves_for, numbered_from}
use Rattle.wave_tables.specs.Check.{late_in}
use Rattle.wave_tables.proofs.StandingLemmas.{stand_first, stand_next, late_waves}
use Rattle.wave_tables.proofs.standing.check_reference.Goals as goal

pub check_numbered-requires-clause-read : goal.check_numbered-requires-clause-read
check_numbered-requires-clause-read c =
    let items = c.as_slice-wave-items.result.now in
    let i = c.loop-wave.wave-index in
    let within : i < length items = omega arith in
    stand_first (timed c.args.scope.now) c.args.reads.now c.loop-wave.number (drop i items) c.wave-item.result
    (drop (i + 1) items)
    (drop-item items i c.wave-item.result within c.wave-item.is) c.loop-wave.invariant.stand

pub loop-wave-preserved : goal.loop-wave-preserved
loop-wave-preserved c =
    let t = timed c.args.scope.now in
    let items = c.as_slice-wave-items.result.now in
    let i = c.loop-wave.wave-index in
    let within : i < length items = omega arith in
    let rest = drop (i + 1) items in
    let split = drop-item items i c.wave-item.result within c.wave-item.is in
    let next : c.in_ok-number.number ≡ c.loop-wave.number + 1 = grind (arith, common_steps) in
    let behind : ℕ → Option StilFault =
    λ n. late_in t (pos c.args.heir.now.period) c.args.heir.now.number
    (numbered_from n (waves_for c.args.table (members t.names c.args.signals.now.reference) rest)) in
    record {
      number = next ∙ ap (λ (n : ℕ). n + 1) c.loop-wave.invariant.number ∙ omega arith;
      stand = rw next (stand_next t c.args.reads.now c.loop-wave.number (drop i items) c.wave-item.result rest split
          c.loop-wave.invariant.stand);
      none = c.loop-wave.invariant.none
          ∙ late_waves t (pos c.args.heir.now.period) c.args.heir.now.number c.args.table c.loop-wave.number
          c.args.signals.now.reference
          (drop i items) c.wave-item.result rest split
          ∙ ap (λ (o : Option StilFault). or_else o (behind (c.loop-wave.number + 1))) c.in-Ok.ensures
          ∙ ap behind (sym next);
    }
