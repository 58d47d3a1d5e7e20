use Rattle.std.proofs.Common.{◌≡◌, ◌+◌, ◌<◌, ℕ, length, drop, pos, Option, sym, ap, ◌∙◌, subst, arith}
use Rattle.std.specs.List.{flat_map}
use Rattle.text_bytes.proofs.ListLemmas.{drop-item}
use Rattle.stil_ast.specs.Faults.Found.{or_else}
use Rattle.stil_ast.specs.declared.fault.StilFault.{StilFault}
use Rattle.wave_tables.specs.Scope.{timed}
use Rattle.wave_tables.specs.Own.{own_for, numbered_from}
use Rattle.wave_tables.specs.Check.{IsAt, late_in}
use Rattle.wave_tables.proofs.FirstLemmas.{at_first}
use Rattle.wave_tables.proofs.StandingLemmas.{stand_reference, late_references}
use Rattle.wave_tables.proofs.standing.check_table_waves.Goals as goal

pub check_reference-requires-clause-reads : goal.check_reference-requires-clause-reads
check_reference-requires-clause-reads c =
    let items = c.as_slice-signals-items.result.now in
    let i = c.loop-signals.signals-index in
    let within : i < length items = omega arith in
    (stand_reference (timed c.args.scope.now) c.args.reads.now c.loop-signals.next (drop i items) c.signals-item.result
    (drop (i + 1) items)
    (drop-item items i c.signals-item.result within c.signals-item.is) c.loop-signals.invariant.reads).0

pub returns-in-Err : goal.returns-in-Err
returns-in-Err c =
    let t = timed c.args.scope.now in
    let items = c.as_slice-signals-items.result.now in
    let i = c.loop-signals.signals-index in
    let within : i < length items = omega arith in
    let split = drop-item items i c.signals-item.result within c.signals-item.is in
    let whole = c.loop-signals.invariant.none
    ∙ late_references t (pos c.args.heir.now.period) c.args.heir.now.number c.args.number c.loop-signals.next
    (drop i items)
    c.signals-item.result (drop (i + 1) items) split in
    subst (λ (o : Option StilFault). IsAt t.place o c.in-Err.trouble) (sym whole)
    (at_first t.place _ _ c.in-Err.trouble c.in-Err.ensures)

pub loop-signals-preserved : goal.loop-signals-preserved
loop-signals-preserved c =
    let t = timed c.args.scope.now in
    let items = c.as_slice-signals-items.result.now in
    let i = c.loop-signals.signals-index in
    let within : i < length items = omega arith in
    let rest = drop (i + 1) items in
    let split = drop-item items i c.signals-item.result within c.signals-item.is in
    let next : c.in-Ok.behind ≡ c.loop-signals.next + length c.signals-item.result.waves = c.in-Ok.ensures.1 in
    let behind : ℕ → Option StilFault =
    λ n. late_in t (pos c.args.heir.now.period) c.args.heir.now.number
    (numbered_from n (flat_map (own_for t.names c.args.number) rest)) in
    record {
      reads = rw next (stand_reference t c.args.reads.now c.loop-signals.next (drop i items) c.signals-item.result rest
          split
          c.loop-signals.invariant.reads).1;
      none = c.loop-signals.invariant.none
          ∙ late_references t (pos c.args.heir.now.period) c.args.heir.now.number c.args.number c.loop-signals.next
          (drop i items)
          c.signals-item.result rest split
          ∙ ap (λ (o : Option StilFault). or_else o
          (behind (c.loop-signals.next + length c.signals-item.result.waves))) c.in-Ok.ensures.0
          ∙ ap behind (sym next);
    }
