use Rattle.std.proofs.Common.{◌≡◌, ◌+◌, drop, pos}
use Rattle.stil_ast.specs.Meaning.Members.{members}
use Rattle.wave_tables.specs.Scope.{timed}
use Rattle.wave_tables.specs.Own.{waves_for, own_for, numbered_from}
use Rattle.wave_tables.specs.Standing.{StandAt}
use Rattle.wave_tables.specs.Check.{late_in}
use Rattle.wave_tables.proofs.standing.check_reference.Given as goal

abbrev pub invariant-loop-wave : goal.invariant-loop-wave
invariant-loop-wave l = record {
  number : l.number ≡ l.start + l.wave-index;
  stand : StandAt (timed l.scope) l.reads l.number (drop l.wave-index l.wave-items);
  none : late_in (timed l.scope) (pos l.heir.period) l.heir.number
      (numbered_from l.start (own_for (timed l.scope).names l.table l.signals))
      ≡ late_in (timed l.scope) (pos l.heir.period) l.heir.number
      (numbered_from l.number (waves_for l.table (members (timed l.scope).names l.signals.reference)
      (drop l.wave-index l.wave-items)));
}
