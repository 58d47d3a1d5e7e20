use Rattle.std.proofs.Common.{◌<◌, ℕ, List, Some}
use Rattle.plan_parts.specs.Inside.{IsWriting}
use Rattle.plan_parts.proofs.TextLemmas.{IsCutting}
use Rattle.plan_parts.proofs.text.part_records.Given as goal

abbrev pub invariant-loop-row : goal.invariant-loop-row
invariant-loop-row l = record {
  left : 0 < l.row-iterator.left;
  text : List ℕ;
  going : IsCutting l.bytes l.row-iterator.rdr l.parts l.part l.rows l.at text;
  writing : IsWriting l.out (λ v. Some v.items) text;
}
