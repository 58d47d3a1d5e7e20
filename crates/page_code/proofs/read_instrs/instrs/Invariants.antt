use Rattle.std.proofs.Common.{◌≡◌, ◌-◌, ◌<◌, [], length}
use Rattle.page_code.specs.Accepted.{AreAccepted}
use Rattle.page_code.specs.Fields.{items_at}
use Rattle.page_code.specs.Reading.{instr_at}
use Rattle.packed_code.specs.Whole.{IsWhole}
use Rattle.page_code.specs.Nest.{IsNest}
use Rattle.page_code.proofs.read_instrs.instrs.Given as goal

abbrev pub invariant-loop-place : goal.invariant-loop-place
invariant-loop-place l = record {
  so_far : items_at (instr_at l.tables l.rows l.count) (l.count - l.place) l.instrs.items l.rest ≡ items_at (instr_at l.tables l.rows l.count) l.count [] l.bytes;
  accepted : AreAccepted l.tables l.rows l.accepted;
  size : length l.instrs.items ≡ l.place;
  nest : l.place < l.count → IsNest l.instrs.items l.nest;
  whole : l.place ≡ l.count → 0 < l.place → IsWhole l.instrs.items;
}
