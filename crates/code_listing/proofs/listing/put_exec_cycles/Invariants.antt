use Rattle.std.proofs.Common.{◌≡◌, ◌≤◌, ◌+◌, ◌++◌, List, ℕ, length}
use Rattle.std.specs.List.{flat_map}
use Rattle.text_bytes.specs.Texts.{AreLines}
use Rattle.tester_types.specs.Outside.{gained}
use Rattle.packed_code.specs.Cycles.{cycles_of}
use Rattle.packed_code.specs.Walk.{IsOver, cycles_left}
use Rattle.code_listing.specs.Listing.{listed_exec, time_of}
use Rattle.code_listing.specs.Room.{Fits, text_of}
use Rattle.code_listing.proofs.ListingLemmas.{listed_from}
use Rattle.code_listing.proofs.listing.put_exec_cycles.Given as goal

-- what was put, and the cycles that the walk still gives, are the whole
abbrev pub invariant-loop-number : goal.invariant-loop-number
invariant-loop-number g l = record {
  over : IsOver l.code l.place;
  counted : l.number + length (cycles_left l.code l.place) ≡ length (cycles_of l.code l.exec);
  done : List ℕ;
  held : g.K.Sink.told l.sink ≡ gained (g.K.Sink.told l.fn.sink) done;
  whole : flat_map (text_of l.form l.code) (listed_exec l.code l.exec).cycles
      ≡ done ++ flat_map (text_of l.form l.code) (listed_from l.code l.number (cycles_left l.code l.place));
  lines : AreLines done;
  time : l.time + time_of (listed_from l.code l.number (cycles_left l.code l.place)) ≡ l.fn.time + time_of (listed_exec l.code l.exec).cycles;
  room : Fits (length l.code.signals) l.room;
  count : g.K.Sink.faults l.fn.sink ≤ g.K.Sink.faults l.sink;
}
