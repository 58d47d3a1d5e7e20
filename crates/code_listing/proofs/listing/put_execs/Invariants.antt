use Rattle.std.proofs.Common.{◌≡◌, ◌≤◌, ◌+◌, ◌-◌, ◌++◌, List, ℕ, length}
use Rattle.text_bytes.specs.Texts.{AreLines}
use Rattle.tester_types.specs.Outside.{gained}
use Rattle.code_listing.specs.Listing.{listing_of, cycles_in, time_of}
use Rattle.code_listing.specs.Room.{Fits, text_of}
use Rattle.code_listing.specs.Text.{execs_text}
use Rattle.code_listing.proofs.ListingLemmas.{execs_from}
use Rattle.code_listing.proofs.listing.put_execs.Given as goal

-- what was put, and the executives that are left, are the whole
abbrev pub invariant-loop-exec : goal.invariant-loop-exec
invariant-loop-exec g l = record {
  done : List ℕ;
  held : g.K.Sink.told l.sink ≡ gained (g.K.Sink.told l.fn.sink) done;
  whole : execs_text (text_of l.form l.code) (listing_of l.code)
      ≡ done ++ execs_text (text_of l.form l.code) (execs_from l.code l.exec (length l.code.execs - l.exec));
  lines : AreLines done;
  time : l.time + time_of (cycles_in (execs_from l.code l.exec (length l.code.execs - l.exec)))
      ≡ time_of (cycles_in (listing_of l.code));
  room : Fits (length l.code.signals) l.room;
  count : g.K.Sink.faults l.fn.sink ≤ g.K.Sink.faults l.sink;
}
