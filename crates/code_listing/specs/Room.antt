-- What the code keeps while it lists. No public clause cites it.
use Rattle.std.specs.Prelude.{◌≡◌, ℕ, List, Result, length}
use Rattle.edge_gen.specs.Signals.{no_skews}
use Rattle.packed_code.specs.Program.{Program}
use Rattle.code_listing.specs.declared.room.Room.{Room}
use Rattle.code_listing.specs.declared.listing.Form.{Form}
use Rattle.code_listing.specs.declared.listing.Form.TheVariants.{Cycles, Events}
use Rattle.code_listing.specs.Listing.{Listed}
use Rattle.code_listing.specs.declared.fault.ListFault.{ListFault}
use Rattle.code_listing.specs.Lines.{HasRoom}
use Rattle.code_listing.specs.Text.{names_of, cycle_line, moments_text}

-- a byte for each of so many signals, and no skew for each
pub record Fits (signals : ℕ) (room : Room) : Type 0 where
  pub row : length room.row.items ≡ signals
  pub skews : room.skews.items ≡ no_skews signals

-- what is printed of each cycle in a form
abbrev pub text_of : Form → Program → Listed → List ℕ
text_of Cycles code = cycle_line
text_of Events code = moments_text (names_of code)

-- memory isn't wanting where lines alone are put
abbrev pub IsSure : {A : Type 0} → Form → Result A ListFault → Type 0
IsSure Cycles result = HasRoom result
IsSure Events result = Unit {0}
