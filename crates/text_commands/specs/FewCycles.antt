-- Codes with few enough cycles to be printed; no public clause cites it.
use Rattle.std.specs.Prelude.{◌≡◌, ◌⊎◌, ℕ, ◌+◌, ◌<◌, ◌≤◌, List, length, take, slice_index_or}
use Rattle.stil_ast.specs.Faults.Found.{fault_at}
use Rattle.stil_ast.specs.Faults.BurstFaults.{exec_place}
use Rattle.stil_ast.specs.declared.blocks.Blocks.{Blocks}
use Rattle.stil_ast.specs.declared.fault.StilKind.TheVariants.{TooManyCycles}
use Rattle.stil_ast.specs.Data.Refusal.{StilRefusal}
use Rattle.answers.specs.declared.short.Short.TheVariants.{NoMemory, Fault}
use Rattle.packed_code.specs.Program.{Program}
use Rattle.packed_code.specs.Cycles.{exec_of}
use Rattle.code_listing.specs.Listing.{listing_of, cycles_in}
use Rattle.code_listing.specs.Text.{names_of, cycles_among}
use Rattle.stil_program.specs.Program.{IsTextFault}
use Rattle.text_commands.specs.Commands.{IsListed, HasTooMany}
use Rattle.text_commands.specs.TextListing.{text_listing, signal_names}
use Rattle.std.specs.Prelude.{Some}
use Rattle.text_bytes.specs.Limits.{most_listed}

-- up to this executive there are more than 65,536 cycles, and before it there aren't
pub record Crosses (code : Program) (exec : ℕ) : Type 0 where
  pub within : exec < length code.execs
  pub before : cycles_among (take exec code.execs) ≤ most_listed
  pub beyond : most_listed < cycles_among (take (exec + 1) code.execs)

-- a code lists what its text does, which isn't too much
pub record IsListedCode (bytes : List ℕ) (code : Program) : Type 0 where
  pub blocks : Blocks
  pub listed : IsListed bytes blocks
  pub listing : listing_of code ≡ text_listing blocks
  pub names : names_of code ≡ signal_names blocks
  pub few : length (cycles_in (listing_of code)) ≤ most_listed

-- why a text isn't listed
abbrev pub IsListRefused : List ℕ → StilRefusal → Type 0
IsListRefused bytes NoMemory = Unit {0}
IsListRefused bytes (Fault fault) = IsTextFault bytes (Some fault) ⊎ HasTooMany bytes fault

-- a refusal tells of too many cycles at this executive
abbrev pub IsToldOf : Program → List ℕ → ℕ → StilRefusal → Type 0
IsToldOf code lines exec NoMemory = Unit {0}
IsToldOf code lines exec (Fault fault) =
    fault ≡ fault_at (exec_place (exec_of code exec).name (slice_index_or lines exec 0)) TooManyCycles
