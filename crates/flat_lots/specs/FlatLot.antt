-- A lot on a flat text beside one on its source.
use Rattle.std.specs.Prelude.{◌≡◌, ℕ, ◌<◌, false, List, Some}
use Rattle.tester_types.specs.Outside.{file_of}
use Rattle.tester_types.specs.Records.{records_of}
use Rattle.die_sim.specs.Socket.{Told}
use Rattle.site_meaning.specs.Records.{cuts_of}
use Rattle.datalog.specs.DatalogText.{lot_text}
use Rattle.tool_inputs.specs.Inputs.{is_saved, bound_of}
use Rattle.lot_laws.specs.Alone.{AreOneNets}
use Rattle.text_commands.specs.declared.command.Command.TheVariants.{Flat}
use Rattle.text_commands.specs.Commands.{IsOutput}
use Rattle.stil_tool.specs.Alone.{LotRun, said, sites_in, records_at}
use Rattle.flat_lots.specs.Chains.{without_chains}

-- the program of one run is a text, and that of the other is what `flat` writes of it
pub record IsFlatOf {S : Type 0} {tells : S → Told} (run flat : LotRun tells) : Type 0 where
  pub bytes : List ℕ
  pub text : List ℕ
  pub source : file_of run.files run.program ≡ Some bytes
  pub is_text : is_saved bytes ≡ false
  pub written : IsOutput Flat bytes text
  pub is : file_of flat.files flat.program ≡ Some text

-- A run on a flat text, with the plan and the netlists of a run on its source by their bytes, whose tries are cut
-- alike, prints what the run on its source prints but for the names of scan cells: the datalog of the same records by
-- the code without chains.
abbrev pub FlatLot : {S : Type 0} → (S → Told) → Type 0
FlatLot tells =
    (run flat : LotRun tells) → IsFlatOf run flat
    → file_of run.files run.plan ≡ file_of flat.files flat.plan
    → ((site : ℕ) → AreOneNets run.files flat.files (said run).rows site)
    → ((site : ℕ) → site < sites_in run → cuts_of (records_at run site) ≡ cuts_of (records_at flat site))
    → flat.text
    ≡ lot_text (without_chains (said run).code) (bound_of (said run)) (records_of run.is.lot.book)
