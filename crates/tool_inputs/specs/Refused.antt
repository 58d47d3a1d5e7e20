-- Why bytes have no code; no public clause cites it.
use Rattle.std.specs.Prelude.{◌≡◌, ◌⊎◌, List, ℕ, Some, Err}
use Rattle.stil_ast.specs.declared.fault.StilFault.{StilFault}
use Rattle.page_code.specs.Reading.{load_of}
use Rattle.page_code.specs.declared.fault.SavedFault.{SavedFault}
use Rattle.stil_program.specs.Program.{IsTextFault}
use Rattle.tool_inputs.specs.declared.status.Status.TheVariants.{OutOfMemory}
use Rattle.tool_inputs.specs.declared.refusal.Refusal.{Refusal}
use Rattle.tool_inputs.specs.declared.refusal.Refusal.TheVariants.{Stil, Saved}
use Rattle.tool_inputs.specs.Refusals.{status_of}

-- memory is wanting, or the refusal tells of the first fault of a text
abbrev pub IsTextRefusal : List ℕ → Refusal → Type 0
IsTextRefusal bytes r =
    (status_of r ≡ OutOfMemory) ⊎ ((fault : StilFault) × IsTextFault bytes (Some fault) × (r ≡ Stil fault))

-- or of that of a saved program
abbrev pub IsSavedRefusal : List ℕ → Refusal → Type 0
IsSavedRefusal bytes r =
    (status_of r ≡ OutOfMemory) ⊎ ((fault : SavedFault) × (load_of bytes ≡ Err fault) × (r ≡ Saved fault))
