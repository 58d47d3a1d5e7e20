-- The faults of the flat text of a code, and what it says.
use Rattle.std.proofs.Common.{◌≡◌, ◌⊎◌, Option, Some, None, sym, ap, subst, ◌∙◌, inl, inr}
use Rattle.stil_ast.specs.Faults.Found.{or_else}
use Rattle.stil_ast.specs.Faults.ExecutiveFaults.{fifth_fault}
use Rattle.stil_ast.specs.Faults.CodeFaults.{sixth_fault}
use Rattle.stil_ast.specs.Faults.TextFaults.{blocks_fault}
use Rattle.stil_ast.specs.Faults.FrontFaults.{Front, refused_by, read_as, fault_of_front}
use Rattle.stil_ast.specs.declared.blocks.Blocks.{Blocks}
use Rattle.stil_ast.specs.declared.fault.StilFault.{StilFault}
use Rattle.stil_ast.specs.declared.fault.StilKind.TheVariants.{TooLarge}
use Rattle.packed_code.specs.Program.{Program}
use Rattle.packed_code.specs.Conditions.{IsProgram}
use Rattle.time_expr.specs.TimesOf.{times_of}
use Rattle.flat_parts.specs.FlatBlocks.{AreFlatBlocks}
use Rattle.flat_fine.proofs.NameLemmas.{names_fine}
use Rattle.flat_fine.proofs.PassLemmas.{executives_fine}
use Rattle.flat_fine.proofs.TimeLemmas.{time_is}
use Rattle.flat_cycles.proofs.CompileLemmas.{only_too_large}
use Rattle.flat_laws.specs.Laws.{IsLimit, FaultsAreLimits, ProgramIsSame}
use Rattle.flat_laws.proofs.FrontLemmas.{IsFlatFront, front_is}
use Rattle.flat_laws.proofs.SameLemmas.{same_program}

-- the first of the faults of two passes
first_of : (a b : Option StilFault) (fault : StilFault) → or_else a b ≡ Some fault → (a ≡ Some fault) ⊎ (b ≡ Some fault)
first_of None b fault is = inr is
first_of (Some f) b fault is = inl is

-- a fault of the blocks is that something is too large
large : (code : Program) (blocks : Blocks) (fault : StilFault) → IsProgram code → AreFlatBlocks code blocks
    → blocks_fault times_of blocks ≡ Some fault → fault.kind ≡ TooLarge
large code blocks fault whole are is =
    let behind : or_else (fifth_fault times_of blocks) (sixth_fault times_of blocks) ≡ Some fault =
    sym (ap (λ (o : Option StilFault). or_else o (or_else (fifth_fault times_of blocks) (sixth_fault times_of blocks))) (names_fine code blocks whole are))
    ∙ is in
    elim (first_of (fifth_fault times_of blocks) (sixth_fault times_of blocks) fault behind) [
      | inl fifth ↦ executives_fine code blocks fault whole are fifth
      | inr sixth ↦ only_too_large times_of time_is code blocks fault whole are sixth
    ]

by_front : (code : Program) (front : Front) (fault : StilFault) → IsProgram code → IsFlatFront code front
    → Some fault ≡ fault_of_front times_of front → IsLimit fault.kind
by_front code (refused_by f) fault whole limit is =
    let same : f ≡ fault = cc in subst (λ (g : StilFault). IsLimit g.kind) same limit
by_front code (read_as blocks) fault whole are is = inl (large code blocks fault whole are (sym is))

pub faults_are_limits : FaultsAreLimits
faults_are_limits code fault whole plain is =
    by_front code is.0 fault whole (front_is code is.0 whole plain is.1) is.2

pub program_is_same : ProgramIsSame
program_is_same code blocks whole plain text = same_program code blocks whole (front_is code (read_as blocks) whole plain text.read)
