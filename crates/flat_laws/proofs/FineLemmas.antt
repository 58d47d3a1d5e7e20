-- The flat text of a code has no fault where it is within the limits: `flat_is_fine`.
use Rattle.std.proofs.Common.{◌≡◌, ℕ, ◌-◌, ◌≤◌, true, length, Result, Ok, Err, None, refl, sym, arith}
use Rattle.text_bytes.specs.Limits.{deepest_loops}
use Rattle.stil_ast.specs.declared.blocks.Blocks.{Blocks}
use Rattle.stil_ast.specs.Faults.Found.{or_else}
use Rattle.stil_ast.specs.Faults.FrontFaults.{read_as}
use Rattle.stil_ast.specs.Faults.TextFaults.{blocks_fault}
use Rattle.stil_ast.specs.Faults.ExecutiveFaults.{fifth_fault}
use Rattle.stil_ast.specs.Faults.CodeFaults.{sixth_fault}
use Rattle.stil_ast.specs.Faults.SignalFaults.{fourth_fault}
use Rattle.stil_ast.proofs.FoundLemmas.{none_both}
use Rattle.stil_form.specs.declared.fault.FormFault.TheVariants.{NoMemory, Refused}
use Rattle.stil_tree.specs.Trees.{entries}
use Rattle.stil_read.specs.Top.{TextFault, in_statement, nowhere, blocks_of}
use Rattle.stil_program.specs.Front.{IsReadAs}
use Rattle.stil_program.specs.Program.{IsTextFault}
use Rattle.time_expr.specs.TimesOf.{times_of}
use Rattle.packed_code.specs.Program.{Program}
use Rattle.packed_code.specs.Conditions.{IsProgram}
use Rattle.flat_parts.specs.FlatText.{flat_text, has_plain_names, executives}
use Rattle.flat_parts.specs.FlatBlocks.{AreFlatBlocks}
use Rattle.flat_parts.specs.Nests.{Nest, nothing, run, loop}
use Rattle.flat_said.specs.Laws.{AreNests}
use Rattle.flat_said.proofs.ShapeLemmas.{flat_shaped}
use Rattle.flat_said.proofs.TextLemmas.{nests_of}
use Rattle.flat_read.specs.Laws.{IsBeyond, IsReading}
use Rattle.flat_fine.specs.Fits.{HasRoom}
use Rattle.flat_fine.proofs.ListLemmas.{at_range}
use Rattle.flat_fine.proofs.ScopeLemmas.{each_at}
use Rattle.flat_fine.proofs.NameLemmas.{names_fine}
use Rattle.flat_fine.proofs.PassLemmas.{few_are_fine}
use Rattle.flat_fine.proofs.TimeLemmas.{time_is}
use Rattle.flat_cycles.proofs.CompileLemmas.{small_are_fine}
use Rattle.flat_laws.specs.Limits.{IsWithinLimits}
use Rattle.flat_laws.specs.Laws.{FlatIsFine}
use Rattle.flat_laws.proofs.LevelLemmas.{flat_low}
use Rattle.flat_laws.proofs.WavesLemmas.{text_waves}
use Rattle.flat_laws.proofs.FrontLemmas.{text, tokens, forest, reads, read, parses}

-- where there is more room
more_room : (nest : Nest) (less more : ℕ) → less ≤ more → HasRoom less nest → HasRoom more nest
more_room nothing less more rise room = tt
more_room (run lines table row mark times rest) less more rise room =
    let some = room.0 in (omega (arith, rise, some), more_room rest less more rise room.1)
more_room (loop line times body rest) less more rise room =
    let some = room.0 in (
      omega (arith, rise, some),
      more_room body (less - 1) (more - 1) (omega (arith, rise)) room.1,
      more_room rest less more rise room.2,
    )

-- what is read has no fault
blocks_fine : (code : Program) (left : ℕ) (blocks : Blocks) → IsProgram code → IsWithinLimits code left
    → AreFlatBlocks code blocks
    → blocks_fault times_of blocks ≡ None
blocks_fine code left blocks whole within are =
    none_both (fourth_fault blocks) (or_else (fifth_fault times_of blocks) (sixth_fault times_of blocks))
    (names_fine code blocks whole are)
    (none_both (fifth_fault times_of blocks) (sixth_fault times_of blocks)
    (few_are_fine code blocks whole are (record {
      walked = within.walked;
      shallow = λ exec nest less is.
          more_room nest left deepest_loops (let few = within.levels in omega (arith, few)) (within.shallow exec nest less is);
      waves = let same = text_waves code blocks whole are in let few = within.waves in omega (arith, same, few);
    }))
    (small_are_fine times_of time_is code blocks left whole are
    (record { shallow = within.shallow; measured = within.measured })))

module _ (code : Program) (nests : ℕ → Nest) (whole : IsProgram code) (plain : has_plain_names code ≡ true)
    (are : AreNests code nests)
    (left : ℕ) (within : IsWithinLimits code left) where
  -- no Timing has too many tables
  no_fault : (which : TextFault) → IsBeyond code which → ⊥
  no_fault (in_statement (Refused kind first)) beyond =
      let many = beyond.1 in
      let few = within.tables many.0 many.1 in
      let more = many.2 in
      omega (arith, few, more)
  no_fault (in_statement NoMemory) beyond = beyond
  no_fault (nowhere kind) beyond = beyond

  -- so it is read as blocks
  reading : (r : Result Blocks TextFault) → IsReading code r → (blocks : Blocks) × (r ≡ Ok blocks) × AreFlatBlocks code blocks
  reading (Ok blocks) is = (blocks, refl, is)
  reading (Err which) is = absurd (no_fault which is)

  fine : IsTextFault (flat_text code) None
  fine =
      let fits =
      flat_low code nests left within.levels
      (each_at (λ exec. HasRoom left (nests exec)) (executives code)
      (λ number exec at.
      let r = at_range (length code.execs) number exec at in
      within.shallow exec (nests exec) (omega (arith, r.0, r.1)) (are exec (omega (arith, r.0, r.1)))))
      (flat_shaped code nests) in
      let b = reading (blocks_of (text code nests whole plain are) (tokens code nests whole plain are)
      (entries (forest code nests whole plain are)))
      (read code nests whole plain are) in
      let is : IsReadAs (flat_text code) b.0 = record {
        tokens = tokens code nests whole plain are;
        forest = forest code nests whole plain are;
        reads = reads code nests whole plain are;
        parses = parses code nests whole plain are fits;
        are = b.1;
      } in
      (read_as b.0, is, sym (blocks_fine code left b.0 whole within b.2))

pub flat_is_fine : FlatIsFine
flat_is_fine code left whole plain within =
    let nests = nests_of code whole in
    fine code nests.0 whole plain nests.1 left within
