-- Instructions that an executive may have nest.
use Rattle.std.proofs.Common.{◌≡◌, false, List, [], ◌∷◌, ◌++◌, refl, ap, ◌∙◌}
use Rattle.packed_code.specs.declared.instr.Entry.{Entry}
use Rattle.packed_code.specs.declared.instr.Instr.{Instr}
use Rattle.packed_code.specs.declared.instr.Instr.TheVariants.{Run, Loop, End, Done}
use Rattle.packed_code.specs.Nesting as nesting
use Rattle.packed_code.specs.Nesting.{Runs}
use Rattle.packed_code.specs.Whole.{IsRest}
use Rattle.packed_code.proofs.NestingLemmas.{Runs-Means}
use Rattle.flat_parts.specs.Nests.{RunLines, Nest, nothing, run, loop, instrs_in}

-- no lines
no_lines : RunLines
no_lines = record { wave = 0; loop = 0; call = 0 }

-- what runs, nests
nested : (front : List Instr) (cycles : List Entry) → Runs front cycles → (nest : Nest) × (front ≡ instrs_in nest)
nested _ _ nesting.nothing = (nothing, refl)
nested _ _ (nesting.a_run table row mark times rest cycles runs) =
    let behind = nested rest cycles runs in
    (run no_lines table row mark times behind.0, ap (λ (is : List Instr). Run table row mark times ∷ is) behind.1)
nested _ _ (nesting.a_loop times body rest pass cycles inside behind) =
    let b = nested body pass inside in
    let r = nested rest cycles behind in (
      loop 0 times b.0 r.0,
      ap (λ (is : List Instr). Loop times ∷ (is ++ End ∷ rest)) b.1
          ∙ ap (λ (is : List Instr). Loop times ∷ (instrs_in b.0 ++ End ∷ is)) r.1,
    )

-- instructions that an executive may have nest
pub IsRest-nests : (code : List Instr) → IsRest 0 false code → (nest : Nest) × (code ≡ instrs_in nest ++ Done ∷ [])
IsRest-nests code rest =
    let whole = Runs-Means code rest in
    let n = nested whole.0 _ whole.2 in
    (n.0, whole.1 ∙ ap (λ (is : List Instr). is ++ Done ∷ []) n.1)
