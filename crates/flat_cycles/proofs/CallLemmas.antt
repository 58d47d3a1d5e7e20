-- An executive of a flat text makes the vectors of its code's cycles, one by one.
use Rattle.std.proofs.Common.{◌≡◌, ℕ, ◌<◌, ◌++◌, List, [], ◌∷◌, map, length, replicate, slice_get, Option, Some, None, sym, ap, subst, ◌∙◌, arith, append-nil, codes, option_map}
use Rattle.std.specs.List.{AllZip, AllByRecursion}
use Rattle.std.proofs.lemmas.Option.{slice_get-map, get_or_from_slice_get}
use Rattle.text_bytes.specs.Limits.{deepest_calls}
use Rattle.text_bytes.proofs.ListLemmas.{all_front}
use Rattle.packed_code.specs.declared.instr.Entry.{Entry}
use Rattle.packed_code.specs.declared.instr.Instr.TheVariants.{Done}
use Rattle.packed_code.specs.Meaning.{Means}
use Rattle.packed_code.proofs.NestingLemmas.{Means-Runs}
use Rattle.packed_code.specs.Program.{Program}
use Rattle.packed_code.specs.Conditions.{IsRow, characters_of}
use Rattle.packed_code.specs.Cycles.{exec_of}
use Rattle.packed_code.proofs.Lists.{behind_at}
use Rattle.stil_ast.specs.Data.Places.{of_pattern, of_procedure}
use Rattle.stil_ast.specs.Data.Texts.{same}
use Rattle.stil_ast.specs.Data.Written as written
use Rattle.stil_ast.specs.Data.Written.{Written}
use Rattle.stil_ast.specs.declared.body.Assignment.{Assignment}
use Rattle.stil_ast.specs.declared.body.Step.TheVariants.{Vector as VectorStep}
use Rattle.stil_ast.specs.declared.blocks.BodyDef.{BodyDef}
use Rattle.stil_ast.specs.declared.blocks.Blocks.{Blocks}
use Rattle.stil_ast.specs.declared.executive.ExecDecl.{ExecDecl}
use Rattle.stil_ast.specs.Meaning.State.{Vector, start_of}
use Rattle.stil_ast.specs.Meaning.Statements.{Statements}
use Rattle.stil_ast.specs.Meaning.Signals.{names_of}
use Rattle.stil_ast.specs.Meaning.Resolved.{Scope, body_number, resolved}
use Rattle.stil_ast.specs.Meaning.Running.{Ran, Here, in_call, calls, run_list, run, outside}
use Rattle.stil_ast.specs.Meaning.Executive.{Part, scope_of, part_of, run_parts, exec_vectors}
use Rattle.flat_parts.specs.Order.{row_order, number_in}
use Rattle.flat_parts.specs.Nests.{Nest, instrs_in, row_name}
use Rattle.flat_parts.specs.FlatBlocks.{given_from, IsGift, IsRowBody, row_numbered}
use Rattle.flat_parts.proofs.OrderLemmas.{place_within, at_place}
use Rattle.flat_fine.proofs.ListLemmas.{only_first, first_number}
use Rattle.flat_fine.proofs.SignalLemmas.{names_are, signal_count, reference_members}
use Rattle.flat_fine.proofs.ExecLemmas.{each_so, few_rows}
use Rattle.flat_fine.proofs.LookupLemmas.{numbered_only}
use Rattle.flat_fine.proofs.ScopeLemmas.{procedures_are}
use Rattle.flat_cycles.proofs.FitLemmas.{IsRun, runs_fit}
use Rattle.flat_cycles.proofs.PlayLemmas.{IsTextExec, own, own_play, exec_less, one_part, unmarked}
use Rattle.flat_cycles.proofs.RowLemmas.{characters_or_none, AreKnown, body_makes}
use Rattle.flat_cycles.proofs.RunLemmas.{nest_cycles, nest_runs, OfRun, OfRuns, of_run, of_nest, vectors, vector_of, Calls, CanRun, Makes, nest_makes}

-- the places at which no signal has a character
abbrev pub no_characters : Program → List (Option ℕ)
no_characters code = replicate (length code.signals) None

-- the characters of a row of the code
abbrev pub code_characters : Program → ℕ → List (Option ℕ)
code_characters code row = characters_or_none (characters_of code.rows row)

module _ (code : Program) (blocks : Blocks) (exec : ℕ) (e : ExecDecl) (text : IsTextExec code blocks exec e) where
  -- the pattern as it is run
  abbrev pub own_part : Part
  own_part = part_of blocks e (own_play code blocks exec e text)

  -- what the names in it mean
  abbrev pub own_scope : Scope
  own_scope = scope_of blocks e (own_play code blocks exec e text)

  -- the name of a signal stands for it
  pub known : AreKnown code own_scope.names
  known signal less = reference_members code (names_of blocks) signal text.program (names_are code blocks text.flat) less

  -- a row has a character for each signal
  row_long : (row : ℕ) → row < length code.rows → length (characters_of code.rows row) ≡ length code.signals
  row_long row less = (behind_at (IsRow (length code.signals)) [] code.rows row [] text.program.rows less).places

  -- a Call's procedure is the row of a Run
  pub record IsCalled (row : ℕ) : Type 0 where
    pub line : ℕ
    pub gifts : List Assignment
    pub each : AllZip IsGift (given_from code 0 (characters_of code.rows row)) gifts
    pub body : slice_get own_part.setting.procedures (body_number own_scope.procedures (row_name code row))
        ≡ Some (resolved own_scope of_procedure (written.single line (VectorStep gifts) written.no_more))

  -- each row that a Run names can be called
  pub row_called : (table row times : ℕ) → IsRun code exec table row times → IsCalled row
  row_called table row times fits =
      let order = row_order code in
      let number = number_in order row in
      let bodies = text.flat.procedures.bodies in
      let few = few_rows code text.program in
      let d = numbered_only (IsRowBody code) (λ (x : BodyDef). x.name) (codes "r") (length order) bodies number (λ m x is. is.name)
      text.flat.procedures.each (omega (arith, few)) (place_within order row fits.row_ordered) in
      let test = λ (x : BodyDef). same x.name (row_name code row) in
      let read = λ (x : BodyDef). resolved own_scope of_procedure x.body in
      let characters : row_numbered code number ≡ characters_of code.rows row =
      ap (characters_of code.rows) (get_or_from_slice_get order number row 0 (at_place order row fits.row_ordered)) in
      record {
        line = d.2.line;
        gifts = d.2.gifts;
        each = subst (λ (row : List ℕ). AllZip IsGift (given_from code 0 row) d.2.gifts) characters d.2.each;
        body =
            ap (λ (ds : List BodyDef). slice_get (map read ds) (body_number ds (row_name code row))) (procedures_are code blocks text.flat)
            ∙ ap (slice_get (map read bodies)) (first_number test bodies number d.0 (only_first test bodies number d.0 d.1))
            ∙ slice_get-map read bodies number ∙ ap (option_map read) d.1.is_there
            ∙ ap (λ (w : Written). Some (resolved own_scope of_procedure w)) d.2.body;
      }

  -- calls go so deep
  abbrev inner : Option Statements → Here → Ran Here
  inner = calls own_part.setting deepest_calls

  -- such a call makes the row's vector
  calls_row : (table row times : ℕ) → IsRun code exec table row times
      → Calls code own_scope own_part.setting inner (no_characters code) (code_characters code) row
  unfolding calls
  calls_row table row times fits h blank =
      let t = own_part.setting in
      let called = row_called table row times fits in
      let now = in_call t [] h in
      ap (λ (o : Option Statements). vectors (calls t deepest_calls o now).made) called.body
      ∙ body_makes code own_scope t (unmarked code blocks exec e text) known (calls t 63) called.line (characters_of code.rows row)
      called.gifts now (row_long row fits.has_row) called.each blank

  -- the vector of a cycle of the code
  abbrev pub own_vector : Entry → Vector
  own_vector entry = vector_of code own_scope own_part.setting inner (no_characters code) (code_characters code) entry

  -- the instructions of an executive by how they nest
  abbrev pub own_nest : Nest
  own_nest = (own code blocks exec e text).pattern_is.nest

  own_instrs : (exec_of code exec).instrs ≡ instrs_in own_nest ++ Done ∷ []
  own_instrs = (own code blocks exec e text).pattern_is.instrs

  -- what each Run says, holds of the nest
  pub own_runs : (P : ℕ → ℕ → ℕ → Type 0) → ((table row times : ℕ) → IsRun code exec table row times → P table row times)
      → OfRuns P own_nest
  own_runs P so =
      of_nest P own_nest
      (all_front (OfRun P) (instrs_in own_nest) (Done ∷ [])
      (subst (AllByRecursion (OfRun P)) own_instrs
      (each_so (OfRun (IsRun code exec)) (OfRun P) (exec_of code exec).instrs (of_run (IsRun code exec) P so)
      (runs_fit code exec text.program (exec_less code blocks exec e text)))))

  -- the cycles of the nest are those of the code
  pub own_cycles : nest_cycles own_nest ≡ Means (exec_of code exec).instrs
  own_cycles = sym (ap Means own_instrs ∙ Means-Runs (instrs_in own_nest) (nest_cycles own_nest) (nest_runs own_nest))

  -- no signal has a character
  abbrev pub IsBare : Here → Type 0
  IsBare h = h.state.characters ≡ no_characters code

  -- the pattern makes the vectors of the code's cycles
  pub pattern_makes : (h : Here) → IsBare h
      → Makes IsBare (map own_vector (Means (exec_of code exec).instrs)) (run own_part.setting own_part.statements h)
  pattern_makes h bare =
      let t = own_part.setting in
      let can = own_runs (CanRun code own_scope t inner (no_characters code) (code_characters code))
      (λ table row times fits. (fits.some, calls_row table row times fits)) in
      subst (λ (entries : List Entry). Makes IsBare (map own_vector entries) (run t own_part.statements h)) own_cycles
      (subst (λ (w : Written). Makes IsBare (map own_vector (nest_cycles own_nest)) (run_list t inner (resolved own_scope of_pattern w) h))
      (sym (own code blocks exec e text).pattern_is.body)
      (nest_makes code own_scope t inner (no_characters code) (code_characters code) own_nest h can bare))

  -- an executive begins without characters
  pub begins_bare : IsBare (outside (start_of (length (names_of blocks).signals)))
  begins_bare = ap (λ (n : ℕ). replicate n None) (signal_count code (names_of blocks) (names_are code blocks text.flat))

  -- so an executive makes them
  pub vectors_are : exec_vectors blocks e ≡ map own_vector (Means (exec_of code exec).instrs)
  vectors_are =
      let begun = outside (start_of (length (names_of blocks).signals)) in
      ap (λ (parts : List Part). vectors (run_parts parts begun).made) (one_part code blocks exec e text)
      ∙ ap vectors (append-nil (run own_part.setting own_part.statements begun).made)
      ∙ (pattern_makes begun begins_bare).made
