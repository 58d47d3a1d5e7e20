-- The statements that a flat text has for instructions have no fault but that something is too large, which isn't so
-- where their numbers fit.
use Rattle.std.proofs.Common.{◌≡◌, ℕ, ◌+◌, ◌-◌, ◌*◌, ◌<◌, ◌≤◌, arith, length-append, Bool, true, false, List, [], ◌∷◌, ◌++◌, length, Option, Some, refl, sym, ap, subst, ◌∙◌, cond}
use Rattle.std.specs.Prelude.{nat_lt, slice_get}
use Rattle.std.specs.List.{AllByRecursion, list_any}
use Rattle.std.proofs.lemmas.Bool.{le-leb, lt-ltb}
use Rattle.text_bytes.specs.Limits.{deepest_calls, deepest_loops, most_walked}
use Rattle.text_bytes.proofs.ListLemmas.{all_front, all_back}
use Rattle.packed_code.specs.declared.instr.Instr.{Instr}
use Rattle.packed_code.specs.declared.instr.Instr.TheVariants.{Run, Loop, End, Done}
use Rattle.packed_code.specs.Program.{Program}
use Rattle.packed_code.specs.Conditions.{IsProgram}
use Rattle.stil_ast.specs.Data.Places.{of_procedure}
use Rattle.stil_ast.specs.Data.Texts.{has_name}
use Rattle.stil_ast.specs.Data.Written.{Written, no_more, single, looped}
use Rattle.stil_ast.specs.Meaning.Resolved.{Scope, body_number}
use Rattle.stil_ast.specs.Faults.AssignmentFaults.{Walked, Checked, fine, then_check, rule, bar_if, Standing, fault_on, may_walk, check_arguments}
use Rattle.stil_ast.specs.Faults.PatternFaults.{inside_loop, inside_body, same_callee, callee_of, back_from, with_own, check_body, check_step, one_more, counted, check_list, check_calls}
use Rattle.stil_ast.specs.declared.body.Step.TheVariants.{Wave, Call}
use Rattle.stil_ast.specs.declared.blocks.BodyDef.{BodyDef}
use Rattle.stil_ast.specs.declared.fault.StilKind.TheVariants.{TooLarge, ShiftForm, UnknownName, Cyclic}
use Rattle.flat_parts.specs.Nests.{Nest, RunLines, nothing, run, loop, instrs_in, table_name, row_name, called, written_in}
use Rattle.flat_parts.specs.FlatBlocks.{row_numbered, IsRowBody}
use Rattle.flat_fine.specs.Fits.{HasRoom}
use Rattle.flat_fine.proofs.NumberLemmas.{times_suc, times_both}
use Rattle.flat_fine.proofs.SignalLemmas.{AreNames}
use Rattle.flat_fine.proofs.RowLemmas.{row_passes}
use Rattle.flat_fine.proofs.FaultLemmas.{Passes, passes_then, passes_rule, passes_kept, passes_bar, passes_back}

-- what holds of each Run of instructions
abbrev pub RunFits : (ℕ → ℕ → Type 0) → Instr → Type 0
RunFits Fits (Run table row mark times) = Fits table row
RunFits Fits (Loop times) = Unit {0}
RunFits Fits End = Unit {0}
RunFits Fits Done = Unit {0}

-- and where they nest
abbrev pub RunsFit : (ℕ → ℕ → Type 0) → Nest → Type 0
RunsFit Fits nothing = Unit {0}
RunsFit Fits (run lines table row mark times rest) = Fits table row × RunsFit Fits rest
RunsFit Fits (loop line times body rest) = RunsFit Fits body × RunsFit Fits rest

-- what holds of each instruction holds where they nest
pub nest_fits : (Fits : ℕ → ℕ → Type 0) (nest : Nest) (behind : List Instr) → AllByRecursion (RunFits Fits) (instrs_in nest ++ behind)
    → RunsFit Fits nest
nest_fits Fits nothing behind each = tt
nest_fits Fits (run lines table row mark times rest) behind each = (each.0, nest_fits Fits rest behind each.1)
nest_fits Fits (loop line times body rest) behind each =
    let inside = all_front (RunFits Fits) (instrs_in body ++ End ∷ instrs_in rest) behind each.1 in
    let after : AllByRecursion (RunFits Fits) (End ∷ instrs_in rest) = all_back (RunFits Fits) (instrs_in body)
    (End ∷ instrs_in rest) inside in (
      nest_fits Fits body (End ∷ instrs_in rest) inside,
      nest_fits Fits rest [] (each_more (instrs_in rest) after.1),
    )
  where
    each_more : (xs : List Instr) → AllByRecursion (RunFits Fits) xs → AllByRecursion (RunFits Fits) (xs ++ [])
    each_more [] all = tt
    each_more (x ∷ xs) all = (all.0, each_more xs all.1)

-- a row's name is that of its procedure
pub record IsRowKnown (scope : Scope) (code : Program) (row : ℕ) : Type 0 where
  pub number : ℕ
  pub body : BodyDef
  pub found : slice_get scope.procedures (body_number scope.procedures (row_name code row)) ≡ Some body
  pub is_row : IsRowBody code number body
  pub long : length (row_numbered code number) ≡ length code.signals

-- the names of a Run are known
pub record IsRunKnown (scope : Scope) (code : Program) (table row : ℕ) : Type 0 where
  pub table_known : has_name scope.tables (table_name code table) ≡ true
  pub row_known : IsRowKnown scope code row

-- at the top of a pattern or in its Loops
pub record IsOutside (s : Standing) : Type 0 where
  pub no_shift : s.in_shift ≡ false
  pub none_runs : s.running ≡ []

outside_loop : (s : Standing) → IsOutside s → IsOutside (inside_loop s)
outside_loop s out = record { no_shift = out.no_shift; none_runs = out.none_runs }

-- how much instructions walk and assign over so many signals
abbrev pub cost : ℕ → Nest → ℕ
cost signals nothing = 0
cost signals (run lines table row mark times rest) = 4 + signals + cost signals rest
cost signals (loop line times body rest) = 1 + cost signals body + cost signals rest

-- that is no more than for each instruction its most
pub cost_few : (signals : ℕ) (nest : Nest) → cost signals nest ≤ length (instrs_in nest) * (4 + signals)
cost_few signals nothing = omega arith
cost_few signals (run lines table row mark times rest) =
    let behind = cost_few signals rest in
    let more : (length (instrs_in rest) + 1) * (4 + signals) ≡ length (instrs_in rest) * (4 + signals) + (4 + signals) =
    times_suc (length (instrs_in rest)) (4 + signals) in
    omega (arith, behind, more)
cost_few signals (loop line times body rest) =
    let inside = cost_few signals body in
    let behind = cost_few signals rest in
    let count = length-append (instrs_in body) (End ∷ instrs_in rest) in
    let all : (length (instrs_in body ++ End ∷ instrs_in rest) + 1) * (4 + signals)
    ≡ length (instrs_in body) * (4 + signals) + length (instrs_in rest) * (4 + signals) + (4 + signals) + (4 + signals) =
    ap (λ (n : ℕ). (n + 1) * (4 + signals)) (omega (arith, count))
    ∙ times_both (length (instrs_in body)) (length (instrs_in rest)) (4 + signals) in
    omega (arith, inside, behind, all)

module _ (scope : Scope) (code : Program) (program : IsProgram code) (are : AreNames code scope.names) (depth : ℕ)
    (Fit : Type 0) where
  abbrev inner : Standing → Written → Walked → Checked
  inner = check_calls scope depth

  abbrev signals : ℕ
  signals = length code.signals

  -- so much may be walked
  walks : (count most : ℕ) → (Fit → most ≤ most_walked) → count ≤ most → Fit → may_walk count ≡ true
  walks count most fits low fit = let room = fits fit in le-leb count most_walked (omega (arith, low, room))

  -- a call of a row
  call_passes : (s : Standing) (line row most : ℕ) (w : Walked) → IsOutside s → s.calls ≡ 0 → IsRowKnown scope code row
      → w.count + 1 + signals ≤ most → (Fit → most ≤ most_walked)
      → Passes Fit most (check_step scope inner s line (Call (row_name code row) []) w)
  call_passes s line row most w out top known low fits =
      let c = callee_of scope of_procedure (row_name code row) in
      let behind = λ (now : Walked). then_check (check_arguments scope s [] now) (λ (again : Walked). back_from now
      (inner (inside_body c s) known.body.body (with_own scope [] again))) in
      passes_rule Fit most (nat_lt s.calls deepest_calls) (fault_on scope s line TooLarge)
      (bar_if s.in_shift (fault_on scope s line ShiftForm) (check_body scope inner s line c [] c.found)) w refl
      (λ fit. ap (λ (n : ℕ). nat_lt n deepest_calls) top)
      (passes_bar Fit most s.in_shift (fault_on scope s line ShiftForm)
      (check_body scope inner s line c [] c.found) w out.no_shift
      (subst (λ (o : Option BodyDef). Passes Fit most (check_body scope inner s line c [] o w)) (sym known.found)
      (passes_bar Fit most (list_any (same_callee c) s.running) (fault_on scope s line Cyclic) behind w
      (ap (list_any (same_callee c)) out.none_runs)
      (passes_back Fit most w (inner (inside_body c s) known.body.body (with_own scope [] w))
      (row_passes scope code program are (inside_body c s) refl Fit depth known.number most known.body (with_own scope [] w)
      known.long low fits known.is_row)))))

  -- a statement of a call, and those behind it
  single_passes : (s : Standing) (line row mid most : ℕ) (rest : Written) (w : Walked) → IsOutside s → s.calls ≡ 0
      → IsRowKnown scope code row → w.count + 2 + signals ≤ mid → (Fit → mid ≤ most_walked)
      → ((now : Walked) → now.count ≤ mid → Passes Fit most (check_list scope inner s rest now))
      → Passes Fit most (check_list scope inner s (single line (Call (row_name code row) []) rest) w)
  single_passes s line row mid most rest w out top known low fits again =
      passes_then Fit mid most (counted scope s line (check_step scope inner s line (Call (row_name code row) [])) w)
      (check_list scope inner s rest)
      (passes_rule Fit mid (may_walk (w.count + 1)) (fault_on scope s line TooLarge)
      (λ (now : Walked). check_step scope inner s line (Call (row_name code row) []) (one_more now)) w refl
      (walks (w.count + 1) mid fits (omega (arith, low)))
      (call_passes s line row mid (one_more w) out top known (omega (arith, low)) fits)) again

  -- a Loop, and those behind it
  loop_passes : (s : Standing) (line times mid most : ℕ) (body rest : Written) (w : Walked) → IsOutside s
      → (Fit → s.loops < deepest_loops) → w.count + 1 ≤ mid → (Fit → mid ≤ most_walked)
      → Passes Fit mid (check_list scope inner (inside_loop s) body (one_more w))
      → ((now : Walked) → now.count ≤ mid → Passes Fit most (check_list scope inner s rest now))
      → Passes Fit most (check_list scope inner s (looped line times body rest) w)
  loop_passes s line times mid most body rest w out shallow low fits inside again =
      let barred = bar_if s.in_shift (fault_on scope s line ShiftForm) (check_list scope inner (inside_loop s) body) in
      let deep = rule (nat_lt s.loops deepest_loops) (fault_on scope s line TooLarge) barred in
      passes_then Fit mid most (counted scope s line deep w) (check_list scope inner s rest)
      (passes_rule Fit mid (may_walk (w.count + 1)) (fault_on scope s line TooLarge)
      (λ (now : Walked). deep (one_more now)) w refl
      (walks (w.count + 1) mid fits low)
      (passes_rule Fit mid (nat_lt s.loops deepest_loops) (fault_on scope s line TooLarge) barred (one_more w) refl
      (λ fit. lt-ltb s.loops deepest_loops (shallow fit))
      (passes_bar Fit mid s.in_shift (fault_on scope s line ShiftForm) (check_list scope inner (inside_loop s) body)
      (one_more w)
      out.no_shift inside))) again

  -- a row, called so many times
  called_passes : (s : Standing) (lines : RunLines) (row times mid most : ℕ) (rest : Written) (w : Walked) → IsOutside s
      → s.calls ≡ 0
      → IsRowKnown scope code row → (Fit → s.loops < deepest_loops) → w.count + 3 + signals ≤ mid → (Fit → mid ≤ most_walked)
      → ((now : Walked) → now.count ≤ mid → Passes Fit most (check_list scope inner s rest now))
      → Passes Fit most (check_list scope inner s (called lines (row_name code row) times rest) w)
  called_passes s lines row times mid most rest w out top known shallow low fits again = by_count (nat_lt 1 times)
    where
      by_count : (b : Bool) → Passes Fit most (check_list scope inner s
          (cond b (looped lines.loop times (single lines.call (Call (row_name code row) []) no_more) rest)
          (single lines.call (Call (row_name code row) []) rest)) w)
      by_count true =
          loop_passes s lines.loop times mid most (single lines.call (Call (row_name code row) []) no_more) rest w out shallow
          (omega (arith, low)) fits
          (single_passes (inside_loop s) lines.call row mid mid no_more (one_more w) (outside_loop s out) top known
          (omega (arith, low)) fits (λ later less. less)) again
      by_count false = single_passes s lines.call row mid most rest w out top known (omega (arith, low)) fits again

  -- a W, and those behind it
  wave_passes : (s : Standing) (line table most : ℕ) (rest : Written) (w : Walked)
      → has_name scope.tables (table_name code table) ≡ true
      → w.count + 1 ≤ most → (Fit → most ≤ most_walked)
      → ((now : Walked) → now.count ≤ w.count + 1 → Passes Fit most (check_list scope inner s rest now))
      → Passes Fit most (check_list scope inner s (single line (Wave (table_name code table)) rest) w)
  wave_passes s line table most rest w known low fits again =
      passes_then Fit (w.count + 1) most (counted scope s line (check_step scope inner s line (Wave (table_name code table))) w)
      (check_list scope inner s rest)
      (passes_rule Fit (w.count + 1) (may_walk (w.count + 1)) (fault_on scope s line TooLarge)
      (λ (now : Walked). check_step scope inner s line (Wave (table_name code table)) (one_more now)) w refl
      (walks (w.count + 1) most fits low)
      (passes_kept Fit (w.count + 1) (has_name scope.tables (table_name code table))
      (fault_on scope s line UnknownName) fine (one_more w)
      known (omega arith))) again

  -- instructions, where so many loops more may be open
  pub nest_passes : (nest : Nest) (s : Standing) (left most : ℕ) (w : Walked) → IsOutside s → s.calls ≡ 0
      → (Fit → s.loops + left ≤ deepest_loops) → (Fit → HasRoom left nest)
      → w.count + cost signals nest ≤ most → (Fit → most ≤ most_walked) → RunsFit (IsRunKnown scope code) nest
      → Passes Fit most (check_list scope inner s (written_in code nest) w)
  nest_passes nothing s left most w out top deep room low fits fit = omega (arith, low)
  nest_passes (run lines table row mark times rest) s left most w out top deep room low fits fit =
      let mid = w.count + 4 + signals in
      wave_passes s lines.wave table most (called lines (row_name code row) times (written_in code rest)) w fit.0.table_known
      (omega (arith, low)) fits
      (λ now less. called_passes s lines row times mid most (written_in code rest) now out top fit.0.row_known
      (λ f. let d = deep f in let r = (room f).0 in omega (arith, d, r)) (omega (arith, less))
      (λ f. let m = fits f in omega (arith, low, m))
      (λ later behind. nest_passes rest s left most later out top deep (λ f. (room f).1)
      (omega (arith, low, behind)) fits fit.1))
  nest_passes (loop line times body rest) s left most w out top deep room low fits fit =
      let mid = w.count + 1 + cost signals body in
      let within : Fit → mid ≤ most_walked = λ f. let m = fits f in omega (arith, low, m) in
      loop_passes s line times mid most (written_in code body) (written_in code rest) w out
      (λ f. let d = deep f in let r = (room f).0 in omega (arith, d, r)) (omega arith) within
      (nest_passes body (inside_loop s) (left - 1) mid (one_more w) (outside_loop s out) top
      (λ f. let d = deep f in let r = (room f).0 in omega (arith, d, r)) (λ f. (room f).1) (omega arith) within fit.0)
      (λ now less. nest_passes rest s left most now out top deep (λ f. (room f).2) (omega (arith, low, less)) fits fit.1)
