-- How large the flat tree of a pattern of a flat text is, by how its instructions nest.
use Rattle.std.proofs.Common.{◌≡◌, ℕ, zero, suc, ◌+◌, ◌-◌, ◌*◌, ◌^◌, ◌<◌, ◌≤◌, Bool, true, false, cond, nat_lt, List, [], ◌∷◌, length, replicate, slice_get, Option, refl, ap, ◌∙◌, arith, length-append}
use Rattle.packed_code.specs.declared.instr.Entry.{Entry}
use Rattle.packed_code.specs.declared.instr.Instr.TheVariants.{End}
use Rattle.packed_code.specs.Meaning.{repeated}
use Rattle.packed_code.specs.Nesting.{cycle_of}
use Rattle.packed_code.specs.Program.{Program}
use Rattle.stil_ast.specs.Data.Places.{of_pattern, of_procedure}
use Rattle.stil_ast.specs.declared.body.Assignment.{Assignment}
use Rattle.stil_ast.specs.Data.Written as written
use Rattle.stil_ast.specs.Data.Written.{Written}
use Rattle.stil_ast.specs.declared.body.Step.TheVariants.{Call, Vector as VectorStep}
use Rattle.stil_ast.specs.Meaning.Statements.{Statements}
use Rattle.stil_ast.specs.Meaning.Arguments.{given, padding, arguments}
use Rattle.stil_ast.specs.Meaning.Dealing.{Gift, deal, takers, mark_of}
use Rattle.stil_ast.specs.Meaning.Resolved.{Scope, body_number, resolved, resolved_assigns, origin}
use Rattle.stil_ast.specs.Meaning.Running.{Setting}
use Rattle.stil_ast.specs.Meaning.Flat as flat
use Rattle.stil_ast.specs.Meaning.Flat.{Flat, measure}
use Rattle.stil_ast.specs.Meaning.Flattening.{gifts_front, entry_front, Spot, Piece, flat_list}
use Rattle.flat_tree.proofs.FlatLemmas.{measure-joined}
use Rattle.flat_parts.specs.Nests.{RunLines, Nest, nothing, run, loop, instrs_in, row_name, written_in}
use Rattle.flat_fine.specs.Fits.{HasRoom}
use Rattle.flat_cycles.proofs.RunLemmas.{OfRuns, nest_cycles}
use Rattle.flat_cycles.specs.Small.{IsRepeated}

-- what signals are given counts nothing
pub measure_gifts : (gifts : List Gift) (rest : Flat) → measure (gifts_front gifts rest) ≡ measure rest
measure_gifts [] rest = refl
measure_gifts (g ∷ gifts) rest = measure_entry g.entry g.signal (gifts_front gifts rest) ∙ measure_gifts gifts rest
  where
    measure_entry : (e : _) (signal : ℕ) (more : Flat) → measure (entry_front e signal more) ≡ measure more
    measure_entry (given c) signal more = refl
    measure_entry padding signal more = refl

-- how much instructions measure at most
abbrev pub measured : Nest → ℕ
measured nothing = 0
measured (run lines table row mark times rest) = cond {A = ℕ} (nat_lt 1 times) 4 1 + measured rest
measured (loop line times body rest) = 2 * measured body + 2 + measured rest

power_less : (left : ℕ) → 0 < left → 2 ^ left ≡ 2 * 2 ^ (left - 1)
power_less zero some = absurd (omega (arith, some))
power_less (suc left) some = let same : suc left - 1 ≡ left = omega arith in rw same (omega arith)

some_power : (left : ℕ) → 1 ≤ 2 ^ left
some_power zero = omega arith
some_power (suc left) = let less = some_power left in omega (arith, less)

run_few : (b : Bool) → cond {A = ℕ} b 4 1 ≤ 4
run_few true = omega arith
run_few false = omega arith

-- for each instruction as much as the Loops round it let it count
pub measured_few : (nest : Nest) (left : ℕ) → HasRoom left nest → measured nest ≤ 2 * (2 ^ left * length (instrs_in nest))
measured_few nothing left room = omega arith
measured_few (run lines table row mark times rest) left room =
    let behind = measured_few rest left room.1 in
    let power = power_less left room.0 in
    let some = some_power (left - 1) in
    let more : 2 ^ left * suc (length (instrs_in rest)) ≡ 2 ^ left * length (instrs_in rest) + 2 ^ left = grind arith in
    omega (arith, behind, power, some, more, run_few (nat_lt 1 times))
measured_few (loop line times body rest) left room =
    let inside = measured_few body (left - 1) room.1 in
    let behind = measured_few rest left room.2 in
    let power = power_less left room.0 in
    let some = some_power (left - 1) in
    let n = length (instrs_in body) in
    let k = length (instrs_in rest) in
    let p = 2 ^ (left - 1) in
    let count : length (instrs_in (loop line times body rest)) ≡ n + k + 2 =
    let c = length-append (instrs_in body) (End ∷ instrs_in rest) in omega (arith, c) in
    let whole : 2 ^ left * length (instrs_in (loop line times body rest)) ≡ 2 * (p * n) + 2 ^ left * k + 4 * p =
    ap (λ (m : ℕ). 2 ^ left * m) count ∙ spread_out (2 ^ left) p n k power in
    omega (arith, inside, behind, some, whole)
  where
    spread_out : (q p n k : ℕ) → q ≡ 2 * p → q * (n + k + 2) ≡ 2 * (p * n) + q * k + 4 * p
    spread_out q p n k e = rw e (grind arith)

-- so many passes
passes_long : (times : ℕ) (cycles : List Entry) → length (repeated times cycles) ≡ times * length cycles
unfolding repeated
passes_long zero cycles = omega arith
passes_long (suc times) cycles =
    let behind = passes_long times cycles in
    let more : suc times * length cycles ≡ times * length cycles + length cycles = grind arith in
    omega (arith, behind, more, length-append cycles (repeated times cycles))

replicas_long : (times : ℕ) (entry : Entry) → length (replicate times entry) ≡ times
replicas_long zero entry = refl
replicas_long (suc times) entry = let behind = replicas_long times entry in omega (arith, behind)

twice_few : (times n : ℕ) → 1 < times → 2 * n ≤ times * n
twice_few zero n few = absurd (omega (arith, few))
twice_few (suc zero) n few = absurd (omega (arith, few))
twice_few (suc (suc times)) n few = let whole : suc (suc times) * n ≡ 2 * n + times * n = grind arith in omega (arith, whole)

run_cycles : (times : ℕ) → 0 < times → cond {A = ℕ} (nat_lt 1 times) 4 1 + 2 ≤ 4 * times
run_cycles zero some = absurd (omega (arith, some))
run_cycles (suc zero) some = omega arith
run_cycles (suc (suc times)) some = let few = run_few (nat_lt 1 (suc (suc times))) in omega (arith, few)

-- Where each Loop is repeated, a Run of so many Loops runs as often as their passes multiply, so the measure is no more
-- than four a cycle, and even less where there is any.
pub measured_cycles : (nest : Nest) → OfRuns (λ table row times. 0 < times) nest → IsRepeated nest
    → (measured nest ≤ 4 * length (nest_cycles nest))
    × (0 < length (instrs_in nest) → measured nest + 2 ≤ 4 * length (nest_cycles nest))
measured_cycles nothing some again = (omega arith, λ any. absurd (omega (arith, any)))
measured_cycles (run lines table row mark times rest) some again =
    let behind = (measured_cycles rest some.1 again).0 in
    let here = run_cycles times some.0 in
    let one = length-append (replicate times (cycle_of table row mark)) (nest_cycles rest) in
    let all = replicas_long times (cycle_of table row mark) in
    (omega (arith, behind, here, one, all), λ any. omega (arith, behind, here, one, all))
measured_cycles (loop line times body rest) some again =
    let inside = (measured_cycles body some.0 again.2).1 again.1 in
    let behind = (measured_cycles rest some.1 again.3).0 in
    let one = length-append (repeated times (nest_cycles body)) (nest_cycles rest) in
    let all = passes_long times (nest_cycles body) in
    let twice = twice_few times (length (nest_cycles body)) again.0 in
    (omega (arith, inside, behind, one, all, twice), λ any. omega (arith, inside, behind, one, all, twice))

module _ (code : Program) (scope : Scope) (t : Setting) (inner : Option Statements → Spot → Piece) where
  -- a row's procedure measures a vector
  abbrev pub CallsOne : ℕ → ℕ → ℕ → Type 0
  CallsOne table row times =
      (spot : Spot) → measure (inner (slice_get t.procedures (body_number scope.procedures (row_name code row))) spot).flat ≡ 1

  abbrev flat_size : Written → Spot → ℕ
  flat_size w spot = measure (flat_list t inner (resolved scope of_pattern w) spot).flat

  -- where a body that a call on this line names begins
  abbrev called_at : ℕ → Spot
  called_at line = record { args = arguments (length t.outs) []; place = origin of_pattern line }

  calls_size : (several : Bool) (lines : RunLines) (table row times most : ℕ) (rest : Written) (spot : Spot)
      → CallsOne table row times
      → ((now : Spot) → flat_size rest now ≤ most)
      → flat_size (cond several
      (written.looped lines.loop times (written.single lines.call (Call (row_name code row) []) written.no_more) rest)
      (written.single lines.call (Call (row_name code row) []) rest)) spot ≤ cond {A = ℕ} several 4 1 + most
  calls_size true lines table row times most rest spot one again =
      let called = one (called_at lines.call) in
      let behind = again (record { args = spot.args; place = origin of_pattern lines.loop }) in
      omega (arith, called, behind)
  calls_size false lines table row times most rest spot one again =
      let called = one (called_at lines.call) in
      let behind = again (record { args = spot.args; place = origin of_pattern lines.call }) in
      omega (arith, called, behind)

  -- the flat tree of instructions
  pub nest_size : (nest : Nest) (spot : Spot) → OfRuns CallsOne nest → flat_size (written_in code nest) spot ≤ measured nest
  nest_size nothing spot ones = omega arith
  nest_size (run lines table row mark times rest) spot ones =
      calls_size (nat_lt 1 times) lines table row times (measured rest) (written_in code rest)
      (record { args = spot.args; place = origin of_pattern lines.wave }) ones.0
      (λ now. nest_size rest now ones.1)
  nest_size (loop line times body rest) spot ones =
      let now : Spot = record { args = spot.args; place = record { body = of_pattern; line = line } } in
      let inside = nest_size body now ones.0 in
      let behind = nest_size rest now ones.1 in
      omega (arith, inside, behind)

-- a procedure of one vector measures one, whatever it is given
pub vector_size : (code : Program) (scope : Scope) (t : Setting) (inner : Option Statements → Spot → Piece) (line : ℕ)
    (gifts : List Assignment) (spot : Spot)
    → measure (flat_list t inner (resolved scope of_procedure
    (written.single line (VectorStep gifts) written.no_more)) spot).flat ≡ 1
vector_size code scope t inner line gifts spot =
    let d = deal (resolved_assigns scope.names gifts) spot.args in
    let last = flat.cycle (mark_of t.scan_outs (takers (resolved_assigns scope.names gifts)) d.args)
    (origin of_procedure line) flat.done in
    measure-joined (gifts_front d.gifts last) flat.done ∙ ap (λ (n : ℕ). n + 0) (measure_gifts d.gifts last)
