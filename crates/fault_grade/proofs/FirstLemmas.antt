-- The first fail of a whole try is found executive by executive, and only the die counts for it.
use Rattle.std.proofs.Common.{◌≡◌, ℕ, ◌+◌, cond, ltb, List, [], ◌∷◌, ◌++◌, length, map, take, Option, None, refl, sym, ap, ◌∙◌}
use Rattle.std.specs.List.{flat_map, range_with_len}
use Rattle.std.specs.Option.{option_or}
use Rattle.tester_types.specs.declared.cycle.Cycle.{Cycle}
use Rattle.tester_types.specs.declared.record.Fail.{Fail}
use Rattle.bench_net.specs.Circuit.{Circuit}
use Rattle.die_sim.specs.Die.{Image, device_of}
use Rattle.die_sim.specs.declared.image.Binding.{Binding}
use Rattle.die_sim.specs.declared.image.StuckAt.{StuckAt}
use Rattle.lot_plan.specs.Bound.{Bound, binding_to}
use Rattle.site_meaning.specs.Playing.{Stand, Going, PlayedCycle, starting}
use Rattle.site_meaning.specs.Part.{Part, lot_in, skews_in, circuit_in, as_plan, order_in, image_in}
use Rattle.site_meaning.specs.Trials.{Batch, uncut, with_cut, played, after_cycles, fails_in, pieces, of_exec, tried, execs_of, more_in, batches_of, cycles_in, recorded, trial}
use Rattle.site_meaning.proofs.PlayedLemmas.{fails_in-append, joined-pieces}
use Rattle.site_meaning.proofs.UnderwayLemmas.{cycles_in-append}
use Rattle.cycle_run.specs.Cycle.{stand_of}
use Rattle.word_run.specs.First.{first_fail, first_from, first_on}
use Rattle.fault_grade.specs.Grade.{image_with, stand_with, first, graded, faults_of_net, faults_in, first_part, grade_of}
use Rattle.fault_grade.specs.declared.graded.Graded.{Graded}

-- ---- the first of fails

pub first_fail-take : (xs : List Fail) → first_fail (take 1 xs) ≡ first_fail xs
first_fail-take [] = refl
first_fail-take (x ∷ xs) = refl

-- ---- the first fail of batches

-- the batches of an executive have its cycles
cycles_in-of_exec : (exec : ℕ) (parts : List (List PlayedCycle))
    → cycles_in (of_exec exec parts) ≡ flat_map (λ (p : List PlayedCycle). p) parts
unfolding cycles_in
cycles_in-of_exec exec [] = refl
cycles_in-of_exec exec (part ∷ parts) = ap (λ (l : List PlayedCycle). part ++ l) (cycles_in-of_exec exec parts)

-- the fails of an executive's batches, and of those behind them
fails-behind : (exec more : ℕ) (cycles : List PlayedCycle) (later : List Batch)
    → fails_in (cycles_in (of_exec exec (pieces more more cycles) ++ later)) ≡ fails_in cycles ++ fails_in (cycles_in later)
fails-behind exec more cycles later =
    ap fails_in (cycles_in-append (of_exec exec (pieces more more cycles)) later)
    ∙ ap (λ (l : List PlayedCycle). fails_in (l ++ cycles_in later))
    (cycles_in-of_exec exec (pieces more more cycles) ∙ joined-pieces more more cycles)
    ∙ fails_in-append cycles (cycles_in later)

-- nothing follows an executive with a fail
first-behind : (found : List Fail) (later : List Batch)
    → first_fail (found ++ fails_in (cycles_in (cond (ltb 0 (length found)) [] later)))
    ≡ option_or (first_fail found) (first_fail (fails_in (cycles_in later)))
first-behind [] later = refl
first-behind (fail ∷ found) later = refl

first-tried : (stand : Stand) (more exec : ℕ) (going : Going) (execs : List (List Cycle))
    → first_fail (fails_in (cycles_in (tried stand more exec going execs))) ≡ first_from stand exec going execs
unfolding tried first_from fails_in cycles_in
first-tried stand more exec going [] = refl
first-tried stand more exec going (cycles ∷ later) =
    let ran = played stand exec going cycles in
    let rest = tried stand more (exec + 1) (after_cycles stand going cycles) later in
    ap first_fail (fails-behind exec more ran (cond (ltb 0 (length (fails_in ran))) [] rest))
    ∙ first-behind (fails_in ran) rest
    ∙ ap (option_or (first_fail (fails_in ran))) (first-tried stand more (exec + 1) (after_cycles stand going cycles) later)

-- ---- the first fail of a try

pub first-is : (part : Part) (die : ℕ) (faults : List StuckAt)
    → first part die faults ≡ first_on part.code (skews_in part) (image_with part die faults)
unfolding first first_on
first-is part die faults =
    let stand = stand_with part die faults in
    let batches = tried stand (more_in part) 0 (starting stand.device) (execs_of part.code) in
    first_fail-take (fails_in (cycles_in batches))
    ∙ first-tried stand (more_in part) 0 (starting stand.device) (execs_of part.code)

-- the same by an image
abbrev first_by : Part → Image → Option ℕ
first_by part image =
    first_fail (recorded 1 1
    (with_cut None
    (tried (stand_of part.code (skews_in part) (device_of image)) (more_in part) 0 (starting (device_of image)) (execs_of part.code))
    uncut)).kept

-- it is that of a try of the plan that has no order, keeps one fail and has these faults
pub first-of_trial : (part : Part) (die : ℕ) (faults : List StuckAt) → order_in part die 1 ≡ None → (lot_in part).keep ≡ 1
    → (image_in part die 1).faults ≡ faults → first part die faults ≡ first_fail (trial part die 1 uncut).kept
unfolding first trial batches_of
first-of_trial part die faults order keep same =
    let with_faults : List StuckAt → Image = λ l. record (image_in part die 1) { faults = l } in
    ap (λ (l : List StuckAt). first_by part (with_faults l)) (sym same)
    ∙ ap (λ (o : Option ℕ). first_fail (recorded 1 1 (with_cut o (batches_of part die 1) uncut)).kept) (sym order)
    ∙ ap (λ (k : ℕ). first_fail (recorded k 1 (with_cut (order_in part die 1) (batches_of part die 1) uncut)).kept) (sym keep)

-- ---- what counts of a plan

-- an image with these parts
abbrev image_of_parts : Circuit → Binding → List StuckAt → Image
image_of_parts circuit binding faults =
    record { circuit = circuit; clock = binding.clock; binds = binding.nets; faults = faults }

-- the binding of the first die
abbrev pub first_binding : Part → Binding
first_binding part = binding_to (as_plan part) (circuit_in part 0)

image_with-is : (part : Part) (faults : List StuckAt)
    → image_with part 0 faults ≡ image_of_parts (circuit_in part 0) (first_binding part) faults
unfolding image_in
image_with-is part faults = refl

first-by_parts : (part : Part) (faults : List StuckAt)
    → first part 0 faults
    ≡ first_on part.code (skews_in part) (image_of_parts (circuit_in part 0) (first_binding part) faults)
first-by_parts part faults = first-is part 0 faults ∙ ap (first_on part.code (skews_in part)) (image_with-is part faults)

module _ (a b : Part) (programs : a.code ≡ b.code) (skews : skews_in a ≡ skews_in b) (circuits : circuit_in a 0 ≡ circuit_in b 0)
    (bindings : first_binding a ≡ first_binding b) where
  same_first : (faults : List StuckAt) → first a 0 faults ≡ first b 0 faults
  same_first faults =
      first-by_parts a faults
      ∙ (λ i. first_on (programs i) (skews i) (image_of_parts (circuits i) (bindings i) faults))
      ∙ sym (first-by_parts b faults)

  same_faults : faults_in a ≡ faults_in b
  unfolding faults_in
  same_faults = ap (λ (c : Circuit). flat_map faults_of_net (range_with_len 0 (length c.net.names))) circuits

  same_grades : (faults : List StuckAt) → map (graded a) faults ≡ map (graded b) faults
  same_grades [] = refl
  same_grades (fault ∷ faults) =
      ap (λ (x : Option ℕ). record { net = fault.net; value = fault.value; first = x } ∷ map (graded a) faults)
      (same_first (fault ∷ []))
      ∙ ap (λ (l : List Graded). graded b fault ∷ l) (same_grades faults)

  pub same_lists : map (graded a) (faults_in a) ≡ map (graded b) (faults_in b)
  same_lists = same_grades (faults_in a) ∙ ap (λ (l : List StuckAt). map (graded b) l) same_faults

  pub same_good : first a 0 [] ≡ first b 0 []
  same_good = same_first []

pub same_grade : (plan other : Bound) → plan.program ≡ other.program
    → skews_in (first_part plan) ≡ skews_in (first_part other)
    → circuit_in (first_part plan) 0 ≡ circuit_in (first_part other) 0
    → first_binding (first_part plan) ≡ first_binding (first_part other)
    → grade_of plan ≡ grade_of other
same_grade plan other programs skews circuits bindings =
    let a = first_part plan in
    let b = first_part other in
    let good = same_good a b programs skews circuits bindings in
    let faults = same_lists a b programs skews circuits bindings in
    λ i. record { good = good i; faults = faults i }
