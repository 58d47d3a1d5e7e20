-- The calls from the first executive on are the tape of the plan's first try.
use Rattle.std.proofs.Common.{◌≡◌, ℕ, zero, suc, ◌+◌, ◌<◌, ◌≤◌, cond, List, [], ◌∷◌, ◌++◌, length, take, map, Option, Some, None, refl, sym, ap, ◌∙◌, inl, inr, arith, rules}
use Rattle.std.specs.Prelude.{nat_lt}
use Rattle.std.specs.List.{flat_map, range_with_len}
use Rattle.std.proofs.lemmas.Bool.{cases_Bool}
use Rattle.std.proofs.lemmas.List.{take_all}
use Rattle.std.proofs.lemmas.List.Sums.{sum_by-append}
use Rattle.tester_types.specs.declared.level.Drive.{Drive}
use Rattle.tester_types.specs.declared.record.By.TheVariants as by
use Rattle.tester_types.specs.declared.record.Verdict.TheVariants as verdict
use Rattle.tester_types.specs.declared.cycle.Cycle.{Cycle}
use Rattle.packed_code.specs.Program.{Program}
use Rattle.packed_code.specs.Conditions.{IsProgram}
use Rattle.packed_code.specs.Cycles.{cycles_of}
use Rattle.die_sim.specs.Die.{device_of}
use Rattle.die_sim.specs.Socket.{Calls}
use Rattle.plan_rows.specs.declared.row.LotRow.{LotRow}
use Rattle.plan_rows.specs.Rows.{dies_at, lot_of}
use Rattle.lot_plan.specs.Bound.{Bound, image_of, stop_of}
use Rattle.lot_plan.specs.Skews.{site_skews}
use Rattle.lot_plan.specs.Refusal.{IsBound}
use Rattle.site_meaning.specs.Playing.{Stand, starting}
use Rattle.site_meaning.specs.Part.{Part, part_of, lot_in, order_in, stand_for}
use Rattle.site_meaning.specs.Trials.{Batch, execs_of, ended, by_plan, before_order, blamed, tried, batches_of, more_in, trial, uncut}
use Rattle.site_meaning.proofs.PartLemmas.{lot_in-part_of, order_in-part_of}
use Rattle.site_meaning.proofs.SkewLemmas.{accepted_part}
use Rattle.site_run.specs.Taped.{all_cycles, calls_of_try}
use Rattle.site_run.proofs.PlanLemmas.{is_planned}
use Rattle.cycle_run.specs.Batch.{calls_of_cycles}
use Rattle.cycle_run.specs.Cycle.{stand_of}
use Rattle.vcd_dump.specs.Taken.{tape_of, drives_in}
use Rattle.vcd_dump.specs.Play.{calls_from}
use Rattle.vcd_dump.proofs.TriedLemmas.{many, all_of, calls_are}

-- an accepted plan has a try, and a batch a cycle
pub some_tries : (plan : Bound) (site : ℕ) → IsProgram plan.program → IsBound plan → 1 ≤ (lot_of plan.rows).tries
some_tries plan site program bound =
    omega (arith, (accepted_part plan site program bound).lot.tries_some, ap (λ (l : LotRow). l.tries) (lot_in-part_of plan site))

pub some_batch : (plan : Bound) (site : ℕ) → IsProgram plan.program → IsBound plan → 1 ≤ (lot_of plan.rows).batch
some_batch plan site program bound =
    omega (arith, (accepted_part plan site program bound).lot.batch_some, ap (λ (l : LotRow). l.batch) (lot_in-part_of plan site))

-- how many cycles a plan leaves
cycles_by_plan : (order : Option ℕ) (batches : List Batch) → (by_plan order batches).cycles ≡ many (before_order order batches)
cycles_by_plan None batches = refl
cycles_by_plan (Some b) batches = elim (cases_Bool (nat_lt b (length batches))) [
  | inl less ↦ ap (λ t. (cond t (ended (take b batches) (verdict.Stopped b by.Plan)) (ended batches (blamed batches))).cycles) less
  | inr past ↦
      let over : length batches ≤ b = search (rules, past) in
      ap (λ t. (cond t (ended (take b batches) (verdict.Stopped b by.Plan)) (ended batches (blamed batches))).cycles) past
      ∙ ap many (sym (take_all b batches over))
]

-- the cycles of executives in both ways of writing them
joined_map : (f : ℕ → List Cycle) (ns : List ℕ) → flat_map f ns ≡ all_of (map f ns)
joined_map f [] = refl
joined_map f (n ∷ ns) = ap (λ (l : List Cycle). f n ++ l) (joined_map f ns)

all_cycles_are : (code : Program) → all_cycles code ≡ all_of (execs_of code)
unfolding all_cycles execs_of
all_cycles_are code = joined_map (cycles_of code) (range_with_len 0 (length code.execs))

-- the tape in the words of the code
tape_by : (stand : Stand) (batch : ℕ) (order : Option ℕ) (part : Part) → stand_for part 0 1 ≡ stand → (lot_in part).batch ≡ batch
    → order_in part 0 1 ≡ order → 1 ≤ batch
    → calls_of_try part 0 1 (trial part 0 1 uncut).cycles ≡ calls_from stand batch 0 (starting stand.device) order (execs_of stand.code)
unfolding calls_of_try trial batches_of
tape_by stand zero order part is lot ordered some = absurd (omega (arith, some))
tape_by stand (suc more) order part is lot ordered some =
    let own = stand_for part 0 1 in
    let batches = tried own (more_in part) 0 (starting own.device) (execs_of part.code) in
    let few : more_in part ≡ more = omega (arith, lot) in
    ap (λ n. calls_of_cycles own (starting own.device) (take n (all_cycles part.code))) (cycles_by_plan (order_in part 0 1) batches)
    ∙ ap (λ (l : List Cycle). calls_of_cycles own (starting own.device) (take (many (before_order (order_in part 0 1) batches)) l))
    (all_cycles_are part.code)
    ∙ ap (λ (o : Option ℕ). calls_of_cycles own (starting own.device) (take (many (before_order o batches)) (all_of (execs_of part.code)))) ordered
    ∙ ap (λ n. calls_of_cycles own (starting own.device)
    (take (many (before_order order (tried own n 0 (starting own.device) (execs_of part.code)))) (all_of (execs_of part.code)))) few
    ∙ ap (λ (s : Stand). calls_of_cycles s (starting s.device)
    (take (many (before_order order (tried s more 0 (starting s.device) (execs_of s.code)))) (all_of (execs_of s.code)))) is
    ∙ sym (calls_are stand more 0 (starting stand.device) order (execs_of stand.code))

pub tape_is : (plan : Bound) (site : ℕ) (code : Program) → plan.program ≡ code → 0 < length (dies_at site plan.rows)
    → 1 ≤ (lot_of plan.rows).batch
    → tape_of plan site ≡ calls_from (stand_of code (site_skews plan site) (device_of (image_of plan site 0 1))) (lot_of plan.rows).batch 0
    (starting (device_of (image_of plan site 0 1))) (stop_of plan.rows site 0 1) (execs_of code)
unfolding tape_of
tape_is plan site code program within some =
    let planned = is_planned plan site 0 1 code (part_of plan site) refl program within in
    tape_by (stand_of code (site_skews plan site) (device_of (image_of plan site 0 1))) (lot_of plan.rows).batch (stop_of plan.rows site 0 1)
    (part_of plan site) planned.stand_is planned.most_is (order_in-part_of plan site 0 1) some

-- a longer tape has no fewer drives
pub drives-append : (xs ys : Calls) → drives_in (xs ++ ys) ≡ drives_in xs + drives_in ys
drives-append xs ys = sum_by-append (λ (call : ℕ × List (ℕ × Drive)). length call.1) xs ys
