-- The tape of a first try is sound with the vars of its dump.
use Rattle.std.proofs.Common.{ℕ, zero, suc, ◌+◌, ◌*◌, ◌<◌, ◌≤◌, List, [], ◌∷◌, length, take, replicate, refl, sym, subst, arith, length-append}
use Rattle.std.specs.List.{AllByRecursion, flat_map, range_with_len}
use Rattle.tester_types.specs.declared.cycle.Cycle.{Cycle}
use Rattle.packed_code.specs.declared.instr.Entry.{Entry}
use Rattle.packed_code.specs.declared.course.Course.{Course}
use Rattle.packed_code.specs.Meaning.{Means}
use Rattle.packed_code.proofs.CourseLemmas.{starts_on, starts_with}
use Rattle.packed_code.specs.Program.{Program}
use Rattle.packed_code.specs.Conditions.{IsProgram}
use Rattle.packed_code.specs.Cycles.{timed, period_of, exec_of, cycles_of}
use Rattle.packed_code.specs.Walk.{IsOf}
use Rattle.packed_code.proofs.WalkLemmas.{exec_is, begins_over}
use Rattle.die_sim.specs.Die.{device_of}
use Rattle.packed_code.proofs.Lists.{all_flat}
use Rattle.plan_rows.specs.Rows.{dies_at}
use Rattle.lot_plan.specs.Bound.{Bound, image_of}
use Rattle.lot_plan.specs.Skews.{site_skews}
use Rattle.lot_plan.specs.Refusal.{IsBound}
use Rattle.site_meaning.specs.Playing.{Stand, starting}
use Rattle.site_meaning.specs.Part.{part_of}
use Rattle.site_meaning.specs.Trials.{trial, uncut}
use Rattle.site_meaning.proofs.AllLemmas.{All-take}
use Rattle.cycle_run.specs.Batch.{calls_of_cycles}
use Rattle.site_run.specs.Taped.{all_cycles, calls_of_try}
use Rattle.site_run.proofs.PlanLemmas.{is_planned}
use Rattle.vcd_text.specs.Sound.{IsSound}
use Rattle.vcd_dump.specs.Taken.{tape_of, vars_of, var_of}
use Rattle.vcd_dump.proofs.SoundLemmas.{vars_sound, driven_is_var}
use Rattle.vcd_dump.proofs.SoundCalls.{cycles_calls}
use Rattle.cycle_run.proofs.FitLemmas.{skews_fit, few_cycles}

-- ---- the cycles of a program are of its tables and rows

-- a walk at its beginning
abbrev beginning : Course
beginning = record { at = 0; taken = 0; depth = 0; loops = replicate 64 (record { start = 0; left = 0 }) }

abbrev AreNamed : Program → List Cycle → Type 0
AreNamed code cycles = AllByRecursion (λ (cycle : Cycle). IsOf code cycle.table cycle.row) cycles

timed_named : (code : Program) (start : ℕ) (entries : List Entry) → AllByRecursion (λ (entry : Entry). IsOf code entry.table entry.row) entries
    → AreNamed code (timed code.tables start entries)
timed_named code start [] all = tt
timed_named code start (entry ∷ entries) all =
    (all.0, timed_named code (start + period_of code.tables entry.table) entries all.1)

exec_named : (code : Program) (exec : ℕ) → IsProgram code → exec < length code.execs → AreNamed code (cycles_of code exec)
exec_named code exec is within =
    let instrs = (exec_of code exec).instrs in
    let begun = starts_on instrs beginning.loops refl (exec_is code exec is within).whole.rest in
    let named = begins_over code exec beginning is within begun (starts_with instrs) in
    timed_named code 0 (Means instrs)
    (subst (λ (l : List Entry). AllByRecursion (λ (entry : Entry). IsOf code entry.table entry.row) l) (starts_with instrs) named.named)

execs_named : (code : Program) (a n : ℕ) → IsProgram code → a + n ≤ length code.execs
    → AllByRecursion (λ (exec : ℕ). AreNamed code (cycles_of code exec)) (range_with_len a n)
execs_named code a zero is few = tt
execs_named code a (suc n) is few = (exec_named code a is (omega (arith, few)), execs_named code (a + 1) n is (omega (arith, few)))

all_named : (code : Program) → IsProgram code → AreNamed code (all_cycles code)
unfolding all_cycles
all_named code is =
    all_flat (λ (cycle : Cycle). IsOf code cycle.table cycle.row) (cycles_of code) (range_with_len 0 (length code.execs))
    (execs_named code 0 (length code.execs) is (omega arith))

-- ---- and they are few

execs_few : (code : Program) (a n : ℕ) → IsProgram code → a + n ≤ length code.execs
    → length (flat_map (cycles_of code) (range_with_len a n)) ≤ 281474976710656 * n
execs_few code a zero is few = omega arith
execs_few code a (suc n) is few =
    let here = few_cycles code a is (omega (arith, few)) in
    let rest = execs_few code (a + 1) n is (omega (arith, few)) in
    omega (arith, here, rest, length-append (cycles_of code a) (flat_map (cycles_of code) (range_with_len (a + 1) n)))

all_few : (code : Program) → IsProgram code → length (all_cycles code) ≤ 281474976710656 * length code.execs
unfolding all_cycles
all_few code is = execs_few code 0 (length code.execs) is (omega arith)

short_take : {X : Type 0} (n : ℕ) (xs : List X) → length (take n xs) ≤ length xs
short_take zero xs = omega arith
short_take (suc n) [] = omega arith
short_take (suc n) (x ∷ xs) = let rest = short_take n xs in omega (arith, rest)

-- ---- the whole tape

pub tape_sound : (plan : Bound) (site : ℕ) → IsProgram plan.program → IsBound plan → 0 < length (dies_at site plan.rows)
    → IsSound (vars_of plan site) (tape_of plan site)
unfolding tape_of vars_of calls_of_try
tape_sound plan site program bound within =
    let code = plan.program in
    let device = device_of (image_of plan site 0 1) in
    let vars = flat_map (var_of device code) (range_with_len 0 (length code.signals)) in
    let count = (trial (part_of plan site) 0 1 uncut).cycles in
    let cycles = take count (all_cycles code) in
    let stand_is = (is_planned plan site 0 1 code (part_of plan site) refl refl within).stand_is in
    let short : length cycles ≤ length (all_cycles code) = short_take count (all_cycles code) in
    let few = all_few code program in
    let calls = cycles_calls code (site_skews plan site) device program (skews_fit plan site program bound) (starting device) cycles vars
    (driven_is_var device code) (All-take (λ (cycle : Cycle). IsOf code cycle.table cycle.row) count (all_cycles code) (all_named code program))
    (omega (arith, short, few, program.few_execs)) in
    subst (λ (s : Stand). IsSound vars (calls_of_cycles s (starting s.device) cycles)) (sym stand_is)
    (record { names = vars_sound device code program; drives = record { rise = calls.2.rise; each = calls.2.each } })
