-- A try of a die: what it would be if nothing cut it short, and what a cut makes of it.
use Rattle.std.specs.Prelude.{ℕ, zero, suc, ◌+◌, ◌-◌, ◌^◌, ◌==◌, ◌&&◌, min, nat_lt, nat_le, Bool, true, if◌then◌else◌, List, [], ◌∷◌, ◌++◌, map, length, take, fold, Option, Some, None}
use Rattle.std.specs.List.{find, flat_map, range_with_len}
use Rattle.std.specs.Option.{option_map_or}
use Rattle.tester_types.specs.declared.cycle.Cycle.{Cycle}
use Rattle.tester_types.specs.declared.record.By.TheVariants as by
use Rattle.tester_types.specs.declared.record.Fail.{Fail}
use Rattle.tester_types.specs.declared.record.Verdict.{Verdict}
use Rattle.tester_types.specs.declared.record.Verdict.TheVariants as verdict
use Rattle.tester_types.specs.declared.record.Trial.{Trial}
use Rattle.packed_code.specs.Program.{Program}
use Rattle.packed_code.specs.Cycles.{cycles_of}
use Rattle.site_meaning.specs.Playing.{Stand, Going, PlayedMoment, PlayedCycle, starting, played_cycle, after_cycle}
use Rattle.site_meaning.specs.Part.{Part, lot_in, order_in, stand_for}

-- ---- the batches of a try that nothing cuts short

-- cycles one after another, which this executive runs
unfoldable pub played : Stand → ℕ → Going → List Cycle → List PlayedCycle
played stand exec going [] = []
played stand exec going (cycle ∷ cycles) =
    played_cycle stand exec going cycle ∷ played stand exec (after_cycle stand going cycle) cycles

-- what goes along behind them
unfoldable pub after_cycles : Stand → Going → List Cycle → Going
after_cycles stand going cycles = fold (after_cycle stand) going cycles

-- the fails of cycles, one after another
unfoldable pub fails_in : List PlayedCycle → List Fail
fails_in cycles = flat_map (λ (cycle : PlayedCycle). cycle.fails) cycles

-- whether there is one
abbrev pub has_fails : List PlayedCycle → Bool
has_fails cycles = nat_lt 0 (length (fails_in cycles))

-- an item in front of the first piece
abbrev pub in_first : {X : Type 0} → X → List (List X) → List (List X)
in_first x [] = (x ∷ []) ∷ []
in_first x (piece ∷ later) = (x ∷ piece) ∷ later

-- Items cut into pieces of 1 more than `more`, but for the last, which may have fewer; the first piece has 1 more than
-- `left`.
unfoldable pub pieces : {X : Type 0} → ℕ → ℕ → List X → List (List X)
pieces more left [] = []
pieces more zero (x ∷ xs) = (x ∷ []) ∷ pieces more more xs
pieces more (suc left) (x ∷ xs) = in_first x (pieces more left xs)

-- a batch: its executive, and its cycles as they are played
pub record Batch : Type 0 where
  pub exec : ℕ
  pub cycles : List PlayedCycle

-- the batches of one executive
abbrev pub of_exec : ℕ → List (List PlayedCycle) → List Batch
of_exec exec parts = map (λ (cycles : List PlayedCycle). record { exec = exec; cycles = cycles }) parts

-- the batches of these executives, the first of which has this number: those up to the first one with a fail
unfoldable pub tried : Stand → ℕ → ℕ → Going → List (List Cycle) → List Batch
tried stand more exec going [] = []
tried stand more exec going (cycles ∷ later) =
    of_exec exec (pieces more more (played stand exec going cycles))
    ++ (if has_fails (played stand exec going cycles) then []
    else tried stand more (exec + 1) (after_cycles stand going cycles) later)

-- the cycles of each executive
unfoldable pub execs_of : Program → List (List Cycle)
execs_of code = map (cycles_of code) (range_with_len 0 (length code.execs))

-- one less than the cycles of a whole batch
abbrev pub more_in : Part → ℕ
more_in part = (lot_in part).batch - 1

-- the batches of a try of a die
unfoldable pub batches_of : Part → ℕ → ℕ → List Batch
batches_of part die number =
    tried (stand_for part die number) (more_in part) 0 (starting (stand_for part die number).device)
    (execs_of part.code)

-- ---- what comes of a try

-- how a try came out: the cycles that it finished, its fails, and its verdict
pub record Outcome : Type 0 where
  pub cycles : ℕ
  pub fails : List Fail
  pub verdict : Verdict

-- the cycles of batches
unfoldable pub cycles_in : List Batch → List PlayedCycle
cycles_in batches = flat_map (λ (batch : Batch). batch.cycles) batches

-- a try that ended behind these batches
abbrev pub ended : List Batch → Verdict → Outcome
ended batches verdict = record {
  cycles = length (cycles_in batches);
  fails = fails_in (cycles_in batches);
  verdict = verdict;
}

-- the verdict of a try that ended by itself: the executive that has fails, or none
unfoldable pub blamed : List Batch → Verdict
blamed batches =
    option_map_or (λ (batch : Batch). verdict.Fail batch.exec)
    (find (λ (batch : Batch). has_fails batch.cycles) batches) verdict.Pass

-- what cuts a try short: nothing, a live stop before a batch with the number that it took, or a contact at an instant
pub data Cut : Type 0 where
  uncut : Cut
  live : ℕ → ℕ → Cut
  touch : ℕ → Cut

-- the batches in front of the plan's order; all of them where there is none, or no batch of that number
abbrev pub before_order : Option ℕ → List Batch → List Batch
before_order None batches = batches
before_order (Some batch) batches = take batch batches

-- what the plan makes of a try: its order ends it before a batch that is there, else it ends by itself
abbrev pub by_plan : Option ℕ → List Batch → Outcome
by_plan None batches = ended batches (blamed batches)
by_plan (Some batch) batches =
    if nat_lt batch (length batches) then ended (take batch batches) (verdict.Stopped batch by.Plan)
    else ended batches (blamed batches)

-- whether no order of the plan stands before an earlier batch
abbrev pub comes_first : ℕ → Option ℕ → Bool
comes_first batch order = option_map_or (nat_le batch) order true

-- whether a moment is that of this instant and makes a call
abbrev pub is_hit : ℕ → PlayedMoment → Bool
is_hit at moment = moment.at == at && moment.calls

-- where a contact was lost: the cycles that were finished before, and the fails of the moments before
pub record Lost : Type 0 where
  pub cycles : ℕ
  pub fails : List Fail

-- a contact that was lost behind one more cycle
abbrev pub behind_cycle : PlayedCycle → Option Lost → Option Lost
behind_cycle cycle None = None
behind_cycle cycle (Some lost) = Some (record { cycles = lost.cycles + 1; fails = cycle.fails ++ lost.fails })

-- a contact that was lost at a moment of the first cycle, else behind it
abbrev pub lost_at : Option PlayedMoment → Option Lost → Option Lost
lost_at None later = later
lost_at (Some moment) later = Some (record { cycles = 0; fails = moment.earlier })

-- where an instant is reached with a call in these cycles, if it is
unfoldable pub reached : ℕ → List PlayedCycle → Option Lost
reached at [] = None
reached at (cycle ∷ cycles) = lost_at (find (is_hit at) cycle.moments) (behind_cycle cycle (reached at cycles))

-- a try that lost its contact there
abbrev pub touched : ℕ → Lost → Outcome
touched at lost = record { cycles = lost.cycles; fails = lost.fails; verdict = verdict.Contact at }

-- a try with a cut: at the instant 0 it isn't even loaded, and a cut that isn't reached changes nothing
abbrev pub with_cut : Option ℕ → List Batch → Cut → Outcome
with_cut order batches uncut = by_plan order batches
with_cut order batches (live batch number) =
    if nat_lt batch (length batches) && comes_first batch order
    then ended (take batch batches) (verdict.Stopped batch (by.Desk number)) else by_plan order batches
with_cut order batches (touch at) =
    if at == 0 then touched 0 (record { cycles = 0; fails = [] })
    else option_map_or (touched at) (reached at (cycles_in (before_order order batches))) (by_plan order batches)

-- a try as it is recorded: its fails are counted up to the largest 64-bit number, and the first of them are kept
abbrev pub recorded : ℕ → ℕ → Outcome → Trial
recorded keep number outcome = record {
  number = number;
  cycles = outcome.cycles;
  fails = min (length outcome.fails) (2 ^ 64 - 1);
  kept = take keep outcome.fails;
  verdict = outcome.verdict;
}

-- the try of this number of a die, with a cut
unfoldable pub trial : Part → ℕ → ℕ → Cut → Trial
trial part die number cut =
    recorded (lot_in part).keep number
    (with_cut (order_in part die number) (batches_of part die number) cut)

-- the cut that a verdict tells
abbrev pub cut_of_verdict : Verdict → Cut
cut_of_verdict verdict.Pass = uncut
cut_of_verdict (verdict.Fail exec) = uncut
cut_of_verdict (verdict.Stopped batch by.Plan) = uncut
cut_of_verdict (verdict.Stopped batch (by.Desk number)) = live batch number
cut_of_verdict (verdict.Contact at) = touch at

-- the cut that a recorded try tells
abbrev pub cut_of : Trial → Cut
cut_of trial = cut_of_verdict trial.verdict
