-- A try that is under way: the batches that ran and those to come are the batches of the try that nothing cuts short.
use Rattle.std.proofs.Common.{◌≡◌, ℕ, zero, suc, ◌+◌, ◌-◌, ◌^◌, ◌<◌, ◌≤◌, Bool, true, false, ◌||◌, cond, ltb, min, List, [], ◌∷◌, ◌++◌, length, take, drop, Option, Some, None, refl, sym, ap, ◌∙◌, arith, inl, inr}
use Rattle.std.specs.List.{find}
use Rattle.std.specs.Option.{option_map_or, option_or}
use Rattle.std.proofs.lemmas.Bool.{cases_Bool, cases_lt, lt-ltb, le-ltb, cond-true, cond-false}
use Rattle.std.proofs.lemmas.List.{append-nil, length-take, length-drop, drop-drop, take-append-drop, drop_min}
use Rattle.std.proofs.lemmas.List.Concat.{flat_map-append}
use Rattle.std.proofs.lemmas.List.Folds.{find-append}
use Rattle.tester_types.specs.declared.cycle.Cycle.{Cycle}
use Rattle.tester_types.specs.declared.record.Verdict.{Verdict}
use Rattle.tester_types.specs.declared.record.Verdict.TheVariants as verdict
use Rattle.packed_code.specs.Program.{Program}
use Rattle.packed_code.specs.Cycles.{cycles_of}
use Rattle.site_meaning.specs.Playing.{Stand, Going, PlayedCycle}
use Rattle.site_meaning.specs.Part.{Part, lot_in, order_in, stand_for}
use Rattle.site_meaning.specs.Trials.{played, after_cycles, fails_in, has_fails, pieces, Batch, of_exec, tried, more_in, batches_of, cycles_in, blamed}
use Rattle.site_meaning.specs.Polls.{Running, next_played}
use Rattle.site_meaning.proofs.PlayedLemmas.{played-take, played-drop, after_cycles-drop, length-played, has_fails-append, some_of_sum, pieces_of_some}
use Rattle.site_meaning.proofs.TriedLemmas.{execs_from}
use Rattle.site_meaning.proofs.ReachedLemmas.{Before}

-- ---- what is to come

-- the cycles of its executive that are left
abbrev pub rest_of : Program → Running → List Cycle
rest_of code running = drop running.done (cycles_of code running.exec)

-- the batches of an executive's cycles, and those of later executives unless there was a fail
abbrev pub coming_of : Stand → ℕ → Program → ℕ → Bool → Going → List Cycle → ℕ → List Batch
coming_of stand more code exec dirty going rest later =
    of_exec exec (pieces more more (played stand exec going rest))
    ++ cond (dirty || has_fails (played stand exec going rest)) []
    (tried stand more (exec + 1) (after_cycles stand going rest) (execs_from code (exec + 1) later))

-- the batches of a try from here on, where so many executives follow
abbrev pub coming : Part → ℕ → ℕ → Running → ℕ → List Batch
coming part die number running later =
    coming_of (stand_for part die number) (more_in part) part.code running.exec (ltb 0 running.total) running.going
    (rest_of part.code running) later

-- a batch that is next
abbrev pub next_batch : Part → ℕ → ℕ → Running → Batch
next_batch part die number running =
    record { exec = running.exec; cycles = next_played part die number running }

-- ---- lists

or_assoc : (a b c : Bool) → (a || (b || c)) ≡ (a || b || c)
or_assoc true b c = refl
or_assoc false b c = refl

-- behind so many items of a list and so many more
pub drop-more : {X : Type 0} (n m : ℕ) (xs : List X) → drop (n + length (take m (drop n xs))) xs ≡ drop m (drop n xs)
drop-more n m xs =
    sym (drop-drop (length (take m (drop n xs))) n xs)
    ∙ ap (λ k. drop k (drop n xs)) (length-take m (drop n xs)) ∙ drop_min m (drop n xs)

pub some_left : {X : Type 0} (n : ℕ) (xs : List X) → n < length xs → 0 < length (drop n xs)
some_left n xs h = let long = length-drop n xs in omega (arith, long, h)

-- whether there is one of numbers that are added up to a most
pub some_capped : (most a b : ℕ) → 0 < most → ltb 0 (min (a + b) most) ≡ (ltb 0 a || ltb 0 b)
some_capped most a b some =
    elim (cases_lt 0 (a + b)) [
      | inl h ↦ lt-ltb 0 (min (a + b) most) (omega arith) ∙ sym (lt-ltb 0 (a + b) h) ∙ some_of_sum a b
      | inr h ↦ le-ltb 0 (min (a + b) most) (omega arith) ∙ sym (le-ltb 0 (a + b) h) ∙ some_of_sum a b
    ]

-- ---- one batch more

-- the first batch of what is to come, and the rest
pub coming_more : (stand : Stand) (more : ℕ) (code : Program) (exec : ℕ) (dirty : Bool) (going : Going) (rest : List Cycle)
    (later : ℕ) → 0 < length rest
    → coming_of stand more code exec dirty going rest later
    ≡ record { exec = exec; cycles = played stand exec going (take (suc more) rest) }
    ∷ coming_of stand more code exec (dirty || has_fails (played stand exec going (take (suc more) rest)))
    (after_cycles stand going (take (suc more) rest)) (drop (suc more) rest) later
coming_more stand more code exec dirty going rest later some =
    ap (λ (l : List (List PlayedCycle)). of_exec exec l ++ cond (dirty || has_fails all) [] (then whole_end)) cut
    ∙ ap (λ (b : Bool). of_exec exec (first ∷ pieces more more others) ++ cond b [] (then whole_end)) flags
    ∙ ap (λ (g : Going). of_exec exec (first ∷ pieces more more others) ++ cond (dirty || has_fails first || has_fails others) [] (then g))
    (sym (after_cycles-drop stand (suc more) going rest))
  where
    all : List PlayedCycle
    all = played stand exec going rest

    first : List PlayedCycle
    first = played stand exec going (take (suc more) rest)

    others : List PlayedCycle
    others = played stand exec (after_cycles stand going (take (suc more) rest)) (drop (suc more) rest)

    whole_end : Going
    whole_end = after_cycles stand going rest

    then : Going → List Batch
    then g = tried stand more (exec + 1) g (execs_from code (exec + 1) later)

    long : 0 < length all
    long = let count = length-played stand exec going rest in omega (arith, count, some)

    cut : pieces more more all ≡ first ∷ pieces more more others
    cut =
        pieces_of_some more all long
        ∙ ap (λ (l : List PlayedCycle). l ∷ pieces more more (drop (suc more) all)) (sym (played-take stand exec (suc more) going rest))
        ∙ ap (λ (l : List PlayedCycle). first ∷ pieces more more l) (sym (played-drop stand exec (suc more) going rest))

    split : all ≡ first ++ others
    split =
        sym (take-append-drop (suc more) all)
        ∙ ap (λ (l : List PlayedCycle). l ++ drop (suc more) all) (sym (played-take stand exec (suc more) going rest))
        ∙ ap (λ (l : List PlayedCycle). first ++ l) (sym (played-drop stand exec (suc more) going rest))

    flags : (dirty || has_fails all) ≡ (dirty || has_fails first || has_fails others)
    flags =
        ap (λ (b : Bool). dirty || b) (ap has_fails split ∙ has_fails-append first others)
        ∙ or_assoc dirty (has_fails first) (has_fails others)

-- ---- the executive that has fails

-- the verdict of the batch that is blamed
abbrev fail_of : Option Batch → Verdict
fail_of found = option_map_or (λ (batch : Batch). verdict.Fail batch.exec) found verdict.Pass

fail_stays : (exec : ℕ) (a b : Option Batch) → fail_of a ≡ verdict.Fail exec → fail_of (option_or a b) ≡ verdict.Fail exec
fail_stays exec (Some x) b is = is
fail_stays exec None b is = absurd (not_so is)
  where
    not_so : verdict.Pass ≡ verdict.Fail exec → ⊥
    not_so h = cc

pass_goes_on : (a b : Option Batch) → fail_of a ≡ verdict.Pass → fail_of (option_or a b) ≡ fail_of b
pass_goes_on (Some x) b is = absurd (not_so is)
  where
    not_so : verdict.Fail x.exec ≡ verdict.Pass → ⊥
    not_so h = cc
pass_goes_on None b is = refl

-- whether a batch has a fail
abbrev fails_here : Batch → Bool
fails_here batch = has_fails batch.cycles

-- behind the fail of an executive no other counts
pub blamed-fail : (exec : ℕ) (bs cs : List Batch) → blamed bs ≡ verdict.Fail exec → blamed (bs ++ cs) ≡ verdict.Fail exec
unfolding blamed
blamed-fail exec bs cs is =
    ap fail_of (find-append fails_here bs cs) ∙ fail_stays exec (find fails_here bs) (find fails_here cs) is

pub blamed-pass : (bs cs : List Batch) → blamed bs ≡ verdict.Pass → blamed (bs ++ cs) ≡ blamed cs
unfolding blamed
blamed-pass bs cs is =
    ap fail_of (find-append fails_here bs cs) ∙ pass_goes_on (find fails_here bs) (find fails_here cs) is

pub blamed-one : (b : Batch) → blamed (b ∷ []) ≡ cond (has_fails b.cycles) (verdict.Fail b.exec) verdict.Pass
unfolding blamed
blamed-one b =
    elim (cases_Bool (has_fails b.cycles)) [
      | inl h ↦
          ap fail_of (cond-true (has_fails b.cycles) (Some b) None h)
          ∙ sym (cond-true (has_fails b.cycles) (verdict.Fail b.exec) verdict.Pass h)
      | inr h ↦
          ap fail_of (cond-false (has_fails b.cycles) (Some b) None h)
          ∙ sym (cond-false (has_fails b.cycles) (verdict.Fail b.exec) verdict.Pass h)
    ]

-- who is blamed with a batch more of an executive that has fails or none
pub blamed-more : (exec : ℕ) (dirty : Bool) (bs : List Batch) (b : Batch) → b.exec ≡ exec
    → blamed bs ≡ cond dirty (verdict.Fail exec) verdict.Pass
    → blamed (bs ++ b ∷ []) ≡ cond (dirty || has_fails b.cycles) (verdict.Fail exec) verdict.Pass
blamed-more exec true bs b same is = blamed-fail exec bs (b ∷ []) is
blamed-more exec false bs b same is =
    blamed-pass bs (b ∷ []) is ∙ blamed-one b
    ∙ ap (λ (e : ℕ). cond (has_fails b.cycles) (verdict.Fail e) verdict.Pass) same

-- ---- a try under way

-- the batches of a try that have run are a front of those of the uncut try, and what it holds is theirs
pub record Underway (part : Part) (die number : ℕ) (running : Running) : Type 0 where
  pub ran : List Batch
  pub later : ℕ
  pub place : running.exec + suc later ≡ length part.code.execs
  pub whole : batches_of part die number ≡ ran ++ coming part die number running later
  pub finished : running.going.number ≡ length (cycles_in ran)
  pub batches : running.batch ≡ length ran
  pub counted : running.total ≡ min (length (fails_in (cycles_in ran))) (2 ^ 64 - 1)
  pub first : running.kept ≡ take (lot_in part).keep (fails_in (cycles_in ran))
  pub blames : blamed ran ≡ cond (ltb 0 running.total) (verdict.Fail running.exec) verdict.Pass
  pub within : Before running.going.time (cycles_in ran)
  pub free : (batch : ℕ) → order_in part die number ≡ Some batch → length ran ≤ batch

-- there are cycles of its executive left
abbrev pub IsBefore : Part → Running → Type 0
IsBefore part running = running.done < length (cycles_of part.code running.exec)

pub cycles_in-append : (bs cs : List Batch) → cycles_in (bs ++ cs) ≡ cycles_in bs ++ cycles_in cs
unfolding cycles_in
cycles_in-append bs cs = flat_map-append (λ (batch : Batch). batch.cycles) bs cs

cycles_in-one : (b : Batch) → cycles_in (b ∷ []) ≡ b.cycles
unfolding cycles_in
cycles_in-one b = append-nil b.cycles

pub cycles_in-push : (bs : List Batch) (b : Batch) → cycles_in (bs ++ b ∷ []) ≡ cycles_in bs ++ b.cycles
cycles_in-push bs b = cycles_in-append bs (b ∷ []) ∙ ap (λ (l : List PlayedCycle). cycles_in bs ++ l) (cycles_in-one b)

-- numbers that are added up to a most
pub min-more : (most a b : ℕ) → min (min a most + b) most ≡ min (a + b) most
min-more most a b = omega arith

-- the first ones of a list with more
pub take-more : {X : Type 0} (n : ℕ) (xs ys : List X) → take n (take n xs ++ ys) ≡ take n (xs ++ ys)
take-more zero xs ys = refl
take-more (suc n) [] ys = refl
take-more {X} (suc n) (x ∷ xs) ys = ap (λ (l : List X). x ∷ l) (take-more n xs ys)
