-- A try in a poll: what has run, and where it stands.
use Rattle.std.proofs.Common.{◌≡◌, ℕ, zero, suc, ◌+◌, ◌-◌, ◌<◌, ◌≤◌, Bool, cond, List, [], ◌∷◌, ◌++◌, length, take, drop, Some, None, refl, sym, ap, ◌∙◌, subst, arith}
use Rattle.std.specs.Prelude.{min}
use Rattle.std.specs.List.{find, range_with_len}
use Rattle.std.proofs.lemmas.List.{append-nil}
use Rattle.std.proofs.lemmas.Bool.{lt-ltb, le-ltb}
use Rattle.tester_types.specs.declared.record.Fail.{Fail}
use Rattle.packed_code.specs.Meaning.{Means}
use Rattle.packed_code.specs.Program.{Program}
use Rattle.packed_code.specs.Cycles.{exec_of, cycles_of}
use Rattle.packed_code.proofs.WalkLemmas.{length-cycles}
use Rattle.strobe_check.specs.Count.{HasCounted}
use Rattle.strobe_check.specs.History.{Held, HasSeen, all_fails}
use Rattle.strobe_check.proofs.HistoryLemmas.{fails-none}
use Rattle.die_sim.specs.Die.{Device}
use Rattle.site_meaning.specs.Playing.{bound_of}
use Rattle.site_meaning.specs.Polls.{has_cycles, next_exec}
use Rattle.cycle_run.specs.Cycle.{closed_with, HasFound}

-- ---- fails that are counted

-- the fails that a checker has counted, where no cycle is open
pub counted : (device : Device) (keep : ℕ) (found : List Fail) (held : Held) → HasSeen (closed_with device keep found) held
    → HasCounted keep found held.count
counted device keep found held seen =
    subst (λ (l : List Fail). HasCounted keep l held.count)
    (ap (λ (l : List Fail). found ++ l) (fails-none (bound_of device)) ∙ append-nil found) seen.count

-- and where one may be open
pub counted_open : (keep : ℕ) (found : List Fail) (held : Held) → HasFound keep found held → HasCounted keep found held.count
counted_open keep found held f =
    subst (λ (l : List Fail). HasCounted keep l held.count) f.all
    (subst (λ (k : ℕ). HasCounted k (all_fails f.history) held.count) f.keeps f.seen.count)

-- a count up to a largest number, and more
pub min_more : (a b m : ℕ) → min (a + b) m ≡ min (min a m + b) m
min_more a b m = omega arith

-- a front, and more behind it
pub take_more_of : {X : Type 0} (n : ℕ) (xs ys : List X) → take n (xs ++ ys) ≡ take n (take n xs ++ ys)
take_more_of zero xs ys = refl
take_more_of (suc n) [] ys = refl
take_more_of {X} (suc n) (x ∷ xs) ys = ap (λ (l : List X). x ∷ l) (take_more_of n xs ys)

-- ---- the next executive that has a cycle

range-next : (k n : ℕ) → k < n → range_with_len k (n - k) ≡ k ∷ range_with_len (k + 1) (n - (k + 1))
range-next k n within =
    let e : n - k ≡ suc (n - (k + 1)) = omega (arith, within) in
    ap (range_with_len k) e

pub next_is : (code : Program) (from : ℕ)
    → find (has_cycles code) (range_with_len from (length code.execs - from)) ≡ next_exec code from
unfolding next_exec
next_is code from = refl

pub first_here : (code : Program) (exec cycles : ℕ) → cycles ≡ length (Means (exec_of code exec).instrs) → exec < length code.execs
    → 0 < cycles
    → find (has_cycles code) (range_with_len exec (length code.execs - exec)) ≡ Some exec
first_here code exec cycles count within some =
    let later = range_with_len (exec + 1) (length code.execs - (exec + 1)) in
    ap (find (has_cycles code)) (range-next exec (length code.execs) within)
    ∙ ap (λ (b : Bool). cond b (Some exec) (find (has_cycles code) later))
    (lt-ltb 0 (length (cycles_of code exec)) (omega (arith, length-cycles code exec, count, some)))

pub first_later : (code : Program) (exec cycles : ℕ) → cycles ≡ length (Means (exec_of code exec).instrs) → exec < length code.execs
    → cycles ≤ 0
    → find (has_cycles code) (range_with_len exec (length code.execs - exec))
    ≡ find (has_cycles code) (range_with_len (exec + 1) (length code.execs - (exec + 1)))
first_later code exec cycles count within none =
    let later = range_with_len (exec + 1) (length code.execs - (exec + 1)) in
    ap (find (has_cycles code)) (range-next exec (length code.execs) within)
    ∙ ap (λ (b : Bool). cond b (Some exec) (find (has_cycles code) later))
    (le-ltb 0 (length (cycles_of code exec)) (omega (arith, length-cycles code exec, count, none)))

pub first_none : (code : Program) (exec : ℕ) → length code.execs ≤ exec
    → find (has_cycles code) (range_with_len exec (length code.execs - exec)) ≡ None
first_none code exec past =
    let e : length code.execs - exec ≡ 0 = omega (arith, past) in
    ap (λ (n : ℕ). find (has_cycles code) (range_with_len exec n)) e

-- how many cycles the code tells
pub cycles_told : (code code' : Program) (exec cycles : ℕ) → code' ≡ code → cycles ≡ length (Means (exec_of code' exec).instrs)
    → cycles ≡ length (cycles_of code exec)
cycles_told code code' exec cycles is count =
    count ∙ ap (λ (p : Program). length (Means (exec_of p exec).instrs)) is ∙ sym (length-cycles code exec)

-- what is left behind some, and some more
pub drop-both : {X : Type 0} (a b : ℕ) (xs : List X) → drop b (drop a xs) ≡ drop (a + b) xs
drop-both {X} zero b xs = ap (λ (n : ℕ). drop n xs) (none b)
  where
    none : (m : ℕ) → m ≡ 0 + m
    none m = omega arith
drop-both {X} (suc a) b [] = nothing b ∙ sym (nothing (suc a + b))
  where
    nothing : (n : ℕ) → drop {A = X} n [] ≡ []
    nothing zero = refl
    nothing (suc n) = refl
drop-both {X} (suc a) b (x ∷ xs) = drop-both a b xs ∙ ap (λ (n : ℕ). drop n (x ∷ xs)) (more a b)
  where
    more : (m n : ℕ) → suc (m + n) ≡ suc m + n
    more m n = omega arith
