-- The batches of a try as executives follow one another, those without cycles left out.
use Rattle.std.proofs.Common.{◌≡◌, ℕ, zero, suc, ◌+◌, ◌<◌, true, false, List, [], ◌∷◌, length, map, Some, None, refl, sym, ap, ◌∙◌, subst, arith, inl, inr}
use Rattle.std.specs.List.{find, range_with_len}
use Rattle.std.proofs.lemmas.Bool.{cases_Bool, ltb-true, ltb-false, cond-true, cond-false}
use Rattle.std.proofs.lemmas.List.{nil_from_length}
use Rattle.tester_types.specs.declared.cycle.Cycle.{Cycle}
use Rattle.packed_code.specs.Program.{Program}
use Rattle.packed_code.specs.Cycles.{cycles_of}
use Rattle.site_meaning.specs.Playing.{Stand, Going}
use Rattle.site_meaning.specs.Trials.{played, after_cycles, fails_in, pieces, tried, execs_of}
use Rattle.site_meaning.specs.Polls.{has_cycles}
use Rattle.site_meaning.proofs.ReachedLemmas.{none_or_some}

-- the cycles of so many executives, from this one on
abbrev pub execs_from : Program → ℕ → ℕ → List (List Cycle)
execs_from code from count = map (cycles_of code) (range_with_len from count)

pub all_execs : (code : Program) → execs_of code ≡ execs_from code 0 (length code.execs)
unfolding execs_of
all_execs code = refl

-- an executive without cycles gives no batch
tried-empty : (stand : Stand) (more exec : ℕ) (going : Going) (later : List (List Cycle))
    → tried stand more exec going ([] ∷ later) ≡ tried stand more (exec + 1) going later
unfolding tried played pieces fails_in after_cycles
tried-empty stand more exec going later = refl

pub tried-none : (stand : Stand) (more exec : ℕ) (going : Going) → tried stand more exec going [] ≡ []
unfolding tried
tried-none stand more exec going = refl

-- no cycles
pub none_from : (code : Program) (exec : ℕ) → has_cycles code exec ≡ false → cycles_of code exec ≡ []
none_from code exec h =
    let few = ltb-false 0 (length (cycles_of code exec)) h in
    nil_from_length (cycles_of code exec) (omega (arith, few))

-- a try comes to the first executive with a cycle, so many executives being left behind it
pub record Comes (stand : Stand) (more : ℕ) (going : Going) (code : Program) (from count exec : ℕ) : Type 0 where
  pub later : ℕ
  pub place : exec + suc later ≡ from + count
  pub some : 0 < length (cycles_of code exec)
  pub same : tried stand more from going (execs_from code from count)
      ≡ tried stand more exec going (execs_from code exec (suc later))

pub tried-comes : (stand : Stand) (more : ℕ) (going : Going) (code : Program) (count from exec : ℕ)
    → find (has_cycles code) (range_with_len from count) ≡ Some exec
    → Comes stand more going code from count exec
tried-comes stand more going code zero from exec e = absurd (none_or_some None exec refl e)
tried-comes stand more going code (suc count) from exec e =
    elim (cases_Bool (has_cycles code from)) [
      | inl h ↦ here h (some_is (sym (cond-true (has_cycles code from) (Some from) (find (has_cycles code) (range_with_len (from + 1) count)) h) ∙ e))
      | inr h ↦ behind h (tried-comes stand more going code count (from + 1) exec
          (sym (cond-false (has_cycles code from) (Some from) (find (has_cycles code) (range_with_len (from + 1) count)) h) ∙ e))
    ]
  where
    some_is : Some from ≡ Some exec → from ≡ exec
    some_is h = cc

    here : has_cycles code from ≡ true → from ≡ exec → Comes stand more going code from (suc count) exec
    here h same =
        subst (λ (n : ℕ). Comes stand more going code from (suc count) n) same
        (record { later = count; place = refl; some = ltb-true 0 (length (cycles_of code from)) h; same = refl })

    behind : has_cycles code from ≡ false → Comes stand more going code (from + 1) count exec
        → Comes stand more going code from (suc count) exec
    behind h c = record {
      later = c.later;
      place = omega (arith, c.place);
      some = c.some;
      same = ap (λ (l : List Cycle). tried stand more from going (l ∷ execs_from code (from + 1) count)) (none_from code from h)
          ∙ tried-empty stand more from going (execs_from code (from + 1) count) ∙ c.same;
    }

-- no executive with a cycle is left
pub tried-ends : (stand : Stand) (more : ℕ) (going : Going) (code : Program) (count from : ℕ)
    → find (has_cycles code) (range_with_len from count) ≡ None
    → tried stand more from going (execs_from code from count) ≡ []
tried-ends stand more going code zero from e = tried-none stand more from going
tried-ends stand more going code (suc count) from e =
    elim (cases_Bool (has_cycles code from)) [
      | inl h ↦ absurd (none_or_some (find (has_cycles code) (range_with_len from (suc count))) from e
          (cond-true (has_cycles code from) (Some from) (find (has_cycles code) (range_with_len (from + 1) count)) h))
      | inr h ↦
          ap (λ (l : List Cycle). tried stand more from going (l ∷ execs_from code (from + 1) count)) (none_from code from h)
          ∙ tried-empty stand more from going (execs_from code (from + 1) count)
          ∙ tried-ends stand more going code count (from + 1)
          (sym (cond-false (has_cycles code from) (Some from) (find (has_cycles code) (range_with_len (from + 1) count)) h) ∙ e)
    ]
