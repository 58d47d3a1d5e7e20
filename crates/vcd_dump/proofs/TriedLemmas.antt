-- The calls from the first executive on are those of the cycles that the plan's try finishes.
use Rattle.std.proofs.Common.{◌≡◌, ℕ, zero, suc, ◌+◌, ◌-◌, ◌*◌, ◌/◌, ◌<◌, ◌≤◌, ◌&&◌, Bool, not, cond, List, [], ◌∷◌, ◌++◌, length, take, min, Option, Some, None, refl, sym, ap, ◌∙◌, inl, inr, arith, append-nil, length-append, rules}
use Rattle.std.specs.Prelude.{nat_le}
use Rattle.std.specs.List.{flat_map}
use Rattle.std.proofs.lemmas.Bool.{cases_Bool}
use Rattle.std.proofs.lemmas.List.{take_all, take-append-le}
use Rattle.std.proofs.lemmas.Grind.{flat_map-append}
use Rattle.std.proofs.Math.Seq.{take-append-add}
use Rattle.tester_types.specs.declared.cycle.Cycle.{Cycle}
use Rattle.die_sim.specs.Socket.{Calls}
use Rattle.site_meaning.specs.Playing.{Stand, Going, PlayedCycle, after_cycle}
use Rattle.site_meaning.specs.Trials.{Batch, played, after_cycles, has_fails, pieces, of_exec, tried, cycles_in, before_order}
use Rattle.site_meaning.proofs.PlayedLemmas.{joined-pieces}
use Rattle.cycle_run.specs.Batch.{calls_of_cycles}
use Rattle.cycle_run.specs.BatchLaws.{calls-append, calls-none}
use Rattle.vcd_dump.specs.Play.{allowed, order_behind, calls_from}
use Rattle.vcd_dump.proofs.PieceLemmas.{joined, items_in-joined, items-whole, length-pieces, fewer_pieces, enough_pieces}

-- how many cycles batches have
abbrev pub many : List Batch → ℕ
many batches = length (cycles_in batches)

many-append : (xs ys : List Batch) → many (xs ++ ys) ≡ many xs + many ys
unfolding cycles_in
many-append xs ys = ap length (flat_map-append (λ (b : Batch). b.cycles) xs ys) ∙ length-append (cycles_in xs) (cycles_in ys)

many-none : many [] ≡ 0
unfolding cycles_in
many-none = refl

take-both : {X : Type 0} (n : ℕ) (xs ys : List X) → take n (xs ++ ys) ≡ take n xs ++ take (n - length xs) ys
take-both {X} zero xs ys =
    let none : 0 - length xs ≡ 0 = omega arith in ap (λ n. take n ys) (sym none)
take-both {X} (suc n) [] ys =
    let all : suc n - 0 ≡ suc n = omega arith in ap (λ k. take k ys) (sym all)
take-both {X} (suc n) (x ∷ xs) ys =
    let less : n - length xs ≡ suc n - suc (length xs) = omega arith in
    ap (λ (l : List X). x ∷ l) (take-both n xs ys ∙ ap (λ k. take n xs ++ take k ys) less)

take_of_exec : (b exec : ℕ) (ps : List (List PlayedCycle)) → take b (of_exec exec ps) ≡ of_exec exec (take b ps)
take_of_exec zero exec ps = refl
take_of_exec (suc b) exec [] = refl
take_of_exec (suc b) exec (p ∷ ps) = ap (λ (l : List Batch). record { exec = exec; cycles = p } ∷ l) (take_of_exec b exec ps)

cycles-of_exec : (exec : ℕ) (ps : List (List PlayedCycle)) → cycles_in (of_exec exec ps) ≡ joined ps
unfolding cycles_in
cycles-of_exec exec [] = refl
cycles-of_exec exec (p ∷ ps) = ap (λ (l : List PlayedCycle). p ++ l) (cycles-of_exec exec ps)

length-of_exec : (exec : ℕ) (ps : List (List PlayedCycle)) → length (of_exec exec ps) ≡ length ps
length-of_exec exec [] = refl
length-of_exec exec (p ∷ ps) = ap suc (length-of_exec exec ps)

length-played : (stand : Stand) (exec : ℕ) (cycles : List Cycle) (going : Going) → length (played stand exec going cycles) ≡ length cycles
unfolding played
length-played stand exec [] going = refl
length-played stand exec (cycle ∷ cycles) going = ap suc (length-played stand exec cycles (after_cycle stand going cycle))

-- ---- how many cycles run of an executive, and of what is behind it

module _ (stand : Stand) (more exec : ℕ) (going : Going) (xs : List Cycle) (rest : List Batch) where
  abbrev these : List (List PlayedCycle)
  these = pieces more more (played stand exec going xs)

  count_of : length these ≡ (length xs + (suc more - 1)) / suc more
  count_of =
      let one_less : more ≡ suc more - 1 = omega arith in
      length-pieces more (played stand exec going xs)
      ∙ ap (λ n. (n + more) / suc more) (length-played stand exec xs going)
      ∙ ap (λ n. (length xs + n) / suc more) one_less

  pub many-split : (order : Option ℕ) → many (before_order order (of_exec exec these ++ rest))
      ≡ allowed (suc more) order (length xs) + many (before_order (order_behind (suc more) order (length xs)) rest)
  many-split None =
      many-append (of_exec exec these) rest
      ∙ ap (λ n. n + many rest)
      (ap length (cycles-of_exec exec these ∙ joined-pieces more more (played stand exec going xs)) ∙ length-played stand exec xs going)
  many-split (Some b) =
      let some : many (take b (of_exec exec these)) ≡ min (length xs) (b * suc more) =
      ap many (take_of_exec b exec these) ∙ ap length (cycles-of_exec exec (take b these)) ∙ items_in-joined b these
      ∙ items-whole more b (played stand exec going xs)
      ∙ ap (λ n. min n (b * suc more)) (length-played stand exec xs going) in
      ap many (take-both b (of_exec exec these) rest)
      ∙ many-append (take b (of_exec exec these)) (take (b - length (of_exec exec these)) rest)
      ∙ ap (λ n. n + many (take (b - length (of_exec exec these)) rest)) some
      ∙ ap (λ k. min (length xs) (b * suc more) + many (take (b - k) rest)) (length-of_exec exec these ∙ count_of)

few_allowed : (m : ℕ) (order : Option ℕ) (n : ℕ) → allowed m order n ≤ n
few_allowed m None n = omega arith
few_allowed m (Some b) n = omega arith

before_none : (order : Option ℕ) → many (before_order order []) ≡ 0
before_none None = many-none
before_none (Some zero) = many-none
before_none (Some (suc b)) = many-none

-- the order that stands before the last cycle of an executive stands before all that is behind it
none_behind : (more : ℕ) (order : Option ℕ) (n : ℕ) (rest : List Batch) → allowed (suc more) order n < n
    → many (before_order (order_behind (suc more) order n) rest) ≡ 0
none_behind more None n rest less = absurd (omega (arith, less))
none_behind more (Some b) n rest less =
    let enough = enough_pieces more n in
    let stops : b * suc more < n = omega (arith, less) in
    let few : b ≤ (n + (suc more - 1)) / suc more = fewer_pieces b ((n + (suc more - 1)) / suc more) (suc more) n stops enough in
    let zero_left : b - (n + (suc more - 1)) / suc more ≡ 0 = omega (arith, few) in
    ap (λ k. many (take k rest)) zero_left ∙ many-none

nothing_of : (stand : Stand) (going : Going) (n : ℕ) → calls_of_cycles stand going (take n []) ≡ []
nothing_of stand going zero = calls-none stand going
nothing_of stand going (suc n) = calls-none stand going

-- all cycles, one executive after another
abbrev pub all_of : List (List Cycle) → List Cycle
all_of execs = flat_map (λ (cycles : List Cycle). cycles) execs

pub calls_are : (stand : Stand) (more exec : ℕ) (going : Going) (order : Option ℕ) (execs : List (List Cycle))
    → calls_from stand (suc more) exec going order execs
    ≡ calls_of_cycles stand going (take (many (before_order order (tried stand more exec going execs))) (all_of execs))
unfolding calls_from tried
calls_are stand more exec going order [] = sym (nothing_of stand going (many (before_order order [])))
calls_are stand more exec going order (xs ∷ later) =
    let dirty = has_fails (played stand exec going xs) in
    let next = after_cycles stand going xs in
    let behind = order_behind (suc more) order (length xs) in
    let a = allowed (suc more) order (length xs) in
    let first = these stand more exec going xs [] in
    let rest : Bool → List Batch = λ b. cond b [] (tried stand more (exec + 1) next later) in
    let after : Bool → Calls = λ b. cond b (calls_from stand (suc more) (exec + 1) next behind later) [] in
    let few = few_allowed (suc more) order (length xs) in
    elim (cases_Bool (nat_le (length xs) a)) [
      | inl whole ↦
          let same : length xs ≡ a = search (rules, whole, few) in
          elim (cases_Bool dirty) [
            | inl fails ↦
                let count : many (before_order order (of_exec exec first ++ rest dirty)) ≡ a =
                many-split stand more exec going xs (rest dirty) order
                ∙ ap (λ b. a + many (before_order behind (rest b))) fails ∙ omega (arith, before_none behind) in
                ap (λ b. calls_of_cycles stand going (take a xs) ++ after (b && not dirty)) whole
                ∙ ap (λ b. calls_of_cycles stand going (take a xs) ++ after (not b)) fails
                ∙ append-nil (calls_of_cycles stand going (take a xs))
                ∙ ap (calls_of_cycles stand going) (sym (take-append-le a xs (all_of later) few))
                ∙ ap (λ n. calls_of_cycles stand going (take n (xs ++ all_of later))) (sym count)
            | inr clean ↦
                let count : many (before_order order (of_exec exec first ++ rest dirty))
                ≡ a + many (before_order behind (tried stand more (exec + 1) next later)) =
                many-split stand more exec going xs (rest dirty) order
                ∙ ap (λ b. a + many (before_order behind (rest b))) clean in
                let n = many (before_order behind (tried stand more (exec + 1) next later)) in
                ap (λ b. calls_of_cycles stand going (take a xs) ++ after (b && not dirty)) whole
                ∙ ap (λ b. calls_of_cycles stand going (take a xs) ++ after (not b)) clean
                ∙ ap (λ (l : List Cycle). calls_of_cycles stand going l ++ calls_from stand (suc more) (exec + 1) next behind later)
                (take_all a xs (omega (arith, same)))
                ∙ ap (λ c. calls_of_cycles stand going xs ++ c) (calls_are stand more (exec + 1) next behind later)
                ∙ sym (calls-append stand going xs (take n (all_of later)))
                ∙ ap (calls_of_cycles stand going) (sym (take-append-add xs (all_of later) n))
                ∙ ap (λ k. calls_of_cycles stand going (take (k + n) (xs ++ all_of later))) same
                ∙ ap (λ k. calls_of_cycles stand going (take k (xs ++ all_of later))) (sym count)
          ]
      | inr part ↦
          let less : a < length xs = search (rules, part) in
          let count : many (before_order order (of_exec exec first ++ rest dirty)) ≡ a =
          many-split stand more exec going xs (rest dirty) order
          ∙ omega (arith, none_behind more order (length xs) (rest dirty) less) in
          ap (λ b. calls_of_cycles stand going (take a xs) ++ after (b && not dirty)) part
          ∙ append-nil (calls_of_cycles stand going (take a xs))
          ∙ ap (calls_of_cycles stand going) (sym (take-append-le a xs (all_of later) few))
          ∙ ap (λ n. calls_of_cycles stand going (take n (xs ++ all_of later))) (sym count)
    ]
