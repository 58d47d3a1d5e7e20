-- Cycles played one after another: a front of them is played as they are, and the rest from where the front ends.
use Rattle.std.proofs.Common.{◌≡◌, ℕ, zero, suc, ◌+◌, ◌<◌, Bool, ◌||◌, ltb, List, [], ◌∷◌, ◌++◌, length, take, drop, refl, sym, ap, ◌∙◌, arith, inl, inr}
use Rattle.std.proofs.lemmas.Bool.{cases_lt, lt-ltb, le-ltb}
use Rattle.std.proofs.lemmas.List.{length-append}
use Rattle.std.specs.List.{flat_map}
use Rattle.std.proofs.lemmas.List.Concat.{flat_map-append}
use Rattle.tester_types.specs.declared.cycle.Cycle.{Cycle}
use Rattle.tester_types.specs.declared.record.Fail.{Fail}
use Rattle.site_meaning.specs.Playing.{Stand, Going, PlayedCycle, played_cycle, after_cycle}
use Rattle.site_meaning.specs.Trials.{played, after_cycles, fails_in, has_fails, pieces, in_first}

-- ---- played

pub played-take : (stand : Stand) (exec : ℕ) (n : ℕ) (going : Going) (cycles : List Cycle)
    → played stand exec going (take n cycles) ≡ take n (played stand exec going cycles)
unfolding played
played-take stand exec zero going cycles = refl
played-take stand exec (suc n) going [] = refl
played-take stand exec (suc n) going (cycle ∷ cycles) =
    ap (λ (l : List PlayedCycle). played_cycle stand exec going cycle ∷ l)
    (played-take stand exec n (after_cycle stand going cycle) cycles)

pub played-drop : (stand : Stand) (exec : ℕ) (n : ℕ) (going : Going) (cycles : List Cycle)
    → played stand exec (after_cycles stand going (take n cycles)) (drop n cycles)
    ≡ drop n (played stand exec going cycles)
unfolding played after_cycles
played-drop stand exec zero going cycles = refl
played-drop stand exec (suc n) going [] = refl
played-drop stand exec (suc n) going (cycle ∷ cycles) =
    played-drop stand exec n (after_cycle stand going cycle) cycles

pub after_cycles-drop : (stand : Stand) (n : ℕ) (going : Going) (cycles : List Cycle)
    → after_cycles stand (after_cycles stand going (take n cycles)) (drop n cycles)
    ≡ after_cycles stand going cycles
unfolding after_cycles
after_cycles-drop stand zero going cycles = refl
after_cycles-drop stand (suc n) going [] = refl
after_cycles-drop stand (suc n) going (cycle ∷ cycles) =
    after_cycles-drop stand n (after_cycle stand going cycle) cycles

pub length-played : (stand : Stand) (exec : ℕ) (going : Going) (cycles : List Cycle)
    → length (played stand exec going cycles) ≡ length cycles
unfolding played
length-played stand exec going [] = refl
length-played stand exec going (cycle ∷ cycles) =
    ap suc (length-played stand exec (after_cycle stand going cycle) cycles)

pub number-after_cycles : (stand : Stand) (going : Going) (cycles : List Cycle)
    → (after_cycles stand going cycles).number ≡ going.number + length cycles
unfolding after_cycles
number-after_cycles stand going [] = omega arith
number-after_cycles stand going (cycle ∷ cycles) =
    let later = number-after_cycles stand (after_cycle stand going cycle) cycles in
    omega (arith, later)

-- ---- fails

pub fails_in-append : (xs ys : List PlayedCycle) → fails_in (xs ++ ys) ≡ fails_in xs ++ fails_in ys
unfolding fails_in
fails_in-append xs ys = flat_map-append (λ (cycle : PlayedCycle). cycle.fails) xs ys

-- of a sum, whether there is one
pub some_of_sum : (a b : ℕ) → ltb 0 (a + b) ≡ (ltb 0 a || ltb 0 b)
some_of_sum a b =
    elim (cases_lt 0 a) [
      | inl h ↦ lt-ltb 0 (a + b) (omega arith) ∙ ap (λ (x : Bool). x || ltb 0 b) (sym (lt-ltb 0 a h))
      | inr h ↦
          let e : a + b ≡ b = omega arith in
          ap (ltb 0) e ∙ ap (λ (x : Bool). x || ltb 0 b) (sym (le-ltb 0 a h))
    ]

pub has_fails-append : (xs ys : List PlayedCycle) → has_fails (xs ++ ys) ≡ (has_fails xs || has_fails ys)
has_fails-append xs ys =
    ap (λ (l : List Fail). ltb 0 (length l)) (fails_in-append xs ys)
    ∙ ap (ltb 0) (length-append (fails_in xs) (fails_in ys))
    ∙ some_of_sum (length (fails_in xs)) (length (fails_in ys))

-- ---- pieces

-- the first piece, and those behind it
pub pieces_more : {X : Type 0} (more left : ℕ) (x : X) (xs : List X)
    → pieces more left (x ∷ xs) ≡ take (suc left) (x ∷ xs) ∷ pieces more more (drop (suc left) (x ∷ xs))
unfolding pieces
pieces_more more zero x xs = refl
pieces_more more (suc left) x [] = refl
pieces_more {X} more (suc left) x (y ∷ ys) = ap (λ (l : List (List X)). in_first x l) (pieces_more more left y ys)

pub pieces_of_some : {X : Type 0} (more : ℕ) (xs : List X) → 0 < length xs
    → pieces more more xs ≡ take (suc more) xs ∷ pieces more more (drop (suc more) xs)
pieces_of_some more [] some = absurd (omega arith)
pieces_of_some more (x ∷ xs) some = pieces_more more more x xs

-- pieces, one after another, are the items
joined-in_first : {X : Type 0} (x : X) (ps : List (List X)) → flat_map (λ (p : List X). p) (in_first x ps) ≡ x ∷ flat_map (λ (p : List X). p) ps
joined-in_first x [] = refl
joined-in_first x (p ∷ ps) = refl

pub joined-pieces : {X : Type 0} (more left : ℕ) (xs : List X) → flat_map (λ (p : List X). p) (pieces more left xs) ≡ xs
unfolding pieces
joined-pieces more left [] = refl
joined-pieces {X} more zero (x ∷ xs) = ap (λ (l : List X). x ∷ l) (joined-pieces more more xs)
joined-pieces {X} more (suc left) (x ∷ xs) =
    joined-in_first x (pieces more left xs) ∙ ap (λ (l : List X). x ∷ l) (joined-pieces more left xs)

-- the same of played cycles, as it is said publicly
pub first_piece : (more left : ℕ) (cycles : List PlayedCycle) → 0 < length cycles
    → pieces more left cycles ≡ take (left + 1) cycles ∷ pieces more more (drop (left + 1) cycles)
first_piece more left [] some = absurd (omega (arith, some))
first_piece more left (c ∷ cycles) some =
    let next : suc left ≡ left + 1 = omega arith in
    pieces_more more left c cycles
    ∙ ap (λ (n : ℕ). take n (c ∷ cycles) ∷ pieces more more (drop n (c ∷ cycles))) next
