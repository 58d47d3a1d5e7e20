-- The looks of a moment one after another, and a moment without drives.
use Rattle.std.proofs.Common.{◌≡◌, ℕ, ◌+◌, ◌-◌, ◌^◌, ◌<◌, ◌&&◌, Bool, true, false, not, min, List, [], ◌∷◌, refl, sym, ap, ◌∙◌, subst, arith}
use Rattle.std.specs.Prelude.{bit_and}
use Rattle.std.specs.Int.{bit_at}
use Rattle.std.specs.List.{list_all, range_with_len}
use Rattle.std.proofs.lemmas.List.Folds.{list_all-append}
use Rattle.std.proofs.Math.Bool.{and-true}
use Rattle.std.proofs.lemmas.Nat.Bits.{bit_at-lt}
use Rattle.text_bytes.proofs.ListLemmas.{range-push}
use Rattle.tester_types.specs.declared.level.Drive.{Drive}
use Rattle.bench_net.specs.Circuit.{Circuit, IsWhole}
use Rattle.die_sim.specs.Die.{Device, State}
use Rattle.die_sim.specs.Stepped.{stepped}
use Rattle.die_sim.proofs.SteppedLemmas.{step_is_stepped}
use Rattle.cycle_run.proofs.SocketLemmas.{still}
use Rattle.die_words.specs.Lane.{bit}
use Rattle.die_words.specs.Lanes.{Lanes, IsLaneOf}
use Rattle.die_words.proofs.WordLemmas.{and_is, not_is}

-- ---- bits of lanes

-- two tests one after another
pub both_bits : (a : ℕ) (x y : Bool) → a < 2 → min (min a (bit x)) (bit y) ≡ min a (bit (x && y))
both_bits a true true l = omega arith
both_bits a true false l = omega arith
both_bits a false true l = omega arith
both_bits a false false l = omega arith

-- a further test
pub bits_more : (alive left next k : ℕ) (x y z : Bool) → z ≡ (x && y) → bit_at left k ≡ min (bit_at alive k) (bit x)
    → bit_at next k ≡ min (bit_at left k) (bit y) → bit_at next k ≡ min (bit_at alive k) (bit z)
bits_more alive left next k x y z is before here =
    here ∙ ap (λ (n : ℕ). min n (bit y)) before ∙ both_bits (bit_at alive k) x y (bit_at-lt alive k)
    ∙ ap (λ (b : Bool). min (bit_at alive k) (bit b)) (sym is)

flip : (m : Bool) → 1 - bit (not m) ≡ bit m
flip true = refl
flip false = refl

-- the lanes that a look doesn't fail in
pub met_here : (alive f k : ℕ) (m : Bool) → f < 2 ^ 64 → k < 64 → bit_at f k ≡ bit (not m)
    → bit_at (bit_and alive (18446744073709551615 - f)) k ≡ min (bit_at alive k) (bit m)
met_here alive f k m small lane here =
    and_is alive (18446744073709551615 - f) k (bit_at alive k) (1 - bit (not m)) refl (not_is f k (bit (not m)) small lane here)
    ∙ ap (min (bit_at alive k)) (flip m)

-- ---- looks and windows one after another

-- numbers from 0 on, and one more
pub all_numbers-more : (p : ℕ → Bool) (n : ℕ) → list_all p (range_with_len 0 (n + 1)) ≡ (list_all p (range_with_len 0 n) && p n)
all_numbers-more p n =
    ap (λ (l : List ℕ). list_all p l) (range-push 0 n) ∙ list_all-append p (range_with_len 0 n) ((0 + n) ∷ [])
    ∙ ap (λ (b : Bool). list_all p (range_with_len 0 n) && b) (and-true (p (0 + n)) ∙ ap p (none n))
  where
    none : (m : ℕ) → 0 + m ≡ m
    none m = omega arith

-- ---- no drives

-- a die that isn't driven stays as it is
pub undriven : (lanes : Lanes) (k : ℕ) (device : Device) (state : State) (drives : List (ℕ × Drive))
    → IsWhole lanes.image.circuit → drives ≡ [] → IsLaneOf lanes k device state → IsLaneOf lanes k device (stepped device state drives)
undriven lanes k device state drives whole none h =
    let whole_there = subst (λ (c : Circuit). IsWhole c) (sym h.net.circuit) whole in
    let same : state ≡ stepped device state [] = (step_is_stepped device state state [] whole_there h.size).0 (still device state h.settled) in
    subst (λ (s : State). IsLaneOf lanes k device s) (same ∙ ap (λ (l : List (ℕ × Drive)). stepped device state l) (sym none)) h
