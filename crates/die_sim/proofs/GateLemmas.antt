-- A gate gives the same over levels that are alike at the nets that it reads.
use Rattle.std.proofs.Common.{◌≡◌, ℕ, ◌<◌, Bool, cond, List, [], ◌∷◌, length, refl, ap, ◌∙◌, arith, None, Option}
use Rattle.std.specs.Prelude.{count_by, All, slice_index, slice_index_or, unwrap_or}
use Rattle.std.proofs.lemmas.List.Elements.{All-head, All-tail, All-get_or, All-from_get_or}
use Rattle.std.proofs.lemmas.List.Sums.{sum_by-cons}
use Rattle.tester_types.specs.declared.level.Level.{Level}
use Rattle.bench_net.specs.declared.gate.Driver.{Driver}
use Rattle.bench_net.specs.declared.gate.Driver.TheVariants.{Input, Dff, Gate}
use Rattle.bench_net.specs.declared.gate.GateKind.{GateKind}
use Rattle.bench_net.specs.declared.gate.GateKind.TheVariants.{And, Nand, Or, Nor, Xor, Xnor, Not, Buf}
use Rattle.bench_net.specs.Wiring.{driver_at, pins_of, pins_at, IsWired}
use Rattle.bench_net.specs.Gates.{level_at, is_zero, is_one, zeros, ones, and_of, or_of, xor_of, negated, read, gate_of}
use Rattle.die_sim.specs.Die.{driven, wanted}

-- two tests that say the same of each element count the same
count_same : (p q : ℕ → Bool) (xs : List ℕ) → All (λ x. p x ≡ q x) xs → count_by p xs ≡ count_by q xs
count_same p q [] same = refl
count_same p q (x ∷ xs) same =
    let a = sum_by-cons (λ y. cond {A = ℕ} (p y) 1 0) x xs in
    let b = sum_by-cons (λ y. cond {A = ℕ} (q y) 1 0) x xs in
    let here : cond {A = ℕ} (p x) 1 0 ≡ cond {A = ℕ} (q x) 1 0 = ap (λ t. cond {A = ℕ} t 1 0) (All-head (λ y. p y ≡ q y) x xs same) in
    omega (arith, a, b, here, count_same p q xs (All-tail (λ y. p y ≡ q y) x xs same))

-- a test of levels says the same of nets at which the levels are alike
tests_same : (f : Level → Bool) (v w : List Level) (pins : List ℕ) → All (λ p. level_at v p ≡ level_at w p) pins
    → All (λ p. f (level_at v p) ≡ f (level_at w p)) pins
tests_same f v w pins same = All-from_get_or (λ p. f (level_at v p) ≡ f (level_at w p)) pins 0 (λ i l. ap f (All-get_or (λ p. level_at v p ≡ level_at w p) pins i 0 l same))

counts_same : (f : Level → Bool) (v w : List Level) (pins : List ℕ) → All (λ p. level_at v p ≡ level_at w p) pins
    → count_by (λ p. f (level_at v p)) pins ≡ count_by (λ p. f (level_at w p)) pins
counts_same f v w pins same = count_same (λ p. f (level_at v p)) (λ p. f (level_at w p)) pins (tests_same f v w pins same)

first_same : (v w : List Level) (pins : List ℕ) → 0 < length pins → All (λ p. level_at v p ≡ level_at w p) pins
    → level_at v (slice_index pins 0) ≡ level_at w (slice_index pins 0)
first_same v w [] some same = absurd (omega arith)
first_same v w (p ∷ ps) some same = All-head (λ q. level_at v q ≡ level_at w q) p ps same

by_counts : (f : ℕ → ℕ → ℕ → Level) (v w : List Level) (pins : List ℕ) → All (λ p. level_at v p ≡ level_at w p) pins
    → f (zeros v pins) (ones v pins) (length pins) ≡ f (zeros w pins) (ones w pins) (length pins)
by_counts f v w pins same =
    ap (λ n. f n (ones v pins) (length pins)) (counts_same is_zero v w pins same)
    ∙ ap (λ n. f (zeros w pins) n (length pins)) (counts_same is_one v w pins same)

-- levels that are alike at a gate's pins give it the same
gate_of-same : (kind : GateKind) (v w : List Level) (pins : List ℕ) → 0 < length pins
    → All (λ p. level_at v p ≡ level_at w p) pins → gate_of kind v pins ≡ gate_of kind w pins
gate_of-same And v w pins some same = by_counts and_of v w pins same
gate_of-same Nand v w pins some same = ap negated (by_counts and_of v w pins same)
gate_of-same Or v w pins some same = by_counts or_of v w pins same
gate_of-same Nor v w pins some same = ap negated (by_counts or_of v w pins same)
gate_of-same Xor v w pins some same = by_counts xor_of v w pins same
gate_of-same Xnor v w pins some same = ap negated (by_counts xor_of v w pins same)
gate_of-same Not v w pins some same = ap negated (first_same v w pins some same)
gate_of-same Buf v w pins some same = ap read (first_same v w pins some same)

pub driven-same : (nets : ℕ) (d : Driver) (own : Level) (v w : List Level) → IsWired nets d
    → All (λ p. level_at v p ≡ level_at w p) (pins_of d) → driven d own v ≡ driven d own w
driven-same nets Input own v w wired same = refl
driven-same nets (Dff p) own v w wired same = refl
driven-same nets (Gate kind pins) own v w wired same = gate_of-same kind v w pins wired.0 same

-- what a net must have is the same over levels that are alike at its pins
pub wanted-same : (drivers : List Driver) (fixed : List (Option Level)) (held v w : List Level) (n : ℕ)
    → IsWired (length drivers) (driver_at drivers n) → All (λ p. level_at v p ≡ level_at w p) (pins_at drivers n)
    → wanted drivers fixed held v n ≡ wanted drivers fixed held w n
wanted-same drivers fixed held v w n wired same = ap (unwrap_or (slice_index_or fixed n None)) (driven-same (length drivers) (driver_at drivers n) (level_at held n) v w wired same)
