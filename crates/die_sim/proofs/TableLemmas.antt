-- The table is right: an entry for a pair is what the row gives, and pairs one after another give what the counts do.
use Rattle.std.proofs.Common.{◌≡◌, ℕ, ◌+◌, ◌*◌, ◌<◌, ◌≤◌, Bool, true, ◌&&◌, cond, List, [], ◌∷◌, length, get_or, take, refl, sym, ap, ◌∙◌, arith}
use Rattle.std.proofs.lemmas.Grind.{common_steps}
use Rattle.std.specs.Prelude.{slice_index, slice_index_or}
use Rattle.std.proofs.lemmas.List.Sums.{sum_by-cons, sum_by_more}
use Rattle.std.proofs.lemmas.Bool.{and_parts}
use Rattle.std.proofs.lemmas.List.{take_all, length-take-le}
use Rattle.tester_types.specs.declared.level.Level.{Level}
use Rattle.tester_types.specs.declared.level.Level.TheVariants.{Zero, One, X, Z}
use Rattle.bench_net.specs.declared.gate.GateKind.{GateKind}
use Rattle.bench_net.specs.declared.gate.GateKind.TheVariants as kind
use Rattle.die_sim.specs.declared.table.Row.{Row}
use Rattle.die_sim.specs.declared.table.Row.TheVariants.{And, Nand, Or, Nor, Xor, Xnor, Low, High}
use Rattle.bench_net.specs.Gates.{level_at, is_zero, is_one, zeros, ones, negated, read, and_of, or_of, xor_of, gate_of, is_single}
use Rattle.die_sim.specs.Walk.{same_level}
use Rattle.die_sim.specs.Table.{entries, gives, pair_of, base_of, unit_of, row_of}
use Rattle.die_sim.proofs.WalkLemmas.{same_level-true}
use denote.Enum.Declared.{tag_of}
use Rattle.die_sim.specs.contracts.table.Row as row_type
use Rattle.tester_types.specs.contracts.level.Level as level_type

-- a test of all levels
abbrev pub all_levels : (Level → Bool) → Bool
all_levels p = p Zero && (p One && (p X && p Z))

-- each level passes a test that all pass
pub at_level : (p : Level → Bool) → all_levels p ≡ true → (l : Level) → p l ≡ true
at_level p e Zero = (and_parts (p Zero) (p One && (p X && p Z)) e).0
at_level p e One = (and_parts (p One) (p X && p Z) (and_parts (p Zero) (p One && (p X && p Z)) e).1).0
at_level p e X = (and_parts (p X) (p Z) (and_parts (p One) (p X && p Z) (and_parts (p Zero) (p One && (p X && p Z)) e).1).1).0
at_level p e Z = (and_parts (p X) (p Z) (and_parts (p One) (p X && p Z) (and_parts (p Zero) (p One && (p X && p Z)) e).1).1).1

-- two functions of two levels are one where the test of all levels says so
pub by_test : (f g : Level → Level → Level) → all_levels (λ a. all_levels (λ b. same_level (f a b) (g a b))) ≡ true
    → (a b : Level) → f a b ≡ g a b
by_test f g e a b = same_level-true (f a b) (g a b) (at_level (λ y. same_level (f a y) (g a y)) (at_level (λ x. all_levels (λ y. same_level (f x y) (g x y))) e a) b)

-- 1 where it is so, else 0
abbrev pub bit : Bool → ℕ
bit b = cond {A = ℕ} b 1 0

-- one more level, beside counts of fewer
and_step : (z o n : ℕ) (l : Level) → z + o ≤ n
    → pair_of And (and_of z o n) l ≡ and_of (z + bit (is_zero l)) (o + bit (is_one l)) (n + 1)
and_step z o n Zero h = grind (arith, common_steps)
and_step z o n One h = grind (arith, common_steps)
and_step z o n X h = grind (arith, common_steps)
and_step z o n Z h = grind (arith, common_steps)

or_step : (z o n : ℕ) (l : Level) → z + o ≤ n
    → pair_of Or (or_of z o n) l ≡ or_of (z + bit (is_zero l)) (o + bit (is_one l)) (n + 1)
or_step z o n Zero h = grind (arith, common_steps)
or_step z o n One h = grind (arith, common_steps)
or_step z o n X h = grind (arith, common_steps)
or_step z o n Z h = grind (arith, common_steps)

xor_step : (z o n : ℕ) (l : Level) → z + o ≤ n
    → pair_of Xor (xor_of z o n) l ≡ xor_of (z + bit (is_zero l)) (o + bit (is_one l)) (n + 1)
xor_step z o n Zero h = grind (arith, common_steps)
xor_step z o n One h = grind (arith, common_steps)
xor_step z o n X h = grind (arith, common_steps)
xor_step z o n Z h = grind (arith, common_steps)

pub base_step : (r : Row) (z o n : ℕ) (l : Level) → z + o ≤ n
    → pair_of (base_of r) (gives (base_of r) z o n) l ≡ gives (base_of r) (z + bit (is_zero l)) (o + bit (is_one l)) (n + 1)
base_step And z o n l h = and_step z o n l h
base_step Nand z o n l h = and_step z o n l h
base_step Or z o n l h = or_step z o n l h
base_step Nor z o n l h = or_step z o n l h
base_step Xor z o n l h = xor_step z o n l h
base_step Xnor z o n l h = xor_step z o n l h
base_step Low z o n l h = refl
base_step High z o n l h = refl

-- the negation at the end
and_end : (z o n : ℕ) → pair_of And One (and_of z o n) ≡ and_of z o n
and_end z o n = grind (arith, common_steps)

nand_end : (z o n : ℕ) → pair_of Nand One (and_of z o n) ≡ negated (and_of z o n)
nand_end z o n = grind (arith, common_steps)

or_end : (z o n : ℕ) → pair_of Or Zero (or_of z o n) ≡ or_of z o n
or_end z o n = grind (arith, common_steps)

nor_end : (z o n : ℕ) → pair_of Nor Zero (or_of z o n) ≡ negated (or_of z o n)
nor_end z o n = grind (arith, common_steps)

xor_end : (z o n : ℕ) → pair_of Xor Zero (xor_of z o n) ≡ xor_of z o n
xor_end z o n = grind (arith, common_steps)

xnor_end : (z o n : ℕ) → pair_of Xnor Zero (xor_of z o n) ≡ negated (xor_of z o n)
xnor_end z o n = grind (arith, common_steps)

pub base_end : (r : Row) (z o n : ℕ) → pair_of r (unit_of r) (gives (base_of r) z o n) ≡ gives r z o n
base_end And z o n = and_end z o n
base_end Nand z o n = nand_end z o n
base_end Or z o n = or_end z o n
base_end Nor z o n = nor_end z o n
base_end Xor z o n = xor_end z o n
base_end Xnor z o n = xnor_end z o n
base_end Low z o n = refl
base_end High z o n = refl

-- no more levels are 0 or 1 than there are
zero_or_one : (l : Level) → bit (is_zero l) + bit (is_one l) ≤ 1
zero_or_one Zero = omega arith
zero_or_one One = omega arith
zero_or_one X = omega arith
zero_or_one Z = omega arith

pub counts_within : (v : List Level) (pins : List ℕ) → zeros v pins + ones v pins ≤ length pins
counts_within v [] = omega arith
counts_within v (p ∷ ps) =
    let z = sum_by-cons (λ q. bit (is_zero (level_at v q))) p ps in
    let o = sum_by-cons (λ q. bit (is_one (level_at v q))) p ps in
    omega (arith, z, o, zero_or_one (level_at v p), counts_within v ps)

-- the levels of one more net
pub many_more : (r base : Row) (v : List Level) (pins : List ℕ) (i : ℕ) (level x : Level) → base ≡ base_of r
    → i < length pins → level ≡ gives (base_of r) (zeros v (take i pins)) (ones v (take i pins)) i
    → x ≡ pair_of base level (level_at v (get_or pins i 0))
    → x ≡ gives (base_of r) (zeros v (take (i + 1) pins)) (ones v (take (i + 1) pins)) (i + 1)
many_more r base v pins i level x base_is within level_is x_is =
    let z = sum_by_more (λ q. bit (is_zero (level_at v q))) pins i 0 within in
    let o = sum_by_more (λ q. bit (is_one (level_at v q))) pins i 0 within in
    let few : zeros v (take i pins) + ones v (take i pins) ≤ i = omega (arith, within, counts_within v (take i pins), length-take-le i pins (omega (arith, within))) in
    x_is
    ∙ ap (λ (b : Row). pair_of b level (level_at v (get_or pins i 0))) base_is
    ∙ ap (λ (l : Level). pair_of (base_of r) l (level_at v (get_or pins i 0))) level_is
    ∙ base_step r (zeros v (take i pins)) (ones v (take i pins)) i (level_at v (get_or pins i 0)) few
    ∙ ap (λ (n : ℕ). gives (base_of r) n (ones v (take i pins) + bit (is_one (level_at v (get_or pins i 0)))) (i + 1)) (sym z)
    ∙ ap (λ (n : ℕ). gives (base_of r) (zeros v (take (i + 1) pins)) n (i + 1)) (sym o)

-- the levels of all of them
pub many_done : (r : Row) (v : List Level) (pins : List ℕ) (i : ℕ) (unit level x : Level) → unit ≡ unit_of r
    → length pins ≤ i → i ≤ length pins → level ≡ gives (base_of r) (zeros v (take i pins)) (ones v (take i pins)) i
    → x ≡ pair_of r unit level → x ≡ gives r (zeros v pins) (ones v pins) (length pins)
many_done r v pins i unit level x unit_is over within level_is x_is =
    let all : take i pins ≡ pins = take_all i pins over in
    x_is
    ∙ ap (λ (u : Level). pair_of r u level) unit_is
    ∙ ap (λ (l : Level). pair_of r (unit_of r) l) level_is
    ∙ base_end r (zeros v (take i pins)) (ones v (take i pins)) i
    ∙ ap (λ (ps : List ℕ). gives r (zeros v ps) (ones v ps) i) all
    ∙ ap (λ (n : ℕ). gives r (zeros v pins) (ones v pins) n) (omega (arith, over, within))

-- one net
nand_one : (l : Level) → gives Nand (0 + bit (is_zero l)) (0 + bit (is_one l)) 1 ≡ negated l
nand_one Zero = refl
nand_one One = refl
nand_one X = refl
nand_one Z = refl

and_one : (l : Level) → gives And (0 + bit (is_zero l)) (0 + bit (is_one l)) 1 ≡ read l
and_one Zero = refl
and_one One = refl
and_one X = refl
and_one Z = refl

not_is : (v : List Level) (pins : List ℕ) → length pins ≡ 1
    → gives Nand (zeros v pins) (ones v pins) (length pins) ≡ negated (level_at v (slice_index pins 0))
not_is v [] e = absurd (omega (arith, e))
not_is v (p ∷ []) e = nand_one (level_at v p)
not_is v (p ∷ q ∷ ps) e = absurd (omega (arith, e))

buf_is : (v : List Level) (pins : List ℕ) → length pins ≡ 1
    → gives And (zeros v pins) (ones v pins) (length pins) ≡ read (level_at v (slice_index pins 0))
buf_is v [] e = absurd (omega (arith, e))
buf_is v (p ∷ []) e = and_one (level_at v p)
buf_is v (p ∷ q ∷ ps) e = absurd (omega (arith, e))

-- a gate gives what its row gives
pub row_is : (k : GateKind) (v : List Level) (pins : List ℕ) → (is_single k ≡ true → length pins ≡ 1)
    → gives (row_of k) (zeros v pins) (ones v pins) (length pins) ≡ gate_of k v pins
row_is kind.And v pins single = refl
row_is kind.Nand v pins single = refl
row_is kind.Or v pins single = refl
row_is kind.Nor v pins single = refl
row_is kind.Xor v pins single = refl
row_is kind.Xnor v pins single = refl
row_is kind.Not v pins single = not_is v pins (single refl)
row_is kind.Buf v pins single = buf_is v pins (single refl)

-- where the entry of a row and two levels stands
abbrev pub place_of : Row → Level → Level → ℕ
place_of r a b = tag_of row_type.the_type r * 16 + tag_of level_type.the_type a * 4 + tag_of level_type.the_type b

-- the entry is what the row gives
pub entry_is : (r : Row) (a b : Level) → slice_index_or entries (place_of r a b) Zero ≡ pair_of r a b
entry_is And a b = by_test (λ a b. slice_index_or entries (place_of And a b) Zero) (pair_of And) refl a b
entry_is Nand a b = by_test (λ a b. slice_index_or entries (place_of Nand a b) Zero) (pair_of Nand) refl a b
entry_is Or a b = by_test (λ a b. slice_index_or entries (place_of Or a b) Zero) (pair_of Or) refl a b
entry_is Nor a b = by_test (λ a b. slice_index_or entries (place_of Nor a b) Zero) (pair_of Nor) refl a b
entry_is Xor a b = by_test (λ a b. slice_index_or entries (place_of Xor a b) Zero) (pair_of Xor) refl a b
entry_is Xnor a b = by_test (λ a b. slice_index_or entries (place_of Xnor a b) Zero) (pair_of Xnor) refl a b
entry_is Low a b = by_test (λ a b. slice_index_or entries (place_of Low a b) Zero) (pair_of Low) refl a b
entry_is High a b = by_test (λ a b. slice_index_or entries (place_of High a b) Zero) (pair_of High) refl a b
