-- Known gates, levels and edges, which the definitions must give.
use Rattle.std.proofs.Common.{◌≡◌, [], ◌∷◌, refl}
use Rattle.tester_types.specs.declared.level.Level.TheVariants.{Zero, One, X, Z}
use Rattle.bench_net.specs.declared.gate.GateKind.TheVariants.{And, Nand, Or, Nor, Xor, Xnor, Not, Buf}
use Rattle.die_sim.specs.declared.moment.Edge.TheVariants.{Takes, Doubts, Keeps}
use Rattle.bench_net.specs.Gates.{gate_of}
use Rattle.die_sim.specs.Moment.{edge, capture}

-- an AND with a 0 and an unknown pin is 0, with a 1 and an off pin unknown
and_zero : gate_of And (Zero ∷ X ∷ []) (0 ∷ 1 ∷ []) ≡ Zero
and_zero = refl

and_off : gate_of And (One ∷ Z ∷ []) (0 ∷ 1 ∷ []) ≡ X
and_off = refl

nand_ones : gate_of Nand (One ∷ One ∷ []) (0 ∷ 1 ∷ []) ≡ Zero
nand_ones = refl

or_one : gate_of Or (Z ∷ One ∷ []) (0 ∷ 1 ∷ []) ≡ One
or_one = refl

nor_off : gate_of Nor (Zero ∷ Z ∷ []) (0 ∷ 1 ∷ []) ≡ X
nor_off = refl

-- XOR of three pins is their parity, and unknown where one is
xor_three : gate_of Xor (One ∷ One ∷ One ∷ []) (0 ∷ 1 ∷ 2 ∷ []) ≡ One
xor_three = refl

xor_unknown : gate_of Xor (One ∷ X ∷ One ∷ []) (0 ∷ 1 ∷ 2 ∷ []) ≡ X
xor_unknown = refl

xnor_two : gate_of Xnor (One ∷ Zero ∷ []) (0 ∷ 1 ∷ []) ≡ Zero
xnor_two = refl

not_off : gate_of Not (Z ∷ []) (0 ∷ []) ≡ X
not_off = refl

buf_off : gate_of Buf (Z ∷ []) (0 ∷ []) ≡ X
buf_off = refl

-- a net that stands twice among the pins counts twice
and_twice : gate_of And (One ∷ []) (0 ∷ 0 ∷ []) ≡ One
and_twice = refl

-- the clock's edges
edge_rises : edge Zero One ≡ Takes
edge_rises = refl

edge_falls : edge One Zero ≡ Keeps
edge_falls = refl

edge_from_off : edge Z One ≡ Doubts
edge_from_off = refl

-- a flip-flop takes an off level as unknown, and keeps its own in doubt where the D net has it too
takes_off : capture Takes One Z ≡ X
takes_off = refl

doubts_equal : capture Doubts One One ≡ One
doubts_equal = refl

doubts_unequal : capture Doubts One Zero ≡ X
doubts_unequal = refl
