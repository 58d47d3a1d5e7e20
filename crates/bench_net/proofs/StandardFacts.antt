-- Known lines and netlists, whose readings the definitions must give.
use Rattle.std.proofs.Common.{◌≡◌, ℕ, zero, suc, ◌<◌, ◌||◌, List, [], ◌∷◌, ◌++◌, true, false, refl, Some, None, arith}
use Rattle.std.specs.Prelude.{codes, All, ◌==◌, nat_lt}
use Rattle.std.specs.Str.Lines.{lines}
use Rattle.bench_net.specs.Gates.{function_of}
use Rattle.bench_net.specs.Wiring.{gate_at, pins_at, IsUnreached}
use Rattle.bench_net.specs.declared.gate.GateKind.TheVariants.{And, Nand, Xor, Not, Buf}
use Rattle.bench_net.specs.declared.gate.Function.TheVariants.{Logic, Register}
use Rattle.bench_net.specs.declared.gate.Driver.TheVariants.{Input, Dff, Gate}
use Rattle.bench_net.specs.Line.{Form, input, output, gate}
use Rattle.bench_net.specs.Net.{names, net_of, arity_fault, twice_fault, missing_fault}

-- a flip-flop that reads its own gate: INPUT(a), OUTPUT(q), q = DFF(d), d = XOR(a, q)
abbrev toggle : List Form
toggle =
    input (codes "a") ∷ output (codes "q") ∷ gate (codes "q") Register (codes "d" ∷ [])
    ∷ gate (codes "d") (Logic Xor) (codes "a" ∷ codes "q" ∷ []) ∷ []

toggle_names : names toggle ≡ codes "a" ∷ codes "q" ∷ codes "d" ∷ []
toggle_names = refl

toggle_drivers : (net_of toggle).drivers ≡ Input ∷ Dff 2 ∷ Gate Xor (0 ∷ 1 ∷ []) ∷ []
toggle_drivers = refl

toggle_outputs : (net_of toggle).outputs ≡ false ∷ true ∷ false ∷ []
toggle_outputs = refl

-- a keyword in mixed case
mixed_case : function_of (codes "nAnD") ≡ Some (Logic Nand)
mixed_case = refl

buff_is_buf : function_of (codes "buff") ≡ Some (Logic Buf)
buff_is_buf = refl

-- a name's case counts
names_have_case : names (input (codes "a") ∷ input (codes "A") ∷ []) ≡ codes "a" ∷ codes "A" ∷ []
names_have_case = refl

-- NOT of two nets, and AND of one
not_of_two : arity_fault (gate (codes "x") (Logic And) (codes "a" ∷ []) ∷ gate (codes "y")
    (Logic Not) (codes "a" ∷ codes "b" ∷ []) ∷ []) ≡ Some (codes "y")
not_of_two = refl

-- a second driver of a net, and a second OUTPUT, which is the same output
second_driver : twice_fault
    (input (codes "a") ∷ output (codes "a") ∷ output (codes "a") ∷ gate (codes "a") (Logic Buf)
    (codes "b" ∷ []) ∷ []) ≡ Some (codes "a")
second_driver = refl

second_output : twice_fault (input (codes "a") ∷ output (codes "a") ∷ output (codes "a") ∷ [])
    ≡ None
second_output = refl

-- the first use from the left of a net without a driver
missing_input : missing_fault
    (input (codes "a") ∷ gate (codes "y") (Logic And) (codes "a" ∷ codes "b" ∷ codes "c" ∷ []) ∷ [])
    ≡ Some (codes "b")
missing_input = refl

-- a carriage return before a line feed belongs to the line's end, and one elsewhere to the line
returns : lines (codes "a" ++ 13 ∷ 10 ∷ 13 ∷ codes "b" ++ 13 ∷ [])
    ≡ codes "a" ∷ (13 ∷ codes "b" ++ 13 ∷ []) ∷ []
returns = refl

-- a last line without a line feed is a line, and an empty one behind the last line feed is none
last_line : lines (codes "a" ++ 10 ∷ 10 ∷ codes "b") ≡ codes "a" ∷ [] ∷ codes "b" ∷ []
last_line = refl

no_last_line : lines (codes "a" ++ 10 ∷ []) ≡ codes "a" ∷ []
no_last_line = refl

-- one gate that reads itself: INPUT(a), y = AND(a, y)
abbrev ring : List Form
ring = input (codes "a") ∷ gate (codes "y") (Logic And) (codes "a" ∷ codes "y" ∷ []) ∷ []

-- the set of the input alone holds all that its rules ask, and y is outside
ring_unreached : IsUnreached (net_of ring).drivers 1
ring_unreached = record {
  set = λ n. n == 0 || nat_lt 1 n;
  closed = record { sources = sources; gates = gates };
  outside = refl;
}
  where
    sources : (n : ℕ) → n < 2 → gate_at (net_of ring).drivers n ≡ false → (n == 0 || nat_lt 1 n)
        ≡ true
    sources zero l e = refl
    sources (suc zero) l e = cc
    sources (suc (suc n)) l e = absurd (omega arith)

    gates : (n : ℕ) → n < 2 → gate_at (net_of ring).drivers n ≡ true
        → All (λ p. (p == 0 || nat_lt 1 p) ≡ true) (pins_at (net_of ring).drivers n)
        → (n == 0 || nat_lt 1 n) ≡ true
    gates zero l e all = refl
    gates (suc zero) l e all = all 1 0 (omega arith)
    gates (suc (suc n)) l e all = absurd (omega arith)
