-- The gates of the ISCAS-89 bench form: the keyword of each, how many nets it takes, and what it gives over the levels
-- 0, 1, unknown and off. A gate reads off as unknown.
use Rattle.std.specs.Prelude.{◌==◌, ◌+◌, ◌%◌, ℕ, Bool, true, false, not, nat_lt, if◌then◌else◌, List, [], ◌∷◌, length, count_by, slice_index, slice_index_or, codes, Option}
use Rattle.std.specs.List.{find}
use Rattle.std.specs.Option.{option_map}
use Rattle.std.specs.Str.{str_eq_ignore_ascii_case}
use Rattle.text_bytes.specs.Limits.{most_inputs}
use Rattle.tester_types.specs.declared.level.Level.{Level}
use Rattle.tester_types.specs.declared.level.Level.TheVariants.{Zero, One, X, Z}
use Rattle.bench_net.specs.declared.gate.GateKind.{GateKind}
use Rattle.bench_net.specs.declared.gate.GateKind.TheVariants.{And, Nand, Or, Nor, Xor, Xnor, Not, Buf}
use Rattle.bench_net.specs.declared.gate.Function.{Function}
use Rattle.bench_net.specs.declared.gate.Function.TheVariants.{Logic, Register}

-- ---- keywords

-- the functions by their keywords; BUF and BUFF are one function
abbrev pub function_names : List (List ℕ × Function)
function_names =
    (codes "AND", Logic And) ∷ (codes "NAND", Logic Nand) ∷ (codes "OR", Logic Or) ∷ (codes "NOR", Logic Nor)
    ∷ (codes "XOR", Logic Xor) ∷ (codes "XNOR", Logic Xnor) ∷ (codes "NOT", Logic Not)
    ∷ (codes "BUF", Logic Buf) ∷ (codes "BUFF", Logic Buf) ∷ (codes "DFF", Register) ∷ []

-- the function of a keyword, in any case of its letters
abbrev pub function_of : List ℕ → Option Function
function_of w = option_map (λ row. row.1) (find (λ row. str_eq_ignore_ascii_case w row.0) function_names)

-- ---- how many nets each takes

-- a gate that takes exactly one pin
abbrev pub is_single : GateKind → Bool
is_single And = false
is_single Nand = false
is_single Or = false
is_single Nor = false
is_single Xor = false
is_single Xnor = false
is_single Not = true
is_single Buf = true

-- whether a function can't take so many nets: NOT, BUF, BUFF and DFF take one, any other at most
-- 1,024
abbrev pub takes_not : Function → ℕ → Bool
takes_not (Logic kind) pins = if is_single kind then not (pins == 1) else nat_lt most_inputs pins
takes_not Register pins = not (pins == 1)

-- ---- what each gives

-- the level of a net, by the levels of all nets
abbrev pub level_at : List Level → ℕ → Level
level_at v n = slice_index_or v n Zero

-- whether the level is 0
abbrev pub is_zero : Level → Bool
is_zero Zero = true
is_zero One = false
is_zero X = false
is_zero Z = false

-- whether the level is 1
abbrev pub is_one : Level → Bool
is_one Zero = false
is_one One = true
is_one X = false
is_one Z = false

-- a level as a gate, the clock or a flip-flop reads it: off is unknown
abbrev pub read : Level → Level
read Zero = Zero
read One = One
read X = X
read Z = X

-- the other one of 0 and 1; unknown stays unknown
abbrev pub negated : Level → Level
negated Zero = One
negated One = Zero
negated X = X
negated Z = X

-- how many of these nets are at 0
abbrev pub zeros : List Level → List ℕ → ℕ
zeros v pins = count_by (λ p. is_zero (level_at v p)) pins

-- how many of these nets are at 1
abbrev pub ones : List Level → List ℕ → ℕ
ones v pins = count_by (λ p. is_one (level_at v p)) pins

-- AND of so many levels, of which so many are 0 and so many 1: 0 where one is 0, 1 where all are 1, else unknown
abbrev pub and_of : ℕ → ℕ → ℕ → Level
and_of zero_count one_count all = if nat_lt 0 zero_count then Zero else (if one_count == all then One else X)

-- OR: 1 where one is 1, 0 where all are 0, else unknown
abbrev pub or_of : ℕ → ℕ → ℕ → Level
or_of zero_count one_count all = if nat_lt 0 one_count then One else (if zero_count == all then Zero else X)

-- XOR: unknown where one is unknown or off, else 1 where an odd number of them is 1
abbrev pub xor_of : ℕ → ℕ → ℕ → Level
xor_of zero_count one_count all =
    if zero_count + one_count == all then (if one_count % 2 == 1 then One else Zero) else X

-- what a gate gives that reads these nets
abbrev pub gate_of : GateKind → List Level → List ℕ → Level
gate_of And v pins = and_of (zeros v pins) (ones v pins) (length pins)
gate_of Nand v pins = negated (and_of (zeros v pins) (ones v pins) (length pins))
gate_of Or v pins = or_of (zeros v pins) (ones v pins) (length pins)
gate_of Nor v pins = negated (or_of (zeros v pins) (ones v pins) (length pins))
gate_of Xor v pins = xor_of (zeros v pins) (ones v pins) (length pins)
gate_of Xnor v pins = negated (xor_of (zeros v pins) (ones v pins) (length pins))
gate_of Not v pins = negated (level_at v (slice_index pins 0))
gate_of Buf v pins = read (level_at v (slice_index pins 0))
