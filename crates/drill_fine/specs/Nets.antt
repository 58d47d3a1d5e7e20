-- What the lines of a drill's netlist say.
use Rattle.std.specs.Prelude.{ℕ, zero, suc, List, [], ◌∷◌, ◌++◌, map, codes, decimal, Option, Some, None}
use Rattle.std.specs.List.{range_with_len}
use Rattle.bench_net.specs.Gates.{function_of}
use Rattle.bench_net.specs.Line.{Form, nothing, input, output, gate}

-- the nets: the input, and behind it the registers in order
abbrev pub net_at : ℕ → List ℕ
net_at zero = codes "d"
net_at (suc k) = codes "f" ++ decimal (suc k)

-- the form that a function makes, where it is there
abbrev pub form_of : {F : Type 0} → (F → Form) → Option F → Form
form_of make None = nothing
form_of make (Some f) = make f

-- a register of this name and these pins
abbrev pub register_with : List ℕ → List (List ℕ) → Form
register_with name pins = form_of (λ f. gate name f pins) (function_of (codes "DFF"))

-- the register behind net k
abbrev pub register_form : ℕ → Form
register_form k = register_with (net_at (suc k)) (net_at k ∷ [])

-- the lines of so many registers
abbrev pub drill_forms : ℕ → List Form
drill_forms n = input (net_at 0) ∷ output (net_at n) ∷ map register_form (range_with_len 0 n)
