-- Codes without chains, whose lots name no scan cell behind a fail.
use Rattle.std.specs.Prelude.{◌≡◌, ℕ, [], map}
use Rattle.packed_code.specs.Program.{Exec, Program}
use Rattle.packed_code.specs.Cycles.{exec_of}

-- an executive without its chains
abbrev pub unchained : Exec → Exec
unchained exec = record { name = exec.name; chains = []; instrs = exec.instrs }

-- a code without chains
abbrev pub without_chains : Program → Program
without_chains code =
    record { signals = code.signals; tables = code.tables; rows = code.rows; execs = map unchained code.execs }

-- no executive of a code has a chain
abbrev pub HasNoChains : Program → Type 0
HasNoChains code = (exec : ℕ) → (exec_of code exec).chains ≡ []
