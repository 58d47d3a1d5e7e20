-- A small die and a program for it, of which known facts speak.
use Rattle.std.proofs.Common.{ℕ, true, false, [], ◌∷◌}
use Rattle.std.specs.Prelude.{codes}
use Rattle.bench_net.specs.Circuit.{Circuit}
use Rattle.bench_net.specs.declared.gate.Driver.TheVariants as driver
use Rattle.bench_net.specs.declared.gate.GateKind.TheVariants as gate
use Rattle.tester_types.specs.declared.signal.Direction.TheVariants as direction
use Rattle.tester_types.specs.declared.wave.Push.TheVariants as push
use Rattle.tester_types.specs.declared.wave.Look.TheVariants as look
use Rattle.tester_types.specs.declared.wave.Act.{Act}
use Rattle.tester_types.specs.declared.wave.Act.TheVariants as act
use Rattle.tester_types.specs.declared.wave.Wave.{Wave}
use Rattle.packed_code.specs.declared.instr.Instr.TheVariants.{Run, Done}
use Rattle.packed_code.specs.Program.{Program}

-- an input A, and Y = NOT(A)
abbrev pub inverter : Circuit
inverter = record {
  net = record {
    names = codes "A" ∷ codes "Y" ∷ [];
    drivers = driver.Input ∷ driver.Gate gate.Not (0 ∷ []) ∷ [];
    outputs = false ∷ true ∷ [];
  };
  order = 1 ∷ [];
  readers = (1 ∷ []) ∷ [] ∷ [];
}

-- a wave of one event
abbrev pub wave : ℕ → ℕ → ℕ → Act → Wave
wave signal character time what = record { signal = signal; character = character; events = record { time = time; act = what } ∷ [] }

-- A is driven down by 0 and up by 1; Y is looked at after 40 ns: A=0 Y=H, then A=1 Y=L
abbrev pub program : Program
program = record {
  signals = record { name = codes "A"; direction = direction.In } ∷ record { name = codes "Y"; direction = direction.Out } ∷ [];
  tables = record {
    name = codes "w";
    period = 100000000;
    waves = wave 0 48 0 (act.Push push.Down) ∷ wave 0 49 0 (act.Push push.Up)
        ∷ wave 1 72 40000000 (act.Look look.High) ∷ wave 1 76 40000000 (act.Look look.Low) ∷ [];
  } ∷ [];
  rows = (48 ∷ 72 ∷ []) ∷ (49 ∷ 76 ∷ []) ∷ [];
  execs = record { name = []; chains = []; instrs = Run 0 0 0 1 ∷ Run 0 1 0 1 ∷ Done ∷ [] } ∷ [];
}
