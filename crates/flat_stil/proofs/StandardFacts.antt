-- Known texts.
use Rattle.std.proofs.Common.{◌≡◌, ℕ, [], ◌∷◌, ◌++◌, refl}
use Rattle.std.specs.Prelude.{codes}
use Rattle.std.specs.Fmt.{digits}
use Rattle.tester_types.specs.declared.signal.Direction.TheVariants as direction
use Rattle.tester_types.specs.declared.wave.Act.{Act}
use Rattle.tester_types.specs.declared.wave.Act.TheVariants as act
use Rattle.tester_types.specs.declared.wave.Push.TheVariants as push
use Rattle.tester_types.specs.declared.wave.Look.TheVariants as look
use Rattle.tester_types.specs.declared.wave.Wave.{Wave}
use Rattle.packed_code.specs.declared.instr.Instr.TheVariants.{Run, Loop, End, Done}
use Rattle.packed_code.specs.Program.{Program}
use Rattle.flat_parts.specs.Order.{firsts, table_order, row_order}
use Rattle.flat_parts.specs.FlatText.{block, row_text, run_line, text_of, flat_text}

-- a wave of one event
abbrev wave_of : ℕ → ℕ → ℕ → Act → Wave
wave_of signal character time a = record { signal = signal; character = character; events = record { time = time; act = a } ∷ [] }

-- three vectors over an input and an output
unfoldable three : Program
three = record {
  signals = record { name = codes "a"; direction = direction.In } ∷ record { name = codes "y"; direction = direction.Out } ∷ [];
  tables = record {
    name = codes "w";
    period = 100000000;
    waves =
        wave_of 0 48 0 (act.Push push.Down) ∷ wave_of 0 49 0 (act.Push push.Up) ∷ wave_of 1 72 40000000 (act.Look look.High)
        ∷ wave_of 1 76 40000000 (act.Look look.Low) ∷ wave_of 1 88 40000000 (act.Look look.Close) ∷ [];
  } ∷ [];
  rows = (48 ∷ 72 ∷ []) ∷ (49 ∷ 76 ∷ []) ∷ (49 ∷ 88 ∷ []) ∷ [];
  execs = record { name = []; chains = []; instrs = Run 0 0 0 1 ∷ Run 0 1 0 1 ∷ Run 0 2 0 1 ∷ Done ∷ [] } ∷ [];
}

-- their flat text
flat_three : flat_text three ≡
    codes "STIL 1.0;\n"
    ++ codes "Signals {\n"
    ++ codes "\"a\" In;\n"
    ++ codes "\"y\" Out;\n"
    ++ codes "}\n"
    ++ codes "Timing \"t0\" {\n"
    ++ codes "WaveformTable \"w0\" {\n"
    ++ codes "Period '100000000fs';\n"
    ++ codes "Waveforms {\n"
    ++ codes "\"a\" { 0 { '0fs' D; } }\n"
    ++ codes "\"a\" { 1 { '0fs' U; } }\n"
    ++ codes "\"y\" { H { '40000000fs' H; } }\n"
    ++ codes "\"y\" { L { '40000000fs' L; } }\n"
    ++ codes "\"y\" { X { '40000000fs' X; } }\n"
    ++ codes "}\n"
    ++ codes "}\n"
    ++ codes "}\n"
    ++ codes "Procedures {\n"
    ++ codes "\"r0\" { V { \"a\"=0; \"y\"=H; } }\n"
    ++ codes "\"r1\" { V { \"a\"=1; \"y\"=L; } }\n"
    ++ codes "\"r2\" { V { \"a\"=1; \"y\"=X; } }\n"
    ++ codes "}\n"
    ++ codes "Pattern \"p0\" {\n"
    ++ codes "W \"w0\"; Call \"r0\";\n"
    ++ codes "W \"w0\"; Call \"r1\";\n"
    ++ codes "W \"w0\"; Call \"r2\";\n"
    ++ codes "}\n"
    ++ codes "PatternBurst \"b0\" { PatList { \"p0\"; } }\n"
    ++ codes "PatternExec { Timing \"t0\"; PatternBurst \"b0\"; }\n"
unfolding three block text_of firsts digits
flat_three = refl

-- two executives over three tables and four rows, of which the second table and the third row have no Run
unfoldable two : Program
two = record {
  signals = [];
  tables = [];
  rows = [];
  execs =
      record { name = []; chains = []; instrs = Run 2 3 0 1 ∷ Loop 2 ∷ Run 0 1 0 1 ∷ Run 2 3 0 4 ∷ End ∷ Done ∷ [] }
      ∷ record { name = []; chains = []; instrs = Run 0 0 0 1 ∷ Run 2 3 0 1 ∷ Done ∷ [] } ∷ [];
}

-- tables are numbered by the first Run that names them, in the order 2, 0
tables_of_two : table_order two ≡ 2 ∷ 0 ∷ []
unfolding two firsts
tables_of_two = refl

-- and rows in the order 3, 1, 0
rows_of_two : row_order two ≡ 3 ∷ 1 ∷ 0 ∷ []
unfolding two firsts
rows_of_two = refl

-- a row without characters
empty_row : row_text three 5 (0 ∷ 0 ∷ []) ≡ codes "\"r5\" { V { } }"
unfolding three digits
empty_row = refl

-- a Run of one cycle, and one of two
one_cycle : run_line 3 4 1 ≡ codes "W \"w3\"; Call \"r4\";"
unfolding digits
one_cycle = refl

two_cycles : run_line 3 4 2 ≡ codes "W \"w3\"; Loop 2 { Call \"r4\"; }"
unfolding digits
two_cycles = refl
