-- The blocks of a drill's text.
use Rattle.std.specs.Prelude.{ℕ, List, [], ◌∷◌, codes, Some, None}
use Rattle.tester_types.specs.declared.signal.Direction.TheVariants as direction
use Rattle.tester_types.specs.declared.wave.Act.{Act}
use Rattle.tester_types.specs.declared.wave.Act.TheVariants as act
use Rattle.tester_types.specs.declared.wave.Push.TheVariants as push
use Rattle.tester_types.specs.declared.wave.Look.TheVariants as look
use Rattle.stil_ast.specs.declared.name.SigRef.{SigRef}
use Rattle.stil_ast.specs.declared.name.SigRef.TheVariants as ref
use Rattle.stil_ast.specs.declared.signal.SignalDecl.{SignalDecl}
use Rattle.stil_ast.specs.declared.timing.EventDecl.{EventDecl}
use Rattle.stil_ast.specs.declared.timing.SignalWaves.{SignalWaves}
use Rattle.stil_ast.specs.declared.timing.TableDecl.{TableDecl}
use Rattle.stil_ast.specs.declared.timing.TimingBlock.{TimingBlock}
use Rattle.stil_ast.specs.declared.blocks.Pattern.{Pattern}
use Rattle.stil_ast.specs.declared.blocks.Blocks.{Blocks}
use Rattle.stil_ast.specs.declared.executive.BurstWord.TheVariants as burst
use Rattle.stil_ast.specs.declared.executive.Burst.{Burst}
use Rattle.stil_ast.specs.declared.executive.ExecDecl.{ExecDecl}
use Rattle.stil_ast.specs.Data.Written.{Written}

-- a signal of this name, without indices
abbrev pub named_signal : List ℕ → SigRef
named_signal called = ref.Name (record { name = called; range = None })

-- the signals
abbrev pub drill_signals : List SignalDecl
drill_signals =
    record { name = codes "d"; range = None; direction = direction.In; line = 2 }
    ∷ record { name = codes "ck"; range = None; direction = direction.In; line = 2 }
    ∷ record { name = codes "q"; range = None; direction = direction.Out; line = 2 } ∷ []

-- acts at a time that is written on a line
abbrev pub at_time : List ℕ → ℕ → List Act → EventDecl
at_time text line acts = record { time = record { text = text; line = line }; acts = acts }

-- the waves of a signal, declared on a line
abbrev pub waved : List ℕ → List ℕ → ℕ → List EventDecl → SignalWaves
waved called characters line events =
    record {
      reference = named_signal called;
      waves = record { characters = characters; events = events } ∷ [];
      line = line;
    }

-- the waveform table
abbrev pub drill_table : TableDecl
drill_table = record {
  name = codes "w";
  period = Some (record { text = codes "100ns"; line = 3 });
  inherits = [];
  waveforms =
      waved (codes "d") (codes "01") 4 (at_time (codes "0ns") 4 (act.Push push.Down ∷ act.Push push.Up ∷ []) ∷ [])
      ∷ waved (codes "ck") (codes "P") 5
      (at_time (codes "0ns") 5 (act.Push push.Down ∷ []) ∷ at_time (codes "50ns") 5 (act.Push push.Up ∷ []) ∷ [])
      ∷ waved (codes "q") (codes "LHX") 6
      (at_time (codes "40ns") 6 (act.Look look.Low ∷ act.Look look.High ∷ act.Look look.Close ∷ []) ∷ [])
      ∷ [];
  line = 3;
}

-- the timing
abbrev pub drill_timings : List TimingBlock
drill_timings = record { name = []; tables = drill_table ∷ [] } ∷ []

-- the pattern
abbrev pub drill_pattern : Written → Pattern
drill_pattern body = record { name = codes "p"; body = body }

-- the burst, whose entry stands on a line
abbrev pub drill_burst : ℕ → Burst
drill_burst line =
    record { name = codes "b"; items = record { word = burst.Entry; name = codes "p"; line = line } ∷ [] }

-- the executive, on a line, with its burst's line
abbrev pub drill_exec : ℕ → ℕ → ExecDecl
drill_exec line burst_line = record {
  name = [];
  categories = [];
  selector = None;
  timing = None;
  burst = record { name = codes "b"; line = burst_line };
  line = line;
}

-- blocks of these
abbrev pub blocks_with : List SignalDecl → List TimingBlock → List Pattern → List Burst → List ExecDecl → Blocks
blocks_with signals timings patterns bursts executives = record {
  signals = signals;
  groups = [];
  specs = [];
  selectors = [];
  timings = timings;
  scans = [];
  macros = [];
  procedures = [];
  patterns = patterns;
  bursts = bursts;
  executives = executives;
}

-- the blocks of a text with this body of its pattern, and these lines of its burst's entry and its executive
abbrev pub drill_blocks : Written → ℕ → ℕ → ℕ → Blocks
drill_blocks body entry line burst_line =
    blocks_with drill_signals drill_timings (drill_pattern body ∷ []) (drill_burst entry ∷ [])
    (drill_exec line burst_line ∷ [])
