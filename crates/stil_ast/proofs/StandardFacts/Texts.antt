-- Blocks of small texts, in few words.
use Rattle.std.proofs.Common.{ℕ, ◌*◌, ◌^◌, List, [], ◌∷◌, ◌++◌, Some, None, Ok, pos, take_while, codes}
use Rattle.text_bytes.specs.Bytes.{is_digit}
use Rattle.stil_ast.specs.Data.Texts.{number_of}
use Rattle.stil_ast.specs.Meaning.Times.{Times}
use Rattle.stil_ast.specs.Meaning.Statements.{Item}
use Rattle.stil_ast.specs.Data.Written.{Written}
use Rattle.stil_ast.specs.declared.name.SigRef.{SigRef}
use Rattle.stil_ast.specs.declared.name.SigRef.TheVariants.{Name, Group}
use Rattle.tester_types.specs.declared.signal.Direction.{Direction}
use Rattle.stil_ast.specs.declared.signal.SignalDecl.{SignalDecl}
use Rattle.stil_ast.specs.declared.signal.GroupDecl.{GroupDecl}
use Rattle.stil_ast.specs.declared.timing.SignalWaves.{SignalWaves}
use Rattle.stil_ast.specs.declared.timing.TableDecl.{TableDecl}
use Rattle.stil_ast.specs.declared.scan.ChainStmt.TheVariants as stmt
use Rattle.stil_ast.specs.declared.scan.ChainDecl.{ChainDecl}
use Rattle.stil_ast.specs.declared.executive.BurstWord.TheVariants.{Entry}
use Rattle.stil_ast.specs.declared.body.Assignment.{Assignment}
use Rattle.stil_ast.specs.declared.blocks.BodyDef.{BodyDef}
use Rattle.stil_ast.specs.declared.blocks.Blocks.{Blocks}
use Rattle.tester_types.specs.declared.wave.Act.TheVariants.{Push, Look}
use Rattle.tester_types.specs.declared.wave.Push.TheVariants.{Down, Up}
use Rattle.tester_types.specs.declared.wave.Look.TheVariants.{Low, High, Close}

-- times that are digits and `ns`
abbrev pub nanoseconds : Times ℕ
nanoseconds = record {
  value = λ names text. Ok (number_of (take_while is_digit text) * 10 ^ 6);
  whole = λ n. Some (pos n);
}

abbrev pub signal : List ℕ → Direction → SignalDecl
signal name direction = record { name = name; range = None; direction = direction; line = 2 }

abbrev pub group : ℕ → List ℕ → List ℕ → GroupDecl
group line name text = record { name = name; text = record { text = text; line = line }; line = line }

abbrev pub by_name : List ℕ → SigRef
by_name name = Name (record { name = name; range = None })

-- a reference by a group expression
abbrev pub by_text : ℕ → List ℕ → SigRef
by_text line text = Group (record { text = text; line = line })

-- `01 { '0ns' D/U; }`
abbrev pub driven : SigRef → SignalWaves
driven reference = record {
  reference = reference;
  waves = record {
    characters = codes "01";
    events = record { time = record { text = codes "0ns"; line = 6 }; acts = Push Down ∷ Push Up ∷ [] } ∷ [];
  } ∷ [];
  line = 6;
}

-- `LHX { '40ns' L/H/X; }`
abbrev pub looked_at : SigRef → SignalWaves
looked_at reference = record {
  reference = reference;
  waves = record {
    characters = codes "LHX";
    events = record { time = record { text = codes "40ns"; line = 7 }; acts = Look Low ∷ Look High ∷ Look Close ∷ [] } ∷ [];
  } ∷ [];
  line = 7;
}

-- a table with a period
abbrev pub table : List ℕ → List ℕ → List SignalWaves → TableDecl
table name period waveforms = record {
  name = name;
  period = Some (record { text = period; line = 4 });
  inherits = [];
  waveforms = waveforms;
  line = 3;
}

-- `ref=data;` on a line
abbrev pub assign : ℕ → List ℕ → List Item → Assignment
assign line name items = record { reference = by_name name; items = items; line = line }

-- the text of one pattern `p`, with one Timing, one burst and one executive
abbrev pub text_of : List SignalDecl → List GroupDecl → List TableDecl → List BodyDef → List BodyDef
    → Written → Blocks
text_of signals groups tables macros procedures body = record {
  signals = signals;
  groups = record { name = []; groups = groups } ∷ [];
  specs = [];
  selectors = [];
  timings = record { name = codes "t"; tables = tables } ∷ [];
  scans = [];
  macros = record { name = []; bodies = macros } ∷ [];
  procedures = record { name = []; bodies = procedures } ∷ [];
  patterns = record { name = codes "p"; body = body } ∷ [];
  bursts = record { name = codes "b"; items = record { word = Entry; name = codes "p"; line = 15 } ∷ [] } ∷ [];
  executives = record {
    name = [];
    categories = [];
    selector = None;
    timing = Some (record { name = codes "t"; line = 16 });
    burst = record { name = codes "b"; line = 16 };
    line = 16;
  } ∷ [];
}

-- a chain that ends at this signal
abbrev pub chain_at : ℕ → List ℕ → List ℕ → ChainDecl
chain_at line name out =
    record { name = name; stmts = stmt.Out (record { name = out; line = line }) ∷ []; line = line }

-- the same text with unnamed ScanStructures of these chains
abbrev pub with_chains : List ChainDecl → Blocks → Blocks
with_chains chains b = record {
  signals = b.signals;
  groups = b.groups;
  specs = b.specs;
  selectors = b.selectors;
  timings = b.timings;
  scans = record { name = []; chains = chains } ∷ [];
  macros = b.macros;
  procedures = b.procedures;
  patterns = b.patterns;
  bursts = b.bursts;
  executives = b.executives;
}

-- the same text with one more pattern `q`, which runs behind the first
abbrev pub then_pattern : Written → Blocks → Blocks
then_pattern body b = record {
  signals = b.signals;
  groups = b.groups;
  specs = b.specs;
  selectors = b.selectors;
  timings = b.timings;
  scans = b.scans;
  macros = b.macros;
  procedures = b.procedures;
  patterns = b.patterns ++ record { name = codes "q"; body = body } ∷ [];
  bursts = record {
    name = codes "b";
    items = record { word = Entry; name = codes "p"; line = 15 } ∷ record { word = Entry; name = codes "q"; line = 15 } ∷ [];
  } ∷ [];
  executives = b.executives;
}
