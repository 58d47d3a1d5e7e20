-- A scan test of the circuit s27 with one chain of three cells: its blocks, cycles and marks.
use Rattle.std.proofs.Common.{◌≡◌, ℕ, List, [], ◌∷◌, None, refl, codes}
use Rattle.text_bytes.specs.Bytes.{begins_name, is_blank, is_digit, is_printable, is_word}
use Rattle.stil_ast.specs.Data.Written.{no_more, single, shifted}
use Rattle.stil_ast.specs.Meaning.Statements.{hash}
use Rattle.stil_ast.specs.Meaning.Running.{calls}
use Rattle.stil_ast.specs.Meaning.Flattening.{flat_calls}
use Rattle.stil_ast.specs.Faults.PatternFaults.{check_calls}
use Rattle.stil_ast.proofs.StandardFacts.Texts.{signal, group, by_name, by_text, driven, looked_at, table, assign}
use Rattle.stil_ast.proofs.StandardFacts.Lines.{lines, cycle, marks, items, fault}
use Rattle.stil_ast.specs.declared.name.Named.{Named}
use Rattle.stil_ast.specs.declared.name.NameRef.{NameRef}
use Rattle.tester_types.specs.declared.signal.Direction.TheVariants.{In, Out}
use Rattle.stil_ast.specs.declared.timing.EventDecl.{EventDecl}
use Rattle.stil_ast.specs.declared.timing.SignalWaves.{SignalWaves}
use Rattle.stil_ast.specs.declared.timing.TableDecl.{TableDecl}
use Rattle.stil_ast.specs.declared.scan.ChainStmt.TheVariants as stmt
use Rattle.stil_ast.specs.declared.scan.ChainDecl.{ChainDecl}
use Rattle.stil_ast.specs.declared.executive.BurstWord.TheVariants.{Entry}
use Rattle.stil_ast.specs.declared.body.Step.TheVariants.{Wave, Vector, Condition, Call}
use Rattle.stil_ast.specs.declared.blocks.BodyDef.{BodyDef}
use Rattle.stil_ast.specs.declared.blocks.Blocks.{Blocks}
use Rattle.tester_types.specs.declared.wave.Act.{Act}
use Rattle.tester_types.specs.declared.wave.Act.TheVariants.{Push}
use Rattle.tester_types.specs.declared.wave.Push.TheVariants.{Down, Up}

abbrev named : ℕ → List ℕ → Named
named line name = record { name = name; line = line }

abbrev cell : List ℕ → NameRef
cell name = record { name = name; range = None }

abbrev event : List ℕ → Act → EventDecl
event time act = record { time = record { text = time; line = 23 }; acts = act ∷ [] }

-- `"CK" { 0 { '0ns' D; } P { '0ns' D; '45ns' U; '55ns' D; } }`
abbrev clock : SignalWaves
clock = record {
  reference = by_name (codes "CK");
  waves = record { characters = codes "0"; events = event (codes "0ns") (Push Down) ∷ [] }
      ∷ record { characters = codes "P"; events = event (codes "0ns") (Push Down) ∷ event (codes "45ns") (Push Up) ∷ event (codes "55ns") (Push Down) ∷ [] } ∷ [];
  line = 23;
}

abbrev default : List ℕ
default = codes "_default_WFT_"

-- `W "_default_WFT_"; C { "_po"=X; "SO"=X; "CK"=0; "SE"=1; } Shift { V { "CK"=P; "SI"=#; "SO"=#; } }`
abbrev pub load_unload : BodyDef
load_unload = record {
  name = codes "load_unload";
  body = single 31 (Wave default)
      (single 32 (Condition (assign 32 (codes "_po") (items (codes "X")) ∷ assign 32 (codes "SO") (items (codes "X"))
      ∷ assign 32 (codes "CK") (items (codes "0")) ∷ assign 32 (codes "SE") (items (codes "1")) ∷ []))
      (shifted 33 (single 33 (Vector (assign 33 (codes "CK") (items (codes "P")) ∷ assign 33 (codes "SI") (hash ∷ [])
      ∷ assign 33 (codes "SO") (hash ∷ []) ∷ [])) no_more) no_more));
}

-- `W "_default_WFT_"; V { "CK"=P; "SE"=0; "_pi"=\r4 #; "_po"=#; }`
abbrev pub capture : BodyDef
capture = record {
  name = codes "capture";
  body = single 36 (Wave default)
      (single 37 (Vector (assign 37 (codes "CK") (items (codes "P")) ∷ assign 37 (codes "SE") (items (codes "0"))
      ∷ assign 37 (codes "_pi") (hash ∷ hash ∷ hash ∷ hash ∷ []) ∷ assign 37 (codes "_po") (hash ∷ []) ∷ [])) no_more);
}

-- 0 and 1 are driven at 0ns, and the outputs looked at at 40ns
abbrev pub scan_tables : List TableDecl
scan_tables = table default (codes "100ns")
    (clock ∷ driven (by_text 24 (codes "\"SE\" + \"SI\" + \"_pi\"")) ∷ looked_at (by_text 25 (codes "\"_po\" + \"SO\"")) ∷ []) ∷ []

-- `ScanLength 3; ScanIn "SI"; ScanOut "SO"; ScanCells "f5" "f6" "f7";`
abbrev pub scan_chains : List ChainDecl
scan_chains = record {
  name = codes "c1";
  stmts = stmt.Length 3 ∷ stmt.In (named 15 (codes "SI")) ∷ stmt.Out (named 15 (codes "SO"))
      ∷ stmt.Cells (record { cells = cell (codes "f5") ∷ cell (codes "f6") ∷ cell (codes "f7") ∷ []; line = 16 }) ∷ [];
  line = 14;
} ∷ []

-- the blocks of the text
abbrev pub scan_text : Blocks
scan_text = record {
  signals = signal (codes "CK") In ∷ signal (codes "SE") In ∷ signal (codes "SI") In ∷ signal (codes "G0") In
      ∷ signal (codes "G1") In ∷ signal (codes "G2") In ∷ signal (codes "G3") In ∷ signal (codes "G17") Out
      ∷ signal (codes "SO") Out ∷ [];
  groups = record {
    name = [];
    groups = group 9 (codes "_pi") (codes "\"G0\" + \"G1\" +\n    \"G2\" + \"G3\"")
        ∷ group 11 (codes "_po") (codes "\"G17\"") ∷ [];
  } ∷ [];
  specs = [];
  selectors = [];
  timings = record { name = []; tables = scan_tables } ∷ [];
  scans = record { name = []; chains = scan_chains } ∷ [];
  macros = [];
  procedures = record { name = []; bodies = load_unload ∷ capture ∷ [] } ∷ [];
  patterns = record {
    name = codes "_pattern_";
    body =
        single 43 (Wave default)
        (single 44 (Condition (assign 44 (codes "CK") (items (codes "0")) ∷ assign 44 (codes "SE") (items (codes "0"))
        ∷ assign 44 (codes "SI") (items (codes "0")) ∷ assign 44 (codes "_pi") (items (codes "0000"))
        ∷ assign 44 (codes "_po") (items (codes "X")) ∷ assign 44 (codes "SO") (items (codes "X")) ∷ []))
        (single 46 (Call (codes "load_unload") (assign 46 (codes "SI") (items (codes "110")) ∷ []))
        (single 47 (Call (codes "capture") (assign 47 (codes "_pi") (items (codes "0101")) ∷ assign 47 (codes "_po") (items (codes "L")) ∷ []))
        (single 48 (Call (codes "load_unload") (assign 48 (codes "SI") (items (codes "000")) ∷ assign 48 (codes "SO") (items (codes "HHL")) ∷ [])) no_more))));
  } ∷ [];
  bursts = record { name = codes "_burst_"; items = record { word = Entry; name = codes "_pattern_"; line = 40 } ∷ [] } ∷ [];
  executives = record { name = []; categories = []; selector = None; timing = None; burst = named 41 (codes "_burst_"); line = 41 } ∷ [];
}

-- three characters are shifted in, the outputs are strobed once, and the captured ones are shifted out
pub seven_cycles : lines scan_text
    ≡ cycle 0 0 0 (codes "P110000XX") ∷ cycle 1 100 0 (codes "P110000XX") ∷ cycle 2 200 0 (codes "P100000XX")
    ∷ cycle 3 300 0 (codes "P000101LX")
    ∷ cycle 4 400 0 (codes "P100000XH") ∷ cycle 5 500 0 (codes "P100000XH") ∷ cycle 6 600 0 (codes "P100000XL") ∷ []
unfolding calls begins_name is_blank is_digit is_printable is_word
seven_cycles = refl

-- the chain's characters are counted anew in each call
pub seven_marks : marks scan_text ≡ 1 ∷ 2 ∷ 3 ∷ 0 ∷ 1 ∷ 2 ∷ 3 ∷ []
unfolding calls begins_name is_blank is_digit is_printable is_word
seven_marks = refl

pub scan_without_fault : fault scan_text ≡ None
unfolding calls flat_calls check_calls is_blank is_digit is_printable is_word
scan_without_fault = refl
