-- References with a fault, inherited tables, and the faults of scan chains.
use Rattle.std.proofs.Common.{◌≡◌, ℕ, List, [], ◌∷◌, Option, Some, None, refl, codes, map, replicate}
use Rattle.std.specs.Fmt.{digits}
use Rattle.text_bytes.specs.Bytes.{begins_name, is_blank, is_digit, is_printable, is_word}
use Rattle.stil_ast.specs.Meaning.Signals.{Names, names_of}
use Rattle.stil_ast.specs.Meaning.Members.{members}
use Rattle.stil_ast.specs.Meaning.Tables.{lineage, period_text}
use Rattle.stil_ast.specs.Meaning.Chains.{chains_of, chains_fault}
use Rattle.stil_ast.specs.Data.Written.{Written, no_more, single, shifted}
use Rattle.stil_ast.specs.Meaning.Statements.{hash, percent}
use Rattle.stil_ast.specs.Faults.PatternFaults.{check_calls}
use Rattle.stil_ast.specs.declared.body.Step.TheVariants.{Vector, Macro}
use Rattle.stil_ast.proofs.StandardFacts.Texts.{signal, by_text, looked_at, table, assign, text_of}
use Rattle.stil_ast.proofs.StandardFacts.Lines.{items, fault, refused}
use Rattle.stil_ast.specs.declared.name.Named.{Named}
use Rattle.stil_ast.specs.declared.name.SigRef.{SigRef}
use Rattle.stil_ast.specs.declared.name.SigRef.TheVariants.{Name}
use Rattle.tester_types.specs.declared.signal.Direction.TheVariants.{In, Out}
use Rattle.stil_ast.specs.declared.signal.SignalDecl.{SignalDecl}
use Rattle.stil_ast.specs.declared.timing.SignalWaves.{SignalWaves}
use Rattle.stil_ast.specs.declared.timing.TableDecl.{TableDecl}
use Rattle.stil_ast.specs.declared.scan.ChainStmt.{ChainStmt}
use Rattle.stil_ast.specs.declared.scan.ChainStmt.TheVariants.{Length, In as ScanIn, Out as ScanOut, Cells}
use Rattle.stil_ast.specs.declared.scan.ChainDecl.{ChainDecl}
use Rattle.stil_ast.specs.declared.fault.StilFault.{StilFault}
use Rattle.stil_ast.specs.declared.fault.StilKind.TheVariants.{UnknownName, Cyclic, EventOutside, OutOfRange, Twice}

-- `q[0..2] In; y Out;`
abbrev declared : List SignalDecl
declared = record { name = codes "q"; range = Some (record { first = 0; last = 2 }); direction = In; line = 2 } ∷ signal (codes "y") Out ∷ []

abbrev names : Names
names = names_of (text_of declared [] [] [] [] no_more)

abbrev ranged : ℕ → ℕ → SigRef
ranged first last = Name (record { name = codes "q"; range = Some (record { first = first; last = last }) })

-- a range downwards, and one that isn't declared as a whole
pub downwards : members names (ranged 2 1) ≡ 2 ∷ 1 ∷ []
unfolding digits
downwards = refl

pub not_all_declared : members names (ranged 1 3) ≡ []
unfolding digits
not_all_declared = refl

-- a text with an unknown item, and one without a form
pub one_unknown : members names (by_text 7 (codes "y + z")) ≡ []
unfolding begins_name is_blank is_printable is_word
one_unknown = refl

pub no_form : members names (by_text 7 (codes "y +")) ≡ []
unfolding begins_name is_blank is_printable is_word
no_form = refl

-- `Shift { V { y=%; } V { 'y+z'=#; } }` with data for y
abbrev faulty_shift : Written
faulty_shift =
    shifted 20 (single 21 (Vector (assign 21 (codes "y") (percent ∷ []) ∷ []))
    (single 22 (Vector (record { reference = by_text 22 (codes "y+z"); items = hash ∷ []; line = 22 } ∷ [])) no_more)) no_more

-- such a Shift has no pass, so its body is checked for all but data, whether or not there are data for y
abbrev shifts : List ℕ → Option StilFault
shifts text = fault (text_of declared [] [] (record { name = codes "m"; body = faulty_shift } ∷ []) []
    (single 10 (Macro (codes "m") (assign 10 (codes "y") (items text) ∷ [])) no_more))

pub unknown_in_shift : shifts (codes "LH") ≡ refused UnknownName (codes "MacroDefs") [] 22
unfolding check_calls digits begins_name is_blank is_printable is_word
unknown_in_shift = refl

pub unknown_without_data : shifts [] ≡ refused UnknownName (codes "MacroDefs") [] 22
unfolding check_calls digits begins_name is_blank is_printable is_word
unknown_without_data = refl

abbrev named : ℕ → List ℕ → Named
named line name = record { name = name; line = line }

-- a table of this name with a period or none, which inherits others
abbrev heir : ℕ → List ℕ → Option (List ℕ) → List (List ℕ) → List SignalWaves → TableDecl
heir line name period inherits waveforms = record {
  name = name;
  period = elim period [ Some text ↦ Some (record { text = text; line = line }) | None ↦ None ];
  inherits = map (named line) inherits;
  waveforms = waveforms;
  line = line;
}

abbrev with_tables : List TableDecl → Option StilFault
with_tables tables = fault (text_of declared [] tables [] [] no_more)

-- a waveform of an unknown signal isn't inherited: the fault is that of the name, and not that the event is late
pub unknown_is_not_inherited : with_tables
    (heir 3 (codes "v") (Some (codes "30ns")) (codes "w" ∷ []) [] ∷ table (codes "w") (codes "100ns") (looked_at (by_text 7 (codes "y+z")) ∷ []) ∷ [])
    ≡ refused UnknownName (codes "Timing") (codes "t") 7
unfolding digits begins_name is_blank is_digit is_printable is_word
unknown_is_not_inherited = refl

pub known_is_inherited : with_tables
    (heir 3 (codes "v") (Some (codes "30ns")) (codes "w" ∷ []) [] ∷ table (codes "w") (codes "100ns") (looked_at (by_text 7 (codes "y")) ∷ []) ∷ [])
    ≡ refused EventOutside (codes "Timing") (codes "t") 7
unfolding digits begins_name is_digit is_printable is_word
known_is_inherited = refl

-- u leads into the cycle of v and w without being part of it
abbrev around : List TableDecl
around =
    heir 3 (codes "u") (Some (codes "30ns")) (codes "v" ∷ []) []
    ∷ heir 4 (codes "v") None (codes "w" ∷ []) [] ∷ heir 5 (codes "w") None (codes "v" ∷ []) [] ∷ []

pub leads_there : with_tables around ≡ refused Cyclic (codes "Timing") (codes "t") 3
unfolding digits
leads_there = refl

-- x is made of a and b, of which each is made of c
abbrev twice_over : List TableDecl
twice_over =
    heir 3 (codes "x") None (codes "a" ∷ codes "b" ∷ []) []
    ∷ heir 4 (codes "a") (Some (codes "20ns")) (codes "c" ∷ []) [] ∷ heir 5 (codes "b") None (codes "c" ∷ []) []
    ∷ heir 6 (codes "c") (Some (codes "40ns")) [] [] ∷ []

pub in_order : lineage twice_over 0 ≡ 3 ∷ 1 ∷ 3 ∷ 2 ∷ 0 ∷ []
in_order = refl

-- the period is that of the last InheritWaveformTable whose table has one, be it inherited itself
pub last_period : period_text twice_over 0 ≡ Some (record { text = codes "40ns"; line = 6 })
last_period = refl

pub no_cycle_there : with_tables twice_over ≡ None
unfolding digits is_digit
no_cycle_there = refl

abbrev chain : ℕ → List ℕ → List ChainStmt → ChainDecl
chain line name stmts = record { name = name; stmts = stmts; line = line }

abbrev cells : ℕ → List (List ℕ) → ChainStmt
cells line texts = Cells (record { cells = map (λ (text : List ℕ). record { name = text; range = None }) texts; line = line })

-- `ScanLength 3; ScanIn q[0]; ScanOut y; ScanCells a b;`, and another chain that ends at y
pub one_chain : chains_of names
    (chain 20 (codes "c") (Length 3 ∷ ScanIn (named 21 (codes "q[0]")) ∷ ScanOut (named 22 (codes "y")) ∷ cells 23 (codes "a" ∷ codes "b" ∷ []) ∷ [])
    ∷ chain 24 (codes "d") (ScanOut (named 25 (codes "y")) ∷ []) ∷ chain 26 (codes "e") (Length 2 ∷ []) ∷ [])
    ≡ record { name = codes "c"; scan_out = 3; length = 3; cells = codes "a" ∷ codes "b" ∷ [] } ∷ []
unfolding digits
one_chain = refl

-- the faults of a chain's statements come in text order
pub cell_is_first : chains_fault names [] (chain 20 (codes "c") (cells 21 (replicate 1025 97 ∷ []) ∷ ScanOut (named 22 (codes "z")) ∷ []) ∷ [])
    ≡ refused OutOfRange (codes "ScanStructures") [] 21
cell_is_first = refl

pub out_is_first : chains_fault names []
    (chain 20 (codes "c") (ScanOut (named 21 (codes "z")) ∷ ScanIn (named 21 (codes "x")) ∷ cells 22 (replicate 1025 97 ∷ []) ∷ []) ∷ [])
    ≡ refused UnknownName (codes "ScanStructures") [] 21
out_is_first = refl

-- a chain's name twice comes before what stands in it
pub name_twice : chains_fault names [] (chain 20 (codes "c") [] ∷ chain 21 (codes "c") (ScanIn (named 22 (codes "z")) ∷ []) ∷ [])
    ≡ refused Twice (codes "ScanStructures") [] 21
name_twice = refl
