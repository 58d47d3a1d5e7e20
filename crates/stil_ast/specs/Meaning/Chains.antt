-- Scan chains (IEEE 1450-1999, clause 20).
use Rattle.std.specs.Prelude.{ℕ, ◌==◌, not, List, [], ◌∷◌, Option, Some, None, length, take, flat_map, filter, slice_get, is_some, nat_le, codes, unwrap_or, if◌then◌else◌}
use Rattle.std.specs.List.{list_all, list_any, filter_map, enumerate_from}
use Rattle.text_bytes.specs.Limits.{longest_name}
use Rattle.stil_ast.specs.Data.Places.{Place}
use Rattle.stil_ast.specs.Data.Texts.{same, names_with, upwards}
use Rattle.stil_ast.specs.Faults.Found.{fault_at, unless, refuse_if, first_in}
use Rattle.stil_ast.specs.Meaning.Signals.{Names}
use Rattle.stil_ast.specs.Meaning.Members.{signal_of}
use Rattle.stil_ast.specs.declared.name.NameRef.{NameRef}
use Rattle.stil_ast.specs.declared.scan.CellsDecl.{CellsDecl}
use Rattle.stil_ast.specs.declared.scan.ChainStmt.{ChainStmt}
use Rattle.stil_ast.specs.declared.scan.ChainStmt.TheVariants.{Length, In, Out, Cells}
use Rattle.stil_ast.specs.declared.scan.ChainDecl.{ChainDecl}
use Rattle.stil_ast.specs.declared.scan.ScanBlock.{ScanBlock}
use Rattle.stil_ast.specs.declared.fault.StilFault.{StilFault}
use Rattle.stil_ast.specs.declared.fault.StilKind.TheVariants.{Twice, UnknownName, OutOfRange}

-- a chain: the signal at its end, its length, and its cells from scan-in to scan-out
pub record Chain : Type 0 where
  pub name : List ℕ
  pub scan_out : ℕ
  pub length : ℕ
  pub cells : List (List ℕ)

-- the chains of all ScanStructures blocks of one name, in text order
abbrev pub chains_named : List ScanBlock → List ℕ → List ChainDecl
chains_named scans name = flat_map (λ (s : ScanBlock). if same s.name name then s.chains else []) scans

-- the texts of all cells of a ScanCells statement
abbrev pub cells_of : CellsDecl → List (List ℕ)
cells_of c = flat_map (λ (r : NameRef). names_with r.name r.range) c.cells

-- what a statement says of a chain's length
abbrev pub length_by : ChainStmt → Option ℕ
length_by (Length n) = Some n
length_by stmt = None

-- what a statement says of the signal at a chain's end
abbrev pub out_by : ChainStmt → Option (List ℕ)
out_by (Out name) = Some name.name
out_by stmt = None

-- what a statement says of a chain's cells
abbrev pub cells_by : ChainStmt → Option (List (List ℕ))
cells_by (Cells c) = Some (cells_of c)
cells_by stmt = None

-- the first that statements say of something
abbrev pub first_said : {A : Type 0} → (ChainStmt → Option A) → List ChainStmt → Option A
first_said said stmts = slice_get (filter_map said stmts) 0

-- the ScanLength of a chain
abbrev pub length_in : List ChainStmt → Option ℕ
length_in stmts = first_said length_by stmts

-- the name that a chain's ScanOut gives
abbrev pub out_in : List ChainStmt → Option (List ℕ)
out_in stmts = first_said out_by stmts

-- the texts of a chain's cells
abbrev pub cells_in : List ChainStmt → List (List ℕ)
cells_in stmts = unwrap_or (first_said cells_by stmts) []

-- the signal of a ScanOut; it is named by its text
abbrev pub scan_out_of : Names → Option (List ℕ) → Option ℕ
scan_out_of names None = None
scan_out_of names (Some name) = signal_of names name

-- a chain without ScanOut is dropped; without ScanLength its length is the number of its cells
abbrev pub chain_with : ChainDecl → Option ℕ → List Chain
chain_with d None = []
chain_with d (Some out) =
    record {
      name = d.name;
      scan_out = out;
      length = unwrap_or (length_in d.stmts) (length (cells_in d.stmts));
      cells = cells_in d.stmts;
    } ∷ []

-- of chains with one ScanOut the first counts: behind each chain stand those that end elsewhere
abbrev pub distinct_chains : List Chain → List Chain
distinct_chains [] = []
distinct_chains (c ∷ chains) = c ∷ filter (λ d. not (c.scan_out == d.scan_out)) (distinct_chains chains)

-- the chains of declarations
abbrev pub chains_of : Names → List ChainDecl → List Chain
chains_of names chains =
    distinct_chains (flat_map (λ (d : ChainDecl). chain_with d (scan_out_of names (out_in d.stmts))) chains)

-- the signals at which chains end, in declared order
abbrev pub scan_outs : Names → List Chain → List ℕ
scan_outs names chains =
    filter (λ signal. list_any (λ c. c.scan_out == signal) chains) (upwards 0 (length names.signals))

-- the place of a line in a ScanStructures block
abbrev pub scan_place : List ℕ → ℕ → Place
scan_place name line = record { block = codes "ScanStructures"; name = name; line = line }

-- a statement of a chain: a ScanIn or ScanOut that names no signal's text, a cell with too long a text
abbrev pub chain_stmt_fault : Names → List ℕ → ChainStmt → Option StilFault
chain_stmt_fault names block (Length n) = None
chain_stmt_fault names block (In n) =
    unless (is_some (signal_of names n.name)) (fault_at (scan_place block n.line) UnknownName) None
chain_stmt_fault names block (Out n) =
    unless (is_some (signal_of names n.name)) (fault_at (scan_place block n.line) UnknownName) None
chain_stmt_fault names block (Cells c) =
    unless (list_all (λ text. nat_le (length text) longest_name) (cells_of c))
    (fault_at (scan_place block c.line) OutOfRange) None

-- a chain, behind others: its name twice, then its statements in text order
abbrev pub chain_fault : Names → List ℕ → List ChainDecl → ChainDecl → Option StilFault
chain_fault names block before d =
    refuse_if (list_any (λ b. same b.name d.name) before) (fault_at (scan_place block d.line) Twice)
    (first_in (chain_stmt_fault names block) d.stmts)

-- the first fault of chains in text order, each behind those before it
abbrev pub chains_fault : Names → List ℕ → List ChainDecl → Option StilFault
chains_fault names block chains =
    first_in (λ (placed : ℕ × ChainDecl). chain_fault names block (take placed.0 chains) placed.1)
    (enumerate_from 0 chains)
