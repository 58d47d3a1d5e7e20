-- Signals with indices, times of tables, and the faults of chains.
use Rattle.std.proofs.Common.{◌≡◌, ℕ, List, [], ◌∷◌, Option, Some, None, refl, codes, replicate}
use Rattle.std.specs.Fmt.{digits}
use Rattle.text_bytes.specs.Bytes.{is_digit}
use Rattle.stil_ast.specs.Data.Written.{no_more, single}
use Rattle.stil_ast.proofs.StandardFacts.Texts.{signal, by_name, driven, table, assign, text_of, chain_at, with_chains}
use Rattle.stil_ast.proofs.StandardFacts.Lines.{lines, cycle, items, fault, refused, use_table, first_text}
use Rattle.stil_ast.specs.declared.name.IndexRange.{IndexRange}
use Rattle.stil_ast.specs.declared.name.SigRef.TheVariants.{Name}
use Rattle.tester_types.specs.declared.signal.Direction.TheVariants.{In}
use Rattle.stil_ast.specs.declared.signal.SignalDecl.{SignalDecl}
use Rattle.stil_ast.specs.declared.timing.EventDecl.{EventDecl}
use Rattle.stil_ast.specs.declared.timing.SignalWaves.{SignalWaves}
use Rattle.stil_ast.specs.declared.timing.TableDecl.{TableDecl}
use Rattle.stil_ast.specs.declared.scan.ChainStmt.TheVariants as stmt
use Rattle.stil_ast.specs.declared.scan.ChainDecl.{ChainDecl}
use Rattle.stil_ast.specs.declared.body.Assignment.{Assignment}
use Rattle.stil_ast.specs.declared.body.Step.TheVariants.{Vector}
use Rattle.stil_ast.specs.declared.blocks.Blocks.{Blocks}
use Rattle.stil_ast.specs.declared.fault.StilKind.TheVariants.{Twice, OutOfRange, UnknownName, NoPeriod, EventOrder}
use Rattle.tester_types.specs.declared.wave.Act.TheVariants.{Push}
use Rattle.tester_types.specs.declared.wave.Push.TheVariants.{Down}

abbrev range : ℕ → ℕ → Option IndexRange
range first last = Some (record { first = first; last = last })

-- `a[first..last] In;`
abbrev bus : ℕ → ℕ → SignalDecl
bus first last = record { name = codes "a"; range = range first last; direction = In; line = 2 }

-- `a[first..last]=data;`
abbrev to_bus : ℕ → ℕ → List ℕ → Assignment
to_bus first last text =
    record { reference = Name (record { name = codes "a"; range = range first last }); items = items text; line = 11 }

-- the text of signals, where all signals of `a` have 0 and 1, and one vector
abbrev one_vector : List SignalDecl → Assignment → Blocks
one_vector signals a =
    text_of signals [] (table (codes "w") (codes "100ns") (driven (by_name (codes "a")) ∷ []) ∷ []) [] []
    (use_table (codes "w") (single 11 (Vector (a ∷ [])) no_more))

-- the bare name stands for all signals in declared order, downwards too
pub whole_bus : lines (one_vector (bus 2 0 ∷ []) (assign 11 (codes "a") (items (codes "100")))) ≡ cycle 0 0 0 (codes "100") ∷ []
unfolding digits
whole_bus = refl

-- a range stands for its signals in its own order, and one index for one signal
pub part_of_bus : lines (one_vector (bus 2 0 ∷ []) (to_bus 0 1 (codes "10"))) ≡ cycle 0 0 0 (codes "-01") ∷ []
unfolding digits
part_of_bus = refl

pub one_of_bus : lines (one_vector (bus 2 0 ∷ []) (to_bus 2 2 (codes "1"))) ≡ cycle 0 0 0 (codes "1--") ∷ []
unfolding digits
one_of_bus = refl

pub beyond_bus : fault (one_vector (bus 2 0 ∷ []) (to_bus 2 3 (codes "10"))) ≡ refused UnknownName (codes "Pattern") (codes "p") 11
unfolding digits is_digit
beyond_bus = refl

-- a range and one of its signals
pub bus_twice : fault (one_vector (bus 0 1 ∷ signal (codes "a[1]") In ∷ []) (to_bus 0 0 (codes "1"))) ≡ refused Twice (codes "Signals") [] 2
unfolding digits
bus_twice = refl

-- signal a with a table alone
abbrev with_table : TableDecl → Blocks
with_table t = text_of (signal (codes "a") In ∷ []) [] (t ∷ []) [] [] no_more

-- table w of these waveforms, with this period
abbrev timed : Option (List ℕ) → List SignalWaves → Blocks
timed None waves = with_table (record { name = codes "w"; period = None; inherits = []; waveforms = waves; line = 3 })
timed (Some period) waves = with_table (table (codes "w") period waves)

-- no period, one of 0, and one of 1001 microseconds
pub no_period : fault (timed None []) ≡ refused NoPeriod (codes "Timing") (codes "t") 3
no_period = refl

pub period_of_zero : fault (timed (Some (codes "0ns")) []) ≡ refused OutOfRange (codes "Timing") (codes "t") 4
unfolding is_digit
period_of_zero = refl

pub too_long_period : fault (timed (Some (codes "1000001ns")) []) ≡ refused OutOfRange (codes "Timing") (codes "t") 4
unfolding is_digit
too_long_period = refl

pub longest_period : fault (timed (Some (codes "1000000ns")) []) ≡ None
unfolding is_digit
longest_period = refl

abbrev event : ℕ → List ℕ → EventDecl
event line time = record { time = record { text = time; line = line }; acts = Push Down ∷ [] }

-- `0 { '40ns' D; 'time' D; }`
abbrev two_events : List ℕ → SignalWaves
two_events second = record {
  reference = by_name (codes "a");
  waves = record { characters = codes "0"; events = event 6 (codes "40ns") ∷ event 7 second ∷ [] } ∷ [];
  line = 6;
}

-- a later event isn't before an earlier one; equal times are in order
pub falls_back : fault (timed (Some (codes "100ns")) (two_events (codes "39ns") ∷ [])) ≡ refused EventOrder (codes "Timing") (codes "t") 7
unfolding is_digit
falls_back = refl

pub at_one_time : fault (timed (Some (codes "100ns")) (two_events (codes "40ns") ∷ [])) ≡ None
unfolding is_digit
at_one_time = refl

-- chains of a text with signals a and y
abbrev chained : List ChainDecl → Blocks
chained chains = with_chains chains (first_text no_more)

pub chain_twice : fault (chained (chain_at 4 (codes "c") (codes "y") ∷ chain_at 5 (codes "c") (codes "y") ∷ []))
    ≡ refused Twice (codes "ScanStructures") [] 5
unfolding is_digit
chain_twice = refl

pub chain_without_end : fault (chained (chain_at 4 (codes "c") (codes "z") ∷ [])) ≡ refused UnknownName (codes "ScanStructures") [] 4
unfolding is_digit
chain_without_end = refl

-- a chain from this signal to y, of one cell
abbrev chain_of : List ℕ → List ℕ → ChainDecl
chain_of input cell = record {
  name = codes "c";
  stmts = stmt.In (record { name = input; line = 5 }) ∷ stmt.Out (record { name = codes "y"; line = 6 })
      ∷ stmt.Cells (record { cells = record { name = cell; range = None } ∷ []; line = 7 }) ∷ [];
  line = 4;
}

pub chain_from_nowhere : fault (chained (chain_of (codes "z") (codes "f") ∷ [])) ≡ refused UnknownName (codes "ScanStructures") [] 5
unfolding is_digit
chain_from_nowhere = refl

pub longest_cell : fault (chained (chain_of (codes "a") (replicate 1024 97) ∷ [])) ≡ None
unfolding is_digit
longest_cell = refl

pub too_long_cell : fault (chained (chain_of (codes "a") (replicate 1025 97) ∷ [])) ≡ refused OutOfRange (codes "ScanStructures") [] 7
unfolding is_digit
too_long_cell = refl

-- two chains of one end are no fault
pub one_end : fault (chained (chain_at 4 (codes "c") (codes "y") ∷ chain_at 5 (codes "d") (codes "y") ∷ [])) ≡ None
unfolding is_digit
one_end = refl
