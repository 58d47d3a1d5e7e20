-- The first fault of a text over all passes, how many cycles are printed, and data kept as runs.
use Rattle.std.proofs.Common.{◌≡◌, ℕ, [], ◌∷◌, Some, None, refl, codes}
use Rattle.std.specs.Fmt.{digits}
use Rattle.text_bytes.specs.Bytes.{is_digit}
use Rattle.stil_ast.specs.Data.Items.{run_length, lone_item}
use Rattle.stil_ast.specs.Faults.FrontFaults.{refused_by, read_as, fault_of_front, too_many_beyond, too_many_at}
use Rattle.stil_ast.specs.Meaning.Signals.{signal_texts}
use Rattle.stil_ast.proofs.StandardFacts.Texts.{nanoseconds, signal}
use Rattle.stil_ast.proofs.StandardFacts.Lines.{refused, use_table, first_text, three_vectors}
use Rattle.tester_types.specs.declared.signal.Direction.TheVariants.{In}
use Rattle.stil_ast.specs.declared.signal.SignalDecl.{SignalDecl}
use Rattle.stil_ast.specs.declared.data.VecItem.TheVariants.{Character, Take}
use Rattle.stil_ast.specs.declared.data.ItemRun.{ItemRun}
use Rattle.stil_ast.specs.declared.data.VecItem.{VecItem}
use Rattle.stil_ast.specs.declared.executive.ExecDecl.{ExecDecl}
use Rattle.stil_ast.specs.declared.blocks.Blocks.{Blocks}
use Rattle.stil_ast.specs.declared.fault.StilFault.{StilFault}
use Rattle.stil_ast.specs.declared.fault.StilKind.TheVariants.{NoExec, NoTable, TooManyCycles}

abbrev no_exec : StilFault
no_exec = record { kind = NoExec; block = []; name = []; line = 1 }

-- a text that reading refuses has that fault, and one that is read has the first fault of its meaning
pub reading_refuses : fault_of_front nanoseconds (refused_by no_exec) ≡ Some no_exec
reading_refuses = refl

pub meaning_refuses : fault_of_front nanoseconds (read_as (first_text three_vectors)) ≡ refused NoTable (codes "Pattern") (codes "p") 11
unfolding is_digit
meaning_refuses = refl

pub nothing_refuses : fault_of_front nanoseconds (read_as (first_text (use_table (codes "w") three_vectors))) ≡ None
unfolding is_digit
nothing_refuses = refl

abbrev on_line : ℕ → ExecDecl
on_line line = record {
  name = codes "e";
  categories = [];
  selector = None;
  timing = Some (record { name = codes "t"; line = line });
  burst = record { name = codes "b"; line = line };
  line = line;
}

-- two executives of three cycles each
abbrev run_twice : Blocks → Blocks
run_twice b = record {
  signals = b.signals;
  groups = b.groups;
  specs = b.specs;
  selectors = b.selectors;
  timings = b.timings;
  scans = b.scans;
  macros = b.macros;
  procedures = b.procedures;
  patterns = b.patterns;
  bursts = b.bursts;
  executives = on_line 16 ∷ on_line 17 ∷ [];
}

abbrev six_cycles : Blocks
six_cycles = run_twice (first_text (use_table (codes "w") three_vectors))

-- cycles are summed over executives, and the one with which they are too many is named
pub six_of_six : too_many_beyond 6 six_cycles ≡ None
six_of_six = refl

pub six_of_five : too_many_beyond 5 six_cycles ≡ refused TooManyCycles (codes "PatternExec") (codes "e") 17
six_of_five = refl

pub three_of_two : too_many_beyond 2 six_cycles ≡ refused TooManyCycles (codes "PatternExec") (codes "e") 16
three_of_two = refl

pub six_are_few : too_many_at six_cycles ≡ None
six_are_few = refl

abbrev runs : VecItem → ℕ → ItemRun
runs item times = record { item = item; times = times }

-- `\r1000000 0 #` has 1,000,001 items
pub many_items : run_length (runs (Character 48) 1000000 ∷ runs Take 1 ∷ []) ≡ 1000001
many_items = refl

-- `\r0 1 \r1 #` is a lone `#`, and `\r2 #` isn't
pub lone_take : lone_item (runs (Character 49) 0 ∷ runs Take 1 ∷ []) ≡ Some Take
lone_take = refl

pub two_takes : lone_item (runs Take 2 ∷ []) ≡ None
two_takes = refl

-- `a[1..0]` and `b` are signals of these texts
abbrev bus : SignalDecl
bus = record { name = codes "a"; range = Some (record { first = 1; last = 0 }); direction = In; line = 2 }

pub three_texts : signal_texts (bus ∷ signal (codes "b") In ∷ []) ≡ codes "a[1]" ∷ codes "a[0]" ∷ codes "b" ∷ []
unfolding digits
three_texts = refl
