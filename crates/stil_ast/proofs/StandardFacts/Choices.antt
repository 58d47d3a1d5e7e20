-- Chosen variables, inherited tables, and bursts in bursts.
use Rattle.std.proofs.Common.{◌≡◌, ℕ, ◌*◌, ◌^◌, Bool, false, List, [], ◌∷◌, Option, Some, None, Ok, refl, codes, pos, take_while, if◌then◌else◌, map}
use Rattle.text_bytes.specs.Bytes.{is_digit}
use Rattle.stil_ast.specs.Data.Texts.{number_of}
use Rattle.stil_ast.specs.Meaning.Times.{Times}
use Rattle.stil_ast.specs.Meaning.Variables.{picked, value_of, variables_fault}
use Rattle.stil_ast.specs.Faults.BurstFaults.{exec_names_fault}
use Rattle.stil_ast.specs.Meaning.Bursts.{Played, played}
use Rattle.stil_ast.specs.Data.Written.{no_more, single}
use Rattle.stil_ast.proofs.StandardFacts.Texts.{signal, by_name, driven, looked_at, table, assign, text_of}
use Rattle.stil_ast.proofs.StandardFacts.Lines.{lines, cycle, items, fault, refused}
use Rattle.stil_ast.specs.declared.name.Named.{Named}
use Rattle.tester_types.specs.declared.signal.Direction.TheVariants.{In}
use Rattle.stil_ast.specs.declared.variable.Choice.TheVariants.{Max}
use Rattle.stil_ast.specs.declared.variable.VariableValue.TheVariants.{Same, Chosen}
use Rattle.stil_ast.specs.declared.variable.VariableDecl.{VariableDecl}
use Rattle.stil_ast.specs.declared.timing.TableDecl.{TableDecl}
use Rattle.stil_ast.specs.declared.executive.BurstWord.{BurstWord}
use Rattle.stil_ast.specs.declared.executive.BurstWord.TheVariants.{MacroDefs, Entry}
use Rattle.stil_ast.specs.declared.executive.BurstItem.{BurstItem}
use Rattle.stil_ast.specs.declared.executive.Burst.{Burst}
use Rattle.stil_ast.specs.declared.executive.ExecDecl.{ExecDecl}
use Rattle.stil_ast.specs.declared.body.Step.TheVariants.{Wave, Vector}
use Rattle.stil_ast.specs.declared.blocks.Blocks.{Blocks}
use Rattle.stil_ast.specs.declared.fault.StilFault.{StilFault}
use Rattle.stil_ast.specs.declared.fault.StilKind.TheVariants.{Twice, UnknownName, Cyclic}

-- a text that begins with a digit
abbrev is_number : List ℕ → Bool
is_number [] = false
is_number (c ∷ text) = is_digit c

-- times that are digits and `ns`, or the name of a variable
abbrev named_times : Times ℕ
named_times = record {
  value = λ names text. if is_number text then Ok (number_of (take_while is_digit text) * 10 ^ 6) else names text;
  whole = λ n. Some (pos n);
}

abbrev same_for_all : ℕ → List ℕ → List ℕ → VariableDecl
same_for_all line name text =
    record { name = name; value = Same (record { text = text; line = line }); line = line }

-- `name { Typ 'text'; Max 'text'; }`
abbrev two_values : ℕ → List ℕ → List ℕ → List ℕ → VariableDecl
two_values line name typ max = record {
  name = name;
  value = Chosen (record { min = None; typ = Some (record { text = typ; line = line }); max = Some (record { text = max; line = line }); meas = None });
  line = line;
}

abbrev named : ℕ → List ℕ → Named
named line name = record { name = name; line = line }

-- an executive that picks category c with a Selector or without, and burst b
abbrev exec_of : Option Named → ExecDecl
exec_of selector =
    record { name = []; categories = named 16 (codes "c") ∷ []; selector = selector; timing = None; burst = named 16 (codes "b"); line = 16 }

-- a text of one category c, a Selector s that takes Max for per, and these bursts
abbrev chosen_text : List VariableDecl → List Burst → Blocks
chosen_text variables bursts = record {
  signals = [];
  groups = [];
  specs = record { name = []; categories = record { name = codes "c"; variables = variables } ∷ [] } ∷ [];
  selectors = record { name = codes "s"; selections = record { name = codes "per"; choice = Max } ∷ [] } ∷ [];
  timings = [];
  scans = [];
  macros = [];
  procedures = [];
  patterns = record { name = codes "p"; body = no_more } ∷ record { name = codes "q"; body = no_more } ∷ [];
  bursts = bursts;
  executives = [];
}

abbrev periods : Blocks
periods =
    chosen_text (same_for_all 5 (codes "half") (codes "per") ∷ two_values 6 (codes "per") (codes "100ns") (codes "200ns") ∷ []) []

-- Typ is taken without a Selector, and what the Selector says with one; a variable stands for another's value
pub typ_is_default : value_of named_times (picked periods (exec_of None)) (codes "half") ≡ Ok (100 * 10 ^ 6)
unfolding is_digit
typ_is_default = refl

pub selector_says_max : value_of named_times (picked periods (exec_of (Some (named 16 (codes "s"))))) (codes "half")
    ≡ Ok (200 * 10 ^ 6)
unfolding is_digit
selector_says_max = refl

abbrev faults_of : List VariableDecl → Option StilFault
faults_of variables = variables_fault named_times (picked (chosen_text variables []) (exec_of None))

-- a name twice, a name that isn't there, and a variable that needs itself: each in the text where it is met
pub name_twice : faults_of (same_for_all 5 (codes "x") (codes "1ns") ∷ same_for_all 6 (codes "x") (codes "y") ∷ [])
    ≡ refused Twice (codes "Spec") [] 6
name_twice = refl

pub unknown_variable : faults_of (same_for_all 5 (codes "x") (codes "1ns") ∷ same_for_all 6 (codes "z") (codes "y") ∷ [])
    ≡ refused UnknownName (codes "Spec") [] 6
unfolding is_digit
unknown_variable = refl

pub needs_itself : faults_of (same_for_all 5 (codes "x") (codes "y") ∷ same_for_all 6 (codes "y") (codes "x") ∷ [])
    ≡ refused Cyclic (codes "Spec") [] 6
unfolding is_digit
needs_itself = refl

-- a table that inherits another, and has its own character 1
abbrev heir : List Named → TableDecl
heir inherits =
    record { name = codes "v"; period = None; inherits = inherits; waveforms = looked_at (by_name (codes "a")) ∷ []; line = 8 }

abbrev one_vector : List TableDecl → List ℕ → Blocks
one_vector tables text = text_of (signal (codes "a") In ∷ []) [] tables [] []
    (single 9 (Wave (codes "v")) (single 10 (Vector (assign 10 (codes "a") (items text) ∷ [])) (single 11 (Vector []) no_more)))

abbrev inherited : List ℕ → Blocks
inherited text =
    one_vector (heir (named 8 (codes "w") ∷ []) ∷ table (codes "w") (codes "70ns") (driven (by_name (codes "a")) ∷ []) ∷ []) text

-- the heir has the period and the characters of the other table, and its own
pub has_both : lines (inherited (codes "1")) ≡ cycle 0 0 0 (codes "1") ∷ cycle 1 70 0 (codes "1") ∷ []
unfolding is_digit
has_both = refl

pub inherits_characters : fault (inherited (codes "1")) ≡ None
unfolding is_digit
inherits_characters = refl

pub has_its_own : fault (inherited (codes "H")) ≡ None
unfolding is_digit
has_its_own = refl

-- a table that inherits itself
pub inherits_itself : fault (one_vector (heir (named 8 (codes "v") ∷ []) ∷ []) (codes "H"))
    ≡ refused Cyclic (codes "Timing") (codes "t") 8
inherits_itself = refl

abbrev item : ℕ → BurstWord → List ℕ → BurstItem
item line word name = record { word = word; name = name; line = line }

abbrev names_of : List Played → List (List ℕ × List ℕ)
names_of all = map (λ (p : Played). (p.pattern.name, p.macros)) all

-- a burst in a burst runs in place, with the MacroDefs from round it unless it names its own
pub in_place : names_of (played (chosen_text []
    (record { name = codes "b"; items = item 12 MacroDefs (codes "m") ∷ item 12 Entry (codes "d") ∷ item 12 Entry (codes "q") ∷ [] }
    ∷ record { name = codes "d"; items = item 13 Entry (codes "p") ∷ item 13 Entry (codes "e") ∷ [] }
    ∷ record { name = codes "e"; items = item 14 MacroDefs (codes "n") ∷ item 14 Entry (codes "q") ∷ [] } ∷ [])) (exec_of None))
    ≡ (codes "p", codes "m") ∷ (codes "q", codes "n") ∷ (codes "q", codes "m") ∷ []
in_place = refl

-- a burst in itself, and an entry that names nothing, which comes first
pub burst_in_itself : exec_names_fault (chosen_text []
    (record { name = codes "b"; items = item 12 Entry (codes "d") ∷ [] } ∷ record { name = codes "d"; items = item 13 Entry (codes "b") ∷ [] } ∷ []))
    (exec_of None)
    ≡ refused Cyclic (codes "PatternBurst") (codes "d") 13
burst_in_itself = refl

pub unknown_before_cyclic : exec_names_fault (chosen_text []
    (record { name = codes "b"; items = item 12 Entry (codes "d") ∷ item 12 Entry (codes "x") ∷ [] }
    ∷ record { name = codes "d"; items = item 13 Entry (codes "b") ∷ [] } ∷ [])) (exec_of None)
    ≡ refused UnknownName (codes "PatternBurst") (codes "b") 12
unknown_before_cyclic = refl
