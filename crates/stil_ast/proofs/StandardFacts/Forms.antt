-- What reading lets pass: the scan text is of one text, and names, waveforms, bodies and counts end where they are to.
use Rattle.std.proofs.Common.{◌≡◌, ℕ, ◌+◌, ◌^◌, ◌≤◌, length, Bool, true, false, List, [], ◌∷◌, ◌++◌, Some, None, refl, codes, replicate, arith, if◌then◌else◌}
use Rattle.text_bytes.specs.Bytes.{is_character, is_printable}
use Rattle.stil_ast.specs.Data.Texts.{same, is_name}
use Rattle.stil_ast.specs.Data.BlockForms.{is_wave_decl, is_body, is_cells_decl, is_chain_decl, is_burst, is_selector}
use Rattle.stil_ast.specs.Data.OneText.{tables_differ_in, bodies_differ_in, AreOfOneText}
use Rattle.stil_ast.specs.Data.Written.{no_more, single, looped}
use Rattle.stil_ast.proofs.StandardFacts.Lines.{items}
use Rattle.stil_ast.proofs.StandardFacts.Texts.{assign}
use Rattle.stil_ast.proofs.StandardFacts.ScanText.{load_unload, capture, scan_tables, scan_chains, scan_text}
use Rattle.stil_ast.specs.declared.variable.Choice.TheVariants.{Max}
use Rattle.stil_ast.specs.declared.variable.Selection.{Selection}
use Rattle.stil_ast.specs.declared.timing.EventDecl.{EventDecl}
use Rattle.stil_ast.specs.declared.timing.TableDecl.{TableDecl}
use Rattle.stil_ast.specs.declared.timing.WaveDecl.{WaveDecl}
use Rattle.stil_ast.specs.declared.scan.CellsDecl.{CellsDecl}
use Rattle.stil_ast.specs.declared.scan.ChainStmt.TheVariants as stmt
use Rattle.stil_ast.specs.declared.scan.ChainStmt.{ChainStmt}
use Rattle.stil_ast.specs.declared.scan.ChainDecl.{ChainDecl}
use Rattle.stil_ast.specs.declared.executive.BurstWord.{BurstWord}
use Rattle.stil_ast.specs.declared.executive.BurstWord.TheVariants.{SignalGroups, MacroDefs}
use Rattle.stil_ast.specs.declared.executive.BurstItem.{BurstItem}
use Rattle.stil_ast.specs.declared.body.Step.TheVariants.{Vector, Stop}
use Rattle.stil_ast.specs.declared.blocks.BodyDef.{BodyDef}
use Rattle.tester_types.specs.declared.wave.Act.{Act}
use Rattle.tester_types.specs.declared.wave.Act.TheVariants.{Push}
use Rattle.tester_types.specs.declared.wave.Push.TheVariants.{Down, Up}

-- what one block holds, where another name is looked up too
either_way : {A : Type 0} (Holds : List A → Type 0) (b : Bool) (xs : List A) → Holds (xs ++ []) → Holds []
    → Holds ((if b then xs else []) ++ [])
either_way Holds true xs found missed = found
either_way Holds false xs found missed = missed

-- the scan text is of one text
pub scan_text_is_one : AreOfOneText scan_text
unfolding is_character is_printable
scan_text_is_one = record {
  each_signal = refl;
  each_group_block = refl;
  each_spec = refl;
  each_selector = refl;
  each_timing = refl;
  each_scan_block = refl;
  each_macro_block = refl;
  each_procedure_block = refl;
  each_pattern = refl;
  each_burst = refl;
  each_executive = refl;
  selectors_differ = refl;
  patterns_differ = refl;
  bursts_differ = refl;
  tables_differ = λ name. either_way (λ (ts : List TableDecl). tables_differ_in ts ≡ true) (same [] name) scan_tables refl refl;
  macros_differ = λ name. refl;
  procedures_differ = λ name. either_way (λ (ds : List BodyDef). bodies_differ_in ds ≡ true) (same [] name) (load_unload ∷ capture ∷ []) refl refl;
  table_count = λ name. either_way (λ (ts : List TableDecl). length ts ≤ 64) (same [] name) scan_tables (omega arith) (omega arith);
  chain_count = λ name. either_way (λ (cs : List ChainDecl). length cs ≤ 256) (same [] name) scan_chains (omega arith) (omega arith);
  some_executive = omega arith;
  executive_count = omega arith;
}

-- a name has 1 to 1024 bytes, and a line feed is none of them
pub longest_name : is_name (replicate 1024 97) ≡ true
unfolding is_printable
longest_name = refl

pub too_long_name : is_name (replicate 1025 97) ≡ false
too_long_name = refl

pub empty_name : is_name [] ≡ false
empty_name = refl

pub two_lines_name : is_name (codes "a\nb") ≡ false
unfolding is_printable
two_lines_name = refl

-- waveform characters are letters and digits
pub low_line_is_none : is_character 95 ≡ false
unfolding is_character
low_line_is_none = refl

abbrev event : List Act → EventDecl
event acts = record { time = record { text = codes "0ns"; line = 7 }; acts = acts }

abbrev wave : List ℕ → List EventDecl → WaveDecl
wave characters events = record { characters = characters; events = events }

-- two characters, with one act for both and one for each
pub two_characters : is_wave_decl (wave (codes "01") (event (Push Down ∷ []) ∷ event (Push Down ∷ Push Up ∷ []) ∷ [])) ≡ true
unfolding is_character
two_characters = refl

pub character_twice : is_wave_decl (wave (codes "010") []) ≡ false
unfolding is_character
character_twice = refl

pub two_acts_for_three : is_wave_decl (wave (codes "01Z") (event (Push Down ∷ Push Up ∷ []) ∷ [])) ≡ false
unfolding is_character
two_acts_for_three = refl

pub sixteen_events : is_wave_decl (wave (codes "0") (replicate 16 (event (Push Down ∷ [])))) ≡ true
unfolding is_character
sixteen_events = refl

pub seventeen_events : is_wave_decl (wave (codes "0") (replicate 17 (event (Push Down ∷ [])))) ≡ false
unfolding is_character
seventeen_events = refl

-- a Loop runs 1 to 2^48 times
pub most_runs : is_body false (looped 9 (2 ^ 48) no_more no_more) ≡ true
most_runs = refl

pub too_many_runs : is_body false (looped 9 (2 ^ 48 + 1) no_more no_more) ≡ false
too_many_runs = refl

pub no_runs : is_body false (looped 9 0 no_more no_more) ≡ false
no_runs = refl

-- Stop stands at the top level of a pattern, and nowhere else
pub stop_on_top : is_body true (looped 9 2 no_more (single 10 Stop no_more)) ≡ true
stop_on_top = refl

pub stop_in_a_loop : is_body true (looped 9 2 (single 10 Stop no_more) no_more) ≡ false
stop_in_a_loop = refl

pub stop_in_a_body : is_body false (single 10 Stop no_more) ≡ false
stop_in_a_body = refl

-- data of a character that is neither letter nor digit
pub sign_in_data : is_body true (single 10 (Vector (assign 10 (codes "a") (items (codes "0-")) ∷ [])) no_more) ≡ false
unfolding is_character is_printable
sign_in_data = refl

abbrev cells_to : ℕ → CellsDecl
cells_to last = record {
  cells = record { name = codes "c"; range = Some (record { first = 0; last = last }) } ∷ record { name = codes "d"; range = None } ∷ [];
  line = 5;
}

-- cells are counted by their indices: 2^20 of them, and one more
pub most_cells : is_cells_decl (cells_to 1048574) ≡ true
unfolding is_printable
most_cells = refl

pub too_many_cells : is_cells_decl (cells_to 1048575) ≡ false
unfolding is_printable
too_many_cells = refl

abbrev chain : List ChainStmt → ChainDecl
chain stmts = record { name = codes "c"; stmts = stmts; line = 4 }

pub too_long_chain : is_chain_decl (chain (stmt.Length (2 ^ 20 + 1) ∷ [])) ≡ false
unfolding is_printable
too_long_chain = refl

pub length_twice : is_chain_decl (chain (stmt.Length 3 ∷ stmt.Cells (cells_to 1) ∷ stmt.Length 3 ∷ [])) ≡ false
unfolding is_printable
length_twice = refl

pub length_and_cells : is_chain_decl (chain (stmt.Length 3 ∷ stmt.Cells (cells_to 1) ∷ [])) ≡ true
unfolding is_printable
length_and_cells = refl

abbrev item : BurstWord → BurstItem
item word = record { word = word; name = codes "g"; line = 12 }

-- a burst names SignalGroups as often as it likes, and MacroDefs once
pub groups_twice : is_burst (record { name = codes "b"; items = item SignalGroups ∷ item SignalGroups ∷ item MacroDefs ∷ [] }) ≡ true
unfolding is_printable
groups_twice = refl

pub macros_twice : is_burst (record { name = codes "b"; items = item MacroDefs ∷ item SignalGroups ∷ item MacroDefs ∷ [] }) ≡ false
unfolding is_printable
macros_twice = refl

abbrev selection : Selection
selection = record { name = codes "per"; choice = Max }

-- a Selector takes a variable's value once
pub selection_twice : is_selector (record { name = codes "s"; selections = selection ∷ selection ∷ [] }) ≡ false
unfolding is_printable
selection_twice = refl
