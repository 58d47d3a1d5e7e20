-- Plain numbers of a text's blocks, by which it can be told beforehand that its code is saved and its flat text
-- written.
use Rattle.std.specs.Prelude.{◌≡◌, ◌⊎◌, ℕ, suc, ◌+◌, ◌*◌, ◌^◌, ◌<◌, ◌≤◌, Bool, true, ◌&&◌, List, [], length, map, sum_by}
use Rattle.std.specs.List.{AllByRecursion, flat_map, list_all}
use Rattle.text_bytes.specs.Limits.{most_bytes, most_tables, most_waves, most_walked, most_measure}
use Rattle.tester_types.specs.declared.wave.Table.{Table}
use Rattle.stil_tree.specs.Grammar.{most_levels}
use Rattle.stil_ast.specs.Meaning.Signals.{Signal, names_of}
use Rattle.stil_ast.specs.Meaning.Executive.{table_list, chain_list, exec_vectors, executive_of}
use Rattle.stil_ast.specs.Meaning.ExecutiveData.{row_of, distinct_rows, measure_of}
use Rattle.stil_ast.specs.Faults.FrontFaults.{cycle_count}
use Rattle.stil_ast.specs.declared.blocks.Blocks.{Blocks}
use Rattle.stil_ast.specs.declared.executive.ExecDecl.{ExecDecl}
use Rattle.time_expr.specs.TimesOf.{times_of}
use Rattle.packed_code.specs.declared.parts.CodeChain.{CodeChain}
use Rattle.packed_code.specs.Conditions.{wave_count}
use Rattle.cycle_comp.specs.Compiled.{chain_of, least_of}
use Rattle.saved_laws.specs.Size.{Numbers, events_in, cells_in, chain_names, saved_most}
use Rattle.flat_parts.specs.FlatText.{is_plain}
use Rattle.tool_inputs.specs.Endings.{limit}

-- ---- the numbers of a text

-- the tables of all executives
abbrev pub text_tables : Blocks → List Table
text_tables blocks = flat_map (table_list times_of blocks) blocks.executives

-- the rows of all vectors, each once
abbrev pub text_rows : Blocks → List (List ℕ)
text_rows blocks =
    distinct_rows [] (flat_map (λ (e : ExecDecl). map row_of (exec_vectors blocks e)) blocks.executives)

-- the chains of an executive
abbrev pub text_chains : Blocks → ExecDecl → List CodeChain
text_chains blocks e = map chain_of (chain_list blocks e)

-- how few instructions take an executive at least, and one more
abbrev pub instructions_of : Blocks → ExecDecl → ℕ
instructions_of blocks e = least_of (length (names_of blocks).signals) (executive_of times_of blocks e) + 1

-- the bytes of the names of an executive and its chains
abbrev pub exec_bytes : Blocks → ExecDecl → ℕ
exec_bytes blocks e = length e.name + sum_by chain_names (text_chains blocks e)

-- the bytes of the names of all signals
abbrev pub signal_bytes : Blocks → ℕ
signal_bytes blocks = sum_by (λ (s : Signal). length s.text) (names_of blocks).signals

-- the cycles of all executives
abbrev pub text_cycles : Blocks → ℕ
text_cycles blocks = sum_by (cycle_count blocks) blocks.executives

-- the numbers of a text: how many signals, executives, tables, waves, events, rows, instructions, chains and cells it
-- has, and how many bytes their names
abbrev pub numbers_of : Blocks → Numbers
numbers_of blocks = record {
  signals = length (names_of blocks).signals;
  executives = length blocks.executives;
  tables = length (text_tables blocks);
  waves = wave_count (text_tables blocks);
  events = sum_by events_in (text_tables blocks);
  rows = length (text_rows blocks);
  instructions = sum_by (instructions_of blocks) blocks.executives;
  chains = sum_by (λ (e : ExecDecl). length (text_chains blocks e)) blocks.executives;
  cells = sum_by (λ (e : ExecDecl). cells_in (text_chains blocks e)) blocks.executives;
  names = signal_bytes blocks + sum_by (λ (t : Table). length t.name) (text_tables blocks)
      + sum_by (exec_bytes blocks) blocks.executives;
}

-- ---- the bounds

-- the saved form is short: its most bytes by these numbers are no more than a file may have
abbrev pub IsSavable : Blocks → Type 0
IsSavable blocks = saved_most (numbers_of blocks) ≤ limit

-- the most bytes of a flat text with such numbers: the names of its signals have so many bytes together, and none has
-- more than `longest`
abbrev pub flat_most : ℕ → ℕ → Numbers → ℕ
flat_most longest bytes n =
    40 + n.names + 12 * n.signals + 240 * n.executives + 88 * n.instructions + n.rows * (36 + 6 * n.signals + bytes)
    + n.executives * (90 * n.tables + n.waves * (longest + 14) + 32 * n.events)

-- no name has a double quote in it, which no text can write in a name
abbrev pub has_plain_texts : Blocks → Bool
has_plain_texts blocks =
    list_all (λ (s : Signal). is_plain s.text) (names_of blocks).signals
    && list_all (λ (e : ExecDecl). is_plain e.name) blocks.executives

-- The flat text is short and within all other limits. The Loops of the code nest `left` deep at most, as the measure of
-- each executive is below 2 ^ (left + 2) - 2; a vector that is run several times in a row is a Loop more in the flat
-- text. The measures are small by that depth or by the cycles. No signal's name has more than `longest` bytes.
pub record IsFlattable (blocks : Blocks) (left longest : ℕ) : Type 0 where
  pub plain : has_plain_texts blocks ≡ true
  pub names : AllByRecursion (λ (s : Signal). length s.text ≤ longest) (names_of blocks).signals
  pub levels : suc left < most_levels
  pub measures : AllByRecursion (λ (e : ExecDecl). measure_of (executive_of times_of blocks e) + 2 < 2 ^ suc (suc left))
      blocks.executives
  pub tables : (numbers_of blocks).tables ≤ most_tables
  pub waves : (numbers_of blocks).executives * (numbers_of blocks).waves ≤ most_waves
  pub walked : (numbers_of blocks).instructions * (4 + (numbers_of blocks).signals) ≤ most_walked
  pub measured : (2 * (2 ^ suc left * (numbers_of blocks).instructions) ≤ most_measure)
      ⊎ (4 * text_cycles blocks ≤ most_measure)
  pub short : flat_most longest (signal_bytes blocks) (numbers_of blocks) ≤ most_bytes
