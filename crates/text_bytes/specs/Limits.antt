-- The limits of texts, of what they declare and of testers, each once: the constants of the code. They are this
-- project's own.
use Rattle.std.specs.Prelude.{ℕ}
use Rattle.text_bytes.specs.declared.limit.TheConstants.{MOST_BYTES, LONGEST_NAME, LONGEST_LABEL, MOST_SIGNALS, MOST_GROUPS, MOST_EXECUTIVES, MOST_CHAINS, MOST_CELLS, MOST_REPEATS, MOST_PASSES, MOST_VARIABLES, MOST_TABLES, MOST_CODE_TABLES, MOST_PATTERNS, MOST_LISTED, MOST_EVENTS, LONGEST_PERIOD, MOST_WAVES, DEEPEST_CALLS, DEEPEST_LOOPS, MOST_WALKED, MOST_MEASURE, MOST_CYCLES, MOST_ROW_CHARACTERS, MOST_NETS, MOST_INPUTS, MOST_SITES, MOST_PLAN_SITES, MOST_PARTS}

-- the most bytes of a file
abbrev pub most_bytes : ℕ
most_bytes = MOST_BYTES

-- the most bytes of the name of a signal, a group, a net or a cell
abbrev pub longest_name : ℕ
longest_name = LONGEST_NAME

-- the most bytes of the name of a die or a file
abbrev pub longest_label : ℕ
longest_label = LONGEST_LABEL

-- the most signals, and the most groups
abbrev pub most_signals : ℕ
most_signals = MOST_SIGNALS

-- the most groups
abbrev pub most_groups : ℕ
most_groups = MOST_GROUPS

-- the most executives
abbrev pub most_executives : ℕ
most_executives = MOST_EXECUTIVES

-- the most chains of a scan structure
abbrev pub most_chains : ℕ
most_chains = MOST_CHAINS

-- the most cells of a chain, and its greatest length
abbrev pub most_cells : ℕ
most_cells = MOST_CELLS

-- how often `\rN` may repeat what stands behind it
abbrev pub most_repeats : ℕ
most_repeats = MOST_REPEATS

-- how often a Loop may run its body
abbrev pub most_passes : ℕ
most_passes = MOST_PASSES

-- the most variables of an executive
abbrev pub most_variables : ℕ
most_variables = MOST_VARIABLES

-- the most tables of a Timing
abbrev pub most_tables : ℕ
most_tables = MOST_TABLES

-- the most tables of all executives
abbrev pub most_code_tables : ℕ
most_code_tables = MOST_CODE_TABLES

-- the most patterns that an executive plays
abbrev pub most_patterns : ℕ
most_patterns = MOST_PATTERNS

-- the most cycles that are printed one by one
abbrev pub most_listed : ℕ
most_listed = MOST_LISTED

-- the most events of a waveform
abbrev pub most_events : ℕ
most_events = MOST_EVENTS

-- the greatest period, in femtoseconds
abbrev pub longest_period : ℕ
longest_period = LONGEST_PERIOD

-- the most waves of all executives
abbrev pub most_waves : ℕ
most_waves = MOST_WAVES

-- how deep macros and procedures may call one another
abbrev pub deepest_calls : ℕ
deepest_calls = DEEPEST_CALLS

-- how deep loops may nest, over all calls
abbrev pub deepest_loops : ℕ
deepest_loops = DEEPEST_LOOPS

-- the most statements walked and signals assigned
abbrev pub most_walked : ℕ
most_walked = MOST_WALKED

-- the greatest measure of all executives
abbrev pub most_measure : ℕ
most_measure = MOST_MEASURE

-- the most cycles of an executive
abbrev pub most_cycles : ℕ
most_cycles = MOST_CYCLES

-- the most characters of all distinct rows
abbrev pub most_row_characters : ℕ
most_row_characters = MOST_ROW_CHARACTERS

-- the most nets of a netlist
abbrev pub most_nets : ℕ
most_nets = MOST_NETS

-- the most inputs of a gate
abbrev pub most_inputs : ℕ
most_inputs = MOST_INPUTS

-- the most sites of a tester, which run side by side
abbrev pub most_sites : ℕ
most_sites = MOST_SITES

-- the most sites that a lot plan may name, over all testers
abbrev pub most_plan_sites : ℕ
most_plan_sites = MOST_PLAN_SITES

-- the most parts of a lot, or of a grade
abbrev pub most_parts : ℕ
most_parts = MOST_PARTS
