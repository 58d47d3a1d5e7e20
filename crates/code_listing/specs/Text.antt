-- What is printed of a code: its numbers; its dated cycles; the moments of its cycles.
use Rattle.std.specs.Prelude.{ℕ, ◌==◌, List, [], ◌++◌, codes, decimal, length, map, slice_index_or, sum_by, if◌then◌else◌}
use Rattle.std.specs.List.{flat_map}
use Rattle.tester_types.specs.Printing.{printed_name, printed_title}
use Rattle.tester_types.specs.declared.cycle.Moment.{Moment}
use Rattle.tester_types.specs.declared.wave.Push.{Push}
use Rattle.tester_types.specs.declared.wave.Look.{Look}
use Rattle.packed_code.specs.Meaning.{Means}
use Rattle.packed_code.specs.Program.{Exec, Program}
use Rattle.packed_code.specs.Cycles.{pages_of}
use Rattle.edge_gen.specs.Signals.{no_skews}
use Rattle.edge_gen.specs.Moments.{moments_of}
use Rattle.tester_types.specs.Acts.{push_letter, look_letter}
use Rattle.code_listing.specs.Listing.{Listed, ListedExec, cycles_in, time_of}

-- how many cycles executives have
abbrev pub cycles_among : List Exec → ℕ
cycles_among execs = sum_by (λ exec. length (Means exec.instrs)) execs

-- how many instructions
abbrev pub instrs_among : List Exec → ℕ
instrs_among execs = sum_by (λ exec. length exec.instrs) execs

-- the numbers of a code
abbrev pub check_text : Program → List ℕ
check_text code =
    codes "ok execs " ++ decimal (length code.execs) ++ codes " cycles " ++ decimal (cycles_among code.execs)
    ++ codes " rows " ++ decimal (length code.rows) ++ codes " instructions " ++ decimal (instrs_among code.execs)
    ++ codes " pages " ++ decimal (length (pages_of code)) ++ codes "\n"

-- a character of a signal, `-` for none
abbrev pub character_or_dash : ℕ → ℕ
character_or_dash character = if character == 0 then 45 else character

-- the line of an executive, by its number and its name
abbrev pub exec_line : ListedExec → List ℕ
exec_line exec = codes "exec " ++ decimal exec.number ++ codes " " ++ printed_title exec.name ++ codes "\n"

-- an executive with its cycles, each printed so
abbrev pub exec_text : (Listed → List ℕ) → ListedExec → List ℕ
exec_text text exec = exec_line exec ++ flat_map text exec.cycles

-- several, one after another
abbrev pub execs_text : (Listed → List ℕ) → List ListedExec → List ℕ
execs_text text execs = flat_map (exec_text text) execs

-- the last line: how many cycles there are in all, and how long they take
abbrev pub end_line : ℕ → ℕ → List ℕ
end_line cycles time = codes "end " ++ decimal cycles ++ codes " " ++ decimal time ++ codes "\n"

-- executives with their cycles, each printed so, and the last line
abbrev pub listing_text : (Listed → List ℕ) → List ListedExec → List ℕ
listing_text text execs = execs_text text execs ++ end_line (length (cycles_in execs)) (time_of (cycles_in execs))

-- a dated cycle by its number, its start, its table, and the characters of all signals
abbrev pub row_line : ℕ → ℕ → List ℕ → List ℕ → List ℕ
row_line number start table row =
    decimal number ++ codes " " ++ decimal start ++ codes " " ++ printed_name table ++ codes " " ++ row ++ codes "\n"

-- the same of a cycle
abbrev pub cycle_line : Listed → List ℕ
cycle_line cycle = row_line cycle.number cycle.start cycle.table.name (map character_or_dash cycle.row)

-- the dated cycles of executives
abbrev pub cycles_text : List ListedExec → List ℕ
cycles_text execs = listing_text cycle_line execs

-- the names of a code's signals
abbrev pub names_of : Program → List (List ℕ)
names_of code = map (λ signal. signal.name) code.signals

-- an act of a signal, by its name, a sign, and a character
abbrev pub act_words : List ℕ → List ℕ → List ℕ → List ℕ
act_words name sign letter = codes " " ++ printed_name name ++ sign ++ letter

-- a drive
abbrev pub push_words : List (List ℕ) → ℕ × Push → List ℕ
push_words names drive = act_words (slice_index_or names drive.0 []) (codes "=") (push_letter drive.1)

-- a look
abbrev pub look_words : List (List ℕ) → ℕ × Look → List ℕ
look_words names look = act_words (slice_index_or names look.0 []) (codes "?") (look_letter look.1)

-- the instant of a moment
abbrev pub instant_words : ℕ → List ℕ
instant_words at = codes "at " ++ decimal at

-- the drives of a moment, then its looks
abbrev pub acts_words : List (List ℕ) → Moment → List ℕ
acts_words names moment =
    (flat_map (push_words names) moment.drives ++ flat_map (look_words names) moment.looks) ++ codes "\n"

-- the line of a moment
abbrev pub moment_line : List (List ℕ) → Moment → List ℕ
moment_line names moment = instant_words moment.at ++ acts_words names moment

-- the line with which the moments of a cycle begin: its number, its start, and its table
abbrev pub head_line : ℕ → ℕ → List ℕ → List ℕ
head_line number start table =
    codes "cycle " ++ decimal number ++ codes " " ++ decimal start ++ codes " " ++ printed_name table ++ codes "\n"

-- the same of a cycle
abbrev pub moments_head : Listed → List ℕ
moments_head cycle = head_line cycle.number cycle.start cycle.table.name

-- the moments of a cycle, where no signal has a skew
abbrev pub moments_text : List (List ℕ) → Listed → List ℕ
moments_text names cycle =
    moments_head cycle
    ++ flat_map (moment_line names) (moments_of cycle.table cycle.row (no_skews (length cycle.row)) cycle.start)

-- the moments of the cycles of executives
abbrev pub events_text : List (List ℕ) → List ListedExec → List ℕ
events_text names execs = listing_text (moments_text names) execs
