-- Shifts, arguments and patterns one after another.
use Rattle.std.proofs.Common.{◌≡◌, ℕ, List, [], ◌∷◌, ◌++◌, None, refl, codes}
use Rattle.text_bytes.specs.Bytes.{begins_name, is_blank, is_digit, is_printable, is_word}
use Rattle.stil_ast.specs.Meaning.Statements.{Item, hash, percent}
use Rattle.stil_ast.specs.Meaning.Running.{calls}
use Rattle.stil_ast.specs.Meaning.Flattening.{flat_calls}
use Rattle.stil_ast.specs.Data.Written.{Written, no_more, single, shifted}
use Rattle.stil_ast.specs.Faults.PatternFaults.{check_calls}
use Rattle.stil_ast.proofs.StandardFacts.Texts.{signal, group, by_text, driven, looked_at, table, assign, text_of, chain_at, with_chains, then_pattern}
use Rattle.stil_ast.proofs.StandardFacts.Lines.{lines, cycle, marks, items, fault, refused, use_table}
use Rattle.tester_types.specs.declared.signal.Direction.{Direction}
use Rattle.tester_types.specs.declared.signal.Direction.TheVariants.{In, Out, InOut}
use Rattle.stil_ast.specs.declared.executive.BurstWord.TheVariants.{ScanStructures, Entry}
use Rattle.stil_ast.specs.declared.executive.BurstItem.{BurstItem}
use Rattle.stil_ast.specs.declared.body.Assignment.{Assignment}
use Rattle.stil_ast.specs.declared.body.Step.TheVariants.{Vector, Condition, Macro, Stop}
use Rattle.stil_ast.specs.declared.blocks.Blocks.{Blocks}
use Rattle.stil_ast.specs.declared.fault.StilKind.TheVariants.{UnknownName, NoData, ShiftForm}

-- signals a, b and y, and a chain that ends at y; macro m has this body, and runs with these arguments behind this
abbrev scanning : Direction → Written → List Assignment → List Assignment → Blocks
scanning direction body before arguments = with_chains (chain_at 4 (codes "c") (codes "y") ∷ [])
    (text_of (signal (codes "a") In ∷ signal (codes "b") direction ∷ signal (codes "y") Out ∷ []) (group 3 (codes "g") (codes "a+b") ∷ [])
    (table (codes "w") (codes "100ns") (driven (by_text 6 (codes "a+b")) ∷ looked_at (by_text 7 (codes "y")) ∷ []) ∷ [])
    (record { name = codes "m"; body = body } ∷ []) []
    (use_table (codes "w") (single 10 (Condition before) (single 11 (Macro (codes "m") arguments) no_more))))

abbrev v : List Assignment → Written → Written
v assigns rest = single 20 (Vector assigns) rest

abbrev shift : List Assignment → Written → Written
shift assigns rest = shifted 21 (single 22 (Vector assigns) no_more) rest

abbrev to : List ℕ → List Item → Assignment
to name given = assign 23 name given

abbrev taken : List ℕ → Assignment
taken name = to name (hash ∷ [])

-- `V { g=#; y=#; } V { g=#; } Shift { V { g=#; y=#; } }` and then, in a second pattern, `V { y=X; } Stop; V { zz=1; }`
abbrev dealt : Blocks
dealt = then_pattern (v (to (codes "y") (items (codes "X")) ∷ []) (single 24 Stop (v (to (codes "zz") (items (codes "1")) ∷ []) no_more)))
    (scanning In
    (v (taken (codes "g") ∷ taken (codes "y") ∷ []) (v (taken (codes "g") ∷ []) (shift (taken (codes "g") ∷ taken (codes "y") ∷ []) no_more)))
    [] (to (codes "g") (items (codes "00011011")) ∷ to (codes "y") (items (codes "LHL")) ∷ []))

-- characters are dealt to the signals of a group in turn; the second pattern begins with what the first left; Stop ends all
pub dealt_in_turn : lines dealt
    ≡ cycle 0 0 0 (codes "00L") ∷ cycle 1 100 0 (codes "01L") ∷ cycle 2 200 0 (codes "10H") ∷ cycle 3 300 0 (codes "11L")
    ∷ cycle 4 400 0 (codes "11X") ∷ []
unfolding calls begins_name is_blank is_digit is_printable is_word
dealt_in_turn = refl

-- a mark counts what y has taken, in a Shift and outside of it
pub dealt_marks : marks dealt ≡ 1 ∷ 0 ∷ 2 ∷ 3 ∷ 0 ∷ []
unfolding calls begins_name is_blank is_printable is_word
dealt_marks = refl

pub dealt_without_fault : fault dealt ≡ None
unfolding calls flat_calls check_calls begins_name is_blank is_digit is_printable is_word
dealt_without_fault = refl

-- a Shift uses its signals up: a second one pads them with what is held
abbrev two_shifts : Blocks
two_shifts = scanning In (shift (taken (codes "a") ∷ []) (shift (taken (codes "a") ∷ taken (codes "y") ∷ []) no_more))
    (to (codes "b") (items (codes "0")) ∷ to (codes "y") (items (codes "X")) ∷ [])
    (to (codes "a") (items (codes "10")) ∷ to (codes "y") (items (codes "LH")) ∷ [])

pub used_up : lines two_shifts
    ≡ cycle 0 0 0 (codes "10X") ∷ cycle 1 100 0 (codes "00X") ∷ cycle 2 200 0 (codes "00L") ∷ cycle 3 300 0 (codes "00H") ∷ []
unfolding calls is_digit
used_up = refl

pub used_up_marks : marks two_shifts ≡ 0 ∷ 0 ∷ 1 ∷ 2 ∷ []
unfolding calls
used_up_marks = refl

-- `%` in a Shift looks at the character that `#` then takes; of a signal without `#` it looks at what is left of its own
abbrev looking : Blocks
looking = scanning In (shifted 21 (v (to (codes "a") (percent ∷ []) ∷ to (codes "b") (percent ∷ []) ∷ []) (v (taken (codes "a") ∷ []) no_more)) no_more)
    [] (to (codes "a") (items (codes "10")) ∷ to (codes "b") (items (codes "1")) ∷ [])

pub looks_in_a_shift : lines looking
    ≡ cycle 0 0 0 (codes "11-") ∷ cycle 1 100 0 (codes "11-") ∷ cycle 2 200 0 (codes "01-") ∷ cycle 3 300 0 (codes "01-") ∷ []
unfolding calls is_digit
looks_in_a_shift = refl

-- short data of three signals, with so much held
abbrev short : Direction → List Assignment → Blocks
short direction before = scanning direction (shift (taken (codes "a") ∷ taken (codes "b") ∷ taken (codes "y") ∷ []) no_more) before
    (to (codes "a") (items (codes "10")) ∷ to (codes "b") (items (codes "1")) ∷ to (codes "y") (items (codes "H")) ∷ [])

-- where nothing is held, a padded signal has no character: b in front, and y at the end
pub nothing_held : lines (short In []) ≡ cycle 0 0 0 (codes "1-H") ∷ cycle 1 100 0 (codes "01-") ∷ []
unfolding calls is_digit
nothing_held = refl

-- an InOut signal is padded in front, as an In signal is; padding counts in marks
pub in_out_in_front : lines (short InOut (to (codes "b") (items (codes "0")) ∷ to (codes "y") (items (codes "X")) ∷ []))
    ≡ cycle 0 0 0 (codes "10H") ∷ cycle 1 100 0 (codes "01X") ∷ []
unfolding calls is_digit
in_out_in_front = refl

pub padding_counts : marks (short InOut []) ≡ 1 ∷ 2 ∷ []
unfolding calls
padding_counts = refl

-- without arguments a Shift makes no pass; its `#` then lacks nothing
abbrev without_pass : List ℕ → Blocks
without_pass name = scanning In (shift (taken name ∷ []) no_more) [] []

pub no_pass : lines (without_pass (codes "a")) ≡ []
unfolding calls
no_pass = refl

pub no_pass_without_fault : fault (without_pass (codes "a")) ≡ None
unfolding calls flat_calls check_calls begins_name is_blank is_digit is_printable is_word
no_pass_without_fault = refl

-- but what it names has to be there
pub unknown_without_pass : fault (without_pass (codes "zz")) ≡ refused UnknownName (codes "MacroDefs") [] 23
unfolding calls flat_calls check_calls begins_name is_blank is_digit is_printable is_word
unknown_without_pass = refl

-- outside of a Shift a `#` needs a character
pub nothing_to_take : fault (scanning In (v (taken (codes "a") ∷ []) no_more) [] []) ≡ refused NoData (codes "MacroDefs") [] 23
unfolding calls flat_calls check_calls begins_name is_blank is_digit is_printable is_word
nothing_to_take = refl

-- an argument has no `%`
pub peeks_in_argument : fault (scanning In no_more [] (to (codes "a") (percent ∷ []) ∷ [])) ≡ refused ShiftForm (codes "Pattern") (codes "p") 23
unfolding calls flat_calls check_calls begins_name is_blank is_digit is_printable is_word
peeks_in_argument = refl

-- a text whose chain stands in ScanStructures s, and whose burst names these blocks
abbrev in_block : List BurstItem → Blocks → Blocks
in_block items b = record {
  signals = b.signals;
  groups = b.groups;
  specs = b.specs;
  selectors = b.selectors;
  timings = b.timings;
  scans = record { name = codes "s"; chains = chain_at 4 (codes "c") (codes "y") ∷ [] } ∷ [];
  macros = b.macros;
  procedures = b.procedures;
  patterns = b.patterns;
  bursts = record { name = codes "b"; items = items ++ record { word = Entry; name = codes "p"; line = 15 } ∷ [] } ∷ [];
  executives = b.executives;
}

abbrev shifting : Blocks
shifting = scanning In (shift (taken (codes "y") ∷ []) no_more) [] (to (codes "y") (items (codes "LH")) ∷ [])

-- an executive has the chains that its burst names, and without a name those of the unnamed block
pub named_chain : marks (in_block (record { word = ScanStructures; name = codes "s"; line = 14 } ∷ []) shifting) ≡ 1 ∷ 2 ∷ []
unfolding calls
named_chain = refl

pub unnamed_chain : marks (in_block [] shifting) ≡ 0 ∷ 0 ∷ []
unfolding calls
unnamed_chain = refl
