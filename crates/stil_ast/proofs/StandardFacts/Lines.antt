-- Cycles and faults of whole texts, in few words.
use Rattle.std.proofs.Common.{ℕ, ◌*◌, ◌^◌, List, [], ◌∷◌, Option, Some, None, map, flat_map, codes}
use Rattle.stil_ast.specs.Meaning.Statements.{Item, a_character}
use Rattle.stil_ast.specs.Data.Written.{Written, no_more, single}
use Rattle.stil_ast.specs.Meaning.Cycles.{Dated}
use Rattle.stil_ast.specs.Meaning.Executive.{cycles}
use Rattle.stil_ast.specs.Faults.TextFaults.{blocks_fault}
use Rattle.stil_ast.proofs.StandardFacts.Texts.{nanoseconds, signal, by_name, driven, looked_at, table, assign, text_of}
use Rattle.tester_types.specs.declared.signal.Direction.TheVariants.{In, Out}
use Rattle.stil_ast.specs.declared.body.Step.TheVariants.{Wave, Vector as V}
use Rattle.stil_ast.specs.declared.blocks.Blocks.{Blocks}
use Rattle.stil_ast.specs.declared.fault.StilFault.{StilFault}
use Rattle.stil_ast.specs.declared.fault.StilKind.{StilKind}

-- the cycles of all executives
abbrev pub all_cycles : Blocks → List Dated
all_cycles blocks = flat_map (cycles nanoseconds blocks) blocks.executives

-- the characters of a line: `-` where a signal has none
abbrev pub shown_character : Option ℕ → ℕ
shown_character None = 45
shown_character (Some c) = c

-- a cycle as it is printed: its number, its start in nanoseconds, its table and its characters
pub record Line : Type 0 where
  pub number : ℕ
  pub start : ℕ
  pub table : Option ℕ
  pub text : List ℕ

abbrev pub line_of : Dated → Line
line_of d =
    record { number = d.number; start = d.start; table = d.vector.table; text = map shown_character d.vector.characters }

abbrev pub lines : Blocks → List Line
lines blocks = map line_of (all_cycles blocks)

-- the marks of all cycles
abbrev pub marks : Blocks → List ℕ
marks blocks = map (λ (d : Dated). d.vector.mark) (all_cycles blocks)

abbrev pub cycle : ℕ → ℕ → ℕ → List ℕ → Line
cycle number start tab text =
    record { number = number; start = start * 10 ^ 6; table = Some tab; text = text }

abbrev pub fault : Blocks → Option StilFault
fault blocks = blocks_fault nanoseconds blocks

abbrev pub refused : StilKind → List ℕ → List ℕ → ℕ → Option StilFault
refused kind block name line = Some (record { kind = kind; block = block; name = name; line = line })

abbrev pub items : List ℕ → List Item
items text = map a_character text

-- `W name;` on line 9
abbrev pub use_table : List ℕ → Written → Written
use_table name rest = single 9 (Wave name) rest

-- the text with signals a and y, table w, and three vectors
abbrev pub first_text : Written → Blocks
first_text body = text_of (signal (codes "a") In ∷ signal (codes "y") Out ∷ []) []
    (table (codes "w") (codes "100ns") (driven (by_name (codes "a")) ∷ looked_at (by_name (codes "y")) ∷ []) ∷ []) [] [] body

abbrev pub three_vectors : Written
three_vectors =
    single 11 (V (assign 11 (codes "a") (items (codes "0")) ∷ assign 11 (codes "y") (items (codes "H")) ∷ []))
    (single 12 (V (assign 12 (codes "a") (items (codes "1")) ∷ assign 12 (codes "y") (items (codes "L")) ∷ []))
    (single 13 (V (assign 13 (codes "y") (items (codes "X")) ∷ [])) no_more))
