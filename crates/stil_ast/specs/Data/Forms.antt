-- The form of names, lines, references and data in a text that was read (IEEE 1450-1999, clauses 6 and 21).
use Rattle.std.specs.Prelude.{ℕ, ◌&&◌, not, Bool, true, List, [], ◌∷◌, Option, Some, None, nat_le}
use Rattle.std.specs.List.{list_any}
use Rattle.text_bytes.specs.Numbers.{is_within}
use Rattle.text_bytes.specs.Bytes.{is_character}
use Rattle.stil_ast.specs.Data.Texts.{is_name}
use Rattle.stil_ast.specs.Meaning.Statements.{Item, a_character, hash, percent}
use Rattle.stil_ast.specs.declared.name.IndexRange.{IndexRange}
use Rattle.stil_ast.specs.declared.name.Named.{Named}
use Rattle.stil_ast.specs.declared.name.NameRef.{NameRef}
use Rattle.stil_ast.specs.declared.name.Quoted.{Quoted}
use Rattle.stil_ast.specs.declared.name.SigRef.{SigRef}
use Rattle.stil_ast.specs.declared.name.SigRef.TheVariants.{Name, Group}

-- no item is equal to one behind it
abbrev pub all_differ : {A : Type 0} → (A → A → Bool) → List A → Bool
all_differ equal [] = true
all_differ equal (x ∷ xs) = not (list_any (equal x) xs) && all_differ equal xs

-- what may be left away, or has its form
abbrev pub is_absent_or : {A : Type 0} → (A → Bool) → Option A → Bool
is_absent_or test None = true
is_absent_or test (Some x) = test x

-- lines are counted from 1, in 32 bits
abbrev pub is_line : ℕ → Bool
is_line line = is_within 1 4294967295 line

-- the name of a block that may go without one
abbrev pub is_optional_name : List ℕ → Bool
is_optional_name [] = true
is_optional_name (c ∷ cs) = is_name (c ∷ cs)

-- indices have 32 bits
abbrev pub is_range : IndexRange → Bool
is_range r = nat_le r.first 4294967295 && nat_le r.last 4294967295

-- a name, with indices or without
abbrev pub is_name_ref : NameRef → Bool
is_name_ref r = is_name r.name && is_absent_or is_range r.range

-- a text in quotes, on its line
abbrev pub is_quoted : Quoted → Bool
is_quoted q = is_line q.line

-- a reference to signals; the form of a group expression is judged where it is used
abbrev pub is_sig_ref : SigRef → Bool
is_sig_ref (Name r) = is_name_ref r
is_sig_ref (Group q) = is_quoted q

-- a statement that names a block which has a name
abbrev pub is_named : Named → Bool
is_named n = is_name n.name && is_line n.line

-- the same of a block that may be the unnamed one
abbrev pub is_optionally_named : Named → Bool
is_optionally_named n = is_optional_name n.name && is_line n.line

-- an item of data
abbrev pub is_item : Item → Bool
is_item (a_character c) = is_character c
is_item hash = true
is_item percent = true
