-- Assignments and arguments, `ref = data;` (IEEE 1450-1999, clause 6, signal references, and clause 21).
use Rattle.std.specs.Prelude.{ℕ, ◌-◌, Bool, true, false, List, ◌∷◌, length, drop, Option, Some, None, Result, Ok, Err}
use Rattle.stil_lex.specs.declared.token.Token.{Token}
use Rattle.stil_form.specs.declared.fault.FormKind.{FormKind}
use Rattle.stil_form.specs.declared.fault.FormKind.TheVariants.{Shape, OutOfRange}
use Rattle.stil_form.specs.declared.front.Span.{Span}
use Rattle.stil_form.specs.declared.part.SignKind.TheVariants.{Equals}
use Rattle.stil_form.specs.Lexeme.{Lexeme, sign}
use Rattle.stil_form.specs.Fronts.{Ref, named, group, indices_of, reference_front}
use Rattle.stil_ast.specs.Meaning.Statements.{Item}
use Rattle.stil_ast.specs.declared.name.IndexRange.{IndexRange}
use Rattle.stil_ast.specs.declared.name.SigRef.{SigRef}
use Rattle.stil_ast.specs.declared.name.SigRef.TheVariants as ref
use Rattle.stil_ast.specs.Data.AssignmentCuts.{reference_of}
use Rattle.stil_ast.specs.declared.assignment_list.RefKind.{RefKind}
use Rattle.stil_ast.specs.declared.body.Assignment.{Assignment}
use Rattle.answers.specs.Reading.{and_then}
use Rattle.pat_read.specs.Data.{data_of}

-- the last tokens, so many of them
abbrev pub last_of : ℕ → List Token → List Token
last_of count tokens = drop (length tokens - count) tokens

-- indices, each at most 2^32 - 1
abbrev pub within_32 : Option (ℕ × ℕ) → Result (Option IndexRange) FormKind
within_32 None = Err OutOfRange
within_32 (Some pair) = Ok (Some (record { first = pair.0; last = pair.1 }))

-- the indices of a name, which may have none
abbrev pub range_of : Option Span → Result (Option IndexRange) FormKind
range_of None = Ok None
range_of (Some span) = within_32 (indices_of span)

-- a name with these indices
abbrev pub named_ref : List ℕ → Option IndexRange → SigRef
named_ref called range = ref.Name (record { name = called; range = range })

-- a reference that begins on this line
abbrev pub ref_of : ℕ → Ref → Result SigRef FormKind
ref_of line (named called span) = and_then (range_of span) (λ range. Ok (named_ref called range))
ref_of line (group expression) = Ok (ref.Group (record { text = expression; line = line }))

-- the data behind a reference: an `=`, and the last tokens, which are those behind it
abbrev pub data_behind : List ℕ → List Token → List Lexeme → Result (List Item) FormKind
data_behind bytes tokens (sign Equals ∷ rest) = data_of bytes (last_of (length rest) tokens)
data_behind bytes tokens _ = Err Shape

-- the reference of an assignment; one with a block has no form, and the indices are judged behind the form
abbrev pub referred : ℕ → Bool → Ref → Result SigRef FormKind
referred line true reference = Err Shape
referred line false reference = ref_of line reference

-- an assignment of these items
abbrev pub assigned : ℕ → Bool → Ref → List Item → Result Assignment FormKind
assigned line has_block reference items =
    and_then (referred line has_block reference) (λ found.
    Ok (record { reference = found; items = items; line = line }))

-- an assignment by the kind and the bytes of its reference
abbrev pub as_assignment : ℕ → RefKind → List ℕ → List Item → Assignment
as_assignment line kind bytes items = record { reference = reference_of kind bytes; items = items; line = line }

-- an assignment by its reference and what stands behind it
abbrev pub assignment_by : List ℕ → List Token → ℕ → Bool → Option (Ref × List Lexeme)
    → Result Assignment FormKind
assignment_by bytes tokens line has_block None = Err Shape
assignment_by bytes tokens line has_block (Some found) =
    and_then (data_behind bytes tokens found.1) (λ items. assigned line has_block found.0 items)

-- `ref = data;` on this line, by its tokens, which are these lexemes
abbrev pub assignment_of : List ℕ → List Token → ℕ → Bool → List Lexeme → Result Assignment FormKind
assignment_of bytes tokens line has_block lexemes = assignment_by bytes tokens line has_block (reference_front lexemes)
