-- A statement of a body by its own tokens: its label, its keyword, and the form behind it (IEEE 1450-1999, clauses 22
-- to 24).
use Rattle.std.specs.Prelude.{ℕ, Bool, true, false, ◌&&◌, ◌||◌, nat_le, List, [], ◌∷◌, codes, Option, Some, None, is_some, Result, Ok, Err, if◌then◌else◌}
use Rattle.stil_form.specs.declared.fault.FormKind.{FormKind}
use Rattle.stil_form.specs.declared.fault.FormKind.TheVariants.{Shape, LeftOut, OutOfRange}
use Rattle.stil_form.specs.declared.part.SignKind.TheVariants.{Colon}
use Rattle.stil_form.specs.Lexeme.{Lexeme, word, sign}
use Rattle.text_bytes.specs.Numbers.{number_by}
use Rattle.text_bytes.specs.Limits.{most_passes}
use Rattle.stil_form.specs.Words.{is_keyword, named_by}
use Rattle.answers.specs.Reading.{and_then}
use Rattle.pat_read.specs.declared.outline.Keyword.{Keyword}
use Rattle.pat_read.specs.declared.outline.Keyword.TheVariants as keyword
use Rattle.pat_read.specs.declared.outline.Plain.{Plain}
use Rattle.pat_read.specs.declared.outline.Plain.TheVariants as plain
use Rattle.pat_read.specs.declared.outline.Outline.{Outline}
use Rattle.pat_read.specs.declared.outline.Outline.TheVariants as outline

-- the keyword that a token is; W, V and C have long forms
abbrev pub keyword_of : Lexeme → Option Keyword
keyword_of one =
    if is_keyword (codes "V") one || is_keyword (codes "Vector") one then Some keyword.Vector
    else if is_keyword (codes "W") one || is_keyword (codes "WaveformTable") one then Some keyword.Wave
    else if is_keyword (codes "C") one || is_keyword (codes "Condition") one then Some keyword.Condition
    else if is_keyword (codes "Loop") one then Some keyword.Loop
    else if is_keyword (codes "Macro") one then Some keyword.Macro
    else if is_keyword (codes "Call") one then Some keyword.Call
    else if is_keyword (codes "Shift") one then Some keyword.Shift
    else if is_keyword (codes "Stop") one then Some keyword.Stop
    else if is_keyword (codes "BreakPoint") one then Some keyword.BreakPoint
    else if is_keyword (codes "IddqTestPoint") one then Some keyword.IddqTestPoint
    else None

-- what stands behind a `:`, where the token in front of it is a name
abbrev pub behind_label : Bool → Lexeme → List Lexeme → List Lexeme
behind_label true called rest = rest
behind_label false called rest = called ∷ sign Colon ∷ rest

-- a statement without its label `name :`, of which it may have one
abbrev pub unlabelled : List Lexeme → List Lexeme
unlabelled (called ∷ sign Colon ∷ rest) = behind_label (is_some (named_by called)) called rest
unlabelled head = head

-- what a keyword says, where nothing stands behind it
abbrev pub alone : Outline → List Lexeme → Result Outline FormKind
alone said [] = Ok said
alone said (one ∷ rest) = Err Shape

-- what is there, or else the statement has no form
abbrev pub is_there : {X : Type 0} → Option X → Result X FormKind
is_there None = Err Shape
is_there (Some x) = Ok x

-- the one name that stands behind a keyword
abbrev pub only_name : List Lexeme → Result (List ℕ) FormKind
only_name (called ∷ []) = is_there (named_by called)
only_name _ = Err Shape

-- a plain statement of this name
abbrev pub named : (List ℕ → Plain) → List Lexeme → Result Outline FormKind
named said rest = and_then (only_name rest) (λ called. Ok (outline.Step (said called)))

-- a Loop runs 1 to 2^48 times
abbrev pub of_times : Option ℕ → Result Outline FormKind
of_times None = Err Shape
of_times (Some times) = if nat_le 1 times && nat_le times most_passes then Ok (outline.Loop times) else Err OutOfRange

-- a Loop, where digits stand behind its keyword
abbrev pub looped : List Lexeme → Result Outline FormKind
looped (word digits ∷ []) = of_times (number_by digits)
looped _ = Err Shape

-- a BreakPoint with a block is left out
abbrev pub block_at_break : List Lexeme → Result Outline FormKind
block_at_break [] = Err LeftOut
block_at_break (one ∷ rest) = Err Shape

-- the form of each keyword, which stands at a Pattern's top level or not, with a block or not, by what stands behind it
abbrev pub keyword_said : Bool → Keyword → Bool → List Lexeme → Result Outline FormKind
keyword_said top keyword.Wave false rest = named plain.Wave rest
keyword_said top keyword.Vector true rest = alone (outline.Step plain.Vector) rest
keyword_said top keyword.Condition true rest = alone (outline.Step plain.Condition) rest
keyword_said top keyword.Loop true rest = looped rest
keyword_said top keyword.Macro has_block rest = named plain.Macro rest
keyword_said top keyword.Call has_block rest = named plain.Call rest
keyword_said top keyword.Shift true rest = alone outline.Shift rest
keyword_said false keyword.Stop has_block rest = Err LeftOut
keyword_said true keyword.Stop false rest = alone (outline.Step plain.Stop) rest
keyword_said top keyword.BreakPoint false rest = alone (outline.Step plain.BreakPoint) rest
keyword_said top keyword.BreakPoint true rest = block_at_break rest
keyword_said top keyword.IddqTestPoint false rest = alone (outline.Step plain.IddqTestPoint) rest
keyword_said top other has_block rest = Err Shape

-- a statement whose first token is no keyword is left out
abbrev pub by_keyword : Bool → Option Keyword → Bool → List Lexeme → Result Outline FormKind
by_keyword top None has_block rest = Err LeftOut
by_keyword top (Some found) has_block rest = keyword_said top found has_block rest

-- a statement without a label
abbrev pub unlabelled_said : Bool → Bool → List Lexeme → Result Outline FormKind
unlabelled_said top has_block [] = Err LeftOut
unlabelled_said top has_block (one ∷ rest) = by_keyword top (keyword_of one) has_block rest

-- what a statement says, which stands at a Pattern's top level or not, with a block or not
abbrev pub statement_said : Bool → Bool → List Lexeme → Result Outline FormKind
statement_said top has_block head = unlabelled_said top has_block (unlabelled head)
