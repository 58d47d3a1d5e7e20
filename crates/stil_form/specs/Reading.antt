-- What a reader of statements answers, and which statements it skips. How statements are read one after another, up to
-- the first fault in text order, is said in `answers`.
use Rattle.std.specs.Prelude.{◌≡◌, ℕ, Bool, false, List, [], ◌∷◌, Result, Ok, Err}
pub use Rattle.answers.specs.Reading.{and_then, reading, stepping, IsFirst}
use Rattle.stil_form.specs.Lexeme.{Lexeme, word, name, text, sign}
use Rattle.stil_form.specs.Skipping.{is_listed}
use Rattle.stil_form.specs.declared.fault.FormFault.{FormFault}
use Rattle.stil_form.specs.declared.fault.FormFault.TheVariants.{NoMemory, Refused}

-- what a reader answers, where it is to answer this: the same, or want of memory
abbrev pub AnswersBy : {X Y : Type 0} → (X → Y) → Result X FormFault → Result Y FormFault → Type 0
AnswersBy view (Ok x) wanted = wanted ≡ Ok (view x)
AnswersBy view (Err NoMemory) wanted = Unit {0}
AnswersBy view (Err (Refused kind first)) wanted = wanted ≡ Err (Refused kind first)

-- the same, of a value that contracts see as it is
abbrev pub Answers : {X : Type 0} → Result X FormFault → Result X FormFault → Type 0
Answers result wanted = AnswersBy (λ x. x) result wanted

-- the head is that of a statement whose first word is one of these
abbrev pub is_skipped : List (List ℕ) → List Lexeme → Bool
is_skipped words [] = false
is_skipped words (word bytes ∷ rest) = is_listed words bytes
is_skipped words (name bytes ∷ rest) = false
is_skipped words (text bytes ∷ rest) = false
is_skipped words (sign kind ∷ rest) = false
