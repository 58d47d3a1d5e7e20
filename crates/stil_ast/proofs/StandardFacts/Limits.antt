-- How deep loops and calls go, and how large a pattern may be.
use Rattle.std.proofs.Common.{◌≡◌, ℕ, zero, suc, List, [], ◌∷◌, None, refl, codes, replicate}
use Rattle.text_bytes.specs.Bytes.{is_digit}
use Rattle.stil_ast.specs.Meaning.Running.{calls}
use Rattle.stil_ast.specs.Meaning.Flattening.{flat_calls}
use Rattle.stil_ast.specs.Data.Written.{Written, no_more, single, looped}
use Rattle.stil_ast.specs.Faults.PatternFaults.{check_calls}
use Rattle.stil_ast.proofs.StandardFacts.Texts.{signal, by_name, driven, table, text_of}
use Rattle.stil_ast.proofs.StandardFacts.Lines.{fault, refused}
use Rattle.tester_types.specs.declared.signal.Direction.TheVariants.{In}
use Rattle.stil_ast.specs.declared.body.Step.TheVariants.{Macro}
use Rattle.stil_ast.specs.declared.blocks.BodyDef.{BodyDef}
use Rattle.stil_ast.specs.declared.blocks.Blocks.{Blocks}
use Rattle.stil_ast.specs.declared.fault.StilKind.TheVariants.{TooLarge}

-- so many loops, one in another
abbrev nested : ℕ → Written
nested zero = no_more
nested (suc n) = looped 10 1 (nested n) no_more

abbrev looping : ℕ → Blocks
looping n = text_of (signal (codes "a") In ∷ []) [] (table (codes "w") (codes "100ns") (driven (by_name (codes "a")) ∷ []) ∷ []) [] [] (nested n)

-- 21 loops have the measure 2^22 - 2, and 22 have more than 2^22
pub largest : fault (looping 21) ≡ None
unfolding is_digit
largest = refl

pub too_large : fault (looping 22) ≡ refused TooLarge (codes "PatternExec") [] 16
unfolding is_digit
too_large = refl

-- 64 loops stand one in another, but not 65
pub deepest_loops : fault (looping 64) ≡ refused TooLarge (codes "PatternExec") [] 16
unfolding is_digit
deepest_loops = refl

pub too_deep_loops : fault (looping 65) ≡ refused TooLarge (codes "Pattern") (codes "p") 10
unfolding is_digit
too_deep_loops = refl

-- a macro's name, by its number
abbrev macro_name : ℕ → List ℕ
macro_name n = replicate (suc n) 97

-- macros that each run the next, up to one that runs nothing
abbrev macros_from : ℕ → ℕ → List BodyDef
macros_from n zero = record { name = macro_name n; body = no_more } ∷ []
macros_from n (suc more) =
    record { name = macro_name n; body = single 20 (Macro (macro_name (suc n)) []) no_more } ∷ macros_from (suc n) more

abbrev calling : ℕ → Blocks
calling n = text_of (signal (codes "a") In ∷ []) [] (table (codes "w") (codes "100ns") (driven (by_name (codes "a")) ∷ []) ∷ []) (macros_from 0 n) []
    (single 11 (Macro (macro_name 0) []) no_more)

-- calls go 64 deep
pub deepest_calls : fault (calling 63) ≡ None
unfolding calls flat_calls check_calls is_digit
deepest_calls = refl

pub too_deep_calls : fault (calling 64) ≡ refused TooLarge (codes "MacroDefs") [] 20
unfolding calls flat_calls check_calls is_digit
too_deep_calls = refl
