-- Trees that are written piece by piece.
use Rattle.std.proofs.Common.{◌≡◌, ℕ, List, [], ◌∷◌, ◌++◌, refl, ap, ◌∙◌, append-nil}
use Rattle.stil_ast.specs.Data.Places.{Origin}
use Rattle.stil_ast.specs.Meaning.Arguments.{Entry, given, padding}
use Rattle.stil_ast.specs.Meaning.Dealing.{Gift}
use Rattle.stil_ast.specs.Meaning.Flat.{Flat, done, table, character, back, cycle}
use Rattle.stil_ast.specs.Meaning.Flattening.{joined, entry_front, gifts_front}
use Rattle.flat_tree.specs.Kept.{kept}
use Rattle.flat_tree.proofs.FlatLemmas.{joined-assoc}
use Rattle.macro_expand.specs.Walks.{then_kept}

pub append_none : (xs : List ℕ) → xs ++ [] ≡ xs
append_none xs = append-nil xs

-- what is put behind a tree stands in front of what comes
pub puts : (before one after rest : Flat) → after ≡ joined before one → joined after rest ≡ joined before (joined one rest)
puts before one after rest e = ap (λ (f : Flat). joined f rest) e ∙ joined-assoc before one rest

pub puts_character : (before after : Flat) (signal c : ℕ) (rest : Flat)
    → after ≡ joined before (character signal c done) → then_kept after rest ≡ then_kept before (character signal c rest)
puts_character before after signal c rest e = puts before (character signal c done) after (kept rest) e

pub puts_back : (before after : Flat) (signal : ℕ) (rest : Flat)
    → after ≡ joined before (back signal done) → then_kept after rest ≡ then_kept before (back signal rest)
puts_back before after signal rest e = puts before (back signal done) after (kept rest) e

pub puts_table : (before after : Flat) (t : ℕ) (rest : Flat)
    → after ≡ joined before (table t done) → then_kept after rest ≡ then_kept before (table t rest)
puts_table before after t rest e = puts before (table t done) after (kept rest) e

pub puts_cycle : (before after : Flat) (mark : ℕ) (spot : Origin) (rest : Flat)
    → after ≡ joined before (cycle mark spot done) → then_kept after rest ≡ then_kept before (cycle mark spot rest)
puts_cycle before after mark spot rest e = puts before (cycle mark spot done) after (kept rest) e

-- gifts one after another
pub gifts_front-append : (gifts more : List Gift) (rest : Flat)
    → gifts_front (gifts ++ more) rest ≡ gifts_front gifts (gifts_front more rest)
gifts_front-append [] more rest = refl
gifts_front-append (g ∷ gifts) more rest = ap (entry_front g.entry g.signal) (gifts_front-append gifts more rest)

entry_front-joined : (entry : Entry) (signal : ℕ) (f rest : Flat)
    → joined (entry_front entry signal f) rest ≡ entry_front entry signal (joined f rest)
entry_front-joined (given c) signal f rest = refl
entry_front-joined padding signal f rest = refl

-- gifts in front of a tree, and one behind it
pub gifts_front-joined : (gifts : List Gift) (f rest : Flat)
    → joined (gifts_front gifts f) rest ≡ gifts_front gifts (joined f rest)
gifts_front-joined [] f rest = refl
gifts_front-joined (g ∷ gifts) f rest =
    entry_front-joined g.entry g.signal (gifts_front gifts f) rest
    ∙ ap (entry_front g.entry g.signal) (gifts_front-joined gifts f rest)
