-- How the code holds how far it has come, and what a step of it does.
use Rattle.std.specs.Prelude.{◌≡◌, ◌++◌, Bool, List, if◌then◌else◌, ℕ}
use Rattle.stil_ast.specs.Faults.AssignmentFaults.{Walked}
use Rattle.stil_ast.specs.Meaning.Dealing.{Dealt}
use Rattle.stil_ast.specs.Meaning.Flat.{Flat}
use Rattle.stil_ast.specs.Meaning.Flattening.{joined, gifts_front}
use Rattle.flat_tree.specs.Kept.{kept}
use Rattle.macro_expand.specs.declared.walk.Walk.{Walk}
use Rattle.macro_expand.specs.Pairs.{Taker, hashed_in, dealt_to}

-- how far the check has come
abbrev pub walked : Walk → Walked
walked w = record { args = w.args; hashes = w.hashes; count = w.count }

-- a tree, and behind it what calls leave in another one
abbrev pub then_kept : Flat → Flat → Flat
then_kept before rest = joined before (kept rest)

-- behind a tree stands another one, whatever comes behind that, with what calls leave in it
abbrev pub Puts : Flat → (Flat → Flat) → Flat → Type 0
Puts before front after = (rest : Flat) → then_kept after rest ≡ then_kept before (front rest)

-- signals were given what they get, and those that got a `#` are noted
pub record Deals (in_shift : Bool) (d : Dealt) (hashed : List ℕ) (before after : Walk) : Type 0 where
  pub args : after.args ≡ d.args
  pub out : Puts before.out (gifts_front d.gifts) after.out
  pub taken : after.taken ≡ before.taken ++ hashed
  pub hashes : after.hashes ≡ (if in_shift then before.hashes ++ hashed else before.hashes)
  pub count : after.count ≡ before.count

-- so many of the signals are still to be given what they get; what is left, and what was done, are the whole
pub record IsDealing (in_shift : Bool) (takers : List Taker) (start : Walk) (left : List Taker) (now : Walk)
    : Type 0 where
  pub args : (dealt_to left now.args).args ≡ (dealt_to takers start.args).args
  pub out : (rest : Flat) → then_kept now.out (gifts_front (dealt_to left now.args).gifts rest)
      ≡ then_kept start.out (gifts_front (dealt_to takers start.args).gifts rest)
  pub taken : now.taken ++ hashed_in left ≡ start.taken ++ hashed_in takers
  pub hashes : (if in_shift then now.hashes ++ hashed_in left else now.hashes)
      ≡ (if in_shift then start.hashes ++ hashed_in takers else start.hashes)
  pub count : now.count ≡ start.count
