-- How the code keeps what is read. No public clause cites this file.
use Rattle.std.specs.Prelude.{◌≡◌, ◌⊎◌, ◌≤◌, ℕ, zero, suc, List, [], ◌∷◌, length, map, reverse, take, drop, None, Result, Ok, Err}
use Rattle.stil_tree.specs.declared.builder.Open.{Open}
use Rattle.stil_tree.specs.declared.builder.Builder.{Builder}
use Rattle.stil_tree.specs.declared.fault.TreeFault.{TreeFault}
use Rattle.stil_tree.specs.declared.fault.TreeFault.TheVariants.{NoMemory}
use Rattle.stil_tree.specs.Trees.{Trees, Entry, trees_from, entry_of}
use Rattle.stil_tree.specs.Step.{Frame, State, going, failed}

-- the statements that are done in the innermost of the open blocks, which come with the innermost first
abbrev pub level : List Open → List Entry → List Entry
level [] done = done
level (o ∷ os) done = drop o.start done

-- the open blocks, each with the statements before it
abbrev pub frames : List Open → List Entry → List Frame
frames [] done = []
frames (o ∷ os) done =
    record { before = trees_from (level os (take o.start done)); first = o.first; count = o.count }
    ∷ frames os (take o.start done)

-- the open blocks begin one behind another, within so many statements
abbrev pub Stand : List Open → ℕ → Type 0
Stand [] n = Unit {0}
Stand (o ∷ os) n = (o.start ≤ n) × Stand os o.start

-- the same of blocks in memory, which has the innermost last
abbrev pub AreStanding : Builder → Type 0
AreStanding b = Stand (reverse b.blocks.items) (length b.done.items)

-- the open blocks in memory
abbrev pub frames_of : Builder → List Frame
frames_of b = frames (reverse b.blocks.items) (map entry_of b.done.items)

-- the statements in memory that are done in the innermost block
abbrev pub level_of : Builder → Trees
level_of b = trees_from (level (reverse b.blocks.items) (map entry_of b.done.items))

-- the state in memory
abbrev pub state_of : Builder → State
state_of b = going (frames_of b) (level_of b) b.first

-- a statement without a block, where its head isn't empty
abbrev pub ended_entry : ℕ → ℕ → List Entry
ended_entry first zero = []
ended_entry first (suc n) = record { first = first; count = suc n; body = None } ∷ []

-- a step answers the wanted state, or its fault, or that memory ran out
abbrev pub Gives : {X : Type 0} → Result X TreeFault → State → State → Type 0
Gives (Ok x) state wanted = state ≡ wanted
Gives (Err e) state wanted = (e ≡ NoMemory) ⊎ (wanted ≡ failed e)
