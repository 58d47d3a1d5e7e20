-- Bodies that are joined by the names of their blocks.
use Rattle.std.specs.Prelude.{◌≡◌, ℕ, ◌<◌, List, Some, length, slice_get}
use Rattle.stil_ast.specs.Meaning.Resolved.{bodies_named}
use Rattle.stil_ast.specs.declared.blocks.BodyDef.{BodyDef}
use Rattle.stil_ast.specs.declared.blocks.DefBlock.{DefBlock}
use Rattle.burst_exec.specs.Made.{AreMade}
use Rattle.burst_exec.specs.declared.joined.JoinedBodies.{JoinedBodies}

-- the bodies of the blocks of a name
abbrev pub AreBodiesOf : List DefBlock → List ℕ → List BodyDef → Type 0
AreBodiesOf blocks name bodies = bodies ≡ bodies_named blocks name

-- each name that has a number has the bodies of these blocks under it
abbrev pub AreJoined : List DefBlock → JoinedBodies → Type 0
AreJoined blocks j = AreMade (AreBodiesOf blocks) j.places j.made.items

-- this name has this number
pub record HasJoined (blocks : List DefBlock) (name : List ℕ) (n : ℕ) (j : JoinedBodies) : Type 0 where
  pub are : AreJoined blocks j
  pub there : n < length j.made.items
  pub bodies : slice_get j.made.items n ≡ Some (bodies_named blocks name)
