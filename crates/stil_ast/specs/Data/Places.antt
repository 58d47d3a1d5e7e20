-- Where in a text something stands, and under which names its block is known.
use Rattle.std.specs.Prelude.{ℕ, List}

-- the place of a fault: the keyword and the name of its top-level statement, and its line
pub record Place : Type 0 where
  pub block : List ℕ
  pub name : List ℕ
  pub line : ℕ

-- the kinds of bodies: a pattern's own statements, those of a macro, those of a procedure
pub data Body : Type 0 where
  of_pattern : Body
  of_macro : Body
  of_procedure : Body

-- where a statement of a pattern stands: in a body of which kind, and on which line
pub record Origin : Type 0 where
  pub body : Body
  pub line : ℕ

-- the names of the blocks in which the bodies of a pattern stand
pub record Titles : Type 0 where
  pub pattern : List ℕ
  pub macros : List ℕ
  pub procedures : List ℕ
