-- Joined bodies: what is found under a number stays there.
use Rattle.std.proofs.Common.{◌≡◌, ℕ, List, [], ◌∷◌, ◌++◌, Some, None, refl, ap, sym, ◌∙◌, subst, length, cond}
use Rattle.std.specs.Prelude.{slice_get}
use Rattle.std.specs.Option.{option_or}
use Rattle.std.specs.Str.{bytes_eq}
use Rattle.std.proofs.lemmas.Option.{slice_get_within}
use Rattle.stil_ast.specs.Meaning.Resolved.{bodies_named}
use Rattle.stil_ast.specs.declared.blocks.BodyDef.{BodyDef}
use Rattle.stil_ast.specs.declared.blocks.DefBlock.{DefBlock}
use Rattle.pattern_order.specs.Numbers.{place_in}
use Rattle.burst_exec.specs.Joined.{AreBodiesOf, AreJoined, HasJoined}
use Rattle.burst_exec.specs.Made.{AreMade}
use Rattle.burst_exec.specs.declared.joined.JoinedBodies.{JoinedBodies}
use Rattle.burst_exec.proofs.MadeLemmas.{slice_get-end, made_more}

-- a name that has a number
pub joined_there : (blocks : List DefBlock) (j : JoinedBodies) (name : List ℕ) (n : ℕ) → AreJoined blocks j
    → place_in j.places name ≡ Some n → HasJoined blocks name n j
joined_there blocks j name n are place =
    let here = are.each name n place in
    let bodies = here.there ∙ ap (λ (b : List BodyDef). Some b) here.is in
    record { are = are; there = slice_get_within j.made.items n (bodies_named blocks name) bodies; bodies = bodies }

-- bodies are put behind those that are there, and their name gets the next number
pub record Adds (blocks : List DefBlock) (old new : JoinedBodies) (name : List ℕ) : Type 0 where
  pub are : AreJoined blocks old
  pub made : new.made.items ≡ old.made.items ++ (bodies_named blocks name ∷ [])
  pub places : (called : List ℕ) → place_in new.places called
      ≡ option_or (place_in old.places called) (cond (bytes_eq name called) (Some (length old.made.items)) None)

-- a name that gets the next one
pub joined_more : (blocks : List DefBlock) (old new : JoinedBodies) (name : List ℕ) → Adds blocks old new name
    → HasJoined blocks name (length old.made.items) new
joined_more blocks old new name h =
    let bodies = bodies_named blocks name in
    let last : slice_get new.made.items (length old.made.items) ≡ Some bodies =
    ap (λ (all : List (List BodyDef)). slice_get all (length old.made.items)) h.made ∙ slice_get-end old.made.items bodies in
    record {
      are = subst (AreMade (AreBodiesOf blocks) new.places) (sym h.made)
          (made_more (AreBodiesOf blocks) old.places old.made.items new.places name bodies h.are refl h.places);
      there = slice_get_within new.made.items (length old.made.items) bodies last;
      bodies = last;
    }
