-- The statements of a flat text's pattern take no data in loops, so its flat tree has its run.
use Rattle.std.proofs.Common.{◌≡◌, ℕ, Bool, true, false, cond, nat_lt, [], slice_get, Option, refl}
use Rattle.std.proofs.lemmas.Bool.{and_from}
use Rattle.packed_code.specs.Program.{Program}
use Rattle.stil_ast.specs.Data.Places.{of_pattern}
use Rattle.stil_ast.specs.Data.Written as written
use Rattle.stil_ast.specs.Data.Written.{Written}
use Rattle.stil_ast.specs.declared.body.Step.TheVariants.{Call}
use Rattle.stil_ast.specs.Meaning.Statements.{Statements}
use Rattle.stil_ast.specs.Meaning.Resolved.{Scope, body_number, resolved}
use Rattle.stil_ast.specs.Meaning.Running.{Setting}
use Rattle.stil_ast.specs.Meaning.Laws.{is_steady, steady_loops, bodies_pass}
use Rattle.flat_parts.specs.Nests.{RunLines, Nest, nothing, run, loop, row_name, written_in}
use Rattle.flat_cycles.proofs.RunLemmas.{OfRuns}

-- statements without data that is taken, whose bodies pass a test
pub record AreSteady (t : Setting) (test : Option Statements → Bool) (x : Statements) : Type 0 where
  pub loops : steady_loops x ≡ true
  pub inside : is_steady x ≡ true
  pub bodies : bodies_pass t test x ≡ true

module _ (code : Program) (scope : Scope) (t : Setting) (test : Option Statements → Bool) where
  -- the procedure of a row passes
  abbrev pub Passes : ℕ → ℕ → ℕ → Type 0
  Passes table row times = test (slice_get t.procedures (body_number scope.procedures (row_name code row))) ≡ true

  steady_calls : (several : Bool) (lines : RunLines) (row times : ℕ) (rest : Written) → Passes row row times
      → AreSteady t test (resolved scope of_pattern rest)
      → AreSteady t test (resolved scope of_pattern (cond several
      (written.looped lines.loop times (written.single lines.call (Call (row_name code row) []) written.no_more) rest)
      (written.single lines.call (Call (row_name code row) []) rest)))
  steady_calls true lines row times rest passes behind = record {
    loops = behind.loops;
    inside = behind.inside;
    bodies = and_from _ _ (and_from _ _ passes refl) behind.bodies;
  }
  steady_calls false lines row times rest passes behind = record {
    loops = behind.loops;
    inside = behind.inside;
    bodies = and_from _ _ passes behind.bodies;
  }

  -- the statements of a pattern
  pub nest_steady : (nest : Nest) → OfRuns Passes nest → AreSteady t test (resolved scope of_pattern (written_in code nest))
  nest_steady nothing pass = record { loops = refl; inside = refl; bodies = refl }
  nest_steady (run lines table row mark times rest) pass =
      let s = steady_calls (nat_lt 1 times) lines row times (written_in code rest) pass.0 (nest_steady rest pass.1) in
      record { loops = s.loops; inside = s.inside; bodies = s.bodies }
  nest_steady (loop line times body rest) pass =
      let one = nest_steady body pass.0 in
      let two = nest_steady rest pass.1 in
      record {
        loops = and_from _ _ (and_from _ _ one.inside one.loops) two.loops;
        inside = and_from _ _ one.inside two.inside;
        bodies = and_from _ _ one.bodies two.bodies;
      }
