-- How the code holds where a statement stands.
use Rattle.std.specs.Prelude.{◌==◌, ◌&&◌, Bool, map, slice_get}
use Rattle.stil_ast.specs.Faults.AssignmentFaults.{Callee, Standing}
use Rattle.stil_ast.specs.Faults.PatternFaults.{bodies_of, same_kind}
use Rattle.stil_ast.specs.Meaning.Resolved.{Scope}
use Rattle.flat_tree.specs.Origins.{body_of}
use Rattle.macro_expand.specs.declared.standing.Callee.{Callee as HeldCallee}
use Rattle.macro_expand.specs.declared.standing.Standing.{Standing as HeldStanding}

-- the body for which a number stands
abbrev pub callee_in : Scope → HeldCallee → Callee
callee_in scope c = record {
  kind = body_of c.kind;
  number = c.number;
  found = slice_get (bodies_of scope (body_of c.kind)) c.number;
}

-- whether two numbers are of one body
abbrev pub is_one : HeldCallee → HeldCallee → Bool
is_one a b = same_kind (body_of a.kind) (body_of b.kind) && a.number == b.number

-- where the code says that a statement stands
abbrev pub standing_in : Scope → HeldStanding → Standing
standing_in scope s = record {
  body = body_of s.body;
  in_loop = s.in_loop;
  in_shift = s.in_shift;
  without_pass = s.without_pass;
  loops = s.loops;
  calls = s.calls;
  running = map (callee_in scope) s.running.now;
}
