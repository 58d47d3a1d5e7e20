use Rattle.std.proofs.Common.{ℕ, ◌+◌, ◌-◌, drop}
use Rattle.stil_ast.specs.Data.Bodies.{written_of}
use Rattle.stil_ast.specs.Data.Written.{written_size}
use Rattle.stil_ast.specs.Meaning.Signals.{Names}
use Rattle.macro_expand.specs.Passes.{ArePassing}
use Rattle.macro_expand.specs.Recursing.{setting_in, stands, check_named, flat_named}
use Rattle.macro_expand.specs.Scopes.{scope_in, IsNamed}
use Rattle.macro_expand.specs.Walking.{IsWalking}
use Rattle.macro_expand.proofs.GoLemmas.{most_in, action_size, to_go}
use Rattle.macro_expand.proofs.+walk.Given as goal

-- so many statements are walked, and the others are left
abbrev pub invariant-walking::walk_list-loop-stmt : goal.invariant-walking::walk_list-loop-stmt
invariant-walking::walk_list-loop-stmt l = (names : Names) → IsNamed names l.scope
    → IsWalking (scope_in names l.scope) (setting_in names l.scope) (check_named names l.scope l.s)
    (flat_named names l.scope l.s) (stands names l.scope l.s) l.fn.body l.fn.walk
    (written_of (drop l.stmt-index l.stmt-items)) l.walk

-- each call is of a part of what its caller has, or of a body one call deeper
abbrev pub decreases-walking::walk_list : goal.decreases-walking::walk_list
decreases-walking::walk_list l =
    to_go (most_in l.scope.now) l.s.now.calls (written_size l.body.now) 9

abbrev pub decreases-walking::walk_statement : goal.decreases-walking::walk_statement
decreases-walking::walk_statement l =
    to_go (most_in l.scope.now) l.s.now.calls (action_size l.stmt.now.action) 8

abbrev pub decreases-walking::walk_action : goal.decreases-walking::walk_action
decreases-walking::walk_action l =
    to_go (most_in l.scope.now) l.s.now.calls (action_size l.action.now) 7

abbrev pub decreases-walking::walk_step : goal.decreases-walking::walk_step
decreases-walking::walk_step l =
    to_go (most_in l.scope.now) l.s.now.calls 0 6

abbrev pub decreases-walking::walk_loop : goal.decreases-walking::walk_loop
decreases-walking::walk_loop l =
    to_go (most_in l.scope.now) l.s.now.calls (written_size l.body.now + 1) 6

abbrev pub decreases-walking::walk_macro : goal.decreases-walking::walk_macro
decreases-walking::walk_macro l =
    to_go (most_in l.scope.now) l.s.now.calls 0 5

abbrev pub decreases-walking::walk_call : goal.decreases-walking::walk_call
decreases-walking::walk_call l =
    to_go (most_in l.scope.now) l.s.now.calls 0 5

abbrev pub decreases-walking::walk_named : goal.decreases-walking::walk_named
decreases-walking::walk_named l =
    to_go (most_in l.scope.now) l.s.now.calls 0 4

abbrev pub decreases-walking::walk_body : goal.decreases-walking::walk_body
decreases-walking::walk_body l =
    to_go (most_in l.scope.now) l.s.now.calls 0 3

abbrev pub decreases-shifting::walk_shift : goal.decreases-shifting::walk_shift
decreases-shifting::walk_shift l =
    to_go (most_in l.scope.now) l.s.now.calls (written_size l.body.now + 1) 6

abbrev pub decreases-shifting::walk_without : goal.decreases-shifting::walk_without
decreases-shifting::walk_without l = to_go (most_in l.scope.now) l.s.now.calls (written_size l.body.now + 1) 5

abbrev pub decreases-shifting::walk_passes : goal.decreases-shifting::walk_passes
decreases-shifting::walk_passes l = to_go (most_in l.scope.now) l.inside.now.calls (written_size l.body.now + 1) 5

-- so many passes are still to come
abbrev pub invariant-shifting::walk_passes-loop : goal.invariant-shifting::walk_passes-loop
invariant-shifting::walk_passes-loop l = (names : Names) (line : ℕ) → IsNamed names l.scope
    → ArePassing names l.scope l.inside line l.count l.body l.fn.walk (l.count - l.counter) l.walk
