-- What a V and a C write.
use Rattle.std.proofs.Common.{◌≡◌, ℕ, List, [], ap, sym, ◌∙◌}
use Rattle.std.specs.Prelude.{Result, Ok, Err}
use Rattle.stil_ast.specs.Data.Places.{Origin, Titles}
use Rattle.stil_ast.specs.Meaning.Statements.{Assign}
use Rattle.stil_ast.specs.Meaning.Dealing.{deal, takers, mark_of}
use Rattle.stil_ast.specs.Meaning.Flat.{Flat, done, cycle}
use Rattle.stil_ast.specs.Meaning.Flattening.{joined, cycle_piece, gifts_piece}
use Rattle.stil_ast.specs.Meaning.Running.{Setting}
use Rattle.stil_ast.specs.Faults.AssignmentFaults.{Walked, Checked}
use Rattle.macro_expand.specs.Refusing.{Trouble}
use Rattle.answers.specs.declared.short.Short.TheVariants.{NoMemory, Fault}
use Rattle.macro_expand.specs.declared.walk.Walk.{Walk}
use Rattle.macro_expand.specs.Placing.{Writes}
use Rattle.macro_expand.specs.Stepping.{Steps, StepsOr, WritesOr}
use Rattle.macro_expand.specs.Walks.{then_kept}
use Rattle.macro_expand.proofs.FlatLemmas.{puts_cycle, gifts_front-joined}

-- assignments are written, with nothing noted before, and then a vector
pub vector_steps : (check : Walked → Checked) (t : Setting) (assigns : List Assign) (before wrote : Walk) (place : Origin)
    → Writes check assigns (record before { taken = [] }) wrote → (out : Flat)
    → out ≡ joined wrote.out (cycle (mark_of t.scan_outs wrote.taken wrote.args) place done)
    → Steps check (cycle_piece t assigns (deal assigns before.args) (record { args = before.args; place = place })) before
    (record wrote { out = out })
vector_steps check t assigns before wrote place w out e =
    let d = deal assigns before.args in
    let same : mark_of t.scan_outs wrote.taken wrote.args ≡ mark_of t.scan_outs (takers assigns) d.args
    = ap (λ (xs : List ℕ). mark_of t.scan_outs xs wrote.args) w.taken
    ∙ ap (mark_of t.scan_outs (takers assigns)) w.args in
    record {
      checked = w.checked;
      out = λ rest.
          puts_cycle wrote.out out (mark_of t.scan_outs wrote.taken wrote.args) place rest e
          ∙ ap (λ n. then_kept wrote.out (cycle n place rest)) same
          ∙ w.out (cycle (mark_of t.scan_outs (takers assigns) d.args) place rest)
          ∙ ap (then_kept before.out)
          (sym (gifts_front-joined d.gifts (cycle (mark_of t.scan_outs (takers assigns) d.args) place done) rest));
      args = w.args;
    }

-- assignments alone
condition_steps : (check : Walked → Checked) (assigns : List Assign) (before after : Walk) (place : Origin)
    → Writes check assigns (record before { taken = [] }) after
    → Steps check (gifts_piece (deal assigns before.args) (record { args = before.args; place = place })) before after
condition_steps check assigns before after place w =
    let d = deal assigns before.args in
    record {
      checked = w.checked;
      out = λ rest. w.out rest ∙ ap (then_kept before.out) (sym (gifts_front-joined d.gifts done rest));
      args = w.args;
    }

-- or the first one that has a fault
pub condition_steps_or : {A : Type 0} (titles : Titles) (check : Walked → Checked) (assigns : List Assign) (before after : Walk)
    (place : Origin) (r : Result A Trouble) → WritesOr titles check assigns (record before { taken = [] }) after r
    → StepsOr titles check (gifts_piece (deal assigns before.args) (record { args = before.args; place = place })) before after r
condition_steps_or titles check assigns before after place (Ok x) w = condition_steps check assigns before after place w
condition_steps_or titles check assigns before after place (Err NoMemory) w = tt
condition_steps_or titles check assigns before after place (Err (Fault at)) w = w
