-- An assignment whose signals are known.
use Rattle.std.specs.Prelude.{◌≡◌, ℕ, ◌++◌, List}
use Rattle.stil_ast.specs.Data.Items.{items_of}
use Rattle.stil_ast.specs.Meaning.Statements.{Assign}
use Rattle.stil_ast.specs.Meaning.Dealing.{deal, takers}
use Rattle.stil_ast.specs.Meaning.Flattening.{gifts_front}
use Rattle.stil_ast.specs.Meaning.Resolved.{Scope}
use Rattle.stil_ast.specs.Faults.AssignmentFaults.{Walked, Checked, fine, rule, bar_if, Standing, fault_on, hash_misplaced, width_fits, data_there, walked_assign}
use Rattle.stil_ast.specs.declared.data.ItemRun.{ItemRun}
use Rattle.stil_ast.specs.declared.fault.StilKind.TheVariants.{ShiftForm, Width, NoData}
use Rattle.macro_expand.specs.declared.walk.Walk.{Walk}
use Rattle.macro_expand.specs.Walks.{walked, Puts}

-- signals and the items of runs
abbrev pub assign_of : List ℕ → List ItemRun → Assign
assign_of signals runs = record { signals = signals; items = items_of runs }

-- the rules on an assignment behind those on its reference and on the limit: the form of `#`, the width, the data
abbrev pub placed_from : Scope → Standing → ℕ → Assign → Walked → Walked → Checked
placed_from scope s line a w =
    bar_if (hash_misplaced s a w.hashes) (fault_on scope s line ShiftForm)
    (rule (width_fits a) (fault_on scope s line Width)
    (rule (data_there s a w.args) (fault_on scope s line NoData)
    (λ w. fine (walked_assign s a w))))

-- the same
abbrev pub placed : Scope → Standing → ℕ → Assign → Walked → Checked
placed scope s line a w = placed_from scope s line a w w

-- an assignment was checked without a fault, and was written
pub record Writes (check : Walked → Checked) (assigns : List Assign) (before after : Walk) : Type 0 where
  pub checked : check (walked before) ≡ fine (walked after)
  pub args : after.args ≡ (deal assigns before.args).args
  pub out : Puts before.out (gifts_front (deal assigns before.args).gifts) after.out
  pub taken : after.taken ≡ before.taken ++ takers assigns
