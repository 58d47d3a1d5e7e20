-- What is read from a list of assignments, one after another.
use Rattle.std.specs.Prelude.{List, Option, IfSome}
use Rattle.std.specs.Iterator.{YieldsFirstBy}
use Rattle.stil_ast.specs.Data.Items.{items_of, KeepRepeats}
use Rattle.stil_ast.specs.Data.AssignmentCuts.{reference_of}
use Rattle.stil_ast.specs.declared.assignment_list.AssignmentParts.{AssignmentParts}
use Rattle.stil_ast.specs.declared.body.Assignment.{Assignment}

-- the assignment that parts say
abbrev pub assignment_said : AssignmentParts → Assignment
assignment_said parts =
    record {
      reference = reference_of parts.reference parts.bytes.now;
      items = items_of parts.runs.now;
      line = parts.line;
    }

-- the first assignment that was left is given, or none was left; no run of it is too long
pub record TakesAssignment (before : List Assignment) (given : Option AssignmentParts) (after : List Assignment)
    : Type 0 where
  pub first : YieldsFirstBy assignment_said (λ (left : List Assignment). left) before given after
  pub repeats : IfSome given (λ parts. KeepRepeats parts.runs.now)
