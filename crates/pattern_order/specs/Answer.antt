-- What is answered of the patterns of an executive.
use Rattle.std.specs.Prelude.{◌≡◌, Bool, true, false, List, Vec, Option, Some, None, nat_le, length}
use Rattle.std.specs.declared.alloc.Global.{Global}
use Rattle.text_bytes.specs.Limits.{most_patterns}
use Rattle.stil_ast.specs.Meaning.Bursts.{Played, played_of}
use Rattle.stil_ast.specs.Faults.Found.{fault_at, unless, or_else, first_in}
use Rattle.stil_ast.specs.Faults.BurstFaults.{exec_place, is_category, is_selector, is_timing, named_fault, maybe_fault, mentions, unknown_fault, cyclic_fault, exec_names_fault}
use Rattle.stil_ast.specs.declared.blocks.Blocks.{Blocks}
use Rattle.stil_ast.specs.declared.executive.Burst.{Burst}
use Rattle.stil_ast.specs.declared.executive.ExecDecl.{ExecDecl}
use Rattle.stil_ast.specs.declared.fault.StilFault.{StilFault}
use Rattle.stil_ast.specs.declared.fault.StilKind.TheVariants.{TooLarge}
use Rattle.stil_ast.specs.Data.Refusal.{StilRefusal}
use Rattle.answers.specs.declared.short.Short.TheVariants as refusal
use Rattle.pattern_order.specs.Held.{played_in}
use Rattle.pattern_order.specs.declared.playing.PlayedPattern.{PlayedPattern}

-- the most patterns that an executive may run
abbrev pub is_few : List Played → Bool
is_few order = nat_le (length order) most_patterns

-- patterns are all there are, or there are too many
abbrev pub AllPlayed : Option (Vec PlayedPattern Global) → List Played → Type 0
AllPlayed None order = is_few order ≡ false
AllPlayed (Some patterns) order = (is_few order ≡ true) × (played_in patterns.items ≡ order)

-- the first fault of the names that an executive gives but for its burst
abbrev pub own_fault : Blocks → ExecDecl → Option StilFault
own_fault blocks e =
    or_else (first_in (named_fault e (is_category blocks)) e.categories)
    (or_else (maybe_fault e (is_selector blocks) e.selector) (maybe_fault e (is_timing blocks) e.timing))

-- the first fault of what its burst leads to
abbrev pub inner_fault : Blocks → ExecDecl → Option Burst → Option StilFault
inner_fault blocks e b =
    or_else (first_in unknown_fault (mentions blocks b))
    (or_else (first_in cyclic_fault (mentions blocks b))
    (unless (is_few (played_of blocks b)) (fault_at (exec_place e.name e.line) TooLarge) None))

-- the fault by which an executive is refused for its names
pub record IsNamesFault (blocks : Blocks) (e : ExecDecl) (r : StilRefusal) : Type 0 where
  pub fault : StilFault
  pub is : r ≡ refusal.Fault fault
  pub first : exec_names_fault blocks e ≡ Some fault
