-- The signals of an assignment's reference.
use Rattle.std.specs.Prelude.{◌≡◌, ℕ, Result, Ok, Err, None, Some}
use Rattle.signal_groups.specs.declared.found.FoundSignals.{FoundSignals}
use Rattle.signal_groups.specs.Found.{signals_found}
use Rattle.stil_ast.specs.Meaning.Members.{members, reference_kind}
use Rattle.stil_ast.specs.Meaning.Signals.{Names}
use Rattle.stil_ast.specs.declared.name.SigRef.{SigRef}
use Rattle.flat_tree.specs.declared.place.BodyKind.{BodyKind}
use Rattle.macro_expand.specs.Refusing.{Trouble}
use Rattle.answers.specs.declared.short.Short.TheVariants.{NoMemory, Fault}

-- the signals of a reference, or its fault on a line of a body
abbrev pub IsResolved : Names → SigRef → BodyKind → ℕ → Result FoundSignals Trouble → Type 0
IsResolved names r body line (Ok found) = (reference_kind names r ≡ None) × (signals_found found ≡ members names r)
IsResolved names r body line (Err NoMemory) = Unit {0}
IsResolved names r body line (Err (Fault at)) =
    (reference_kind names r ≡ Some at.kind) × (at.body ≡ body) × (at.line ≡ line)
