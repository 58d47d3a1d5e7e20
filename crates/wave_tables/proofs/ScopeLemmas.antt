-- What a scope answers.
use Rattle.std.proofs.Common.{◌≡◌, ◌⊎◌, ℕ, List, [], Option, Some, Result, Err, sym, ap, ◌∙◌, inl, inr}
use Rattle.stil_ast.specs.Data.Places.{Place}
use Rattle.stil_ast.specs.Meaning.Times.{Met, time_at}
use Rattle.stil_ast.specs.Meaning.Signals.{Names}
use Rattle.stil_ast.specs.Meaning.Members.{members, followed, none_where, reference_kind}
use Rattle.stil_ast.specs.declared.name.Quoted.{Quoted}
use Rattle.stil_ast.specs.declared.name.SigRef.{SigRef}
use Rattle.stil_ast.specs.declared.fault.StilKind.{StilKind}
use Rattle.expr_text.specs.Ratio.{Ratio}
use Rattle.time_expr.specs.TimesOf.{times_of}
use Rattle.time_expr.specs.TimeIn.{AreNames, HasTime, in_line}
use Rattle.time_expr.specs.declared.time.TimeFault.TheVariants.{NoMemory, Refused}

-- a fault of a text's time
pub refused_time : (vars : List (List ℕ × Ratio)) (q : Quoted) (kind : StilKind) (names : List ℕ → Result Ratio Met)
    (place : Place)
    → ((Refused kind ≡ NoMemory) ⊎ ((k : StilKind) × (Refused kind ≡ Refused k) × HasTime vars q (Err k)))
    → AreNames names vars → time_at times_of names place q ≡ in_line place q.line (Err kind)
refused_time vars q kind names place (inl e) are = cc
refused_time vars q kind names place (inr p) are =
    let same : p.0 ≡ kind = cc (p.1) in
    p.2 names place are ∙ ap (λ (k : StilKind). in_line place q.line (Err k)) same

-- a reference with a fault stands for no signals
pub members_none : (names : Names) (r : SigRef) (kind : StilKind) → reference_kind names r ≡ Some kind
    → [] ≡ members names r
members_none names r kind e = sym (ap (λ (o : Option StilKind). none_where o (followed names r)) e)
