use Rattle.std.proofs.Common.{◌∙◌, ℕ, Bool, List, length, map, ap, sym, inr}
use Rattle.std.specs.Arc.{arc_value}
use Rattle.std.specs.List.{list_any}
use Rattle.std.specs.Str.{bytes_eq}
use Rattle.bench_net.specs.Views.{texts}
use Rattle.lot_plan.specs.Bound.{Bound}
use Rattle.lot_plan.specs.Groups.{circuit_in}
use Rattle.lot_plan.specs.Skews.{skew_refusal}
use Rattle.lot_plan.specs.Refusal.{is_signal, rows_refusal}
use Rattle.lot_plan.proofs.ReadyLemmas.{rows-same}
use Rattle.lot_plan.proofs.binding.check_rows.Goals as goal

pub returns-in-Some : goal.returns-in-Some
returns-in-Some c =
    let b : Bound = record { rows = c.args.rows.now; program = c.args.code.now; circuits = map arc_value c.args.nets.now } in
    let known : List ℕ → Bool = λ name. list_any (bytes_eq name) (texts c.in_ok-names.names.keys) in
    let same = rows-same b known c.args.groups.now c.requires.kept c.requires.groups
    (λ name. c.in_ok-names.ensures name ∙ ap (λ signals. is_signal signals name) c.requires.signals) in
    let judged = ap (λ signals. rows_refusal known (skew_refusal signals b.program.tables) (length b.program.execs)
    (circuit_in c.args.groups.now b.circuits) 1 b.rows) c.requires.signals in
    inr (sym same ∙ sym judged ∙ sym c.rows_refusal.ensures ∙ c.in-Some.is)

pub returns : goal.returns
returns c =
    let b : Bound = record { rows = c.args.rows.now; program = c.args.code.now; circuits = map arc_value c.args.nets.now } in
    let known : List ℕ → Bool = λ name. list_any (bytes_eq name) (texts c.in_ok-names.names.keys) in
    let same = rows-same b known c.args.groups.now c.requires.kept c.requires.groups
    (λ name. c.in_ok-names.ensures name ∙ ap (λ signals. is_signal signals name) c.requires.signals) in
    let judged = ap (λ signals. rows_refusal known (skew_refusal signals b.program.tables) (length b.program.execs)
    (circuit_in c.args.groups.now b.circuits) 1 b.rows) c.requires.signals in
    sym same ∙ sym judged ∙ sym c.rows_refusal.ensures ∙ c.in-None.is
