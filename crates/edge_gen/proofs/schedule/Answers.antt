use Rattle.std.proofs.Common.{◌∙◌, ap}
use Rattle.std.proofs.lemmas.Result.{IfOk-weaker}
use Rattle.std.specs.List.{enumerate_from}
use Rattle.edge_gen.specs.Step.{dated_in, grouped}
use Rattle.edge_gen.proofs.MomentLemmas.{grouped-moments_of}
use Rattle.edge_gen.proofs.schedule.Goals as goal

pub returns : goal.returns
returns c =
    let table = c.args.table.now in
    let row = c.args.row.now in
    let skews = c.args.skews.now in
    let places = c.in_ok-places.places.items in
    let sorted = c.sort.new.events.items in
    let listed = c.as_slice-listed.ensures in
    let are = c.in_ok-places.ensures in
    let gathered = c.in_ok-events.ensures ∙ ap (λ l. dated_in c.as_slice-listed.result.now skews (enumerate_from 0 l)) c.deref.ensures.value
    ∙ ap (λ waves. dated_in waves skews (enumerate_from 0 places)) listed in
    let are_moments = grouped-moments_of table row places skews c.args.start _ sorted are gathered c.in_ok-sort.ensures.same c.in_ok-sort.ensures.stable in
    IfOk-weaker c.group.result _ _ (λ moments is. is ∙ ap (grouped c.args.start) c.deref-2.ensures.value ∙ are_moments) c.group.ensures
