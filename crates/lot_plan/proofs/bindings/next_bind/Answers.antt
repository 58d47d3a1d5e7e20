use Rattle.std.proofs.Common.{get_or, false, length}
use Rattle.lot_plan.specs.Views.{needed_by}
use Rattle.lot_plan.proofs.BindLemmas.{is_markable}
use Rattle.lot_plan.proofs.bindings.next_bind.Goals as goal

pub mark-requires : goal.mark-requires
mark-requires c =
    is_markable c.args.net.now (λ n. get_or c.deref.result.now n false) (needed_by c.args.pin.now).role
    (needed_by c.args.pin.now).net c.in_ok-bind.bind
    c.bind_to.result (length c.args.driven.now.items) c.requires.whole c.requires.nets c.bind_to.ensures
    c.in_ok-bind.ensures
