use Rattle.std.proofs.Common.{◌∙◌, ap, sym, subst, false, List, ℕ, filter}
use Rattle.std.specs.Prelude.{slice_index_or}
use Rattle.signal_groups.specs.Marks.{AreMarked}
use Rattle.signal_groups.proofs.MemberLemmas.{removed-kept, AreMarked-kept}
use Rattle.signal_groups.proofs.members.remove_all.Goals as goal

pub returns-clause-members : goal.returns-clause-members
returns-clause-members c =
    c.in_ok-left.ensures
    ∙ ap (λ (ms : List ℕ). filter (λ m. slice_index_or c.as_slice-2.result.now m false) ms) c.as_slice.ensures.value
    ∙ ap (λ marks. filter (λ m. slice_index_or marks m false) c.args.members.now.items) c.as_slice-2.ensures.value
    ∙ removed-kept c.args.members.now.items c.args.gone.now c.args.marks.now.items c.unmark_all.new.marks.items
    c.requires.marked c.unmark_all.ensures.each

pub returns-clause-marked : goal.returns-clause-marked
returns-clause-marked c =
    let kept =
    c.in_ok-left.ensures
    ∙ ap (λ (ms : List ℕ). filter (λ m. slice_index_or c.as_slice-2.result.now m false) ms) c.as_slice.ensures.value
    ∙ ap (λ marks. filter (λ m. slice_index_or marks m false) c.args.members.now.items) c.as_slice-2.ensures.value in
    subst (λ (ms : List ℕ). AreMarked ms c.unmark_all.new.marks.items) (sym kept)
    (AreMarked-kept c.args.members.now.items c.args.gone.now c.args.marks.now.items c.unmark_all.new.marks.items
    c.requires.marked c.unmark_all.ensures.each)
