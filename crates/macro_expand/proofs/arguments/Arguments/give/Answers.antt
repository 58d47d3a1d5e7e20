-- The characters that were there stay in front, so the lanes stand for what they stood for, and then are dealt to.
use Rattle.std.proofs.Common.{◌≡◌, ℕ, List, ap, sym, ◌∙◌, length, drop}
use Rattle.std.proofs.lemmas.Result.{err_from_is_err_and}
use Rattle.stil_ast.specs.Data.Items.{items_of}
use Rattle.stil_ast.specs.Meaning.Arguments.{Argument, entries_of, dealt_out}
use Rattle.macro_expand.specs.Lanes.{arguments_in}
use Rattle.macro_expand.proofs.LaneLemmas.{lanes-grown, dealt-last}
use Rattle.macro_expand.proofs.arguments.Arguments.give.Goals as goal

pub returns-in_err-push_all-clause-kept : goal.returns-in_err-push_all-clause-kept
returns-in_err-push_all-clause-kept c =
    let lanes = c.self.inside.lanes.items in
    let now = c.push_all.new.self in
    let grown = lanes-grown c.self.inside.characters now lanes c.push_all.ensures.kept c.self.invariant in
    let p = err_from_is_err_and c.from_residual.result c.from_residual.ensures.1 in
    rw (p.1) (grown.1 ∙ c.self.view_is)

pub invariant_of-self-2 : goal.invariant_of-self-2
invariant_of-self-2 c =
    let lanes = c.self.inside.lanes.items in
    let now = c.push_all.new.self in
    let grown = lanes-grown c.self.inside.characters now lanes c.push_all.ensures.kept c.self.invariant in
    c.deal.ensures.fits c.push_all.new.self (sym c.len-end.ensures) grown.0

pub returns-clause-dealt : goal.returns-clause-dealt
returns-clause-dealt c =
    let lanes = c.self.inside.lanes.items in
    let after = c.deal.new.lanes.items in
    let width = length c.args.signals.now in
    let signals = c.args.signals.now in
    let more = entries_of (items_of c.args.runs.now) in
    let now = c.push_all.new.self in
    let before = c.self.inside.characters in
    let added = c.in_ok-push_all.ensures.added in
    let dealt : arguments_in now after ≡ dealt_out (drop (length before) now) width 0 signals (arguments_in now lanes) =
    c.deal.ensures.dealt now (sym c.len-end.ensures)
    ∙ ap (λ (n : ℕ). dealt_out (drop n now) width 0 signals (arguments_in now lanes)) c.len-from.ensures in
    dealt-last before more now width signals lanes after added c.self.invariant dealt
    ∙ ap (λ (args : List Argument). dealt_out more width 0 signals args) c.self.view_is
