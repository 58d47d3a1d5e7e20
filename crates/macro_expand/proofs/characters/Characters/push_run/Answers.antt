-- A run of a character adds it so often, and any other run adds nothing.
use Rattle.std.proofs.Common.{◌≡◌, ◌++◌, List, ap, sym, subst, ◌∙◌, append-nil, replicate}
use Rattle.std.specs.Result.{OnOk}
use Rattle.stil_ast.specs.Data.Items.{item_of}
use Rattle.stil_ast.specs.Meaning.Arguments.{Entry, entries_of}
use Rattle.stil_ast.specs.declared.data.VecItem.{VecItem}
use Rattle.macro_expand.proofs.EntryLemmas.{entries_of-characters, entries_of-hashes, entries_of-percents}
use Rattle.macro_expand.proofs.characters.Characters.push_run.Goals as goal

pub returns-in-Character-clause-added : goal.returns-in-Character-clause-added
returns-in-Character-clause-added c =
    subst (λ (es : List Entry). OnOk c.push.result (c.push.new.self ≡ c.args.self.now ++ es))
    (sym (ap (λ (item : VecItem). entries_of (replicate c.args.run.times (item_of item))) c.in-Character.is
    ∙ entries_of-characters c.args.run.times c.in-Character.character))
    c.push.ensures.added

pub returns-in-Take-clause-added : goal.returns-in-Take-clause-added
returns-in-Take-clause-added c =
    let those = λ (item : VecItem). entries_of (replicate c.args.run.times (item_of item)) in
    sym (ap (λ (es : List Entry). c.args.self.now ++ es)
    (ap those c.in-Take.is ∙ entries_of-hashes c.args.run.times)
    ∙ append-nil c.args.self.now)

pub returns-in-Peek-clause-added : goal.returns-in-Peek-clause-added
returns-in-Peek-clause-added c =
    let those = λ (item : VecItem). entries_of (replicate c.args.run.times (item_of item)) in
    sym (ap (λ (es : List Entry). c.args.self.now ++ es)
    (ap those c.in-Peek.is ∙ entries_of-percents c.args.run.times)
    ∙ append-nil c.args.self.now)
