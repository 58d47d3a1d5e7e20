-- The characters of one run more stand behind those so far.
use Rattle.std.proofs.Common.{List, ◌++◌, ap, sym, ◌∙◌, append_assoc, take, get_or, replicate}
use Rattle.std.proofs.lemmas.List.{take_more}
use Rattle.stil_ast.specs.Data.Items.{item_of, items_of}
use Rattle.stil_ast.specs.Meaning.Arguments.{Entry, entries_of}
use Rattle.stil_ast.specs.declared.data.ItemRun.{ItemRun}
use Rattle.stil_ast.specs.declared.data.VecItem.TheVariants.{Character}
use Rattle.macro_expand.proofs.EntryLemmas.{entries-more}
use Rattle.macro_expand.proofs.characters.Characters.push_all.Goals as goal

pub loop-run-preserved : goal.loop-run-preserved
loop-run-preserved c =
    let runs = c.args.runs.now in
    let i = c.loop-run.run-index in
    let first : ItemRun = record { item = Character 0; times = 0 } in
    let run = get_or runs i first in
    let those = entries_of (replicate run.times (item_of run.item)) in
    c.in_ok-push_run.ensures.added
    ∙ (ap (λ (es : List Entry). es ++ those) c.loop-run.invariant
    ∙ (append_assoc c.args.self.now (entries_of (items_of (take i runs))) those
    ∙ ap (λ (es : List Entry). c.args.self.now ++ es)
    (sym (ap (λ (rs : List ItemRun). entries_of (items_of rs)) (take_more runs i first c.loop-run-test.true)
    ∙ entries-more (take i runs) run))))
