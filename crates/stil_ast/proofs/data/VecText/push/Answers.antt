use Rattle.std.proofs.Common.{◌∙◌, ◌++◌, ap, replicate}
use Rattle.stil_ast.specs.Data.Items.{item_of, items_of}
use Rattle.stil_ast.proofs.ItemLemmas.{items_of-more}
use Rattle.stil_ast.proofs.data.VecText.push.Goals as goal

pub returns-in_ok-push-clause-added : goal.returns-in_ok-push-clause-added
returns-in_ok-push-clause-added c =
    ap items_of c.in_ok-push.ensures.items
    ∙ items_of-more c.lengthen.new.runs.items (record { item = c.args.item; times = c.args.times })
    ∙ ap (λ items. items ++ replicate c.args.times (item_of c.args.item)) (c.if-not-lengthen.ensures.items ∙ c.self.view_is)
