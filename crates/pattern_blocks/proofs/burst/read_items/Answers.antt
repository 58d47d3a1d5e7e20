use Rattle.std.proofs.Common.{List, subst, ap, ◌∙◌, map}
use Rattle.answers.specs.Reading.{stepping}
use Rattle.stil_tree.specs.Trees.{entry_of}
use Rattle.stil_form.specs.Reading.{Answers}
use Rattle.stil_form.specs.Setting.{setting_of, unskipped}
use Rattle.stil_ast.specs.declared.executive.BurstItem.{BurstItem}
use Rattle.pattern_blocks.specs.Working.{burst_step}
use Rattle.pattern_blocks.proofs.WorkingLemmas.{stepping-items_in}
use Rattle.pattern_blocks.proofs.burst.read_items.Goals as goal

-- what the code keeps is what the statements say
pub returns : goal.returns
returns k =
    let s = setting_of k.args.reader.now in
    let es = map entry_of k.args.stmts.now in
    subst (Answers k.read_unskipped_steps.result)
    (ap (λ (items : List BurstItem). stepping (burst_step s) items (unskipped s es)) k.no_items.ensures ∙ stepping-items_in s es)
    k.read_unskipped_steps.ensures
