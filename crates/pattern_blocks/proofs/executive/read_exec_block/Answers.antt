use Rattle.std.proofs.Common.{subst}
use Rattle.stil_tree.specs.Trees.{entry_of}
use Rattle.stil_form.specs.Reading.{Answers}
use Rattle.stil_form.specs.Setting.{setting_of}
use Rattle.pattern_blocks.proofs.WorkingLemmas.{executive_of-titled}
use Rattle.pattern_blocks.proofs.executive.read_exec_block.Goals as goal

-- what the code keeps is what the statements say
pub returns : goal.returns
returns k =
    let title = k.in_ok-title.title.now in
    subst (Answers k.read_exec_in.result)
    (executive_of-titled (setting_of k.args.reader.now) (entry_of k.args.stmt.now) title k.in_ok-title.ensures)
    k.read_exec_in.ensures
