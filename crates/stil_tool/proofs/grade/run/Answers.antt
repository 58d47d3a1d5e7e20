use Rattle.grade_listing.specs.GradeText.{grade_text}
use Rattle.tool_inputs.specs.declared.status.Status.TheVariants.{Done}
use Rattle.stil_tool.proofs.GradeLemmas.{graded_so}
use Rattle.tool_inputs.proofs.EndLemmas.{ends_whole, ends_front}
use Rattle.stil_tool.proofs.grade.run.Goals as goal

pub returns-in-Ok-print_grade : goal.returns-in-Ok-print_grade
returns-in-Ok-print_grade g c = record {
  status = Done;
  text = grade_text c.first_net.result.now.net.names c.in-Ok.grade;
  wanted = graded_so c.args.lot.now.plan c.first_net.result.now c.in-Ok.grade c.first_net.ensures c.in-Ok.ensures;
  ends = ends_whole c.in-Ok-print_grade.ensures;
}

pub returns : goal.returns
returns g c = record {
  status = Done;
  text = grade_text c.first_net.result.now.net.names c.in-Ok.grade;
  wanted = graded_so c.args.lot.now.plan c.first_net.result.now c.in-Ok.grade c.first_net.ensures c.in-Ok.ensures;
  ends = ends_front c.in-Err.ensures;
}
