use Rattle.pat_read.proofs.AcceptedBodies.{bodies_have_form}
use Rattle.pat_read.proofs.laws.bodies_have_form.Goals as goal

pub returns : goal.returns
returns c = bodies_have_form
