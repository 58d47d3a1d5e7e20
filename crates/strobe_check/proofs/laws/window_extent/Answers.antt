use Rattle.strobe_check.proofs.WindowLemmas.{window_places}
use Rattle.strobe_check.proofs.laws.window_extent.Goals as goal

pub returns : goal.returns
returns c = window_places
