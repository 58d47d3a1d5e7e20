use Rattle.wave_tables.proofs.CountLemmas.{waves_counted}
use Rattle.wave_tables.proofs.laws.waves_are_counted.Goals as goal

pub returns : goal.returns
returns c = waves_counted
