use Rattle.site_meaning.proofs.TouchdownLemmas.{touchdown_is_sound}
use Rattle.site_meaning.proofs.laws.touchdown_is_sound.Goals as goal

pub returns : goal.returns
returns c = touchdown_is_sound
