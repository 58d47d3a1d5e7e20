use Rattle.site_meaning.proofs.TouchdownLemmas.{sound_is_touchdown, uncut_is_touchdown, sound_are_records}
use Rattle.site_meaning.proofs.laws.sound_is_touchdown.Goals as goal

pub returns-clause-one : goal.returns-clause-one
returns-clause-one c = sound_is_touchdown

pub returns-clause-none : goal.returns-clause-none
returns-clause-none c = uncut_is_touchdown

pub returns-clause-all : goal.returns-clause-all
returns-clause-all c = sound_are_records
