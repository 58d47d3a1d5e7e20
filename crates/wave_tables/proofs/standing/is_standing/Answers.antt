use Rattle.std.proofs.Common.{◌∙◌}
use Rattle.wave_tables.specs.Scope.{timed}
use Rattle.wave_tables.proofs.StandingLemmas.{stands_is}
use Rattle.wave_tables.proofs.standing.is_standing.Goals as goal

pub returns : goal.returns
returns c =
    let within = rw (← c.as_slice.ensures) at c.in_ok-members.ensures.within in
    c.counts_in.ensures
    ∙ stands_is (timed c.args.scope.now) c.args.heir.now.number c.args.heir.now.slots.now c.args.source
    c.args.reference.now
    c.args.wave.now c.as_slice.result.now c.as_slice-2.result.now c.requires.maps
    (c.as_slice.ensures ∙ c.in_ok-members.ensures.signals)
    c.as_slice-2.ensures within c.requires.characters
