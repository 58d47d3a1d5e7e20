use Rattle.std.proofs.Common.{◌≡◌, true, get_or, subst, sym, arith}
use Rattle.std.proofs.lemmas.List.{get_or_read}
use Rattle.die_sim.specs.Pending.{PendingGates, nowhere, HasPlace, SetsPending}
use Rattle.die_sim.proofs.PendingLemmas.{place_within, SetsPending-set}
use Rattle.die_sim.proofs.pending.Pending.set.Goals as goal

pub index-place-requires : goal.index-place-requires
index-place-requires c =
    let has = subst (λ (m : PendingGates). HasPlace m c.args.net) (sym c.self.view_is) c.requires in
    let w = place_within (record { places = c.self.inside.places.items; bits = c.self.inside.bits }) c.args.net c.self.invariant has in
    omega (arith, w, c.self.inside.places.ok)

pub set-requires : goal.set-requires
set-requires c =
    let has = subst (λ (m : PendingGates). HasPlace m c.args.net) (sym c.self.view_is) c.requires in
    let w = place_within (record { places = c.self.inside.places.items; bits = c.self.inside.bits }) c.args.net c.self.invariant has in
    let read = get_or_read c.self.inside.places.items c.args.net c.index-place.result.now w c.index-place.ensures nowhere in
    omega (arith, read, has)

pub returns : goal.returns
returns c =
    let has = subst (λ (m : PendingGates). HasPlace m c.args.net) (sym c.self.view_is) c.requires in
    let w = place_within (record { places = c.self.inside.places.items; bits = c.self.inside.bits }) c.args.net c.self.invariant has in
    let read : c.index-place.result.now ≡ get_or c.self.inside.places.items c.args.net nowhere = get_or_read c.self.inside.places.items c.args.net c.index-place.result.now w c.index-place.ensures nowhere in
    subst (λ (m : PendingGates). SetsPending c.args.net true m (record { places = c.self.inside.places.items; bits = c.set.new.self })) c.self.view_is
    (SetsPending-set c.self.inside.places.items c.self.inside.bits c.set.new.self c.args.net c.index-place.result.now true c.self.invariant read (omega (arith, read, has)) c.set.ensures)
