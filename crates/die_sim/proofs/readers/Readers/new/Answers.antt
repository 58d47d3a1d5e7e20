use Rattle.std.proofs.Common.{◌≡◌, ◌<◌, ◌++◌, ◌∷◌, [], ◌∙◌, ℕ, true, List, length, map, sym, ap, subst, arith}
use Rattle.std.specs.Prelude.{All}
use Rattle.bench_net.specs.Wiring.{gate_at}
use Rattle.die_sim.specs.Pending.{HasPlace, place_at}
use Rattle.die_sim.specs.Readers.{ArePlacesOf}
use Rattle.die_sim.proofs.PendingLemmas.{readers_have_places}
use Rattle.die_sim.proofs.ReaderLemmas.{places_are, readers_are_gates, AreReadersTo-more}
use Rattle.die_sim.proofs.readers.Readers.new.Goals as goal

pub push_places-requires : goal.push_places-requires
push_places-requires c =
    let within : c.loop-n.n < length c.args.net.now.net.names = omega (arith, c.loop-n-test.true, c.nets-n-end.ensures.count) in
    subst (λ (xs : List ℕ). All (λ g. HasPlace c.args.pending.now g) xs) (sym c.readers.ensures)
    (readers_have_places c.args.net.now c.nets-n-end.ensures.whole c.args.pending.now c.requires c.loop-n.n within)

pub loop-n-preserved : goal.loop-n-preserved
loop-n-preserved c =
    let net = c.args.net.now in
    let whole = c.nets-n-end.ensures.whole in
    let within : c.loop-n.n < length net.net.names = omega (arith, c.loop-n-test.true, c.nets-n-end.ensures.count) in
    let nets = c.readers.result.now in
    let gates = readers_are_gates net whole c.loop-n.n within in
    let are : ArePlacesOf net.order (map (place_at c.args.pending.now) nets) _ =
    places_are net.net.drivers net.order whole.order c.args.pending.now c.requires nets (subst (λ (xs : List ℕ). All (λ g. gate_at net.net.drivers g ≡ true) xs) (sym c.readers.ensures) gates) in
    AreReadersTo-more net c.loop-n.starts.items c.loop-n.places.items (map (place_at c.args.pending.now) nets) c.push_places.new.places.items c.push-in-loop-n.new.self.items c.loop-n.n
    c.loop-n.invariant c.in_ok-push_places.ensures (c.in_ok-push-2.ensures.items ∙ ap (λ (n : ℕ). c.loop-n.starts.items ++ n ∷ []) (omega (arith, c.len.ensures, c.push_places.new.places.ok)))
    (subst (λ (xs : List ℕ). ArePlacesOf net.order (map (place_at c.args.pending.now) nets) xs) c.readers.ensures are)
