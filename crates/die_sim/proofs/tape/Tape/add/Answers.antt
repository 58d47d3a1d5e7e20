use Rattle.std.proofs.Common.{◌≡◌, ◌∷◌, ◌++◌, ◌+◌, [], length, refl, ap, arith, vec_len}
use Rattle.die_sim.proofs.TapeLemmas.{calls-added}
use Rattle.die_sim.proofs.tape.Tape.add.Goals as goal

pub returns-clause-calls : goal.returns-clause-calls
returns-clause-calls c =
    let e_new : c.extend_from_slice.new.self.items ≡ c.self.inside.drives.items ++ c.args.drives.now = rw c.unwrap.ensures at c.extend_from_slice.ensures.items in
    let e_calls : c.push.new.self.items ≡ c.self.inside.calls.items ++ record { at = c.args.at; from = c.len-from.result; to = c.len-from.result + length c.args.drives.now } ∷ [] = rw c.unwrap-2.ensures at c.push.ensures.items in
    let e_from : c.len-from.result ≡ length c.self.inside.drives.items = omega (arith, c.len-from.ensures, c.self.inside.drives.ok) in
    let e_within : vec_len c.self.inside.drives ≡ length c.self.inside.drives.items = omega (arith, c.self.inside.drives.ok) in
    calls-added c.self.inside.drives.items c.args.drives.now c.extend_from_slice.new.self.items c.self.inside.calls.items c.push.new.self.items c.args.at c.len-from.result (c.len-from.result + length c.args.drives.now) (vec_len c.self.inside.drives) c.args.self.now.calls
    e_new e_from refl e_calls c.self.invariant.2 e_within (ap (λ t. t.calls) c.self.view_is)
