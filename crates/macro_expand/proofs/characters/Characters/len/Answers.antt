use Rattle.std.proofs.Common.{ap, arith, length}
use Rattle.macro_expand.proofs.RunLemmas.{length-spelled}
use Rattle.macro_expand.proofs.characters.Characters.len.Goals as goal

pub returns : goal.returns
returns c =
    let size = length-spelled 0 c.self.inside.runs.items c.self.invariant.0 in
    let total = c.self.invariant.1 in
    let view = ap length c.self.view_is in
    omega (arith, size, total, view)
