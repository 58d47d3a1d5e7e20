use Rattle.std.proofs.Common.{◌≡◌, drop}
use Rattle.std.specs.List.{find}
use Rattle.stil_ast.specs.Data.Texts.{same}
use Rattle.stil_ast.specs.declared.executive.Burst.{Burst}
use Rattle.scan_chain.proofs.found.burst_named.Given as goal

abbrev pub invariant-loop-burst : goal.invariant-loop-burst
invariant-loop-burst l =
    find (λ (b : Burst). same b.name l.name) (drop l.burst-index l.bursts)
    ≡ find (λ (b : Burst). same b.name l.name) l.bursts
