use Rattle.std.proofs.Common.{List, ap, sym, ◌∙◌}
use Rattle.bench_net.specs.declared.gate.Driver.{Driver}
use Rattle.bench_net.specs.Numbers.{placed}
use Rattle.bench_net.proofs.NumberLemmas.{placed-last}
use Rattle.bench_net.proofs.table.drivers.Goals as goal

pub loop-line-preserved : goal.loop-line-preserved
loop-line-preserved c =
    ap (λ (ds : List Driver). placed ds c.pop.new.self.items) c.drive.ensures
    ∙ sym (placed-last c.loop-line.drivers.items c.pop.new.self.items c.in-Some.line)
    ∙ ap (placed c.loop-line.drivers.items) (sym c.in-Some.ensures.items)
    ∙ c.loop-line.invariant
