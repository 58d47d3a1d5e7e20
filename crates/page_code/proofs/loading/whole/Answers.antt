use Rattle.std.proofs.Common.{arith}
use Rattle.page_code.proofs.LoadLemmas.{read_fits}
use Rattle.page_code.proofs.loading.whole.Goals as goal

pub new-requires : goal.new-requires
new-requires c = read_fits c.in_ok-version.version c.args.bytes.now _ c.in_ok-version.behind.now c.in_ok-signals.field-0.rest.now
    (λ i. omega (arith, c.type_inv.bytes i)) c.in_ok-version.ensures c.in_ok-signals.ensures
