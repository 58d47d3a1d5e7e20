use Rattle.std.proofs.Common.{arith}
use Rattle.page_code.proofs.LoadLemmas.{is_found, is_only}
use Rattle.page_code.proofs.loading.load.Goals as goal

pub returns-clause-found : goal.returns-clause-found
returns-clause-found c = is_found c.args.bytes.now c.loaded.result (λ i. omega (arith, c.type_inv.bytes i)) c.loaded.ensures

pub returns-clause-only : goal.returns-clause-only
returns-clause-only c = λ code saved. is_only c.args.bytes.now c.loaded.result code saved c.loaded.ensures
