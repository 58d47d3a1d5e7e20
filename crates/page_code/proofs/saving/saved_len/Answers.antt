use Rattle.std.proofs.Common.{arith}
use Rattle.page_code.proofs.SizeLemmas.{length-program}
use Rattle.page_code.specs.declared.version.Version.TheVariants.{Two}
use Rattle.page_code.proofs.saving.saved_len.Goals as goal

pub returns : goal.returns
returns c = omega (arith, length-program Two c.args.code.now c.signals-conditions.ensures.conditions)
