use Rattle.std.proofs.Common.{arith, w64}
use Rattle.std.proofs.lemmas.Nat.Bits.{bit_at-trailing_zeros}
use Rattle.place_bits.proofs.bits.lowest.Goals as goal

pub returns-clause-found : goal.returns-clause-found
returns-clause-found c = (bit_at-trailing_zeros w64 c.args.word c.requires (omega arith)).1

pub returns-clause-skipped : goal.returns-clause-skipped
returns-clause-skipped c = (bit_at-trailing_zeros w64 c.args.word c.requires (omega arith)).2
