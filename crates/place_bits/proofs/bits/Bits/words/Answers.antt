use Rattle.std.proofs.Common.{length, ap, arith}
use Rattle.place_bits.proofs.BitLemmas.{length-bits_of}
use Rattle.place_bits.proofs.bits.Bits.words.Goals as goal

pub returns : goal.returns
returns c = omega (arith, length-bits_of c.self.inside.words.items, ap length c.self.view_is, c.len.ensures, c.self.inside.words.ok.0)
