use Rattle.std.proofs.Common.{◌+◌, ◌*◌, ◌<◌, ◌∙◌, Bool, false, List, length, get_or, sym, ap, arith}
use Rattle.std.proofs.lemmas.List.{get_or_read}
use Rattle.place_bits.proofs.BitLemmas.{length-bits_of, get_or-word}
use Rattle.place_bits.proofs.bits.Bits.word.Goals as goal

pub index-requires : goal.index-requires
index-requires c =
    omega (arith, c.requires, length-bits_of c.self.inside.words.items, ap length c.self.view_is, c.self.inside.words.ok.0)

pub returns : goal.returns
returns c = λ k l.
    let words = c.self.inside.words.items in
    let at = c.args.at in
    let within : at < length words = omega (arith, c.requires, length-bits_of words, ap length c.self.view_is) in
    ap (λ (b : List Bool). get_or b (64 * at + k) false) (sym c.self.view_is)
    ∙ get_or-word words at k c.index.result.now within l (get_or_read words at _ within c.index.ensures 0)
