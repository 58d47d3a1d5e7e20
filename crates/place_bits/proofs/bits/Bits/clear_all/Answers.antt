use Rattle.std.proofs.Common.{◌∙◌, ◌*◌, ℕ, List, length, sym, ap}
use Rattle.std.proofs.lemmas.List.{length-replicate}
use Rattle.place_bits.proofs.BitLemmas.{length-bits_of, bits_of-zeros}
use Rattle.place_bits.proofs.bits.Bits.clear_all.Goals as goal

pub returns-clause-size : goal.returns-clause-size
returns-clause-size c =
    let old = c.self.inside.words.items in
    let zeros = c.put_zeros.ensures in
    length-bits_of _
    ∙ ap (λ x. 64 * x) (ap (λ (l : List ℕ). length l) zeros ∙ length-replicate {A = ℕ} (length old) 0)
    ∙ sym (length-bits_of old)
    ∙ ap (λ (l : List _). length l) c.self.view_is

pub returns-clause-none : goal.returns-clause-none
returns-clause-none c = λ k. bits_of-zeros _ _ k c.put_zeros.ensures
