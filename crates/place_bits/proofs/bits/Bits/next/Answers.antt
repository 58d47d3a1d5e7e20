use Rattle.std.proofs.Common.{List, ℕ, ap, sym, ◌∙◌, length, arith}
use Rattle.place_bits.specs.Bits.{bit_of}
use Rattle.place_bits.proofs.BitLemmas.{length-bits_of, skipped-bits_of, found-bits_of}
use Rattle.place_bits.proofs.bits.Bits.next.Goals as goal

pub next_bit-requires-clause-within : goal.next_bit-requires-clause-within
next_bit-requires-clause-within c =
    omega (arith, length-bits_of c.self.inside.words.items, ap length c.self.view_is, ap length c.as_slice.ensures.value)

pub returns-clause-skipped : goal.returns-clause-skipped
returns-clause-skipped c = λ k a b.
    skipped-bits_of c.self.inside.words.items c.args.self.now k c.self.view_is
    (ap (λ (l : List ℕ). bit_of l k) (sym c.as_slice.ensures.value) ∙ c.next_bit.ensures.skipped k a b)

pub returns-clause-found : goal.returns-clause-found
returns-clause-found c = λ l.
    found-bits_of c.self.inside.words.items c.args.self.now c.next_bit.result c.self.view_is l
    (λ b. ap (λ (x : List ℕ). bit_of x c.next_bit.result) (sym c.as_slice.ensures.value) ∙ c.next_bit.ensures.found (omega (arith, b, ap length c.as_slice.ensures.value)))
