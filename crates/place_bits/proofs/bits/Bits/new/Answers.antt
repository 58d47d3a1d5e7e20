use Rattle.std.proofs.Common.{◌≡◌, ◌+◌, ◌/◌, ℕ, List, length, replicate, ap, arith, rules}
use Rattle.std.proofs.lemmas.List.{length-replicate}
use Rattle.place_bits.proofs.BitLemmas.{length-bits_of, bits_of-zeros}
use Rattle.place_bits.proofs.bits.Bits.new.Goals as goal

pub returns-clause-room : goal.returns-clause-room
returns-clause-room c =
    let items = c.in_ok-vec.field-0.items in
    let zeros : items ≡ replicate (c.args.places / 64 + 1) 0 = c.in_ok-vec.ensures.items_if_clones_equal (λ y q. search rules) in
    omega (arith, length-bits_of items, ap (λ (l : List ℕ). length l) zeros, length-replicate {A = ℕ} (c.args.places / 64 + 1) 0)

pub returns-clause-few : goal.returns-clause-few
returns-clause-few c =
    let items = c.in_ok-vec.field-0.items in
    let zeros : items ≡ replicate (c.args.places / 64 + 1) 0 = c.in_ok-vec.ensures.items_if_clones_equal (λ y q. search rules) in
    omega (arith, length-bits_of items, ap (λ (l : List ℕ). length l) zeros, length-replicate {A = ℕ} (c.args.places / 64 + 1) 0)

pub returns-clause-none : goal.returns-clause-none
returns-clause-none c = λ k.
    bits_of-zeros c.in_ok-vec.field-0.items _ k (c.in_ok-vec.ensures.items_if_clones_equal (λ y q. search rules))
