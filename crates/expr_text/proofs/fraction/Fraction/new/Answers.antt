use Rattle.std.proofs.Common.{unsigned_abs, refl, arith}
use Rattle.expr_text.specs.Ratio.{lowest}
use Rattle.expr_text.proofs.DivisorLemmas.{divisor_of-bounds}
use Rattle.expr_text.proofs.LowestLemmas.{abs-positive, abs-fits, common-is, quotient-is, lowest-is}
use Rattle.expr_text.proofs.fraction.Fraction.new.Goals as goal

pub divided-requires : goal.divided-requires
divided-requires c =
    let is =
    common-is c.args.above c.args.below _ _ _ c.ranges.above c.ranges.below
    c.unsigned_abs.ensures.value c.unsigned_abs-2.ensures.value c.greatest_divisor-common.ensures in
    let bounds =
    divisor_of-bounds (unsigned_abs c.args.above) (unsigned_abs c.args.below) (abs-positive _ c.requires.positive) in
    let small = abs-fits _ c.requires.positive c.ranges.below in
    record { positive = omega arith; fits = omega arith }

pub divided-requires-2 : goal.divided-requires-2
divided-requires-2 c =
    let is =
    common-is c.args.above c.args.below _ _ _ c.ranges.above c.ranges.below
    c.unsigned_abs.ensures.value c.unsigned_abs-2.ensures.value c.greatest_divisor-common.ensures in
    let bounds =
    divisor_of-bounds (unsigned_abs c.args.above) (unsigned_abs c.args.below) (abs-positive _ c.requires.positive) in
    let small = abs-fits _ c.requires.positive c.ranges.below in
    record { positive = omega arith; fits = omega arith }

pub invariant_of-result : goal.invariant_of-result
invariant_of-result c =
    let is =
    common-is c.args.above c.args.below _ _ _ c.ranges.above c.ranges.below
    c.unsigned_abs.ensures.value c.unsigned_abs-2.ensures.value c.greatest_divisor-common.ensures in
    let above_is =
    quotient-is c.args.above c.divided.result _ _ c.ranges.above
    (record { sfits = c.divided.type_inv }) c.divided.ensures is in
    let below_is =
    quotient-is c.args.below c.divided-2.result _ _ c.ranges.below
    (record { sfits = c.divided-2.type_inv }) c.divided-2.ensures is in
    rw (above_is, below_is)
    (lowest-is c.args.above c.args.below c.requires.positive c.requires.above_fits
    (abs-fits _ c.requires.positive c.ranges.below))

pub returns : goal.returns
unfolding lowest
returns c =
    let is =
    common-is c.args.above c.args.below _ _ _ c.ranges.above c.ranges.below
    c.unsigned_abs.ensures.value c.unsigned_abs-2.ensures.value c.greatest_divisor-common.ensures in
    let above_is =
    quotient-is c.args.above c.divided.result _ _ c.ranges.above
    (record { sfits = c.divided.type_inv }) c.divided.ensures is in
    let below_is =
    quotient-is c.args.below c.divided-2.result _ _ c.ranges.below
    (record { sfits = c.divided-2.type_inv }) c.divided-2.ensures is in
    rw (above_is, below_is) refl
