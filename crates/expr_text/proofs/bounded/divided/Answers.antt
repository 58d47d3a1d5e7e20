use Rattle.std.proofs.Common.{pos, ◌<ℤ◌, arith}
use Rattle.std.specs.Prelude.{int_div}
use Rattle.std.specs.Int.{w128}
use Rattle.std.proofs.lemmas.Int.{ints, to_z-of_z, to_z_pos, quot_fits}
use Rattle.expr_text.proofs.bounded.divided.Goals as goal

pub nonzero_div-result : goal.nonzero_div-result
nonzero_div-result c =
    let above : pos 0 <ℤ pos c.args.divisor = omega (arith, ints) in
    let number_is = to_z-of_z w128 c.args.number c.ranges.number in
    let divisor_is = to_z_pos w128 c.args.divisor c.requires.fits in (
      c.requires.positive,
      rw (number_is, divisor_is)
          (quot_fits w128 c.args.number (pos c.args.divisor) c.ranges.number above),
    )

pub returns : goal.returns
returns c =
    let above : pos 0 <ℤ pos c.args.divisor = omega (arith, ints) in
    let number_is = to_z-of_z w128 c.args.number c.ranges.number in
    let divisor_is = to_z_pos w128 c.args.divisor c.requires.fits in
    rw (number_is, divisor_is)
    (to_z-of_z w128 (int_div c.args.number (pos c.args.divisor))
    (quot_fits w128 c.args.number (pos c.args.divisor) c.ranges.number above))
