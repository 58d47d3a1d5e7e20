use Rattle.std.proofs.Common.{◌+◌, ap, arith, ℕ}
use Rattle.std.proofs.lemmas.List.{take_rest}
use Rattle.grade_parts.proofs.HeldLemmas.{goes_so, known_so, fits_so, weight-le}
use Rattle.grade_parts.proofs.ReadLemmas.{front_so}
use Rattle.grade_parts.proofs.reading.fault_front.Goals as goal

pub loop-line-preserved : goal.loop-line-preserved
loop-line-preserved c =
    let now = c.loop-line.invariant in
    let weight = weight-le c.in-Ok-Some.line.now in
    let found = rw c.in-Ok-Some.field-0-is at c.in-Ok-Some.ensures in
    record {
      held = goes_so c.args.text.now _ c.in-Ok-Some.line.now c.loop-line.end c.loop-line.count c.loop-line.found
          (c.loop-line.found + c.found_by-found.result) c.loop-line.told c.next_fault.new.told now.held
          (take_rest c.args.text.now c.loop-line.end) found
          (ap (λ (n : ℕ). c.loop-line.found + n) c.found_by-found.ensures);
      known = known_so c.args.text.now _ c.in-Ok-Some.line.now c.loop-line.end c.loop-line.count c.loop-line.found
          c.args.told.now c.loop-line.told c.next_fault.new.told now.held (take_rest c.args.text.now c.loop-line.end)
          found now.known;
      within = fits_so c.args.text.now _ c.in-Ok-Some.line.now c.loop-line.end now.within
          (take_rest c.args.text.now c.loop-line.end) found.is_first;
      few = omega (arith, now.few);
      fewer = omega (arith, now.fewer, weight, c.found_by-found.ensures);
    }

pub returns-in-Ok-None : goal.returns-in-Ok-None
returns-in-Ok-None c =
    let now = c.loop-line.invariant in
    front_so c.args.text.now _ c.loop-line.end c.loop-line.count c.loop-line.found c.args.told.now c.loop-line.told
    c.next_fault.new.told now.held now.known now.within now.few (take_rest c.args.text.now c.loop-line.end)
    (rw c.in-Ok-None.field-0-is at c.in-Ok-None.ensures)
