use Rattle.std.proofs.Common.{◌+◌, take, drop, sym, ap, ◌∙◌, subst, arith}
use Rattle.std.proofs.lemmas.List.{take_rest, take_all}
use Rattle.vcd_text.specs.Standing.{has_no_feed}
use Rattle.vcd_text.specs.Read.{IsReadTo}
use Rattle.vcd_text.proofs.EndLemmas.{first_line, reads_on, reads_none}
use Rattle.vcd_text.proofs.FaultLemmas.{fault_at_line}
use Rattle.vcd_text.proofs.read.read_lines.Goals as goal

pub loop-end-init : goal.loop-end-init
loop-end-init c = record {
  read = subst (IsReadTo c.args.bytes.now c.args.bytes.now 0) (sym c.requires.new) (reads_none c.args.bytes.now);
  end = c.line_end-end.ensures;
}

pub overflow_add-result : goal.overflow_add-result
overflow_add-result c = omega (arith, c.loop-end.invariant.read.few, c.requires.few)

pub overflow_add-lines : goal.overflow_add-lines
overflow_add-lines c = omega (arith, c.loop-end.invariant.read.few, c.requires.few)

pub returns-then-not-branch : goal.returns-then-not-branch
returns-then-not-branch c =
    let rest = c.loop-end.rest.now in
    let end = c.loop-end.end in
    fault_at_line c.args.bytes.now rest c.loop-end.lines c.loop-end.reader (take end rest) (drop (end + 1) rest) c.loop-end.invariant.read
    (first_line rest end c.loop-end.invariant.end c.loop-end-test.true) c.loop-end.invariant.end.free
    (rw c.if-not-branch.true at c.in_ok-take_text.ensures)

pub loop-end-preserved : goal.loop-end-preserved
loop-end-preserved c =
    let rest = c.loop-end.rest.now in
    let end = c.loop-end.end in
    let took = rw c.if-not-branch.false at c.in_ok-take_text.ensures in
    record {
      read = rw take_rest
          (reads_on c.args.bytes.now rest (drop (end + 1) rest) (take end rest) c.loop-end.lines c.loop-end.reader _ took.0
          c.loop-end.invariant.read took.1 took.2 took.3 (first_line rest end c.loop-end.invariant.end c.loop-end-test.true));
      end = c.line_end-end-in-loop-end.ensures;
    }

pub returns : goal.returns
returns c =
    let rest = c.loop-end.rest.now in
    let e = c.loop-end.invariant.end in
    record {
      read = c.loop-end.invariant.read;
      free = ap has_no_feed (sym (take_all c.loop-end.end rest c.loop-end-test.false)) ∙ e.free;
    }
