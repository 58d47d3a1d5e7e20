use Rattle.std.proofs.Common.{◌≡◌, ◌<◌, length, inl, inr, rules}
use Rattle.vcd_text.proofs.FaultLemmas.{fault_at_end, read_whole}
use Rattle.vcd_text.proofs.read.read_whole.Goals as goal

pub returns-then-not-is_empty : goal.returns-then-not-is_empty
returns-then-not-is_empty c =
    let rest = c.in_ok-lines.rest.now in
    let some : 0 < length rest = search (rules, c.is_empty.ensures, c.if-not-is_empty.true) in
    let r = c.in_ok-lines.ensures in
    fault_at_end c.args.bytes.now rest c.in_ok-lines.lines c.read_lines.new.reader r.read r.free (inl some)

pub returns-in-Some : goal.returns-in-Some
returns-in-Some c =
    let rest = c.in_ok-lines.rest.now in
    let none : length rest ≡ 0 = search (rules, c.is_empty.ensures, c.if-not-is_empty.false) in
    read_whole c.args.bytes.now rest c.in_ok-lines.lines c.read_lines.new.reader c.in-Some.dump.vars c.in-Some.dump.tape.calls
    c.in_ok-lines.ensures.read none (rw c.in-Some.is at c.in_ok-dump.ensures)

pub returns-in-None : goal.returns-in-None
returns-in-None c =
    let r = c.in_ok-lines.ensures in
    fault_at_end c.args.bytes.now c.in_ok-lines.rest.now c.in_ok-lines.lines c.read_lines.new.reader r.read r.free
    (inr (rw c.in-None.is at c.in_ok-dump.ensures))
