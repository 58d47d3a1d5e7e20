use Rattle.std.proofs.Common.{append_assoc, arith, rules}
use Rattle.std.proofs.lemmas.List.{append-nil}
use Rattle.code_listing.proofs.check.put_check.Goals as goal

pub returns : goal.returns
returns g c = record {
  puts = simp (append_assoc, append-nil)
      (simp (append_assoc, append-nil, c.from.ensures, c.execs.ensures, c.from-2.ensures, c.cycle_total.ensures.exact, c.from-3.ensures, c.rows.ensures, c.from-4.ensures, c.instr_total.ensures, c.from-5.ensures, c.pages.ensures)
      at c.put_each.ensures.puts);
  count = omega arith;
  cause = search rules;
}
