use Rattle.std.proofs.Common.{append_assoc, arith, rules}
use Rattle.std.proofs.lemmas.List.{append-nil}
use Rattle.datalog.proofs.fails.put_found.Goals as goal

pub returns : goal.returns
returns g c = record {
  puts = simp (append_assoc, append-nil)
      (simp (append_assoc, append-nil, c.from.ensures, c.signal_name.ensures, c.look_letter.ensures, c.seen_letter.ensures)
      at c.put_each.ensures.puts);
  count = omega arith;
  cause = search rules;
}
