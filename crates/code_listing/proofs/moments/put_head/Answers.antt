use Rattle.std.proofs.Common.{◌∙◌, List, ℕ, ap, subst, sym, arith, rules}
use Rattle.std.proofs.lemmas.Option.{get_or_from_slice_get}
use Rattle.tester_types.specs.Outside.{Puts}
use Rattle.tester_types.specs.declared.wave.Table.{Table}
use Rattle.code_listing.specs.Listing.{no_table}
use Rattle.code_listing.specs.Text.{head_line}
use Rattle.code_listing.proofs.moments.put_head.Goals as goal

pub returns : goal.returns
returns g c =
    let cycle = c.args.cycle.now in
    let name = c.as_slice-table.ensures
    ∙ ap (λ (t : Table). t.name) (sym (get_or_from_slice_get c.args.code.now.tables cycle.table c.table.result.now no_table c.table.ensures.found)) in
    record {
      puts = subst (λ (n : List ℕ). Puts (g.K.Sink.told c.args.sink.now) (head_line c.args.number cycle.start n) c.put_head_line.result (g.K.Sink.told c.put_head_line.new.sink))
          name c.put_head_line.ensures.puts;
      count = omega arith;
      cause = search rules;
    }
