use Rattle.std.proofs.Common.{length, map, sym, ap, ◌∙◌}
use Rattle.std.proofs.lemmas.List.{length-map}
use Rattle.bench_net.specs.Views.{form_of}
use Rattle.bench_net.proofs.NumberLemmas.{AreLines, drivers-placed, outputs-placed}
use Rattle.bench_net.proofs.netlist.netlist_of.Goals as goal
use Rattle.bench_net.proofs.netlist.netlist_of.Goals.{In_ok-drivers}

-- what the lines say by numbers
lines_are : (c : In_ok-drivers) → AreLines (map form_of c.args.lines.now) c.len.result c.in_ok-names.numbered.items
lines_are c =
    let small = c.in_ok-checked.ensures.in_range in
    record {
      nets = c.len.ensures.len ∙ sym (length-map c.in_ok-names.names.keys (λ k. k.items)) ∙ ap length c.in_ok-names.ensures.names;
      small = small;
      lines_are = c.in_ok-names.ensures.lines small;
    }

pub ordered-requires-clause-drivers : goal.ordered-requires-clause-drivers
ordered-requires-clause-drivers c =
    c.in_ok-drivers.ensures.drivers
    ∙ drivers-placed (map form_of c.args.lines.now) c.len.result c.in_ok-names.numbered.items (lines_are c)

pub ordered-requires-clause-outputs : goal.ordered-requires-clause-outputs
ordered-requires-clause-outputs c =
    c.in_ok-drivers.ensures.outputs
    ∙ outputs-placed (map form_of c.args.lines.now) c.len.result c.in_ok-names.numbered.items (lines_are c)
