use Rattle.std.proofs.Common.{◌≡◌, List, length, map, refl, sym, ap, ◌∙◌}
use Rattle.std.specs.Arc.{arc_value}
use Rattle.std.proofs.lemmas.List.{length-map}
use Rattle.bench_net.specs.Circuit.{Circuit}
use Rattle.tool_inputs.specs.Inputs.{Inputs}
use Rattle.stil_tool.proofs.DrillLemmas.{unbound_refused, one_file}
use Rattle.stil_tool.proofs.drill.prepare.Goals as goal

pub bind-requires : goal.bind-requires
bind-requires c =
    let one : length c.in-Ok.nets.items ≡ 1 =
    sym (length-map c.in-Ok.nets.items arc_value) ∙ ap (λ (l : List Circuit). length l) c.in-Ok.ensures in
    one ∙ sym (one_file c.args.number c.in_ok-plan.plan c.requires c.in_ok-plan.ensures)

pub returns-in-Ok-bind : goal.returns-in-Ok-bind
returns-in-Ok-bind c =
    let inputs : Inputs = record {
      code = c.in_ok-code.code;
      rows = c.in_ok-plan.plan;
      circuits = map arc_value c.in-Ok.nets.items;
    } in
    record {
      inputs = inputs;
      are = record {
        code = c.in_ok-code.ensures;
        rows = c.in_ok-plan.ensures;
        circuit = c.in_ok-net.net;
        one = c.in-Ok.ensures;
        net = c.in_ok-net.ensures.0;
        whole = c.in_ok-net.ensures.1;
      };
      code_is = refl;
      is = c.in-Ok-bind.ensures.0;
      accepted = c.in-Ok-bind.ensures.1;
    }

pub returns-in-Err : goal.returns-in-Err
returns-in-Err c =
    let inputs : Inputs = record {
      code = c.in_ok-code.code;
      rows = c.in_ok-plan.plan;
      circuits = map arc_value c.in-Ok.nets.items;
    } in
    unbound_refused c.args.number inputs c.in-Err.fault
    (record {
      code = c.in_ok-code.ensures;
      rows = c.in_ok-plan.ensures;
      circuit = c.in_ok-net.net;
      one = c.in-Ok.ensures;
      net = c.in_ok-net.ensures.0;
      whole = c.in_ok-net.ensures.1;
    })
    c.in-Err.ensures
