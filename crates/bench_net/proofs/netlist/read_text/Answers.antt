use Rattle.std.proofs.Common.{List, map, ap, sym, subst}
use Rattle.std.specs.Prelude.{All}
use Rattle.bench_net.specs.Line.{Form}
use Rattle.bench_net.specs.Numbers.{HasPins}
use Rattle.bench_net.specs.Views.{form_of}
use Rattle.bench_net.proofs.BuildLemmas.{HasPins-Reads}
use Rattle.bench_net.proofs.netlist.read_text.Goals as goal

pub netlist_of-requires : goal.netlist_of-requires
netlist_of-requires c =
    subst (λ (fs : List Form). All HasPins fs) (sym (ap (map form_of) c.as_slice.ensures.value))
    (HasPins-Reads c.args.bytes.now
    (map form_of c.in_ok-lines.lines.items) c.in_ok-lines.ensures)
