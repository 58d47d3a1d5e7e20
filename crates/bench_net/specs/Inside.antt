-- What contracts see of a netlist, from its fields.
use Rattle.bench_net.specs.declared.netlist.Netlist.TheInside.{Inside}
use Rattle.bench_net.specs.Circuit.{Circuit}
use Rattle.text_bytes.specs.Texts.{key_texts}

-- the circuit that the fields hold
abbrev pub circuit_of : Inside → Circuit
circuit_of n = record {
  net = record { names = key_texts n.names.keys; drivers = n.drivers.items; outputs = n.outputs.items };
  order = n.order.items;
  readers = n.readers.items;
}
