use Rattle.std.proofs.Common.{◌<◌, length, map, arith}
use Rattle.std.specs.Arc.{arc_value}
use Rattle.lot_plan.proofs.BuildLemmas.{file-within, bind-within, circuit-now, binding-now, sound-now}
use Rattle.lot_plan.proofs.building.die_of.Goals as goal

pub bounds-bindings-file : goal.bounds-bindings-file
bounds-bindings-file c = rw c.file-file.ensures
    (bind-within arc_value (map arc_value c.args.nets.now) c.args.bindings.now c.args.group.now c.requires)

pub bounds-nets-file : goal.bounds-nets-file
bounds-nets-file c = rw c.file-file.ensures
    (file-within arc_value c.args.nets.now (map arc_value c.args.bindings.now) c.args.group.now c.requires)

pub offset_bounds-nets-file : goal.offset_bounds-nets-file
offset_bounds-nets-file c =
    let within : c.file-file.result < length c.args.nets.now = rw c.file-file.ensures
    (file-within arc_value c.args.nets.now (map arc_value c.args.bindings.now) c.args.group.now c.requires) in
    omega (arith, within)

pub offset_bounds-bindings-file : goal.offset_bounds-bindings-file
offset_bounds-bindings-file c =
    let within : c.file-file.result < length c.args.bindings.now = rw c.file-file.ensures
    (bind-within arc_value (map arc_value c.args.nets.now) c.args.bindings.now c.args.group.now c.requires) in
    omega (arith, within)

pub bound_die-requires : goal.bound_die-requires
bound_die-requires c = λ number.
    sound-now (map arc_value c.args.nets.now) (map arc_value c.args.bindings.now) c.args.group.now
    (arc_value c.index-nets-file.result) (arc_value c.index-bindings-file.result) number c.requires
    (circuit-now arc_value c.args.nets.now c.args.group.now.file c.index-nets-file.result
    (file-within arc_value c.args.nets.now (map arc_value c.args.bindings.now) c.args.group.now c.requires)
    (rw c.file-file.ensures at c.index-nets-file.is))
    (binding-now arc_value c.args.bindings.now c.args.group.now.file c.index-bindings-file.result
    (bind-within arc_value (map arc_value c.args.nets.now) c.args.bindings.now c.args.group.now c.requires)
    (rw c.file-file.ensures at c.index-bindings-file.is))

pub returns : goal.returns
returns c =
    rw (
      circuit-now arc_value c.args.nets.now c.args.group.now.file c.index-nets-file.result
          (file-within arc_value c.args.nets.now (map arc_value c.args.bindings.now) c.args.group.now c.requires)
          (rw c.file-file.ensures at c.index-nets-file.is),
      binding-now arc_value c.args.bindings.now c.args.group.now.file c.index-bindings-file.result
          (bind-within arc_value (map arc_value c.args.nets.now) c.args.bindings.now c.args.group.now c.requires)
          (rw c.file-file.ensures at c.index-bindings-file.is),
    ) at c.bound_die.ensures
