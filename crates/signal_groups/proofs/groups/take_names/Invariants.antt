use Rattle.std.proofs.Common.{◌≡◌, map, drop}
use Rattle.text_bytes.specs.Texts.{key_texts}
use Rattle.answers.specs.Reading.{stepping}
use Rattle.signal_groups.specs.Begun.{group_said}
use Rattle.signal_groups.specs.Located.{group_at}
use Rattle.signal_groups.proofs.groups.take_names.Given as goal

abbrev pub invariant-loop-group : goal.invariant-loop-group
invariant-loop-group l =
    stepping group_said (key_texts l.names.keys) (map group_at (drop l.group-index l.groups))
    ≡ stepping group_said (key_texts l.fn.names.keys) (map group_at l.groups)
