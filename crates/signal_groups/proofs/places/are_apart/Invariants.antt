use Rattle.std.proofs.Common.{◌≡◌, drop}
use Rattle.text_bytes.specs.Texts.{key_texts}
use Rattle.signal_groups.specs.Lookup.{are_apart}
use Rattle.signal_groups.proofs.places.are_apart.Given as goal

-- none of the groups so far has the name of a signal
abbrev pub invariant-loop-group : goal.invariant-loop-group
invariant-loop-group l =
    are_apart (key_texts l.fn.signals.keys) (key_texts (drop l.group-index l.group-items))
    ≡ are_apart (key_texts l.fn.signals.keys) (key_texts l.fn.groups.keys)
