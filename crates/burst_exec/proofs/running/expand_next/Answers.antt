use Rattle.burst_exec.proofs.running.expand_next.Goals as goal

pub get-requires : goal.get-requires
get-requires c = c.in_ok-macros.ensures.there

pub get-requires-2 : goal.get-requires-2
get-requires-2 c = c.in_ok-procedures.ensures.there
