use Rattle.std.proofs.Common.{◌≡◌, ◌++◌, ◌-◌, filter}
use Rattle.stil_ast.specs.Data.Texts.{upwards}
use Rattle.scan_chain.specs.Held.{chains_in, is_end}
use Rattle.scan_chain.proofs.outs.ends_among.Given as goal

abbrev pub invariant-loop-signal : goal.invariant-loop-signal
invariant-loop-signal l =
    l.ends.items ++ filter (is_end (chains_in l.chains)) (upwards l.signal (l.count - l.signal))
    ≡ filter (is_end (chains_in l.chains)) (upwards 0 l.count)
