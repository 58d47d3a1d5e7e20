use Rattle.std.proofs.Common.{◌≡◌, drop, map}
use Rattle.std.specs.List.{list_any}
use Rattle.stil_ast.specs.Meaning.Dealing.{has_signal}
use Rattle.macro_expand.specs.Pairs.{taker_of, hashed_in}
use Rattle.macro_expand.proofs.dealing.is_again.Given as goal

abbrev pub invariant-loop-pair : goal.invariant-loop-pair
invariant-loop-pair l =
    list_any (has_signal l.before) (hashed_in (map taker_of (drop l.pair-index l.pairs)))
    ≡ list_any (has_signal l.before) (hashed_in (map taker_of l.fn.pairs))
