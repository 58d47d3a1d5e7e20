use Rattle.std.proofs.Common.{◌≡◌, List, length, drop}
use Rattle.std.specs.List.{All}
use Rattle.stil_ast.specs.Meaning.Arguments.{Entry, dealt_out}
use Rattle.macro_expand.specs.Lanes.{arguments_in, Fits}
use Rattle.macro_expand.proofs.lane.deal.Given as goal

-- the lanes fit, and what is dealt to the rest makes what is dealt to all
abbrev pub invariant-loop-place : goal.invariant-loop-place
invariant-loop-place l =
    (characters : List Entry) → length characters ≡ l.end →
    (All (Fits characters) l.fn.lanes.items → All (Fits characters) l.lanes.items)
    × (dealt_out (drop l.from characters) (length l.signals) l.place (drop l.place l.signals)
    (arguments_in characters l.lanes.items)
    ≡ dealt_out (drop l.from characters) (length l.signals) 0 l.signals (arguments_in characters l.fn.lanes.items))
