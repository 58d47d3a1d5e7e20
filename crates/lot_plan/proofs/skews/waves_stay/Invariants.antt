use Rattle.std.proofs.Common.{◌≡◌, true, take}
use Rattle.lot_plan.specs.Skews.{waves_stay}
use Rattle.lot_plan.proofs.skews.waves_stay.Given as goal

-- each wave in the tables so far stays inside its cycle
abbrev pub invariant-loop-number : goal.invariant-loop-number
invariant-loop-number l = waves_stay (take l.number l.code.tables) l.signal l.skew ≡ true
