-- Floors of one socket: they are quiet where its count of faults stays and no stop was said, and not where a stop was
-- said or the count is full.
use Rattle.std.proofs.Common.{ℕ, ◌-◌, true, [], ◌∷◌, None, arith}
use Rattle.std.specs.Prelude.{◌^◌, ◌≤◌}
use Rattle.die_sim.specs.Socket.{Told, no_state}
use Rattle.stil_tool.specs.Lot.{Floor}
use Rattle.stil_tool.specs.Quiet.{IsQuietAt}

-- a socket without a die and without a tape, which has counted so many faults
abbrev idle : ℕ → Told
idle count = record { loaded = None; state = no_state; tape = None; count = count }

-- a floor with it, where so many stops were said for each site
abbrev floor : ℕ → ℕ → Floor Told
floor count stops = record { sockets = idle count ∷ []; stops = λ site. stops; asked = true }

-- three faults and five stops before and now
stays : IsQuietAt (λ (t : Told). t) (floor 3 5) (floor 3 5) 0
stays = record { stops = omega arith; faults = λ socket rises. absurd (omega (arith, rises (omega arith))) }

-- a sixth stop was said
one_more : IsQuietAt (λ (t : Told). t) (floor 3 5) (floor 3 6) 0 → ⊥
one_more quiet = absurd (omega (arith, quiet.stops))

-- a fourth fault was counted
one_fault : IsQuietAt (λ (t : Told). t) (floor 3 5) (floor 4 5) 0 → ⊥
one_fault quiet = quiet.faults (idle 0) (λ room. omega arith)

-- a count that is full says nothing
full : (most : ℕ) → 2 ^ 64 - 1 ≤ most → IsQuietAt (λ (t : Told). t) (floor most 5) (floor most 5) 0 → ⊥
full most high quiet = quiet.faults (idle 0) (λ room. absurd (omega (arith, room, high)))
