-- What a crate above needs of a whole netlist: each net is in the least set, and each gate stands
-- in the order.
use Rattle.std.proofs.Common.{◌≡◌, ℕ, ◌<◌, true, cond, List, length, ap, ◌∙◌, arith}
use Rattle.std.specs.Prelude.{◌==◌}
use Rattle.std.specs.List.{list_any}
use Rattle.bench_net.specs.declared.gate.Driver.{Driver}
use Rattle.bench_net.specs.Wiring.{gate_at, IsReached, IsOrder}
use Rattle.bench_net.specs.Circuit.{Circuit, IsWhole}
use Rattle.bench_net.proofs.OrderLemmas.{reached_from_order, order_any}
use Rattle.bench_net.proofs.BuildLemmas.{within-wired}

-- each net of a netlist is reached, so what holds of a closed set holds of it
pub reached_from_whole : (c : Circuit) → IsWhole c → (n : ℕ) → n < length c.net.drivers
    → IsReached c.net.drivers n
reached_from_whole c w n l = reached_from_order c.net.drivers c.order
    (within-wired c.net.drivers w.wired) w.order n l

-- each gate stands in the order
pub in_order : (drivers : List Driver) (order : List ℕ) → IsOrder drivers order → (n : ℕ)
    → gate_at drivers n ≡ true → list_any (λ g. g == n) order ≡ true
in_order drivers order o n e = order_any n order
    (omega (arith, o.gates n ∙ ap (λ b. cond {A = ℕ} b 1 0) e))
