-- A try's bench as it begins.
use Rattle.std.proofs.Common.{◌≡◌, ℕ, ◌≤◌, Bool, List, [], length, map, ap, ◌∙◌, subst, arith}
use Rattle.std.specs.List.{range_with_len}
use Rattle.std.proofs.lemmas.List.FromFn.{length-map-range_with_len}
use Rattle.die_sim.specs.Die.{Device}
use Rattle.strobe_check.specs.History.{Held, HasSeen, fresh, numbered}
use Rattle.strobe_check.proofs.HistoryLemmas.{numbered-all}
use Rattle.site_meaning.specs.Playing.{is_bound}
use Rattle.cycle_run.specs.Cycle.{closed_with}

-- a checker of so few signals has them all, and has closed no cycle
pub checker_of : (device : Device) (keep signals : ℕ) (bound : List Bool) (held : Held) → signals ≡ length device.binds
    → signals ≤ 1024
    → bound ≡ map (is_bound device) (range_with_len 0 signals) → HasSeen (fresh (numbered bound) keep) held
    → HasSeen (closed_with device keep []) held
checker_of device keep signals bound held count few is seen =
    let long = ap length is ∙ length-map-range_with_len (is_bound device) 0 signals in
    let all = numbered-all bound (omega (arith, long)) ∙ is
    ∙ ap (λ n. map (is_bound device) (range_with_len 0 n)) count in
    subst (λ (l : List Bool). HasSeen (fresh l keep) held) all seen
