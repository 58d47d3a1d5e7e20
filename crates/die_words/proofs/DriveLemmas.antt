-- The drives of a moment one after another.
use Rattle.std.proofs.Common.{◌≡◌, ℕ, ◌+◌, ◌<◌, ◌≤◌, List, length, get_or, take, sym, ap, ◌∙◌}
use Rattle.std.proofs.lemmas.List.{take_more, take_all}
use Rattle.std.proofs.lemmas.List.Sums.{fold_push}
use Rattle.tester_types.specs.declared.level.Level.{Level}
use Rattle.tester_types.specs.declared.level.Drive.{Drive}
use Rattle.die_sim.specs.declared.image.Bind.{Bind}
use Rattle.die_sim.specs.Die.{bind_at}
use Rattle.die_sim.specs.Moment.{put_at, put_all}

-- one drive more
pub put_all-more : (binds : List Bind) (own : List Level) (drives : List (ℕ × Drive)) (i : ℕ) (d : ℕ × Drive) (b : Bind)
    → i < length drives → b ≡ bind_at binds (get_or drives i d).0
    → put_at b (get_or drives i d).1 (put_all binds own (take i drives)) ≡ put_all binds own (take (i + 1) drives)
put_all-more binds own drives i d b l is =
    ap (λ (x : Bind). put_at x (get_or drives i d).1 (put_all binds own (take i drives))) is
    ∙ sym (ap (λ (ds : List (ℕ × Drive)). put_all binds own ds) (take_more drives i d l)
    ∙ fold_push (λ (h : List Level) (x : ℕ × Drive). put_at (bind_at binds x.0) x.1 h) own (take i drives) (get_or drives i d))

-- all drives
pub put_all-done : (binds : List Bind) (own : List Level) (drives : List (ℕ × Drive)) (i : ℕ) → length drives ≤ i
    → put_all binds own (take i drives) ≡ put_all binds own drives
put_all-done binds own drives i past = ap (λ (ds : List (ℕ × Drive)). put_all binds own ds) (take_all i drives past)
