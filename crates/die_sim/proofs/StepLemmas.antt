-- One moment: after the flip-flops and the driven inputs got their levels, all inputs and flip-flops have theirs.
use Rattle.std.proofs.Common.{◌≡◌, ℕ, ◌<◌, Bool, true, false, List, length, get_or, sym, ap, ◌∙◌, subst, inl, inr, Option, None}
use Rattle.std.specs.Prelude.{slice_index_or, unwrap_or}
use Rattle.std.proofs.lemmas.Bool.{both_ways}
use Rattle.tester_types.specs.declared.level.Level.{Level}
use Rattle.tester_types.specs.declared.level.Drive.{Drive}
use Rattle.bench_net.specs.declared.gate.Driver.{Driver}
use Rattle.bench_net.specs.Wiring.{gate_at}
use Rattle.die_sim.specs.declared.image.Bind.{Bind}
use Rattle.die_sim.specs.declared.image.Bind.TheVariants as bind
use Rattle.die_sim.specs.declared.moment.Edge.{Edge}
use Rattle.bench_net.specs.Gates.{level_at}
use Rattle.die_sim.specs.Die.{own_level, Settled, bind_at}
use Rattle.die_sim.specs.Moment.{Captures, put_all}
use Rattle.die_sim.specs.Spread.{IsSpread}
use Rattle.die_sim.specs.Pending.{PendingGates, is_pending}
use Rattle.die_sim.specs.Walk.{MayCapture, HasLevel, HaveLevels, HaveDriven, Waits, Refreshes, HasCause, before, by, Carries}
use Rattle.die_sim.proofs.MomentLemmas.{put_all-other}
use Rattle.die_sim.proofs.WalkLemmas.{wanted_source, Refreshes-keeps, Refreshes-then}

-- where each gate is pending all waits
pub Waits-all : (drivers : List Driver) (fixed : List (Option Level)) (held levels : List Level)
    (pending : PendingGates) → length levels ≡ length drivers → ((n : ℕ) → is_pending pending n ≡ gate_at drivers n)
    → Waits drivers fixed held levels pending
Waits-all drivers fixed held levels pending count all = record {
  levels_count = count;
  gates_only = λ g m. sym (all g) ∙ m;
  fits = λ g l e f. absurd (both_ways (is_pending pending g) f (all g ∙ e));
}

has_level : (fixed : List (Option Level)) (held levels : List Level) (b : Bind) (n : ℕ) → b ≡ bind.Input n
    → HasLevel fixed held levels b → level_at levels n ≡ own_level fixed held n
has_level fixed held levels b n e h = subst (λ (x : Bind). HasLevel fixed held levels x) e h

-- all inputs and flip-flops have their levels
pub sources_refreshed : (drivers : List Driver) (fixed : List (Option Level)) (e : Edge)
    (old kept held start mid levels : List Level) (pending pending' pending'' : PendingGates) (nets : List ℕ)
    (binds : List Bind) (drives : List (ℕ × Drive))
    → Settled drivers fixed old start → Captures drivers e start old kept → held ≡ put_all binds kept drives → MayCapture drivers e start old nets
    → Refreshes drivers fixed held start mid pending pending' → HaveLevels fixed held mid nets
    → Refreshes drivers fixed held mid levels pending' pending'' → HaveDriven fixed held levels binds drives
    → (n : ℕ) → n < length drivers → gate_at drivers n ≡ false → level_at levels n ≡ own_level fixed held n
sources_refreshed drivers fixed e old kept held start mid levels pending pending' pending'' nets binds drives settled
    captures held_is may first have second driven_have n within source =
    elim (put_all-other binds drives kept n) [
      | inr d ↦ has_level fixed held levels (bind_at binds (get_or drives d.place d.drive).0) n d.is (driven_have.each d.place d.drive d.within)
      | inl same ↦ elim (may.all n within) [
        | inl s ↦
            let there : level_at mid n ≡ own_level fixed held n = subst (λ (a : ℕ). level_at mid a ≡ own_level fixed held a) s.is (have.each s.place s.within) in
            Refreshes-keeps drivers fixed held mid levels pending' pending'' second n there
        | inr stays ↦
            let held_same : level_at held n ≡ level_at old n = ap (λ (v : List Level). level_at v n) held_is ∙ same ∙ captures.each n within ∙ stays in
            let was : level_at start n ≡ own_level fixed held n =
            settled.fits n within ∙ wanted_source drivers fixed old start n source ∙ ap (λ (x : Level). unwrap_or (slice_index_or fixed n None) x) (sym held_same) in
            Refreshes-keeps drivers fixed held start levels pending pending'' (Refreshes-then drivers fixed held start mid levels pending pending' pending'' first second) n was
      ]
    ]

-- a set over which the change spreads carries the pending gates
pub spread_carries : (drivers : List Driver) (fixed : List (Option Level)) (held start mid new : List Level)
    (pending pending' : PendingGates) → Refreshes drivers fixed held start mid pending pending'
    → ((n : ℕ) → is_pending pending n ≡ false) → ((n : ℕ) → gate_at drivers n ≡ false → level_at new n ≡ level_at mid n)
    → (set : ℕ → Bool) → IsSpread drivers start new set → Carries drivers pending' set
spread_carries drivers fixed held start mid new pending pending' h clear kept set spread = record {
  start = λ g m. of_cause g (h.cause g m);
  onward = spread.gates;
}
  where
    of_cause : (g : ℕ) → HasCause drivers start mid pending g → set g ≡ true
    of_cause g (before m) = absurd (both_ways (is_pending pending g) (clear g) m)
    of_cause g (by n r e ne) = spread.sources g n r e (λ q. ne (q ∙ kept n e))
