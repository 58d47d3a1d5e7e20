-- A netlist has one settling: the nets where two of them agree are a set that inputs and flip-flops are in, and each gate whose pins are.
use Rattle.std.proofs.Common.{◌≡◌, ℕ, suc, ◌<◌, true, false, List, [], ◌∷◌, length, get_or, refl, sym, ap, ◌∙◌, arith, Option}
use Rattle.std.specs.Prelude.{All}
use Rattle.std.proofs.lemmas.List.Elements.{All-get_or, All-from_get_or}
use Rattle.tester_types.specs.declared.level.Level.{Level}
use Rattle.bench_net.specs.declared.gate.Driver.{Driver}
use Rattle.bench_net.specs.Wiring.{driver_at, gate_at, pins_at, IsWired, IsClosed, IsReached}
use Rattle.bench_net.proofs.CallerLemmas.{reached_from_whole}
use Rattle.bench_net.specs.Circuit.{Circuit, IsWhole}
use Rattle.bench_net.specs.Gates.{level_at}
use Rattle.die_sim.specs.Die.{Settled}
use Rattle.die_sim.specs.Walk.{same_level}
use Rattle.die_sim.proofs.GateLemmas.{wanted-same}
use Rattle.die_sim.proofs.WalkLemmas.{same_level-true, same_level-from, wanted_source}

-- the levels of two settlings are alike at each net that is reached
pub settled_alike : (drivers : List Driver)
    → ((n : ℕ) → n < length drivers → IsWired (length drivers) (driver_at drivers n))
    → (fixed : List (Option Level)) (held v w : List Level) → Settled drivers fixed held v
    → Settled drivers fixed held w → (n : ℕ) → IsReached drivers n → level_at v n ≡ level_at w n
settled_alike drivers wired fixed held v w a b n reached = same_level-true (level_at v n) (level_at w n) (reached (λ m. same_level (level_at v m) (level_at w m)) alike)
  where
    source : (m : ℕ) → m < length drivers → gate_at drivers m ≡ false → level_at v m ≡ level_at w m
    source m l e = a.fits m l ∙ wanted_source drivers fixed held v m e ∙ sym (wanted_source drivers fixed held w m e) ∙ sym (b.fits m l)

    gate : (m : ℕ) → m < length drivers → All (λ p. same_level (level_at v p) (level_at w p) ≡ true) (pins_at drivers m) → level_at v m ≡ level_at w m
    gate m l all =
        a.fits m l
        ∙ wanted-same drivers fixed held v w m (wired m l)
        (All-from_get_or (λ p. level_at v p ≡ level_at w p) (pins_at drivers m) 0
        (λ i j. same_level-true (level_at v (get_or (pins_at drivers m) i 0))
        (level_at w (get_or (pins_at drivers m) i 0))
        (All-get_or (λ p. same_level (level_at v p) (level_at w p) ≡ true) (pins_at drivers m) i 0 j all)))
        ∙ sym (b.fits m l)

    alike : IsClosed drivers (λ m. same_level (level_at v m) (level_at w m))
    alike = record {
      sources = λ m l e. same_level-from (level_at v m) (level_at w m) (source m l e);
      gates = λ m l e all. same_level-from (level_at v m) (level_at w m) (gate m l all);
    }

-- levels that are alike at each place are one list
pub same_lists : (v w : List Level) → length v ≡ length w → ((n : ℕ) → n < length v → level_at v n ≡ level_at w n) → v ≡ w
same_lists [] [] e each = refl
same_lists [] (y ∷ w) e each = absurd (omega (arith, e))
same_lists (x ∷ v) [] e each = absurd (omega (arith, e))
same_lists (x ∷ v) (y ∷ w) e each =
    ap (λ (a : Level). a ∷ v) (each 0 (omega arith))
    ∙ ap (λ (l : List Level). y ∷ l) (same_lists v w (omega (arith, e)) (λ n l. each (suc n) (omega (arith, l))))

-- a netlist in which each net is reached has one settling at most
pub one_settled : (drivers : List Driver)
    → ((n : ℕ) → n < length drivers → IsWired (length drivers) (driver_at drivers n))
    → ((n : ℕ) → n < length drivers → IsReached drivers n) → (fixed : List (Option Level)) (held v w : List Level)
    → Settled drivers fixed held v → Settled drivers fixed held w → v ≡ w
one_settled drivers wired reached fixed held v w a b =
    same_lists v w (a.one_each ∙ sym b.one_each) (λ n l. settled_alike drivers wired fixed held v w a b n (reached n (omega (arith, l, a.one_each))))

-- so each netlist has one settling at most; that it has one is `one_settling_each`
pub one_settled_netlist : (c : Circuit) → IsWhole c → (fixed : List (Option Level)) (held v w : List Level)
    → Settled c.net.drivers fixed held v → Settled c.net.drivers fixed held w → v ≡ w
one_settled_netlist c whole fixed held v w a b =
    one_settled c.net.drivers whole.wired
    (reached_from_whole c whole)
    fixed held v w a b
