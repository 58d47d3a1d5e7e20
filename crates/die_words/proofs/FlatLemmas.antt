-- The gates one after another get their places, with the nets that they read.
use Rattle.std.proofs.Common.{◌≡◌, ℕ, ◌+◌, ◌-◌, ◌<◌, ◌++◌, List, [], ◌∷◌, length, get_or, take, drop, sym, ap, ◌∙◌, subst, arith, inl, inr, length-append}
use Rattle.std.proofs.lemmas.List.{get_or_append_left, get_or_push}
use Rattle.std.proofs.lemmas.Bool.{cases_eq}
use Rattle.bench_net.specs.declared.gate.Driver.{Driver}
use Rattle.bench_net.specs.declared.gate.Driver.TheVariants.{Gate}
use Rattle.bench_net.specs.Wiring.{driver_at}
use Rattle.bench_net.specs.Circuit.{Circuit}
use Rattle.die_sim.specs.Cells.{IsFront}
use Rattle.die_sim.proofs.CellLemmas.{cut_kept}
use Rattle.die_words.specs.declared.flat.Flat.{Flat}
use Rattle.die_words.specs.declared.flat.Flat.TheVariants.{One, Two, Many}
use Rattle.die_words.specs.Flat.{no_gate, IsFlat, AreFlatTo}

-- a gate stays what it is where pins are put behind the others
IsFlat-front : (driver : Driver) (pins whole : List ℕ) (more : ℕ) (gate : Flat) → IsFront pins whole more
    → IsFlat driver pins gate → IsFlat driver whole gate
IsFlat-front driver pins whole more (One kind net) f h = record { inside = tt; is = h.is }
IsFlat-front driver pins whole more (Two kind first last) f h = record { inside = tt; is = h.is }
IsFlat-front driver pins whole more (Many kind from to) f h =
    let i = h.inside in
    record {
      inside = (i.0, omega (arith, i.1, ap (λ (l : List ℕ). length l) f.is, length-append pins f.rest));
      is =
          ap (λ (l : List ℕ). Gate kind (take (to - from) (drop from l))) f.is
          ∙ ap (λ (l : List ℕ). Gate kind l) (cut_kept pins f.rest from to i.0 i.1)
          ∙ h.is;
    }

-- one more gate stands at its place
pub AreFlatTo-more : (c : Circuit) (gates : List Flat) (pins whole : List ℕ) (k more : ℕ) (gate : Flat)
    → AreFlatTo c gates pins k → IsFront pins whole more
    → IsFlat (driver_at c.net.drivers (get_or c.order k 0)) whole gate → AreFlatTo c (gates ++ gate ∷ []) whole (k + 1)
AreFlatTo-more c gates pins whole k more gate h f flat = record {
  count = length-append gates (gate ∷ []) ∙ ap (λ n. n + 1) h.count;
  each = λ j l. elim (cases_eq j k) [
    | inl q ↦
        let is : get_or (gates ++ gate ∷ []) j no_gate ≡ gate = get_or_push gates gate no_gate j (h.count ∙ sym q) in
        subst (λ (x : Flat). IsFlat (driver_at c.net.drivers (get_or c.order j 0)) whole x) (sym is)
        (subst (λ (i : ℕ). IsFlat (driver_at c.net.drivers (get_or c.order i 0)) whole gate) (sym q) flat)
    | inr ne ↦
        let before : j < k = omega (arith, l, ne) in
        let front : j < length gates = omega (arith, before, h.count) in
        subst (λ (x : Flat). IsFlat (driver_at c.net.drivers (get_or c.order j 0)) whole x)
        (sym (get_or_append_left gates (gate ∷ []) no_gate j front))
        (IsFlat-front (driver_at c.net.drivers (get_or c.order j 0)) pins whole more (get_or gates j no_gate) f (h.each j before))
  ];
}
