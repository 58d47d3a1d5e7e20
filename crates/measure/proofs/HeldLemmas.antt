-- Where all that is held are the same moments, it is so once they were asked for again.
use Rattle.std.proofs.Common.{◌≡◌, ℕ, ◌-◌, Bool, true, false, cond, List, map, take, refl, subst}
use Rattle.std.proofs.lemmas.List.{take-map}
use Rattle.std.proofs.lemmas.List.Elements.{All-cons, All-take}
use Rattle.std.proofs.lemmas.Map.Views.{All-map-remove_entry, IfSome-lookup_from_All}
use Rattle.std.specs.List.{All}
use Rattle.std.specs.Map.{remove_entry}
use Rattle.tester_types.specs.declared.cycle.Moment.{Moment}
use Rattle.edge_gen.specs.Held.{Held, is_pair, is_held, HoldsOnly, others, asked}

-- the moments of an entry
abbrev pub lent_by : (ℕ × ℕ) × List Moment → List Moment
lent_by e = e.1

-- whatever numbers are asked for
pub holds_only : (held : Held) (pair : ℕ × ℕ) (moments : List Moment)
    → All (λ m. m ≡ moments) (map (λ e. e.1) held.entries) → HoldsOnly held pair moments
holds_only held pair moments all = IfSome-lookup_from_All (λ m. m ≡ moments) (is_pair pair) held.entries all

-- once they were
pub asked_all : (held : Held) (pair : ℕ × ℕ) (moments : List Moment)
    → All (λ m. m ≡ moments) (map (λ e. e.1) held.entries)
    → All (λ m. m ≡ moments) (map (λ e. e.1) (asked held pair moments).entries)
asked_all held pair moments all =
    All-cons (λ m. m ≡ moments) moments (map lent_by (others held pair)) refl (by (is_held pair held))
  where
    by : (b : Bool) → All (λ m. m ≡ moments)
        (map lent_by (cond b (remove_entry (is_pair pair) held.entries) (take (held.cap - 1) held.entries)))
    by true = All-map-remove_entry (is_pair pair) lent_by (λ m. m ≡ moments) held.entries all
    by false = subst (λ ms. All (λ m. m ≡ moments) ms) (take-map lent_by (held.cap - 1) held.entries)
        (All-take (λ m. m ≡ moments) (held.cap - 1) (map lent_by held.entries) all)
