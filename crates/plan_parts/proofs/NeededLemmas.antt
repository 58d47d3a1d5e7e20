-- How many parts are enough: up to 64 sites go round.
use Rattle.std.proofs.Common.{◌≡◌, ℕ, zero, suc, ◌+◌, ◌-◌, ◌<◌, ◌≤◌, Bool, true, cond, ◌==◌, nat_lt, nat_le, List, length, refl, sym, ap, ◌∙◌, subst, arith, inl, inr}
use Rattle.std.specs.List.{list_all, range_with_len}
use Rattle.std.specs.Int.{div_ceil}
use Rattle.std.proofs.lemmas.Bool.{and_parts, leb-true, ltb-true, cases_lt, ne_eqb}
use Rattle.text_bytes.specs.Limits.{most_sites}
use Rattle.plan_rows.specs.declared.row.Row.{Row}
use Rattle.plan_parts.specs.Cut.{AreEnough, AreNeeded, sites_in_part, sites_with_dies}

-- what passes for each of so many numbers passes for one of them
pub all_in_range : (p : ℕ → Bool) (a n k : ℕ) → list_all p (range_with_len a n) ≡ true → a ≤ k → k < a + n → p k ≡ true
all_in_range p a zero k all low high = absurd (omega arith)
all_in_range p a (suc n) k all low high =
    let both = and_parts (p a) (list_all p (range_with_len (a + 1) n)) all in
    elim (cases_lt a k) [
      | inl more ↦ all_in_range p (a + 1) n k both.1 (omega arith) (omega arith)
      | inr here ↦ let same : a ≡ k = omega arith in subst (λ i. p i ≡ true) same both.0
    ]

-- as many parts as are needed
abbrev pub needed : ℕ → ℕ
needed ranks = cond (ranks == 0) 1 (div_ceil ranks most_sites)

-- none of them has too many sites
abbrev fits : ℕ → Bool
fits ranks = list_all (λ part. nat_le (sites_in_part (needed ranks) part ranks) most_sites) (range_with_len 0 (needed ranks))

-- so with up to 64 sites
all_fit : list_all fits (range_with_len 0 65) ≡ true
all_fit = refl

-- with fewer the first has too many
abbrev fails : ℕ → Bool
fails ranks = list_all (λ fewer. nat_lt most_sites (sites_in_part fewer 0 ranks)) (range_with_len 1 (needed ranks - 1))

-- so with up to 64 sites
all_fail : list_all fails (range_with_len 0 65) ≡ true
all_fail = refl

-- at least one part is needed
some_needed : list_all (λ ranks. nat_le 1 (needed ranks)) (range_with_len 0 65) ≡ true
some_needed = refl

-- so many parts are needed
pub are_needed : (rows : List Row) (ranks parts : ℕ) → ranks ≤ 64 → ranks ≡ length (sites_with_dies rows) → parts ≡ needed ranks
    → AreNeeded rows parts
are_needed rows ranks parts few count is = subst (AreNeeded rows) (sym is) (record {
  enough = record { some = some; each = each };
  least = least;
})
  where
    some : 1 ≤ needed ranks
    some = leb-true 1 (needed ranks) (all_in_range (λ (n : ℕ). nat_le 1 (needed n)) 0 65 ranks some_needed (omega arith) (omega arith))

    each : (part : ℕ) → part < needed ranks → sites_in_part (needed ranks) part (length (sites_with_dies rows)) ≤ most_sites
    each part within = subst (λ (n : ℕ). sites_in_part (needed ranks) part n ≤ most_sites) count
        (leb-true _ most_sites (all_in_range (λ (p : ℕ). nat_le (sites_in_part (needed ranks) p ranks) most_sites) 0 (needed ranks) part
        (all_in_range fits 0 65 ranks all_fit (omega arith) (omega arith)) (omega arith) (omega (arith, within))))

    least : (fewer : ℕ) → AreEnough rows fewer → needed ranks ≤ fewer
    least fewer enough = elim (cases_lt fewer (needed ranks)) [
      | inl less ↦
          let least_one : 1 ≤ fewer = enough.some in
          let first : sites_in_part fewer 0 ranks ≤ most_sites = subst (λ (n : ℕ). sites_in_part fewer 0 n ≤ most_sites) (sym count) (enough.each 0 (omega arith)) in
          let many : most_sites < sites_in_part fewer 0 ranks = ltb-true most_sites (sites_in_part fewer 0 ranks) (all_in_range (λ (f : ℕ). nat_lt most_sites (sites_in_part f 0 ranks)) 1 (needed ranks - 1) fewer
          (all_in_range fails 0 65 ranks all_fail (omega arith) (omega arith)) least_one (omega (arith, less, least_one))) in
          absurd (omega (arith, first, many))
      | inr h ↦ h
    ]

-- as many sites as there are, by sixteens
pub needed_some : (ranks parts : ℕ) → (ranks ≡ 0 → ⊥) → parts ≡ div_ceil ranks most_sites → parts ≡ needed ranks
needed_some ranks parts some is = is ∙ sym (ap (λ b. cond b 1 (div_ceil ranks most_sites)) (ne_eqb ranks 0 some))
