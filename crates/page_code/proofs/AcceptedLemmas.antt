-- A pair that was accepted goes together, and one more is accepted where it does.
use Rattle.std.proofs.Common.{◌≡◌, ℕ, ◌++◌, ◌&&◌, Bool, true, false, cond, List, [], ◌∷◌, sym, ap, ◌∙◌, subst, inl, inr, eqb}
use Rattle.std.specs.List.{list_any}
use Rattle.std.proofs.lemmas.Bool.{eqb-true, or_cases, and_parts}
use Rattle.tester_types.specs.declared.wave.Table.{Table}
use Rattle.packed_code.specs.Conditions.{has_waves, waves_of, characters_of}
use Rattle.page_code.specs.Accepted.{GoTogether}
use Rattle.text_bytes.proofs.ListLemmas.{all_append}

-- whether a pair is that of this table and this row
abbrev is_pair : ℕ → ℕ → ℕ × ℕ → Bool
is_pair table row pair = eqb table pair.0 && eqb row pair.1

-- a pair among those that go together does
pub fits_among : (tables : List Table) (rows : List (List ℕ)) (pairs : List (ℕ × ℕ)) (table row : ℕ)
    → GoTogether tables rows pairs
    → list_any (is_pair table row) pairs ≡ true
    → has_waves (waves_of tables table) 0 (characters_of rows row) ≡ true
fits_among tables rows [] table row all known = absurd cc
fits_among tables rows (pair ∷ pairs) table row all known =
    elim (or_cases (is_pair table row pair) (list_any (is_pair table row) pairs) known) [
      | inl here ↦
          let both = and_parts (eqb table pair.0) (eqb row pair.1) here in
          ap (λ (t : ℕ). has_waves (waves_of tables t) 0 (characters_of rows row)) (eqb-true table pair.0 both.0)
          ∙ ap (λ (r : ℕ). has_waves (waves_of tables pair.0) 0 (characters_of rows r)) (eqb-true row pair.1 both.1)
          ∙ all.0
      | inr later ↦ fits_among tables rows pairs table row all.1 later
    ]

-- one more pair goes together, unless it was there
pub one_more_fits : (tables : List Table) (rows : List (List ℕ)) (pairs new : List (ℕ × ℕ)) (table row : ℕ) (known : Bool)
    → new ≡ cond known pairs (pairs ++ (table, row) ∷ [])
    → has_waves (waves_of tables table) 0 (characters_of rows row) ≡ true
    → GoTogether tables rows pairs → GoTogether tables rows new
one_more_fits tables rows pairs new table row true is fits h = subst (GoTogether tables rows) (sym is) h
one_more_fits tables rows pairs new table row false is fits h =
    subst (GoTogether tables rows) (sym is)
    (all_append (λ (pair : ℕ × ℕ). has_waves (waves_of tables pair.0) 0 (characters_of rows pair.1) ≡ true)
    pairs ((table, row) ∷ []) h (fits, tt))
