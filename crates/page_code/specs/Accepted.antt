-- Pairs of a table and a row that were found to go together; no public clause cites it.
use Rattle.std.specs.Prelude.{◌≡◌, ℕ, true, List}
use Rattle.std.specs.List.{AllByRecursion}
use Rattle.tester_types.specs.declared.wave.Table.{Table}
use Rattle.packed_code.specs.Conditions.{has_waves, waves_of, characters_of}
use Rattle.page_code.specs.declared.accepted.Accepted.{Accepted}
use Rattle.page_code.specs.Index.{IsIndex}

-- the table of each pair has a wave for each character of its row
abbrev pub GoTogether : List Table → List (List ℕ) → List (ℕ × ℕ) → Type 0
GoTogether tables rows pairs =
    AllByRecursion (λ (pair : ℕ × ℕ). has_waves (waves_of tables pair.0) 0 (characters_of rows pair.1) ≡ true) pairs

-- the pairs that were accepted go together, and the waves are looked up among those of a table
pub record AreAccepted (tables : List Table) (rows : List (List ℕ)) (accepted : Accepted) : Type 0 where
  pub pairs : GoTogether tables rows accepted.pairs.keys
  pub index : IsIndex tables accepted.index
