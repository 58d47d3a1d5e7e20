-- What is known of the signals and groups of a text, once the texts of groups have been followed (IEEE 1450-1999,
-- clauses 14 and 15). It answers every reference. A signal and a group are their numbers.
use Rattle.std.specs.Prelude.{ℕ, ◌<◌, ◌≤◌, ◌≡◌, List, Option, length, map, All}
use Rattle.text_bytes.specs.Limits.{most_signals, most_groups}
use Rattle.stil_ast.specs.Meaning.Signals.{Signal, Group, Names}
use Rattle.stil_ast.specs.Meaning.Members.{text_members}
use Rattle.tester_types.specs.declared.signal.Direction.{Direction}

-- signals in declared order, and groups in text order
pub record Table : Type 0 where
  -- of each signal its text, the name under which it was declared with brackets, and its direction
  pub texts : List (List ℕ)
  pub bases : List (Option (List ℕ))
  pub directions : List Direction
  -- of each group its name and its signals
  pub groups : List (List ℕ)
  pub members : List (List ℕ)

-- what is known of these signals and groups
abbrev pub table_of : Names → Table
table_of names = record {
  texts = map (λ (s : Signal). s.text) names.signals;
  bases = map (λ (s : Signal). s.base) names.signals;
  directions = map (λ (s : Signal). s.direction) names.signals;
  groups = map (λ (g : Group). g.name) names.groups;
  members = map (λ (g : Group). text_members names (length names.groups) g.text) names.groups;
}

-- the same with other signals of groups
abbrev pub with_members : Table → List (List ℕ) → Table
with_members table members = record {
  texts = table.texts;
  bases = table.bases;
  directions = table.directions;
  groups = table.groups;
  members = members;
}

-- a table within the limits: each list of signals has one item for each, each member is a signal
pub record IsSound (table : Table) : Type 0 where
  pub few : length table.texts ≤ most_signals
  pub few_groups : length table.groups ≤ most_groups
  pub each_base : length table.bases ≡ length table.texts
  pub each_direction : length table.directions ≡ length table.texts
  pub each_group : length table.members ≡ length table.groups
  pub each_member : All (λ (signals : List ℕ). All (λ s. s < length table.texts) signals) table.members
