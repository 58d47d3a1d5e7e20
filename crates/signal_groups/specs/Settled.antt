-- What is known while groups are given their signals.
use Rattle.std.specs.Prelude.{◌≡◌, ℕ, Bool, List, [], None, Result, map}
use Rattle.stil_ast.specs.Faults.SignalFaults.{groups_fault, group_fault}
use Rattle.stil_ast.specs.Faults.Found.{first_in}
use Rattle.stil_ast.specs.Data.Refusal.{StilRefusal}
use Rattle.answers.specs.Answers.{Finds}
use Rattle.stil_ast.specs.Meaning.GroupReading.{terms_of}
use Rattle.stil_ast.specs.Meaning.Members.{combined_text}
use Rattle.stil_ast.specs.Meaning.Signals.{Signal, Group, Names}
use Rattle.signal_groups.specs.Table.{Table, table_of, with_members}
use Rattle.signal_groups.specs.Lookup.{item_in}
use Rattle.signal_groups.specs.Graph.{needed_in, AreSettled}

-- the signals of a text by what is known so far
abbrev pub text_signals : Table → List ℕ → List ℕ
text_signals table text = combined_text (item_in table) (terms_of text)

-- a table knows the signals of these names and the names of their groups, and a graph what the groups need
pub record IsNamed (names : Names) (groups : List Group) (graph : List (List ℕ)) (table : Table) : Type 0 where
  pub groups_are : groups ≡ names.groups
  pub texts : table.texts ≡ map (λ (s : Signal). s.text) names.signals
  pub bases : table.bases ≡ map (λ (s : Signal). s.base) names.signals
  pub directions : table.directions ≡ map (λ (s : Signal). s.direction) names.signals
  pub called : table.groups ≡ map (λ (g : Group). g.name) names.groups
  pub graph_is : graph ≡ map (λ (g : Group). needed_in (map (λ (s : Signal). s.text) names.signals)
      (map (λ (g : Group). g.name) names.groups) (terms_of g.text)) names.groups
  pub differ : groups_fault [] names.groups ≡ None

-- a table with the signals of those groups that are done
pub record WereSettled (names : Names) (graph : List (List ℕ)) (done : List Bool) (before after : Table) : Type 0 where
  pub same : after ≡ with_members before after.members
  pub settled : AreSettled names graph done after.members

-- the same, where none of the names is refused, and of what groups need nothing is known
pub record IsBegun (names : Names) (groups : List Group) (table : Table) : Type 0 where
  pub groups_are : groups ≡ names.groups
  pub texts : table.texts ≡ map (λ (s : Signal). s.text) names.signals
  pub bases : table.bases ≡ map (λ (s : Signal). s.base) names.signals
  pub directions : table.directions ≡ map (λ (s : Signal). s.direction) names.signals
  pub called : table.groups ≡ map (λ (g : Group). g.name) names.groups
  pub differ : groups_fault [] names.groups ≡ None

-- the table of names whose groups have no fault, or the first fault
abbrev pub Completes : Names → Result Table StilRefusal → Type 0
Completes names result = Finds (first_in (group_fault names) names.groups) (λ table. table ≡ table_of names) result
