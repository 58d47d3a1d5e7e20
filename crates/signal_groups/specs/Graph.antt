-- The groups that groups need, by their numbers.
use Rattle.std.specs.Prelude.{◌∷◌, ◌+◌, ◌≡◌, ◌<◌, ◌≤◌, ℕ, zero, suc, Bool, true, false, ◌==◌, ◌||◌, List, [], Option, Some, None, length, map, slice_index, slice_index_or, count_by, All}
use Rattle.std.specs.List.{list_any, filter_map}
use Rattle.stil_ast.specs.Meaning.GroupText.{Term}
use Rattle.stil_ast.specs.Meaning.Members.{text_members}
use Rattle.stil_ast.specs.Meaning.Signals.{Names, Group}
use Rattle.stil_ast.specs.Faults.Found.{or_else}
use Rattle.stil_ast.specs.Faults.SignalFaults.{kind_fault}
use Rattle.stil_ast.specs.declared.fault.StilFault.{StilFault}
use Rattle.stil_ast.specs.declared.fault.StilKind.{StilKind}
use Rattle.stil_ast.specs.declared.fault.StilKind.TheVariants.{Cyclic}
use Rattle.stil_ast.specs.declared.name.IndexRange.{IndexRange}
use Rattle.signal_groups.specs.Lookup.{number_in}

-- the group of a name that stands for no signal and has no indices
abbrev pub needed_unless : Option ℕ → Option ℕ → Option IndexRange → Option ℕ
needed_unless None group None = group
needed_unless None group (Some range) = None
needed_unless (Some signal) group range = None

-- the group that an item needs
abbrev pub needed_by : List (List ℕ) → List (List ℕ) → Term → Option ℕ
needed_by texts groups t =
    needed_unless (number_in texts t.item.name) (number_in groups t.item.name) t.item.range

-- the groups that items need
abbrev pub needed_in : List (List ℕ) → List (List ℕ) → Option (List Term) → List ℕ
needed_in texts groups None = []
needed_in texts groups (Some terms) = filter_map (needed_by texts groups) terms

-- the groups that one group needs
abbrev pub needs_at : List (List ℕ) → ℕ → List ℕ
needs_at graph g = slice_index_or graph g []

-- whether a group is needed by others within so many steps
abbrev pub reaches : List (List ℕ) → ℕ → List ℕ → ℕ → Bool
reaches graph zero from target = false
reaches graph (suc steps) from target =
    list_any (λ h. h == target || reaches graph steps (needs_at graph h) target) from

-- whether each number is that of a group
abbrev pub AreBelow : List (List ℕ) → Type 0
AreBelow graph = All (λ needs. All (λ h. h < length graph) needs) graph

-- whether a group is done
abbrev pub is_done : List Bool → ℕ → Bool
is_done done g = slice_index_or done g false

-- a group that isn't done needs one that isn't
pub record IsStuckAt (graph : List (List ℕ)) (done : List Bool) (g : ℕ) : Type 0 where
  pub place : ℕ
  pub within : place < length (needs_at graph g)
  pub undone : is_done done (slice_index (needs_at graph g) place) ≡ false

-- each group that isn't done does
abbrev pub IsStuck : List (List ℕ) → List Bool → Type 0
IsStuck graph done = (g : ℕ) → g < length graph → is_done done g ≡ false → IsStuckAt graph done g

-- a group that isn't done, while all that it needs are
pub record IsReady (graph : List (List ℕ)) (done : List Bool) (g : ℕ) : Type 0 where
  pub undone : is_done done g ≡ false
  pub needs : All (λ h. is_done done h ≡ true) (needs_at graph g)

-- the groups that are found in a walk, once each: those from which it began, and those that the first of them need
pub record AreFound (graph : List (List ℕ)) (from order : List ℕ) (at : ℕ) : Type 0 where
  pub passed : at ≤ length order
  pub start : All (λ h. list_any (λ m. m == h) order ≡ true) from
  pub closed : (k : ℕ) → k < at
      → All (λ h. list_any (λ m. m == h) order ≡ true) (needs_at graph (slice_index order k))
  pub reached : (k : ℕ) → k < length order → reaches graph (suc k) from (slice_index order k) ≡ true
  pub apart : (i j : ℕ) → i < j → j < length order → slice_index order i ≡ slice_index order j → ⊥
  pub below : All (λ h. h < length graph) order

-- the groups that are needed have their signals, and are needed by none that they need
pub record AreSettled (names : Names) (graph : List (List ℕ)) (done : List Bool) (lists : List (List ℕ)) : Type 0 where
  pub one_each : length done ≡ length graph
  pub lists_each : length lists ≡ length graph
  pub signals : (g depth : ℕ) → g < length graph → is_done done g ≡ true → count_by (λ d. d) done ≤ depth
      → text_members names depth (slice_index_or (map (λ (x : Group). x.text) names.groups) g [])
      ≡ slice_index_or lists g []
  pub closed : (g : ℕ) → g < length graph → is_done done g ≡ true
      → All (λ h. is_done done h ≡ true) (needs_at graph g)
  pub apart : (g steps : ℕ) → g < length graph → is_done done g ≡ true
      → reaches graph steps (needs_at graph g) g ≡ false

-- the fault of a group's text by its number, if it has one
abbrev pub or_cyclic : Option StilKind → Bool → Option StilKind
or_cyclic (Some kind) itself = Some kind
or_cyclic None true = Some Cyclic
or_cyclic None false = None

-- the same
abbrev pub kind_at : List (Option StilKind) → List (List ℕ) → ℕ → Option StilKind
kind_at kinds graph g =
    or_cyclic (slice_index_or kinds g None) (reaches graph (length graph) (needs_at graph g) g)

-- the first fault of groups, of which the first has this number
abbrev pub faults_from : (ℕ → Option StilKind) → ℕ → List Group → Option StilFault
faults_from kind n [] = None
faults_from kind n (g ∷ groups) = or_else (kind_fault g.text_place (kind n)) (faults_from kind (n + 1) groups)
