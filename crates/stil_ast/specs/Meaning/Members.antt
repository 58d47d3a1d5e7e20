-- The signals for which a reference stands (IEEE 1450-1999, clauses 6, 14 and 15). It follows group texts each time.
use Rattle.std.specs.Prelude.{ℕ, zero, suc, Bool, false, not, ◌==◌, ◌||◌, List, [], ◌∷◌, ◌++◌, Option, Some, None, length, map, filter, filter_map, find, position, is_some, if◌then◌else◌}
use Rattle.std.specs.List.{list_all, list_any, enumerate_from}
use Rattle.stil_ast.specs.Data.Texts.{same, indices, indexed}
use Rattle.stil_ast.specs.Meaning.Signals.{Group, Names}
use Rattle.stil_ast.specs.Meaning.GroupText.{Term}
use Rattle.stil_ast.specs.Meaning.GroupReading.{terms_of}
use Rattle.stil_ast.specs.declared.name.IndexRange.{IndexRange}
use Rattle.stil_ast.specs.declared.name.NameRef.{NameRef}
use Rattle.stil_ast.specs.declared.name.SigRef.{SigRef}
use Rattle.stil_ast.specs.declared.name.SigRef.TheVariants.{Name, Group as GroupRef}
use Rattle.stil_ast.specs.declared.fault.StilKind.{StilKind}
use Rattle.stil_ast.specs.declared.fault.StilKind.TheVariants.{Shape, UnknownName}

-- the number of the signal of this text
abbrev pub signal_of : Names → List ℕ → Option ℕ
signal_of names text = position (λ s. same s.text text) names.signals

-- the group of this name
abbrev pub group_of : Names → List ℕ → Option Group
group_of names name = find (λ g. same g.name name) names.groups

-- whether a signal was declared with brackets under this name
abbrev pub is_based_on : List ℕ → Option (List ℕ) → Bool
is_based_on name None = false
is_based_on name (Some base) = same base name

-- the signals that were declared with brackets under this name, in declared order
abbrev pub based_on : Names → List ℕ → List ℕ
based_on names name =
    map (λ s. s.0) (filter (λ s. is_based_on name s.1.base) (enumerate_from 0 names.signals))

-- a member that is there already is not added again
abbrev pub added : List ℕ → List ℕ → List ℕ
added members [] = members
added members (s ∷ more) =
    added (if list_any (λ m. m == s) members then members else members ++ s ∷ []) more

-- members without those that are gone
abbrev pub removed : List ℕ → List ℕ → List ℕ
removed members gone = filter (λ m. not (list_any (λ s. s == m) gone)) members

-- the items of an expression from left to right, `of` giving the signals of an item
abbrev pub combined : (NameRef → List ℕ) → List Term → List ℕ → List ℕ
combined of [] members = members
combined of (t ∷ terms) members =
    combined of terms (if t.adds then added members (of t.item) else removed members (of t.item))

-- the signals of an expression; none where it has no form
abbrev pub combined_text : (NameRef → List ℕ) → Option (List Term) → List ℕ
combined_text of None = []
combined_text of (Some terms) = combined of terms []

-- a signal comes first, then a group, whose text `inner` follows, then all signals declared under the name
abbrev pub plain_members : Option ℕ → Option Group → (List ℕ → List ℕ) → List ℕ → List ℕ
plain_members (Some signal) g inner based = signal ∷ []
plain_members None (Some g) inner based = inner g.text
plain_members None None inner based = based

-- the signals of a name with indices, and of one without
abbrev pub ranged_members : Names → (List ℕ → List ℕ) → List ℕ → Option IndexRange → List ℕ
ranged_members names inner name None =
    plain_members (signal_of names name) (group_of names name) inner (based_on names name)
ranged_members names inner name (Some range) =
    filter_map (λ i. signal_of names (indexed name i)) (indices range)

-- the signals of one item
abbrev pub item_members : Names → (List ℕ → List ℕ) → NameRef → List ℕ
item_members names inner r = ranged_members names inner r.name r.range

-- the signals of a group expression, where groups in groups are followed so deep
abbrev pub text_members : Names → ℕ → List ℕ → List ℕ
text_members names zero text = []
text_members names (suc depth) text =
    combined_text (item_members names (text_members names depth)) (terms_of text)

-- whether an item names something
abbrev pub is_known_with : Names → List ℕ → Option IndexRange → Bool
is_known_with names name None =
    is_some (signal_of names name) || is_some (group_of names name)
    || list_any (λ s. is_based_on name s.base) names.signals
is_known_with names name (Some range) =
    list_all (λ i. is_some (signal_of names (indexed name i))) (indices range)

-- whether an item names something
abbrev pub is_known : Names → NameRef → Bool
is_known names r = is_known_with names r.name r.range

-- the fault of the items of an expression, if they have one
abbrev pub kind_of_terms : Names → Option (List Term) → Option StilKind
kind_of_terms names None = Some Shape
kind_of_terms names (Some terms) =
    if list_all (λ t. is_known names t.item) terms then None else Some UnknownName

-- the fault of a group expression, if it has one
abbrev pub text_kind : Names → List ℕ → Option StilKind
text_kind names text = kind_of_terms names (terms_of text)

-- the fault of a reference, if it has one
abbrev pub reference_kind : Names → SigRef → Option StilKind
reference_kind names (Name r) = if is_known names r then None else Some UnknownName
reference_kind names (GroupRef q) = text_kind names q.text

-- the signals of a reference, whether or not all of it is known. A chain of groups that doesn't come back to itself is
-- no longer than there are groups.
abbrev pub followed : Names → SigRef → List ℕ
followed names (Name r) = item_members names (text_members names (length names.groups)) r
followed names (GroupRef q) = text_members names (suc (length names.groups)) q.text

-- a reference with a fault stands for no signals
abbrev pub none_where : Option StilKind → List ℕ → List ℕ
none_where None signals = signals
none_where (Some kind) signals = []

-- the signals of a reference
abbrev pub members : Names → SigRef → List ℕ
members names r = none_where (reference_kind names r) (followed names r)
