-- What a table answers, by look-ups alone.
use Rattle.std.specs.Prelude.{◌≡◌, Result, Ok, Err, ℕ, ◌+◌, ◌-◌, nat_lt, Bool, not, ◌||◌, List, [], ◌∷◌, Option, Some, None, length, map, filter, filter_map, position, is_some, slice_index_or, if◌then◌else◌}
use Rattle.std.specs.List.{list_all, list_any, enumerate_from}
use Rattle.stil_ast.specs.Data.Texts.{same, indices, indexed}
use Rattle.stil_ast.specs.Meaning.GroupText.{Term}
use Rattle.stil_ast.specs.Meaning.GroupReading.{terms_of}
use Rattle.stil_ast.specs.Meaning.Members.{is_based_on, combined_text}
use Rattle.stil_ast.specs.declared.name.IndexRange.{IndexRange}
use Rattle.stil_ast.specs.declared.name.NameRef.{NameRef}
use Rattle.stil_ast.specs.declared.name.SigRef.{SigRef}
use Rattle.stil_ast.specs.declared.name.SigRef.TheVariants.{Name, Group as GroupRef}
use Rattle.stil_ast.specs.declared.fault.StilKind.{StilKind}
use Rattle.stil_ast.specs.declared.fault.StilKind.TheVariants.{Shape, UnknownName}
use Rattle.signal_groups.specs.declared.fault.RefFault.{RefFault}
use Rattle.signal_groups.specs.declared.fault.RefFault.TheVariants as fault
use Rattle.signal_groups.specs.Table.{Table}

-- the number of the text that is this name
abbrev pub number_in : List (List ℕ) → List ℕ → Option ℕ
number_in texts name = position (λ t. same t name) texts

-- whether no group has the name of a signal
abbrev pub are_apart : List (List ℕ) → List (List ℕ) → Bool
are_apart signals groups = list_all (λ g. not (is_some (number_in signals g))) groups

-- where a name without indices stands, behind so many signals: a signal comes first, then a group
abbrev pub place_from : ℕ → Option ℕ → Option ℕ → Option ℕ
place_from count (Some signal) group = Some signal
place_from count None (Some group) = Some (count + group)
place_from count None None = None

-- the same: a signal stands at its number, and a group behind the signals
abbrev pub place_in : Table → List ℕ → Option ℕ
place_in table name =
    place_from (length table.texts) (number_in table.texts name) (number_in table.groups name)

-- the signals at a place
abbrev pub signals_at : Table → ℕ → List ℕ
signals_at table place =
    if nat_lt place (length table.texts) then place ∷ []
    else slice_index_or table.members (place - length table.texts) []

-- the signals that were declared with brackets under this name
abbrev pub based_in : List (Option (List ℕ)) → List ℕ → List ℕ
based_in bases name = map (λ s. s.0) (filter (λ s. is_based_on name s.1) (enumerate_from 0 bases))

-- the signals of an item without indices: a signal comes first, then a group, then all signals declared under the name
abbrev pub plain_in : Table → List ℕ → Option ℕ → Option ℕ → List ℕ
plain_in table name (Some signal) group = signal ∷ []
plain_in table name None (Some group) = slice_index_or table.members group []
plain_in table name None None = based_in table.bases name

-- the signals of an item
abbrev pub ranged_in : Table → List ℕ → Option IndexRange → List ℕ
ranged_in table name None = plain_in table name (number_in table.texts name) (number_in table.groups name)
ranged_in table name (Some range) = filter_map (λ i. number_in table.texts (indexed name i)) (indices range)

-- the same
abbrev pub item_in : Table → NameRef → List ℕ
item_in table r = ranged_in table r.name r.range

-- whether an item names something
abbrev pub known_with : Table → List ℕ → Option IndexRange → Bool
known_with table name None =
    is_some (number_in table.texts name) || is_some (number_in table.groups name)
    || list_any (is_based_on name) table.bases
known_with table name (Some range) =
    list_all (λ i. is_some (number_in table.texts (indexed name i))) (indices range)

-- the same
abbrev pub known_in : Table → NameRef → Bool
known_in table r = known_with table r.name r.range

-- a name without indices, as a reference
abbrev pub plain_ref : List ℕ → SigRef
plain_ref name = Name (record { name = name; range = None })

-- the fault of items, if they have one
abbrev pub terms_kind : Table → Option (List Term) → Option StilKind
terms_kind table None = Some Shape
terms_kind table (Some terms) = if list_all (λ t. known_in table t.item) terms then None else Some UnknownName

-- the fault of a reference, if it has one
abbrev pub kind_in : Table → SigRef → Option StilKind
kind_in table (Name r) = if known_in table r then None else Some UnknownName
kind_in table (GroupRef q) = terms_kind table (terms_of q.text)

-- the signals of a reference
abbrev pub signals_in : Table → SigRef → List ℕ
signals_in table (Name r) = item_in table r
signals_in table (GroupRef q) = combined_text (item_in table) (terms_of q.text)

-- a fault by which a reference with this kind of fault, if any, may be refused
abbrev pub Refuses : Option StilKind → RefFault → Type 0
Refuses kind fault.NoMemory = Unit {0}
Refuses kind fault.Shape = kind ≡ Some Shape
Refuses kind fault.UnknownName = kind ≡ Some UnknownName

-- what is answered of a reference with this kind of fault, if any, and these signals
abbrev pub Resolves : Option StilKind → List ℕ → Result (List ℕ) RefFault → Type 0
Resolves kind signals (Ok found) = (kind ≡ None) × (found ≡ signals)
Resolves kind signals (Err fault) = Refuses kind fault
