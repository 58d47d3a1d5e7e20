-- The first fault of signals and groups (IEEE 1450-1999, clauses 14 and 15).
use Rattle.std.specs.Prelude.{ℕ, zero, suc, Bool, false, ◌||◌, List, [], ◌∷◌, ◌++◌, Option, Some, None, length, nat_le, nat_lt, filter_map}
use Rattle.std.specs.List.{list_any}
use Rattle.text_bytes.specs.Limits.{longest_name, most_signals, most_groups}
use Rattle.stil_ast.specs.Data.Texts.{same}
use Rattle.stil_ast.specs.Faults.Found.{fault_at, unless, refuse_if, or_else, first_in}
use Rattle.stil_ast.specs.Meaning.Signals.{Signal, Group, Names, names_of}
use Rattle.stil_ast.specs.Meaning.GroupText.{Term}
use Rattle.stil_ast.specs.Meaning.GroupReading.{terms_of}
use Rattle.stil_ast.specs.Meaning.Members.{signal_of, group_of, text_kind}
use Rattle.stil_ast.specs.Data.Places.{Place}
use Rattle.stil_ast.specs.declared.name.IndexRange.{IndexRange}
use Rattle.stil_ast.specs.declared.blocks.Blocks.{Blocks}
use Rattle.stil_ast.specs.declared.fault.StilFault.{StilFault}
use Rattle.stil_ast.specs.declared.fault.StilKind.{StilKind}
use Rattle.stil_ast.specs.declared.fault.StilKind.TheVariants.{Twice, OutOfRange, Cyclic}

-- signals one by one, behind those before: twice; too long a text, or too many signals
abbrev pub signals_fault : List Signal → List Signal → Option StilFault
signals_fault before [] = None
signals_fault before (s ∷ signals) =
    refuse_if (list_any (λ b. same b.text s.text) before) (fault_at s.place Twice)
    (unless (nat_le (length s.text) longest_name) (fault_at s.place OutOfRange)
    (unless (nat_lt (length before) most_signals) (fault_at s.place OutOfRange)
    (signals_fault (before ++ s ∷ []) signals)))

-- groups one by one: twice; too many of them
abbrev pub groups_fault : List Group → List Group → Option StilFault
groups_fault before [] = None
groups_fault before (g ∷ groups) =
    refuse_if (list_any (λ b. same b.name g.name) before) (fault_at g.place Twice)
    (unless (nat_lt (length before) most_groups) (fault_at g.place OutOfRange)
    (groups_fault (before ++ g ∷ []) groups))

-- the group for which a name stands, where it stands for no signal
abbrev pub group_unless : Option ℕ → Option Group → Option IndexRange → Option Group
group_unless None g None = g
group_unless _ _ _ = None

-- the group that an item needs
abbrev pub group_named : Names → Term → Option Group
group_named names t = group_unless (signal_of names t.item.name) (group_of names t.item.name) t.item.range

-- the groups that items need
abbrev pub groups_in : Names → Option (List Term) → List Group
groups_in names None = []
groups_in names (Some terms) = filter_map (group_named names) terms

-- whether a text needs a group, within so many steps; what is removed is needed too
abbrev pub needs : Names → ℕ → List ℕ → List ℕ → Bool
needs names zero text name = false
needs names (suc steps) text name =
    list_any (λ g. same g.name name || needs names steps g.text name) (groups_in names (terms_of text))

-- a fault of a kind that may be there
abbrev pub kind_fault : Place → Option StilKind → Option StilFault
kind_fault p None = None
kind_fault p (Some kind) = Some (fault_at p kind)

-- the faults of a group's own text, and then that it needs itself
abbrev pub group_fault : Names → Group → Option StilFault
group_fault names g =
    or_else (kind_fault g.text_place (text_kind names g.text))
    (refuse_if (needs names (length names.groups) g.text g.name) (fault_at g.text_place Cyclic) None)

-- the first fault of the fourth pass: signals; groups; then the texts of groups
abbrev pub names_fault : Names → Option StilFault
names_fault names =
    or_else (signals_fault [] names.signals)
    (or_else (groups_fault [] names.groups) (first_in (group_fault names) names.groups))

-- the same of a text
abbrev pub fourth_fault : Blocks → Option StilFault
fourth_fault blocks = names_fault (names_of blocks)
