-- Known names, with what their table is.
use Rattle.std.proofs.Common.{◌≡◌, ℕ, List, [], ◌∷◌, Option, Some, None, refl, codes}
use Rattle.std.specs.Fmt.{digits}
use Rattle.text_bytes.specs.Bytes.{begins_name, is_blank, is_printable, is_word}
use Rattle.stil_ast.specs.Meaning.Signals.{Signal, Group, Names, signals_place, groups_place}
use Rattle.stil_ast.specs.declared.name.SigRef.TheVariants as refs
use Rattle.tester_types.specs.declared.signal.Direction.TheVariants.{In}
use Rattle.signal_groups.specs.Table.{table_of}
use Rattle.signal_groups.specs.Lookup.{signals_in}

abbrev signal : List ℕ → Option (List ℕ) → Signal
signal text base = record { text = text; base = base; direction = In; place = signals_place 1 }

abbrev group : List ℕ → List ℕ → Group
group name text = record { name = name; text = text; place = groups_place [] 2; text_place = groups_place [] 2 }

-- signals a, b and bus[0]; groups named like a signal and like a base, and one that names another
abbrev known : Names
known = record {
  signals = signal (codes "a") None ∷ signal (codes "b") None ∷ signal (codes "bus[0]") (Some (codes "bus")) ∷ [];
  groups = group (codes "g") (codes "bus + b") ∷ group (codes "a") (codes "b") ∷ group (codes "bus") (codes "a + b + a - b") ∷ [];
}

-- a member stays at its first place, and what is removed may be added again
pub members_of_groups : (table_of known).members ≡ (0 ∷ 1 ∷ []) ∷ (1 ∷ []) ∷ (0 ∷ []) ∷ []
unfolding begins_name is_blank is_printable is_word
members_of_groups = refl

-- a signal comes before a group of its name, and a group before a base of its name
pub a_signal_first : signals_in (table_of known) (refs.Name (record { name = codes "a"; range = None })) ≡ 0 ∷ []
a_signal_first = refl

pub a_group_first : signals_in (table_of known) (refs.Name (record { name = codes "bus"; range = None })) ≡ 0 ∷ []
unfolding begins_name is_blank is_printable is_word
a_group_first = refl

-- indices name signals, as their whole texts do
pub by_index : signals_in (table_of known) (refs.Name (record { name = codes "bus"; range = Some (record { first = 0; last = 0 }) }))
    ≡ 2 ∷ []
unfolding digits
by_index = refl

pub by_text : signals_in (table_of known) (refs.Group (record { text = codes "\"bus[0]\""; line = 1 })) ≡ 2 ∷ []
unfolding is_printable is_word
by_text = refl
