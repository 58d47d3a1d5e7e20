-- How the code holds what is known of signals and groups.
use Rattle.std.specs.Prelude.{◌≡◌, map}
use Rattle.text_bytes.specs.Texts.{key_texts}
use Rattle.signal_groups.specs.declared.table.Declared.{Declared}
use Rattle.signal_groups.specs.declared.table.SignalTable.TheInside.{Inside}
use Rattle.signal_groups.specs.Table.{Table, IsSound}
use Rattle.signal_groups.specs.Lookup.{are_apart}

-- the table that is held
abbrev pub table_in : Inside → Table
table_in t = record {
  texts = key_texts t.texts.keys;
  bases = map (λ (d : Declared). d.base) t.declared.items;
  directions = map (λ (d : Declared). d.direction) t.declared.items;
  groups = key_texts t.groups.keys;
  members = t.members.items;
}

-- it is within the limits, and knows whether no group has the name of a signal
pub record IsHeld (t : Inside) : Type 0 where
  pub sound : IsSound (table_in t)
  pub apart : t.apart ≡ are_apart (key_texts t.texts.keys) (key_texts t.groups.keys)
