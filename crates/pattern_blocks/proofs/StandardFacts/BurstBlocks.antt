-- Known bursts.
use Rattle.std.proofs.Common.{◌≡◌, [], ◌∷◌, ◌++◌, Some, Ok, Err, refl}
use Rattle.std.specs.Prelude.{codes}
use Rattle.text_bytes.specs.Bytes.{is_digit, begins_name, is_printable}
use Rattle.stil_tree.specs.Trees.{Entry, end, plain, block}
use Rattle.stil_form.specs.declared.fault.FormFault.TheVariants.{Refused}
use Rattle.stil_form.specs.declared.fault.FormKind.TheVariants.{Shape, LeftOut, Twice}
use Rattle.stil_form.specs.Setting.{Setting}
use Rattle.block_forms.proofs.StandardFacts.Signs.{word, name, mark}
use Rattle.block_forms.proofs.StandardFacts.Lines.{on}
use Rattle.stil_ast.specs.declared.executive.BurstItem.{BurstItem}
use Rattle.stil_ast.specs.declared.executive.BurstWord.{BurstWord}
use Rattle.stil_ast.specs.declared.executive.BurstWord.TheVariants as word_of
use Rattle.std.proofs.Common.{ℕ, List}
use Rattle.pattern_blocks.specs.Bursts.{burst_block}

-- a name on a line
abbrev item : BurstWord → List ℕ → ℕ → BurstItem
item kind called line = record { word = kind; name = called; line = line }

-- `PatternBurst m { MacroDefs ""; PatList { a; note x; b { note y; } } SignalGroups g; PatList { c; } }`
abbrev main_text : Setting
main_text = record {
  bytes = codes "PatternBurst m { MacroDefs \"\"; PatList { a; note x;|"
      ++ codes "b { note y; } } SignalGroups g; PatList { c; } }";
  tokens =
      word 0 12 ∷ word 13 14 ∷ mark 123 15 ∷ word 17 26 ∷ name 27 29 ∷ mark 59 29 ∷ word 31 38 ∷
      mark 123 39 ∷ word 41 42 ∷ mark 59 42 ∷ word 44 48 ∷ word 49 50 ∷ mark 59 50 ∷ on 2 (word 52 53) ∷
      on 2 (mark 123 54) ∷ on 2 (word 56 60) ∷ on 2 (word 61 62) ∷ on 2 (mark 59 62) ∷ on 2 (mark 125 64) ∷
      on 2 (mark 125 66) ∷ on 2 (word 68 80) ∷ on 2 (word 81 82) ∷ on 2 (mark 59 82) ∷ on 2 (word 84 91) ∷
      on 2 (mark 123 92) ∷ on 2 (word 94 95) ∷ on 2 (mark 59 95) ∷ on 2 (mark 125 97) ∷ on 2 (mark 125 99) ∷ [];
  words = codes "note" ∷ [];
}

abbrev main : Entry
main = record {
  first = 0;
  count = 2;
  body = Some (plain 3 2 (block 6 1 (plain 8 1 (plain 10 2 (block 13 1 (plain 15 2 end) end)))
      (plain 20 2 (block 23 1 (plain 25 1 end) end))));
}

-- PatLists are read as one in text order
pub main_is : burst_block main_text main ≡ Ok (record {
  name = codes "m";
  items =
      item word_of.MacroDefs [] 1 ∷ item word_of.Entry (codes "a") 1 ∷ item word_of.Entry (codes "b") 2 ∷
      item word_of.SignalGroups (codes "g") 2 ∷ item word_of.Entry (codes "c") 2 ∷ [];
})
unfolding is_digit begins_name is_printable
main_is = refl

-- `PatternBurst b { MacroDefs m; SignalGroups g; MacroDefs m; }`
abbrev macros_twice_text : Setting
macros_twice_text = record {
  bytes = codes "PatternBurst b { MacroDefs m; SignalGroups g; MacroDefs m; }";
  tokens =
      word 0 12 ∷ word 13 14 ∷ mark 123 15 ∷ word 17 26 ∷ word 27 28 ∷ mark 59 28 ∷ word 30 42 ∷
      word 43 44 ∷ mark 59 44 ∷ word 46 55 ∷ word 56 57 ∷ mark 59 57 ∷ mark 125 59 ∷ [];
  words = [];
}

abbrev macros_twice : Entry
macros_twice = record { first = 0; count = 2; body = Some (plain 3 2 (plain 6 2 (plain 9 2 end))) }

-- a second MacroDefs
pub macros_twice_refused : burst_block macros_twice_text macros_twice ≡ Err (Refused Twice 9)
unfolding is_digit begins_name is_printable
macros_twice_refused = refl

-- `PatternBurst b { ScanStructures m; ScanStructures n; }`
abbrev scans_twice_text : Setting
scans_twice_text = record {
  bytes = codes "PatternBurst b { ScanStructures m; ScanStructures n; }";
  tokens =
      word 0 12 ∷ word 13 14 ∷ mark 123 15 ∷ word 17 31 ∷ word 32 33 ∷ mark 59 33 ∷ word 35 49 ∷
      word 50 51 ∷ mark 59 51 ∷ mark 125 53 ∷ [];
  words = [];
}

abbrev scans_twice : Entry
scans_twice = record { first = 0; count = 2; body = Some (plain 3 2 (plain 6 2 end)) }

-- a second ScanStructures
pub scans_twice_refused : burst_block scans_twice_text scans_twice ≡ Err (Refused Twice 6)
unfolding is_digit begins_name is_printable
scans_twice_refused = refl

-- `PatternBurst b { Procedures m; PatList { a; } Procedures ""; }`
abbrev procs_twice_text : Setting
procs_twice_text = record {
  bytes = codes "PatternBurst b { Procedures m; PatList { a; } Procedures \"\"; }";
  tokens =
      word 0 12 ∷ word 13 14 ∷ mark 123 15 ∷ word 17 27 ∷ word 28 29 ∷ mark 59 29 ∷ word 31 38 ∷
      mark 123 39 ∷ word 41 42 ∷ mark 59 42 ∷ mark 125 44 ∷ word 46 56 ∷ name 57 59 ∷ mark 59 59 ∷
      mark 125 61 ∷ [];
  words = [];
}

abbrev procs_twice : Entry
procs_twice = record {
  first = 0;
  count = 2;
  body = Some (plain 3 2 (block 6 1 (plain 8 1 end) (plain 11 2 end)));
}

-- a second Procedures
pub procs_twice_refused : burst_block procs_twice_text procs_twice ≡ Err (Refused Twice 11)
unfolding is_digit begins_name is_printable
procs_twice_refused = refl

-- `PatternBurst b { Start x; }`
abbrev left_out_text : Setting
left_out_text = record {
  bytes = codes "PatternBurst b { Start x; }";
  tokens =
      word 0 12 ∷ word 13 14 ∷ mark 123 15 ∷ word 17 22 ∷ word 23 24 ∷ mark 59 24 ∷ mark 125 26 ∷ [];
  words = [];
}

abbrev left_out : Entry
left_out = record { first = 0; count = 2; body = Some (plain 3 2 end) }

-- another keyword is left out
pub left_out_refused : burst_block left_out_text left_out ≡ Err (Refused LeftOut 3)
unfolding is_digit begins_name is_printable
left_out_refused = refl

-- `PatternBurst b { PatList { a { x; } } }`
abbrev inside_text : Setting
inside_text = record {
  bytes = codes "PatternBurst b { PatList { a { x; } } }";
  tokens =
      word 0 12 ∷ word 13 14 ∷ mark 123 15 ∷ word 17 24 ∷ mark 123 25 ∷ word 27 28 ∷ mark 123 29 ∷
      word 31 32 ∷ mark 59 32 ∷ mark 125 34 ∷ mark 125 36 ∷ mark 125 38 ∷ [];
  words = [];
}

abbrev inside : Entry
inside = record { first = 0; count = 2; body = Some (block 3 1 (block 5 1 (plain 7 1 end) end) end) }

-- a statement in the block of an entry is left out
pub inside_refused : burst_block inside_text inside ≡ Err (Refused LeftOut 7)
unfolding is_digit begins_name is_printable
inside_refused = refl

-- `PatternBurst b { PatList { ""; } }`
abbrev no_entry_text : Setting
no_entry_text = record {
  bytes = codes "PatternBurst b { PatList { \"\"; } }";
  tokens =
      word 0 12 ∷ word 13 14 ∷ mark 123 15 ∷ word 17 24 ∷ mark 123 25 ∷ name 27 29 ∷ mark 59 29 ∷
      mark 125 31 ∷ mark 125 33 ∷ [];
  words = [];
}

abbrev no_entry : Entry
no_entry = record { first = 0; count = 2; body = Some (block 3 1 (plain 5 1 end) end) }

-- an entry has a name
pub no_entry_refused : burst_block no_entry_text no_entry ≡ Err (Refused Shape 5)
unfolding is_digit begins_name is_printable
no_entry_refused = refl

-- `PatternBurst b { PatList p { a; } }`
abbrev titled_text : Setting
titled_text = record {
  bytes = codes "PatternBurst b { PatList p { a; } }";
  tokens =
      word 0 12 ∷ word 13 14 ∷ mark 123 15 ∷ word 17 24 ∷ word 25 26 ∷ mark 123 27 ∷ word 29 30 ∷
      mark 59 30 ∷ mark 125 32 ∷ mark 125 34 ∷ [];
  words = [];
}

abbrev titled : Entry
titled = record { first = 0; count = 2; body = Some (block 3 2 (plain 6 1 end) end) }

-- a PatList has no name
pub titled_refused : burst_block titled_text titled ≡ Err (Refused Shape 3)
unfolding is_digit begins_name is_printable
titled_refused = refl

-- `PatternBurst b { MacroDefs m { } }`
abbrev blocked_text : Setting
blocked_text = record {
  bytes = codes "PatternBurst b { MacroDefs m { } }";
  tokens =
      word 0 12 ∷ word 13 14 ∷ mark 123 15 ∷ word 17 26 ∷ word 27 28 ∷ mark 123 29 ∷ mark 125 31 ∷
      mark 125 33 ∷ [];
  words = [];
}

abbrev blocked : Entry
blocked = record { first = 0; count = 2; body = Some (block 3 2 end end) }

-- a name has no block
pub blocked_refused : burst_block blocked_text blocked ≡ Err (Refused Shape 3)
unfolding is_digit begins_name is_printable
blocked_refused = refl

-- `PatternBurst { }`
abbrev no_name_text : Setting
no_name_text = record {
  bytes = codes "PatternBurst { }";
  tokens =
      word 0 12 ∷ mark 123 13 ∷ mark 125 15 ∷ [];
  words = [];
}

abbrev no_name : Entry
no_name = record { first = 0; count = 1; body = Some end }

-- a burst has a name
pub no_name_refused : burst_block no_name_text no_name ≡ Err (Refused Shape 0)
unfolding is_digit begins_name is_printable
no_name_refused = refl
