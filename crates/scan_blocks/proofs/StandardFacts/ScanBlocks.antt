-- Known scan structures.
use Rattle.std.proofs.Common.{◌≡◌, [], ◌∷◌, ◌++◌, Some, None, Ok, Err, refl}
use Rattle.std.specs.Prelude.{codes}
use Rattle.text_bytes.specs.Bytes.{is_digit, begins_name, is_printable}
use Rattle.stil_tree.specs.Trees.{Entry, end, plain, block}
use Rattle.stil_form.specs.declared.fault.FormFault.TheVariants.{Refused}
use Rattle.stil_form.specs.declared.fault.FormKind.TheVariants.{Shape, LeftOut, OutOfRange, Twice}
use Rattle.stil_form.specs.Setting.{Setting}
use Rattle.block_forms.proofs.StandardFacts.Signs.{word, name, mark}
use Rattle.block_forms.proofs.StandardFacts.Lines.{on}
use Rattle.stil_ast.specs.declared.scan.ChainStmt.TheVariants.{Length, In, Out, Cells}
use Rattle.scan_blocks.specs.Chains.{scan_block}

-- `ScanStructures { ScanChain c { ScanLength 4; ScanIn i; X { x; } ScanCells a ! b[0] c[2..1]; ScanInversion 1;
-- ScanOut "o"; } }`
abbrev scan_text : Setting
scan_text = record {
  bytes = codes "ScanStructures { ScanChain c { ScanLength 4; ScanIn i; X { x; }|"
      ++ codes "ScanCells a ! b[0] c[2..1]; ScanInversion 1; ScanOut \"o\"; } }";
  tokens =
      word 0 14 ∷ mark 123 15 ∷ word 17 26 ∷ word 27 28 ∷ mark 123 29 ∷ word 31 41 ∷ word 42 43 ∷
      mark 59 43 ∷ word 45 51 ∷ word 52 53 ∷ mark 59 53 ∷ word 55 56 ∷ mark 123 57 ∷ word 59 60 ∷
      mark 59 60 ∷ mark 125 62 ∷ on 2 (word 64 73) ∷ on 2 (word 74 75) ∷ on 2 (mark 33 76) ∷
      on 2 (word 78 79) ∷ on 2 (mark 91 79) ∷ on 2 (word 80 81) ∷ on 2 (mark 93 81) ∷ on 2 (word 83 84) ∷
      on 2 (mark 91 84) ∷ on 2 (word 85 86) ∷ on 2 (mark 46 86) ∷ on 2 (mark 46 87) ∷ on 2 (word 88 89) ∷
      on 2 (mark 93 89) ∷ on 2 (mark 59 90) ∷ on 2 (word 92 105) ∷ on 2 (word 106 107) ∷
      on 2 (mark 59 107) ∷ on 2 (word 109 116) ∷ on 2 (name 117 120) ∷ on 2 (mark 59 120) ∷
      on 2 (mark 125 122) ∷ on 2 (mark 125 124) ∷ [];
  words = [];
}

abbrev scan : Entry
scan = record {
  first = 0;
  count = 1;
  body = Some (block 2 2 (plain 5 2 (plain 8 2 (block 11 1 (plain 13 1 end) (plain 16 14 (plain 31 2
      (plain 34 2 end)))))) end);
}

-- a `!` is skipped, and a name with indices is one cell for each; a statement of another keyword is skipped
pub scan_is : scan_block scan_text [] scan ≡ Ok (record {
  name = [];
  chains =
      record {
        name = codes "c";
        stmts =
            Length 4 ∷ In (record { name = codes "i"; line = 1 }) ∷
            Cells (record {
              cells =
                  record { name = codes "a"; range = None } ∷
                  record { name = codes "b"; range = Some (record { first = 0; last = 0 }) } ∷
                  record { name = codes "c"; range = Some (record { first = 2; last = 1 }) } ∷ [];
              line = 2;
            }) ∷
            Out (record { name = codes "o"; line = 2 }) ∷ [];
        line = 1;
      } ∷ [];
})
unfolding is_digit begins_name is_printable
scan_is = refl

-- `ScanStructures { ScanChain c { ScanLength 4; ScanLength 4; } }`
abbrev length_twice_text : Setting
length_twice_text = record {
  bytes = codes "ScanStructures { ScanChain c { ScanLength 4; ScanLength 4; } }";
  tokens =
      word 0 14 ∷ mark 123 15 ∷ word 17 26 ∷ word 27 28 ∷ mark 123 29 ∷ word 31 41 ∷ word 42 43 ∷
      mark 59 43 ∷ word 45 55 ∷ word 56 57 ∷ mark 59 57 ∷ mark 125 59 ∷ mark 125 61 ∷ [];
  words = [];
}

abbrev length_twice : Entry
length_twice = record { first = 0; count = 1; body = Some (block 2 2 (plain 5 2 (plain 8 2 end)) end) }

-- a second ScanLength
pub length_twice_refused : scan_block length_twice_text ([]) length_twice ≡ Err (Refused Twice 8)
unfolding is_digit begins_name is_printable
length_twice_refused = refl

-- `ScanStructures { ScanChain c { ScanInversion 0; ScanInversion 1; } }`
abbrev inverted_twice_text : Setting
inverted_twice_text = record {
  bytes = codes "ScanStructures { ScanChain c { ScanInversion 0; ScanInversion 1; } }";
  tokens =
      word 0 14 ∷ mark 123 15 ∷ word 17 26 ∷ word 27 28 ∷ mark 123 29 ∷ word 31 44 ∷ word 45 46 ∷
      mark 59 46 ∷ word 48 61 ∷ word 62 63 ∷ mark 59 63 ∷ mark 125 65 ∷ mark 125 67 ∷ [];
  words = [];
}

abbrev inverted_twice : Entry
inverted_twice = record { first = 0; count = 1; body = Some (block 2 2 (plain 5 2 (plain 8 2 end)) end) }

-- a second ScanInversion
pub inverted_twice_refused : scan_block inverted_twice_text ([]) inverted_twice ≡ Err (Refused Twice 8)
unfolding is_digit begins_name is_printable
inverted_twice_refused = refl

-- `ScanStructures { ScanChain c { ScanLength 1048577; } }`
abbrev too_long_text : Setting
too_long_text = record {
  bytes = codes "ScanStructures { ScanChain c { ScanLength 1048577; } }";
  tokens =
      word 0 14 ∷ mark 123 15 ∷ word 17 26 ∷ word 27 28 ∷ mark 123 29 ∷ word 31 41 ∷ word 42 49 ∷
      mark 59 49 ∷ mark 125 51 ∷ mark 125 53 ∷ [];
  words = [];
}

abbrev too_long : Entry
too_long = record { first = 0; count = 1; body = Some (block 2 2 (plain 5 2 end) end) }

-- a length over 2^20
pub too_long_refused : scan_block too_long_text ([]) too_long ≡ Err (Refused OutOfRange 5)
unfolding is_digit begins_name is_printable
too_long_refused = refl

-- `ScanStructures { ScanChain c { ScanLength x; } }`
abbrev no_length_text : Setting
no_length_text = record {
  bytes = codes "ScanStructures { ScanChain c { ScanLength x; } }";
  tokens =
      word 0 14 ∷ mark 123 15 ∷ word 17 26 ∷ word 27 28 ∷ mark 123 29 ∷ word 31 41 ∷ word 42 43 ∷
      mark 59 43 ∷ mark 125 45 ∷ mark 125 47 ∷ [];
  words = [];
}

abbrev no_length : Entry
no_length = record { first = 0; count = 1; body = Some (block 2 2 (plain 5 2 end) end) }

-- a length is a number
pub no_length_refused : scan_block no_length_text ([]) no_length ≡ Err (Refused Shape 5)
unfolding is_digit begins_name is_printable
no_length_refused = refl

-- `ScanStructures { ScanChain c { ScanIn a { } } }`
abbrev blocked_text : Setting
blocked_text = record {
  bytes = codes "ScanStructures { ScanChain c { ScanIn a { } } }";
  tokens =
      word 0 14 ∷ mark 123 15 ∷ word 17 26 ∷ word 27 28 ∷ mark 123 29 ∷ word 31 37 ∷ word 38 39 ∷
      mark 123 40 ∷ mark 125 42 ∷ mark 125 44 ∷ mark 125 46 ∷ [];
  words = [];
}

abbrev blocked : Entry
blocked = record { first = 0; count = 1; body = Some (block 2 2 (block 5 2 end end) end) }

-- a ScanIn has no block
pub blocked_refused : scan_block blocked_text ([]) blocked ≡ Err (Refused Shape 5)
unfolding is_digit begins_name is_printable
blocked_refused = refl

-- `ScanStructures { ScanChain c { ScanCells; } }`
abbrev no_cells_text : Setting
no_cells_text = record {
  bytes = codes "ScanStructures { ScanChain c { ScanCells; } }";
  tokens =
      word 0 14 ∷ mark 123 15 ∷ word 17 26 ∷ word 27 28 ∷ mark 123 29 ∷ word 31 40 ∷ mark 59 40 ∷
      mark 125 42 ∷ mark 125 44 ∷ [];
  words = [];
}

abbrev no_cells : Entry
no_cells = record { first = 0; count = 1; body = Some (block 2 2 (plain 5 1 end) end) }

-- there is a cell at least
pub no_cells_refused : scan_block no_cells_text ([]) no_cells ≡ Err (Refused Shape 5)
unfolding is_digit begins_name is_printable
no_cells_refused = refl

-- `ScanStructures { ScanChain c { ScanCells a[1..1048576] b; } }`
abbrev too_many_text : Setting
too_many_text = record {
  bytes = codes "ScanStructures { ScanChain c { ScanCells a[1..1048576] b; } }";
  tokens =
      word 0 14 ∷ mark 123 15 ∷ word 17 26 ∷ word 27 28 ∷ mark 123 29 ∷ word 31 40 ∷ word 41 42 ∷
      mark 91 42 ∷ word 43 44 ∷ mark 46 44 ∷ mark 46 45 ∷ word 46 53 ∷ mark 93 53 ∷ word 55 56 ∷
      mark 59 56 ∷ mark 125 58 ∷ mark 125 60 ∷ [];
  words = [];
}

abbrev too_many : Entry
too_many = record { first = 0; count = 1; body = Some (block 2 2 (plain 5 9 end) end) }

-- more than 2^20 cells
pub too_many_refused : scan_block too_many_text ([]) too_many ≡ Err (Refused OutOfRange 5)
unfolding is_digit begins_name is_printable
too_many_refused = refl

-- `ScanStructures { ScanChain c { ScanCells a[4294967296]; } }`
abbrev beyond_text : Setting
beyond_text = record {
  bytes = codes "ScanStructures { ScanChain c { ScanCells a[4294967296]; } }";
  tokens =
      word 0 14 ∷ mark 123 15 ∷ word 17 26 ∷ word 27 28 ∷ mark 123 29 ∷ word 31 40 ∷ word 41 42 ∷
      mark 91 42 ∷ word 43 53 ∷ mark 93 53 ∷ mark 59 54 ∷ mark 125 56 ∷ mark 125 58 ∷ [];
  words = [];
}

abbrev beyond : Entry
beyond = record { first = 0; count = 1; body = Some (block 2 2 (plain 5 5 end) end) }

-- an index over 2^32 - 1
pub beyond_refused : scan_block beyond_text ([]) beyond ≡ Err (Refused OutOfRange 5)
unfolding is_digit begins_name is_printable
beyond_refused = refl

-- `ScanStructures { ScanChain c { ScanCells a[4294967296] b[; } }`
abbrev form_first_text : Setting
form_first_text = record {
  bytes = codes "ScanStructures { ScanChain c { ScanCells a[4294967296] b[; } }";
  tokens =
      word 0 14 ∷ mark 123 15 ∷ word 17 26 ∷ word 27 28 ∷ mark 123 29 ∷ word 31 40 ∷ word 41 42 ∷
      mark 91 42 ∷ word 43 53 ∷ mark 93 53 ∷ word 55 56 ∷ mark 91 56 ∷ mark 59 57 ∷ mark 125 59 ∷
      mark 125 61 ∷ [];
  words = [];
}

abbrev form_first : Entry
form_first = record { first = 0; count = 1; body = Some (block 2 2 (plain 5 7 end) end) }

-- an open index has no form, also behind one that is too large
pub form_first_refused : scan_block form_first_text ([]) form_first ≡ Err (Refused Shape 5)
unfolding is_digit begins_name is_printable
form_first_refused = refl

-- `ScanStructures { Chain c { } }`
abbrev left_out_text : Setting
left_out_text = record {
  bytes = codes "ScanStructures { Chain c { } }";
  tokens =
      word 0 14 ∷ mark 123 15 ∷ word 17 22 ∷ word 23 24 ∷ mark 123 25 ∷ mark 125 27 ∷ mark 125 29 ∷ [];
  words = [];
}

abbrev left_out : Entry
left_out = record { first = 0; count = 1; body = Some (block 2 2 end end) }

-- another keyword is left out
pub left_out_refused : scan_block left_out_text ([]) left_out ≡ Err (Refused LeftOut 2)
unfolding is_digit begins_name is_printable
left_out_refused = refl

-- `ScanStructures { ScanChain { } }`
abbrev no_name_text : Setting
no_name_text = record {
  bytes = codes "ScanStructures { ScanChain { } }";
  tokens =
      word 0 14 ∷ mark 123 15 ∷ word 17 26 ∷ mark 123 27 ∷ mark 125 29 ∷ mark 125 31 ∷ [];
  words = [];
}

abbrev no_name : Entry
no_name = record { first = 0; count = 1; body = Some (block 2 1 end end) }

-- a chain has a name
pub no_name_refused : scan_block no_name_text ([]) no_name ≡ Err (Refused Shape 2)
unfolding is_digit begins_name is_printable
no_name_refused = refl

-- `ScanStructures { ScanChain c; }`
abbrev no_chain_text : Setting
no_chain_text = record {
  bytes = codes "ScanStructures { ScanChain c; }";
  tokens =
      word 0 14 ∷ mark 123 15 ∷ word 17 26 ∷ word 27 28 ∷ mark 59 28 ∷ mark 125 30 ∷ [];
  words = [];
}

abbrev no_chain : Entry
no_chain = record { first = 0; count = 1; body = Some (plain 2 2 end) }

-- a chain has a block
pub no_chain_refused : scan_block no_chain_text ([]) no_chain ≡ Err (Refused Shape 2)
unfolding is_digit begins_name is_printable
no_chain_refused = refl
