-- Known SignalGroups blocks.
use Rattle.std.proofs.Common.{◌≡◌, ℕ, List, [], ◌∷◌, Some, None, Ok, Err, refl}
use Rattle.std.specs.Prelude.{codes}
use Rattle.text_bytes.specs.Bytes.{is_digit, begins_name, is_printable}
use Rattle.stil_tree.specs.Trees.{Entry, end, plain, block}
use Rattle.stil_form.specs.declared.fault.FormFault.TheVariants.{Refused}
use Rattle.stil_form.specs.declared.fault.FormKind.TheVariants.{Shape, LeftOut}
use Rattle.stil_form.specs.Setting.{Setting}
use Rattle.block_forms.proofs.StandardFacts.Signs.{word, name, text, mark}
use Rattle.block_forms.proofs.StandardFacts.Lines.{on}
use Rattle.stil_ast.specs.declared.signal.GroupDecl.{GroupDecl}
use Rattle.signal_blocks.specs.Groups.{judge_group, groups_block}

-- a group on the line of its text
abbrev group : List ℕ → List ℕ → ℕ → GroupDecl
group called bytes line = record { name = called; text = record { text = bytes; line = line }; line = line }

-- `SignalGroups all { a = 'b+c'; "d e" = '' { Base Hex 'x'; } note = 'y'; }`
abbrev some_text : Setting
some_text = record {
  bytes = codes "SignalGroups all { a = 'b+c';|\"d e\" = '' { Base Hex 'x'; } note = 'y'; }";
  tokens =
      word 0 12 ∷ word 13 16 ∷ mark 123 17 ∷ word 19 20 ∷ mark 61 21 ∷ text 23 28 ∷ mark 59 28 ∷
      on 2 (name 30 35) ∷ on 2 (mark 61 36) ∷ on 2 (text 38 40) ∷ on 2 (mark 123 41) ∷ on 2 (word 43 47) ∷
      on 2 (word 48 51) ∷ on 2 (text 52 55) ∷ on 2 (mark 59 55) ∷ on 2 (mark 125 57) ∷ on 2 (word 59 63) ∷
      on 2 (mark 61 64) ∷ on 2 (text 66 69) ∷ on 2 (mark 59 69) ∷ on 2 (mark 125 71) ∷ [];
  words = codes "note" ∷ [];
}

abbrev some : Entry
some = record { first = 0; count = 2; body = Some (plain 3 3 (block 7 3 (plain 11 3 end) (plain 16 3 end))) }

-- a group expression is judged where it is used
pub some_is : groups_block some_text some ≡ Ok (record {
  name = codes "all";
  groups = group (codes "a") (codes "b+c") 1 ∷ group (codes "d e") [] 2 ∷ [];
})
unfolding is_digit begins_name is_printable
some_is = refl

-- `SignalGroups "" { }`
abbrev untitled_text : Setting
untitled_text = record {
  bytes = codes "SignalGroups \"\" { }";
  tokens =
      word 0 12 ∷ name 13 15 ∷ mark 123 16 ∷ mark 125 18 ∷ [];
  words = [];
}

abbrev untitled : Entry
untitled = record { first = 0; count = 2; body = Some end }

-- a block whose name is empty has none
pub untitled_is : groups_block untitled_text untitled ≡ Ok (record { name = []; groups = [] })
unfolding is_digit begins_name is_printable
untitled_is = refl

-- `SignalGroups { a = 'b'; }`
abbrev apart_text : Setting
apart_text = record {
  bytes = codes "SignalGroups { a =|'b'; }";
  tokens =
      word 0 12 ∷ mark 123 13 ∷ word 15 16 ∷ mark 61 17 ∷ on 2 (text 19 22) ∷ on 2 (mark 59 22) ∷
      on 2 (mark 125 24) ∷ [];
  words = [];
}

abbrev apart : Entry
apart = record { first = 0; count = 1; body = Some (plain 2 3 end) }

-- a text may have another line than its statement
pub apart_is : groups_block apart_text apart ≡ Ok (record {
  name = [];
  groups = record { name = codes "a"; text = record { text = codes "b"; line = 2 }; line = 1 } ∷ [];
})
unfolding is_digit begins_name is_printable
apart_is = refl

-- statements on their own
abbrev ways : Setting
ways = record {
  bytes = codes "a; a = b; a 'b'; a = 'b' 'c'; = 'b'; 1 = 'b'; a = \"b\"; a = 'b' { Termination; }";
  tokens =
      word 0 1 ∷ mark 59 1 ∷ word 3 4 ∷ mark 61 5 ∷ word 7 8 ∷ mark 59 8 ∷ word 10 11 ∷ text 12 15 ∷
      mark 59 15 ∷ word 17 18 ∷ mark 61 19 ∷ text 21 24 ∷ text 25 28 ∷ mark 59 28 ∷ mark 61 30 ∷ text 32 35 ∷
      mark 59 35 ∷ word 37 38 ∷ mark 61 39 ∷ text 41 44 ∷ mark 59 44 ∷ word 46 47 ∷ mark 61 48 ∷ name 50 53 ∷
      mark 59 53 ∷ word 55 56 ∷ mark 61 57 ∷ text 59 62 ∷ mark 123 63 ∷ word 65 76 ∷ mark 59 76 ∷ mark 125 78 ∷ [];
  words = [];
}

-- `a;`
pub no_text : judge_group ways [] (record { first = 0; count = 1; body = None })
    ≡ Err (Refused Shape 0)
unfolding is_digit begins_name is_printable
no_text = refl

-- `a = b;`
pub word_behind : judge_group ways [] (record { first = 2; count = 3; body = None })
    ≡ Err (Refused Shape 2)
unfolding is_digit begins_name is_printable
word_behind = refl

-- `a 'b';`
pub no_sign : judge_group ways [] (record { first = 6; count = 2; body = None })
    ≡ Err (Refused Shape 6)
unfolding is_digit begins_name is_printable
no_sign = refl

-- `a = 'b' 'c';`
pub two_texts : judge_group ways [] (record { first = 9; count = 4; body = None })
    ≡ Err (Refused Shape 9)
unfolding is_digit begins_name is_printable
two_texts = refl

-- `= 'b';`
pub no_name : judge_group ways [] (record { first = 14; count = 2; body = None })
    ≡ Err (Refused Shape 14)
unfolding is_digit begins_name is_printable
no_name = refl

-- `1 = 'b';`
pub number : judge_group ways [] (record { first = 17; count = 3; body = None })
    ≡ Err (Refused Shape 17)
unfolding is_digit begins_name is_printable
number = refl

-- `a = "b";`
pub name_behind : judge_group ways [] (record { first = 21; count = 3; body = None })
    ≡ Err (Refused Shape 21)
unfolding is_digit begins_name is_printable
name_behind = refl

-- `a = 'b' { Termination; }`
pub termination : judge_group ways [] (record { first = 25; count = 3; body = Some (plain 29 1 end) })
    ≡ Err (Refused LeftOut 29)
unfolding is_digit begins_name is_printable
termination = refl

-- blocks that have no form
abbrev blocks : Setting
blocks = record {
  bytes = codes "SignalGroups 1 { } SignalGroups a b { } SignalGroups a;";
  tokens =
      word 0 12 ∷ word 13 14 ∷ mark 123 15 ∷ mark 125 17 ∷ word 19 31 ∷ word 32 33 ∷ word 34 35 ∷ mark 123 36 ∷
      mark 125 38 ∷ word 40 52 ∷ word 53 54 ∷ mark 59 54 ∷ [];
  words = [];
}

-- `SignalGroups 1 { }`
pub numbered : groups_block blocks (record { first = 0; count = 2; body = Some end })
    ≡ Err (Refused Shape 0)
unfolding is_digit begins_name is_printable
numbered = refl

-- `SignalGroups a b { }`
pub two_names : groups_block blocks (record { first = 4; count = 3; body = Some end })
    ≡ Err (Refused Shape 4)
unfolding is_digit begins_name is_printable
two_names = refl

-- `SignalGroups a;`
pub no_block : groups_block blocks (record { first = 9; count = 2; body = None })
    ≡ Err (Refused Shape 9)
unfolding is_digit begins_name is_printable
no_block = refl
