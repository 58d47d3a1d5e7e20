-- Known Spec blocks.
use Rattle.std.proofs.Common.{◌≡◌, ℕ, List, [], ◌∷◌, Some, None, Ok, Err, refl, ◌++◌}
use Rattle.std.specs.Prelude.{codes}
use Rattle.text_bytes.specs.Bytes.{is_digit, begins_name, is_printable}
use Rattle.stil_tree.specs.Trees.{Entry, end, plain, block}
use Rattle.stil_form.specs.declared.fault.FormFault.TheVariants.{Refused}
use Rattle.stil_form.specs.declared.fault.FormKind.TheVariants.{Shape, LeftOut, Twice}
use Rattle.stil_form.specs.Setting.{Setting}
use Rattle.block_forms.proofs.StandardFacts.Signs.{word, name, text, mark}
use Rattle.block_forms.proofs.StandardFacts.Lines.{on}
use Rattle.stil_ast.specs.declared.name.Quoted.{Quoted}
use Rattle.stil_ast.specs.declared.variable.VariableValue.TheVariants.{Same, Chosen}
use Rattle.timing_blocks.specs.Variables.{judge_category, judge_variable, spec_block}

-- a text on a line
abbrev quoted : List ℕ → ℕ → Quoted
quoted bytes line = record { text = bytes; line = line }

-- `Spec s { Category fast { p = '10ns'; q { Min '1ns'; note; Max '2ns'; } } note { } Category slow { } Category
-- fast { p { Typ 'q'; Meas ''; } } }`
abbrev some_text : Setting
some_text = record {
  bytes =
      codes "Spec s { Category fast { p = '10ns';|q { Min '1ns'; note; Max '2ns'; } } note {"
      ++ codes " } Category slow { } Category fast { p { Typ 'q';|Meas ''; } } }";
  tokens =
      word 0 4 ∷ word 5 6 ∷ mark 123 7 ∷ word 9 17 ∷ word 18 22 ∷ mark 123 23 ∷ word 25 26 ∷ mark 61 27 ∷
      text 29 35 ∷ mark 59 35 ∷ on 2 (word 37 38) ∷ on 2 (mark 123 39) ∷ on 2 (word 41 44) ∷ on 2 (text 45 50) ∷
      on 2 (mark 59 50) ∷ on 2 (word 52 56) ∷ on 2 (mark 59 56) ∷ on 2 (word 58 61) ∷ on 2 (text 62 67) ∷
      on 2 (mark 59 67) ∷ on 2 (mark 125 69) ∷ on 2 (mark 125 71) ∷ on 2 (word 73 77) ∷ on 2 (mark 123 78) ∷
      on 2 (mark 125 80) ∷ on 2 (word 82 90) ∷ on 2 (word 91 95) ∷ on 2 (mark 123 96) ∷ on 2 (mark 125 98) ∷
      on 2 (word 100 108) ∷ on 2 (word 109 113) ∷ on 2 (mark 123 114) ∷ on 2 (word 116 117) ∷
      on 2 (mark 123 118) ∷ on 2 (word 120 123) ∷ on 2 (text 124 127) ∷ on 2 (mark 59 127) ∷
      on 3 (word 129 133) ∷ on 3 (text 134 136) ∷ on 3 (mark 59 136) ∷ on 3 (mark 125 138) ∷
      on 3 (mark 125 140) ∷ on 3 (mark 125 142) ∷ [];
  words = codes "note" ∷ [];
}

abbrev some : Entry
some = record {
  first = 0;
  count = 2;
  body = Some (block 3 2 (plain 6 3 (block 10 1 (plain 12 2 (plain 15 1
      (plain 17 2 end))) end)) (block 22 1 end (block 25 2 end (block 29 2 (block 32 1 (plain 34 2 (plain 37 2
      end)) end) end))));
}

-- categories and variables may repeat; what begins with `note` is skipped
pub some_is : spec_block some_text some ≡ Ok (record {
  name = codes "s";
  categories =
      record {
        name = codes "fast";
        variables =
            record { name = codes "p"; value = Same (quoted (codes "10ns") 1); line = 1 } ∷
            record {
              name = codes "q";
              value = Chosen (record {
                min = Some (quoted (codes "1ns") 2);
                typ = None;
                max = Some (quoted (codes "2ns") 2);
                meas = None;
              });
              line = 2;
            } ∷ [];
      } ∷
      record { name = codes "slow"; variables = [] } ∷
      record {
        name = codes "fast";
        variables =
            record {
              name = codes "p";
              value = Chosen (record {
                min = None;
                typ = Some (quoted (codes "q") 2);
                max = None;
                meas = Some (quoted [] 3);
              });
              line = 2;
            } ∷ [];
      } ∷ [];
})
unfolding is_digit begins_name is_printable
some_is = refl

-- `Spec { }`
abbrev untitled_text : Setting
untitled_text = record {
  bytes = codes "Spec { }";
  tokens =
      word 0 4 ∷ mark 123 5 ∷ mark 125 7 ∷ [];
  words = [];
}

abbrev untitled : Entry
untitled = record { first = 0; count = 1; body = Some end }

-- a block without a name
pub untitled_is : spec_block untitled_text untitled ≡ Ok (record { name = []; categories = [] })
unfolding is_digit begins_name is_printable
untitled_is = refl

-- statements of a Spec
abbrev categories : Setting
categories = record {
  bytes =
      codes "Other x { } \"Category\" x { } Category { } Category \"\" { } Category a; Category a"
      ++ codes " b { } { }";
  tokens =
      word 0 5 ∷ word 6 7 ∷ mark 123 8 ∷ mark 125 10 ∷ name 12 22 ∷ word 23 24 ∷ mark 123 25 ∷ mark 125 27 ∷
      word 29 37 ∷ mark 123 38 ∷ mark 125 40 ∷ word 42 50 ∷ name 51 53 ∷ mark 123 54 ∷ mark 125 56 ∷
      word 58 66 ∷ word 67 68 ∷ mark 59 68 ∷ word 70 78 ∷ word 79 80 ∷ word 81 82 ∷ mark 123 83 ∷ mark 125 85 ∷
      mark 123 87 ∷ mark 125 89 ∷ [];
  words = [];
}

-- `Other x { }`
pub other_keyword : judge_category categories [] (record { first = 0; count = 2; body = Some end })
    ≡ Err (Refused LeftOut 0)
unfolding is_digit begins_name is_printable
other_keyword = refl

-- `"Category" x { }`: a keyword is a word
pub keyword_quoted : judge_category categories [] (record { first = 4; count = 2; body = Some end })
    ≡ Err (Refused LeftOut 4)
unfolding is_digit begins_name is_printable
keyword_quoted = refl

-- `Category { }`
pub no_name : judge_category categories [] (record { first = 8; count = 1; body = Some end })
    ≡ Err (Refused Shape 8)
unfolding is_digit begins_name is_printable
no_name = refl

-- `Category "" { }`
pub empty_name : judge_category categories [] (record { first = 11; count = 2; body = Some end })
    ≡ Err (Refused Shape 11)
unfolding is_digit begins_name is_printable
empty_name = refl

-- `Category a;`
pub no_block : judge_category categories [] (record { first = 15; count = 2; body = None })
    ≡ Err (Refused Shape 15)
unfolding is_digit begins_name is_printable
no_block = refl

-- `Category a b { }`
pub two_names : judge_category categories [] (record { first = 18; count = 3; body = Some end })
    ≡ Err (Refused Shape 18)
unfolding is_digit begins_name is_printable
two_names = refl

-- `{ }`
pub no_keyword : judge_category categories [] (record { first = 23; count = 0; body = Some end })
    ≡ Err (Refused LeftOut 23)
unfolding is_digit begins_name is_printable
no_keyword = refl

-- statements of a category
abbrev variables : Setting
variables = record {
  bytes =
      codes "p; p = '1' { } p '1'; p q { } 1 { } p { Mid '1'; } p { Min 1; } p { Min '1' { }"
      ++ codes " } p { Min; } p { Mid '1' { } } p { Min '1'; Typ '2'; Min '3'; } p { Min '1';"
      ++ codes " Min 3; }";
  tokens =
      word 0 1 ∷ mark 59 1 ∷ word 3 4 ∷ mark 61 5 ∷ text 7 10 ∷ mark 123 11 ∷ mark 125 13 ∷ word 15 16 ∷
      text 17 20 ∷ mark 59 20 ∷ word 22 23 ∷ word 24 25 ∷ mark 123 26 ∷ mark 125 28 ∷ word 30 31 ∷ mark 123 32 ∷
      mark 125 34 ∷ word 36 37 ∷ mark 123 38 ∷ word 40 43 ∷ text 44 47 ∷ mark 59 47 ∷ mark 125 49 ∷ word 51 52 ∷
      mark 123 53 ∷ word 55 58 ∷ word 59 60 ∷ mark 59 60 ∷ mark 125 62 ∷ word 64 65 ∷ mark 123 66 ∷ word 68 71 ∷
      text 72 75 ∷ mark 123 76 ∷ mark 125 78 ∷ mark 125 80 ∷ word 82 83 ∷ mark 123 84 ∷ word 86 89 ∷
      mark 59 89 ∷ mark 125 91 ∷ word 93 94 ∷ mark 123 95 ∷ word 97 100 ∷ text 101 104 ∷ mark 123 105 ∷
      mark 125 107 ∷ mark 125 109 ∷ word 111 112 ∷ mark 123 113 ∷ word 115 118 ∷ text 119 122 ∷ mark 59 122 ∷
      word 124 127 ∷ text 128 131 ∷ mark 59 131 ∷ word 133 136 ∷ text 137 140 ∷ mark 59 140 ∷ mark 125 142 ∷
      word 144 145 ∷ mark 123 146 ∷ word 148 151 ∷ text 152 155 ∷ mark 59 155 ∷ word 157 160 ∷ word 161 162 ∷
      mark 59 162 ∷ mark 125 164 ∷ [];
  words = [];
}

-- `p;`
pub no_text : judge_variable variables [] (record { first = 0; count = 1; body = None })
    ≡ Err (Refused Shape 0)
unfolding is_digit begins_name is_printable
no_text = refl

-- `p = '1' { }`
pub text_and_block : judge_variable variables [] (record { first = 2; count = 3; body = Some end })
    ≡ Err (Refused Shape 2)
unfolding is_digit begins_name is_printable
text_and_block = refl

-- `p '1';`
pub no_sign : judge_variable variables [] (record { first = 7; count = 2; body = None })
    ≡ Err (Refused Shape 7)
unfolding is_digit begins_name is_printable
no_sign = refl

-- `p q { }`
pub name_behind : judge_variable variables [] (record { first = 10; count = 2; body = Some end })
    ≡ Err (Refused Shape 10)
unfolding is_digit begins_name is_printable
name_behind = refl

-- `1 { }`
pub number : judge_variable variables [] (record { first = 14; count = 1; body = Some end })
    ≡ Err (Refused Shape 14)
unfolding is_digit begins_name is_printable
number = refl

-- `p { Mid '1'; }`
pub other_choice : judge_variable variables [] (record { first = 17; count = 1; body = Some (plain 19 2 end) })
    ≡ Err (Refused LeftOut 19)
unfolding is_digit begins_name is_printable
other_choice = refl

-- `p { Min 1; }`
pub choice_of_a_word : judge_variable variables [] (record { first = 23; count = 1; body = Some (plain 25 2 end) })
    ≡ Err (Refused Shape 25)
unfolding is_digit begins_name is_printable
choice_of_a_word = refl

-- `p { Min '1' { } }`
pub choice_with_a_block : judge_variable variables [] (record {
  first = 29;
  count = 1;
  body = Some (block 31 2 end
      end);
})
    ≡ Err (Refused Shape 31)
unfolding is_digit begins_name is_printable
choice_with_a_block = refl

-- `p { Min; }`
pub choice_alone : judge_variable variables [] (record { first = 36; count = 1; body = Some (plain 38 1 end) })
    ≡ Err (Refused Shape 38)
unfolding is_digit begins_name is_printable
choice_alone = refl

-- `p { Mid '1' { } }`: the keyword decides before the end
pub left_out_first : judge_variable variables [] (record {
  first = 41;
  count = 1;
  body = Some (block 43 2 end end);
})
    ≡ Err (Refused LeftOut 43)
unfolding is_digit begins_name is_printable
left_out_first = refl

-- `p { Min '1'; Typ '2'; Min '3'; }`: at the second one
pub twice : judge_variable variables [] (record {
  first = 48;
  count = 1;
  body = Some (plain 50 2 (plain 53 2 (plain
      56 2 end)));
})
    ≡ Err (Refused Twice 56)
unfolding is_digit begins_name is_printable
twice = refl

-- `p { Min '1'; Min 3; }`
pub form_before_twice : judge_variable variables [] (record {
  first = 60;
  count = 1;
  body = Some (plain 62 2 (plain
      65 2 end));
})
    ≡ Err (Refused Shape 65)
unfolding is_digit begins_name is_printable
form_before_twice = refl

-- blocks that have no form
abbrev blocks : Setting
blocks = record {
  bytes = codes "Spec a b { } Spec a;";
  tokens =
      word 0 4 ∷ word 5 6 ∷ word 7 8 ∷ mark 123 9 ∷ mark 125 11 ∷ word 13 17 ∷ word 18 19 ∷ mark 59 19 ∷ [];
  words = [];
}

-- `Spec a b { }`
pub two_titles : spec_block blocks (record { first = 0; count = 3; body = Some end })
    ≡ Err (Refused Shape 0)
unfolding is_digit begins_name is_printable
two_titles = refl

-- `Spec a;`
pub spec_alone : spec_block blocks (record { first = 5; count = 2; body = None })
    ≡ Err (Refused Shape 5)
unfolding is_digit begins_name is_printable
spec_alone = refl
