-- Known Selector blocks.
use Rattle.std.proofs.Common.{◌≡◌, ℕ, List, [], ◌∷◌, Some, None, Ok, Err, refl}
use Rattle.std.specs.Prelude.{codes}
use Rattle.text_bytes.specs.Bytes.{is_digit, begins_name, is_printable}
use Rattle.stil_tree.specs.Trees.{Entry, end, plain}
use Rattle.stil_form.specs.declared.fault.FormFault.TheVariants.{Refused}
use Rattle.stil_form.specs.declared.fault.FormKind.TheVariants.{Shape, Twice}
use Rattle.stil_form.specs.Setting.{Setting}
use Rattle.block_forms.proofs.StandardFacts.Signs.{word, name, mark}
use Rattle.block_forms.proofs.StandardFacts.Lines.{on}
use Rattle.stil_ast.specs.declared.variable.Choice.{Choice}
use Rattle.stil_ast.specs.declared.variable.Choice.TheVariants.{Min, Typ, Max, Meas}
use Rattle.stil_ast.specs.declared.variable.Selection.{Selection}
use Rattle.timing_blocks.specs.Selectors.{judge_selection, selector_block}

-- a selection
abbrev select : List ℕ → Choice → Selection
select called choice = record { name = called; choice = choice }

-- `Selector s { a Min; "b c" Meas; note a Typ; d Typ; e Max; }`
abbrev some_text : Setting
some_text = record {
  bytes = codes "Selector s { a Min; \"b c\" Meas; note a Typ; d Typ;|e Max; }";
  tokens =
      word 0 8 ∷ word 9 10 ∷ mark 123 11 ∷ word 13 14 ∷ word 15 18 ∷ mark 59 18 ∷ name 20 25 ∷ word 26 30 ∷
      mark 59 30 ∷ word 32 36 ∷ word 37 38 ∷ word 39 42 ∷ mark 59 42 ∷ word 44 45 ∷ word 46 49 ∷ mark 59 49 ∷
      on 2 (word 51 52) ∷ on 2 (word 53 56) ∷ on 2 (mark 59 56) ∷ on 2 (mark 125 58) ∷ [];
  words = codes "note" ∷ [];
}

abbrev some : Entry
some = record {
  first = 0;
  count = 2;
  body = Some (plain 3 2 (plain 6 2 (plain 9 3 (plain 13 2 (plain 16 2
      end)))));
}

-- what begins with `note` is skipped
pub some_is : selector_block some_text some ≡ Ok (record {
  name = codes "s";
  selections =
      select (codes "a") Min ∷ select (codes "b c") Meas ∷ select (codes "d") Typ ∷ select (codes "e") Max ∷ [];
})
unfolding is_digit begins_name is_printable
some_is = refl

-- statements behind one that selects `a`
abbrev ways : Setting
ways = record {
  bytes = codes "a Mid; a; a Min { } a Min x; a \"Min\"; 1 Min; \"\" Min; \"a\" Max; b Max; \"a\" Max x;";
  tokens =
      word 0 1 ∷ word 2 5 ∷ mark 59 5 ∷ word 7 8 ∷ mark 59 8 ∷ word 10 11 ∷ word 12 15 ∷ mark 123 16 ∷
      mark 125 18 ∷ word 20 21 ∷ word 22 25 ∷ word 26 27 ∷ mark 59 27 ∷ word 29 30 ∷ name 31 36 ∷ mark 59 36 ∷
      word 38 39 ∷ word 40 43 ∷ mark 59 43 ∷ name 45 47 ∷ word 48 51 ∷ mark 59 51 ∷ name 53 56 ∷ word 57 60 ∷
      mark 59 60 ∷ word 62 63 ∷ word 64 67 ∷ mark 59 67 ∷ name 69 72 ∷ word 73 76 ∷ word 77 78 ∷ mark 59 78 ∷ [];
  words = [];
}

-- `a Mid;`
pub other_choice : judge_selection ways (select (codes "a") Min ∷ []) (record { first = 0; count = 2; body = None })
    ≡ Err (Refused Shape 0)
unfolding is_digit begins_name is_printable
other_choice = refl

-- `a;`
pub no_choice : judge_selection ways (select (codes "a") Min ∷ []) (record { first = 3; count = 1; body = None })
    ≡ Err (Refused Shape 3)
unfolding is_digit begins_name is_printable
no_choice = refl

-- `a Min { }`
pub with_a_block : judge_selection ways (select (codes "a") Min ∷ []) (record { first = 5; count = 2; body = Some end })
    ≡ Err (Refused Shape 5)
unfolding is_digit begins_name is_printable
with_a_block = refl

-- `a Min x;`
pub more_behind : judge_selection ways (select (codes "a") Min ∷ []) (record { first = 9; count = 3; body = None })
    ≡ Err (Refused Shape 9)
unfolding is_digit begins_name is_printable
more_behind = refl

-- `a "Min";`: a keyword is a word
pub keyword_quoted : judge_selection ways (select (codes "a") Min ∷ []) (record { first = 13; count = 2; body = None })
    ≡ Err (Refused Shape 13)
unfolding is_digit begins_name is_printable
keyword_quoted = refl

-- `1 Min;`
pub number : judge_selection ways (select (codes "a") Min ∷ []) (record { first = 16; count = 2; body = None })
    ≡ Err (Refused Shape 16)
unfolding is_digit begins_name is_printable
number = refl

-- `"" Min;`
pub empty_name : judge_selection ways (select (codes "a") Min ∷ []) (record { first = 19; count = 2; body = None })
    ≡ Err (Refused Shape 19)
unfolding is_digit begins_name is_printable
empty_name = refl

-- `"a" Max;`: one name, in quotes or without
pub twice : judge_selection ways (select (codes "a") Min ∷ []) (record { first = 22; count = 2; body = None })
    ≡ Err (Refused Twice 22)
unfolding is_digit begins_name is_printable
twice = refl

-- `b Max;`
pub another : judge_selection ways (select (codes "a") Min ∷ []) (record { first = 25; count = 2; body = None })
    ≡ Ok (select (codes "b") Max)
unfolding is_digit begins_name is_printable
another = refl

-- `"a" Max x;`
pub form_before_twice : judge_selection ways (select (codes "a") Min ∷ [])
    (record { first = 28; count = 3; body = None })
    ≡ Err (Refused Shape 28)
unfolding is_digit begins_name is_printable
form_before_twice = refl

-- blocks that are refused
abbrev blocks : Setting
blocks = record {
  bytes = codes "Selector { } Selector \"\" { } Selector a; Selector a { a Min; a Max; }";
  tokens =
      word 0 8 ∷ mark 123 9 ∷ mark 125 11 ∷ word 13 21 ∷ name 22 24 ∷ mark 123 25 ∷ mark 125 27 ∷ word 29 37 ∷
      word 38 39 ∷ mark 59 39 ∷ word 41 49 ∷ word 50 51 ∷ mark 123 52 ∷ word 54 55 ∷ word 56 59 ∷ mark 59 59 ∷
      word 61 62 ∷ word 63 66 ∷ mark 59 66 ∷ mark 125 68 ∷ [];
  words = [];
}

-- `Selector { }`
pub no_name : selector_block blocks (record { first = 0; count = 1; body = Some end })
    ≡ Err (Refused Shape 0)
unfolding is_digit begins_name is_printable
no_name = refl

-- `Selector "" { }`
pub unnamed : selector_block blocks (record { first = 3; count = 2; body = Some end })
    ≡ Err (Refused Shape 3)
unfolding is_digit begins_name is_printable
unnamed = refl

-- `Selector a;`
pub no_block : selector_block blocks (record { first = 7; count = 2; body = None })
    ≡ Err (Refused Shape 7)
unfolding is_digit begins_name is_printable
no_block = refl

-- `Selector a { a Min; a Max; }`: at the second one
pub twice_in_block : selector_block blocks (record {
  first = 10;
  count = 2;
  body = Some (plain 13 2 (plain 16 2
      end));
})
    ≡ Err (Refused Twice 16)
unfolding is_digit begins_name is_printable
twice_in_block = refl
