-- Known Signals blocks.
use Rattle.std.proofs.Common.{◌≡◌, ℕ, List, [], ◌∷◌, Some, None, Ok, Err, refl, ◌++◌}
use Rattle.std.specs.Prelude.{codes}
use Rattle.text_bytes.specs.Bytes.{is_digit, begins_name, is_printable}
use Rattle.stil_tree.specs.Trees.{Entry, end, plain, block}
use Rattle.stil_form.specs.declared.fault.FormFault.TheVariants.{Refused}
use Rattle.stil_form.specs.declared.fault.FormKind.TheVariants.{Shape, LeftOut, OutOfRange}
use Rattle.stil_form.specs.Setting.{Setting}
use Rattle.block_forms.proofs.StandardFacts.Signs.{word, name, text, mark}
use Rattle.block_forms.proofs.StandardFacts.Lines.{on}
use Rattle.tester_types.specs.declared.signal.Direction.{Direction}
use Rattle.tester_types.specs.declared.signal.Direction.TheVariants.{In, Out, InOut, Supply, Pseudo}
use Rattle.stil_ast.specs.declared.name.IndexRange.{IndexRange}
use Rattle.stil_ast.specs.declared.signal.SignalDecl.{SignalDecl}
use Rattle.signal_blocks.specs.Signals.{judge_signal, signals_block}

-- a signal without indices
abbrev signal : List ℕ → Direction → ℕ → SignalDecl
signal called kind line = record { name = called; range = None; direction = kind; line = line }

-- signals of indices
abbrev signals : List ℕ → IndexRange → Direction → ℕ → SignalDecl
signals called range kind line = record { name = called; range = Some range; direction = kind; line = line }

-- `Signals { a In; "b c" InOut { Any 'x'; note 1; } d[3..0] Out; e Supply; note x; f Pseudo { b { Termination;
-- } "Termination"; } }`
abbrev some_text : Setting
some_text = record {
  bytes =
      codes "Signals { a In; \"b c\" InOut { Any 'x'; note 1; }|d[3..0] Out; e Supply; note x;"
      ++ codes " f Pseudo { b { Termination; } \"Termination\"; } }";
  tokens =
      word 0 7 ∷ mark 123 8 ∷ word 10 11 ∷ word 12 14 ∷ mark 59 14 ∷ name 16 21 ∷ word 22 27 ∷ mark 123 28 ∷
      word 30 33 ∷ text 34 37 ∷ mark 59 37 ∷ word 39 43 ∷ word 44 45 ∷ mark 59 45 ∷ mark 125 47 ∷
      on 2 (word 49 50) ∷ on 2 (mark 91 50) ∷ on 2 (word 51 52) ∷ on 2 (mark 46 52) ∷ on 2 (mark 46 53) ∷
      on 2 (word 54 55) ∷ on 2 (mark 93 55) ∷ on 2 (word 57 60) ∷ on 2 (mark 59 60) ∷ on 2 (word 62 63) ∷
      on 2 (word 64 70) ∷ on 2 (mark 59 70) ∷ on 2 (word 72 76) ∷ on 2 (word 77 78) ∷ on 2 (mark 59 78) ∷
      on 2 (word 80 81) ∷ on 2 (word 82 88) ∷ on 2 (mark 123 89) ∷ on 2 (word 91 92) ∷ on 2 (mark 123 93) ∷
      on 2 (word 95 106) ∷ on 2 (mark 59 106) ∷ on 2 (mark 125 108) ∷ on 2 (name 110 123) ∷ on 2 (mark 59 123) ∷
      on 2 (mark 125 125) ∷ on 2 (mark 125 127) ∷ [];
  words = codes "note" ∷ [];
}

abbrev some : Entry
some = record {
  first = 0;
  count = 1;
  body = Some (plain 2 2 (block 5 2 (plain 8 2 (plain 11 2 end)) (plain 15 8
      (plain 24 2 (plain 27 2 (block 30 2 (block 33 1 (plain 35 1 end) (plain 38 1 end)) end))))));
}

-- attributes say nothing; a Termination is left out directly among them alone
pub some_is : signals_block some_text some ≡ Ok (
    signal (codes "a") In 1 ∷ signal (codes "b c") InOut 1 ∷
    signals (codes "d") (record { first = 3; last = 0 }) Out 2 ∷ signal (codes "e") Supply 2 ∷
    signal (codes "f") Pseudo 2 ∷ [])
unfolding is_digit begins_name is_printable
some_is = refl

-- statements on their own
abbrev ways : Setting
ways = record {
  bytes =
      codes "a; a Inout; a In x; 1a In; \"\" In; a[3] In; a[3..0 In; a \"In\"; a[4294967296..0]"
      ++ codes " Inn; a[0..4294967296] In; a[0..4294967295] In; a In { b; Termination c; }"
      ++ codes " a[4294967296..0] In { Termination; } a In { Termination; }";
  tokens =
      word 0 1 ∷ mark 59 1 ∷ word 3 4 ∷ word 5 10 ∷ mark 59 10 ∷ word 12 13 ∷ word 14 16 ∷ word 17 18 ∷
      mark 59 18 ∷ word 20 22 ∷ word 23 25 ∷ mark 59 25 ∷ name 27 29 ∷ word 30 32 ∷ mark 59 32 ∷ word 34 35 ∷
      mark 91 35 ∷ word 36 37 ∷ mark 93 37 ∷ word 39 41 ∷ mark 59 41 ∷ word 43 44 ∷ mark 91 44 ∷ word 45 46 ∷
      mark 46 46 ∷ mark 46 47 ∷ word 48 49 ∷ word 50 52 ∷ mark 59 52 ∷ word 54 55 ∷ name 56 60 ∷ mark 59 60 ∷
      word 62 63 ∷ mark 91 63 ∷ word 64 74 ∷ mark 46 74 ∷ mark 46 75 ∷ word 76 77 ∷ mark 93 77 ∷ word 79 82 ∷
      mark 59 82 ∷ word 84 85 ∷ mark 91 85 ∷ word 86 87 ∷ mark 46 87 ∷ mark 46 88 ∷ word 89 99 ∷ mark 93 99 ∷
      word 101 103 ∷ mark 59 103 ∷ word 105 106 ∷ mark 91 106 ∷ word 107 108 ∷ mark 46 108 ∷ mark 46 109 ∷
      word 110 120 ∷ mark 93 120 ∷ word 122 124 ∷ mark 59 124 ∷ word 126 127 ∷ word 128 130 ∷ mark 123 131 ∷
      word 133 134 ∷ mark 59 134 ∷ word 136 147 ∷ word 148 149 ∷ mark 59 149 ∷ mark 125 151 ∷ word 153 154 ∷
      mark 91 154 ∷ word 155 165 ∷ mark 46 165 ∷ mark 46 166 ∷ word 167 168 ∷ mark 93 168 ∷ word 170 172 ∷
      mark 123 173 ∷ word 175 186 ∷ mark 59 186 ∷ mark 125 188 ∷ word 190 191 ∷ word 192 194 ∷ mark 123 195 ∷
      word 197 208 ∷ mark 59 208 ∷ mark 125 210 ∷ [];
  words = [];
}

-- `a;`
pub no_direction : judge_signal ways [] (record { first = 0; count = 1; body = None })
    ≡ Err (Refused Shape 0)
unfolding is_digit begins_name is_printable
no_direction = refl

-- `a Inout;`
pub other_direction : judge_signal ways [] (record { first = 2; count = 2; body = None })
    ≡ Err (Refused Shape 2)
unfolding is_digit begins_name is_printable
other_direction = refl

-- `a In x;`
pub more_behind : judge_signal ways [] (record { first = 5; count = 3; body = None })
    ≡ Err (Refused Shape 5)
unfolding is_digit begins_name is_printable
more_behind = refl

-- `1a In;`
pub no_name : judge_signal ways [] (record { first = 9; count = 2; body = None })
    ≡ Err (Refused Shape 9)
unfolding is_digit begins_name is_printable
no_name = refl

-- `"" In;`
pub empty_name : judge_signal ways [] (record { first = 12; count = 2; body = None })
    ≡ Err (Refused Shape 12)
unfolding is_digit begins_name is_printable
empty_name = refl

-- `a[3] In;`: one index declares nothing
pub one_index : judge_signal ways [] (record { first = 15; count = 5; body = None })
    ≡ Err (Refused Shape 15)
unfolding is_digit begins_name is_printable
one_index = refl

-- `a[3..0 In;`
pub not_closed : judge_signal ways [] (record { first = 21; count = 7; body = None })
    ≡ Err (Refused Shape 21)
unfolding is_digit begins_name is_printable
not_closed = refl

-- `a "In";`: a keyword is a word
pub keyword_quoted : judge_signal ways [] (record { first = 29; count = 2; body = None })
    ≡ Err (Refused Shape 29)
unfolding is_digit begins_name is_printable
keyword_quoted = refl

-- `a[4294967296..0] Inn;`: the form is judged before the index
pub form_first : judge_signal ways [] (record { first = 32; count = 8; body = None })
    ≡ Err (Refused Shape 32)
unfolding is_digit begins_name is_printable
form_first = refl

-- `a[0..4294967296] In;`
pub index_beyond : judge_signal ways [] (record { first = 41; count = 8; body = None })
    ≡ Err (Refused OutOfRange 41)
unfolding is_digit begins_name is_printable
index_beyond = refl

-- `a[0..4294967295] In;`
pub greatest_index : judge_signal ways [] (record { first = 50; count = 8; body = None })
    ≡ Ok (signals (codes "a") (record { first = 0; last = 4294967295 }) In 1)
unfolding is_digit begins_name is_printable
greatest_index = refl

-- `a In { b; Termination c; }`: at its own statement
pub termination : judge_signal ways [] (record {
  first = 59;
  count = 2;
  body = Some (plain 62 1 (plain 64 2 end));
})
    ≡ Err (Refused LeftOut 64)
unfolding is_digit begins_name is_printable
termination = refl

-- `a[4294967296..0] In { Termination; }`: the statement is judged before its block
pub index_first : judge_signal ways [] (record { first = 68; count = 8; body = Some (plain 77 1 end) })
    ≡ Err (Refused OutOfRange 68)
unfolding is_digit begins_name is_printable
index_first = refl

-- `a In { Termination; }`
pub only_attribute : judge_signal ways [] (record { first = 80; count = 2; body = Some (plain 83 1 end) })
    ≡ Err (Refused LeftOut 83)
unfolding is_digit begins_name is_printable
only_attribute = refl

-- blocks that have no form
abbrev blocks : Setting
blocks = record {
  bytes = codes "Signals x { } Signals;";
  tokens =
      word 0 7 ∷ word 8 9 ∷ mark 123 10 ∷ mark 125 12 ∷ word 14 21 ∷ mark 59 21 ∷ [];
  words = [];
}

-- `Signals x { }`
pub named : signals_block blocks (record { first = 0; count = 2; body = Some end })
    ≡ Err (Refused Shape 0)
unfolding is_digit begins_name is_printable
named = refl

-- `Signals;`
pub no_block : signals_block blocks (record { first = 4; count = 1; body = None })
    ≡ Err (Refused Shape 4)
unfolding is_digit begins_name is_printable
no_block = refl
