-- What known Timing blocks and their statements say, and each way in which they are refused.
use Rattle.std.proofs.Common.{◌≡◌, List, ℕ, ◌+◌, [], ◌∷◌, Some, None, Ok, Err, refl, replicate}
use Rattle.std.specs.Prelude.{codes}
use Rattle.text_bytes.specs.Bytes.{is_digit, begins_name, is_printable, is_character}
use Rattle.tester_types.specs.declared.wave.Act.TheVariants as act
use Rattle.tester_types.specs.declared.wave.Push.TheVariants as push
use Rattle.tester_types.specs.declared.wave.Look.TheVariants as look
use Rattle.stil_lex.specs.declared.token.Token.{Token}
use Rattle.stil_lex.specs.declared.token.TokenKind.TheVariants as kind
use Rattle.stil_tree.specs.Trees.{Entry, end, plain, block}
use Rattle.stil_form.specs.declared.fault.FormFault.TheVariants.{Refused}
use Rattle.stil_form.specs.declared.fault.FormKind.TheVariants.{Shape, LeftOut, OutOfRange, Twice}
use Rattle.stil_form.specs.Setting.{Setting}
use Rattle.stil_ast.specs.declared.name.SigRef.TheVariants as ref
use Rattle.stil_ast.specs.declared.timing.TableDecl.{TableDecl}
use Rattle.timing_blocks.specs.Waveforms.{event_at}
use Rattle.timing_blocks.specs.Timings.{TableLine, period, judge_line, table_in, judge_table, timing_block}
use Rattle.block_forms.proofs.StandardFacts.Signs.{word, name, text, mark}

-- tokens on a line
abbrev word_on : ℕ → ℕ → ℕ → Token
word_on line start stop = record { kind = kind.Word; line = line; start = start; end = stop }

abbrev text_on : ℕ → ℕ → ℕ → Token
text_on line start stop = record { kind = kind.Text; line = line; start = start; end = stop }

abbrev mark_on : ℕ → ℕ → ℕ → Token
mark_on line byte start = record { kind = kind.Sign byte; line = line; start = start; end = start + 1 }

-- a Timing on six lines, with a `|` for the end of each; `note` is a word of UserKeywords
abbrev timing : Setting
timing = record {
  bytes = codes "Timing t {|WaveformTable w {|Period|'10ns'; InheritWaveformTable v; note 'x' { } Waveforms {|a[3..0] { 01 { '0ns' D/ForceUp;|'5ns' x; } } 'b+c' { Z { } } } } }";
  tokens =
      word_on 1 0 6 ∷ word_on 1 7 8 ∷ mark_on 1 123 9 ∷ word_on 2 11 24 ∷ word_on 2 25 26 ∷ mark_on 2 123 27 ∷
      word_on 3 29 35 ∷ text_on 4 36 42 ∷ mark_on 4 59 42 ∷ word_on 4 44 64 ∷ word_on 4 65 66 ∷
      mark_on 4 59 66 ∷ word_on 4 68 72 ∷ text_on 4 73 76 ∷ mark_on 4 123 77 ∷ mark_on 4 125 79 ∷
      word_on 4 81 90 ∷ mark_on 4 123 91 ∷ word_on 5 93 94 ∷ mark_on 5 91 94 ∷ word_on 5 95 96 ∷
      mark_on 5 46 96 ∷ mark_on 5 46 97 ∷ word_on 5 98 99 ∷ mark_on 5 93 99 ∷ mark_on 5 123 101 ∷
      word_on 5 103 105 ∷ mark_on 5 123 106 ∷ text_on 5 108 113 ∷ word_on 5 114 115 ∷ mark_on 5 47 115 ∷
      word_on 5 116 123 ∷ mark_on 5 59 123 ∷ text_on 6 125 130 ∷ word_on 6 131 132 ∷ mark_on 6 59 132 ∷
      mark_on 6 125 134 ∷ mark_on 6 125 136 ∷ text_on 6 138 143 ∷ mark_on 6 123 144 ∷ word_on 6 146 147 ∷
      mark_on 6 123 148 ∷ mark_on 6 125 150 ∷ mark_on 6 125 152 ∷ mark_on 6 125 154 ∷ mark_on 6 125 156 ∷
      mark_on 6 125 158 ∷ [];
  words = codes "note" ∷ [];
}

-- its statement
abbrev statement : Entry
statement = record {
  first = 0;
  count = 2;
  body = Some (
      block 3 2 (plain 6 2 (plain 9 2 (block 12 2 end (block 16 1 (block 18 7 (block 26 1 (plain 28 4 (plain
      33 2 end)) end) (block 38 1 (block 40 1 end end) end)) end)))) end
      );
}

-- its table
abbrev table : TableDecl
table = record {
  name = codes "w";
  period = Some (record { text = codes "10ns"; line = 4 });
  inherits = record { name = codes "v"; line = 4 } ∷ [];
  waveforms =
      record {
        reference = ref.Name (record { name = codes "a"; range = Some (record { first = 3; last = 0 }) });
        waves =
            record {
              characters = codes "01";
              events =
                  event_at (codes "0ns") 5 (act.Push push.Down ∷ act.Push push.Up ∷ []) ∷
                  event_at (codes "5ns") 6 (act.Look look.Close ∷ []) ∷ [];
            } ∷ [];
        line = 5;
      } ∷
      record {
        reference = ref.Group (record { text = codes "b+c"; line = 6 });
        waves = record { characters = codes "Z"; events = [] } ∷ [];
        line = 6;
      } ∷ [];
  line = 2;
}

-- the block, with each line; what begins with `note` is skipped
pub it_is : timing_block timing [] statement
    ≡ Ok (record { name = codes "t"; tables = table ∷ [] })
unfolding is_digit begins_name is_printable is_character
it_is = refl

-- without the words `note` is left out, before the rest
pub first_fault : timing_block (record timing { words = [] }) [] statement
    ≡ Err (Refused LeftOut 12)
unfolding is_digit begins_name is_printable is_character
first_fault = refl

-- a table of that name in a Timing of that title before it
pub declared_before : timing_block timing ((codes "t", codes "w") ∷ []) statement
    ≡ Err (Refused Twice 3)
unfolding is_digit begins_name is_printable is_character
declared_before = refl

-- the same under another title
pub other_title : timing_block timing ((codes "u", codes "w") ∷ []) statement
    ≡ Ok (record { name = codes "t"; tables = table ∷ [] })
unfolding is_digit begins_name is_printable is_character
other_title = refl

-- 64 tables before it, which is judged before their names
pub full : timing_block timing (replicate 64 (codes "t", codes "w")) statement
    ≡ Err (Refused OutOfRange 3)
unfolding is_digit begins_name is_printable is_character
full = refl

-- 63 tables before it
pub nearly_full : timing_block timing (replicate 63 (codes "t", codes "v")) statement
    ≡ Ok (record { name = codes "t"; tables = table ∷ [] })
unfolding is_digit begins_name is_printable is_character
nearly_full = refl

-- statements of a Timing
abbrev tables : Setting
tables = record {
  bytes = codes "WaveformTable { } WaveformTable t; WaveformTable \"\" { } Wave t { } { } WaveformTable t { }";
  tokens =
      word 0 13 ∷ mark 123 14 ∷ mark 125 16 ∷ word 18 31 ∷ word 32 33 ∷ mark 59 33 ∷ word 35 48 ∷ name 49 51 ∷
      mark 123 52 ∷ mark 125 54 ∷ word 56 60 ∷ word 61 62 ∷ mark 123 63 ∷ mark 125 65 ∷ mark 123 67 ∷
      mark 125 69 ∷ word 71 84 ∷ word 85 86 ∷ mark 123 87 ∷ mark 125 89 ∷ [];
  words = codes "note" ∷ [];
}

-- `WaveformTable t { }`
pub empty : judge_table tables [] (codes "u") [] (record { first = 16; count = 2; body = Some end })
    ≡ Ok (table_in (codes "t") 1 [])
unfolding is_digit begins_name is_printable is_character
empty = refl

-- the same behind a table of that name
pub table_twice : judge_table tables [] (codes "u") (table_in (codes "t") 1 [] ∷ []) (record { first = 16; count = 2; body = Some end })
    ≡ Err (Refused Twice 16)
unfolding is_digit begins_name is_printable is_character
table_twice = refl

-- `WaveformTable { }`
pub no_name : judge_table tables [] (codes "u") [] (record { first = 0; count = 1; body = Some end })
    ≡ Err (Refused Shape 0)
unfolding is_digit begins_name is_printable is_character
no_name = refl

-- `WaveformTable t;`
pub no_block : judge_table tables [] (codes "u") [] (record { first = 3; count = 2; body = None })
    ≡ Err (Refused Shape 3)
unfolding is_digit begins_name is_printable is_character
no_block = refl

-- `WaveformTable "" { }`
pub empty_name : judge_table tables [] (codes "u") [] (record { first = 6; count = 2; body = Some end })
    ≡ Err (Refused Shape 6)
unfolding is_digit begins_name is_printable is_character
empty_name = refl

-- `Wave t { }`
pub other_keyword : judge_table tables [] (codes "u") [] (record { first = 10; count = 2; body = Some end })
    ≡ Err (Refused LeftOut 10)
unfolding is_digit begins_name is_printable is_character
other_keyword = refl

-- `{ }`
pub no_keyword : judge_table tables [] (codes "u") [] (record { first = 14; count = 0; body = Some end })
    ≡ Err (Refused LeftOut 14)
unfolding is_digit begins_name is_printable is_character
no_keyword = refl

-- a period
abbrev one_period : List TableLine
one_period = period (record { text = codes "y"; line = 1 }) ∷ []

-- statements of a waveform table
abbrev lines : Setting
lines = record {
  bytes = codes "Period x; Period 'x' { } Period; Period 'x'; InheritWaveformTable; InheritWaveformTable \"\"; InheritWaveformTable t { } Waveforms; Waveforms a { } Wave 'x'; \"Period\" 'x'; { }";
  tokens =
      word 0 6 ∷ word 7 8 ∷ mark 59 8 ∷ word 10 16 ∷ text 17 20 ∷ mark 123 21 ∷ mark 125 23 ∷ word 25 31 ∷
      mark 59 31 ∷ word 33 39 ∷ text 40 43 ∷ mark 59 43 ∷ word 45 65 ∷ mark 59 65 ∷ word 67 87 ∷ name 88 90 ∷
      mark 59 90 ∷ word 92 112 ∷ word 113 114 ∷ mark 123 115 ∷ mark 125 117 ∷ word 119 128 ∷ mark 59 128 ∷
      word 130 139 ∷ word 140 141 ∷ mark 123 142 ∷ mark 125 144 ∷ word 146 150 ∷ text 151 154 ∷ mark 59 154 ∷
      name 156 164 ∷ text 165 168 ∷ mark 59 168 ∷ mark 123 170 ∷ mark 125 172 ∷ [];
  words = codes "note" ∷ [];
}

-- `Period x;`
pub period_word : judge_line lines [] (record { first = 0; count = 2; body = None })
    ≡ Err (Refused Shape 0)
unfolding is_digit begins_name is_printable is_character
period_word = refl

-- `Period 'x' { }`
pub period_with_block : judge_line lines [] (record { first = 3; count = 2; body = Some end })
    ≡ Err (Refused Shape 3)
unfolding is_digit begins_name is_printable is_character
period_with_block = refl

-- `Period;`
pub no_period : judge_line lines [] (record { first = 7; count = 1; body = None })
    ≡ Err (Refused Shape 7)
unfolding is_digit begins_name is_printable is_character
no_period = refl

-- `InheritWaveformTable;`
pub inherits_nothing : judge_line lines [] (record { first = 12; count = 1; body = None })
    ≡ Err (Refused Shape 12)
unfolding is_digit begins_name is_printable is_character
inherits_nothing = refl

-- `InheritWaveformTable "";`
pub inherits_unnamed : judge_line lines [] (record { first = 14; count = 2; body = None })
    ≡ Err (Refused Shape 14)
unfolding is_digit begins_name is_printable is_character
inherits_unnamed = refl

-- `InheritWaveformTable t { }`
pub inherits_with_block : judge_line lines [] (record { first = 17; count = 2; body = Some end })
    ≡ Err (Refused Shape 17)
unfolding is_digit begins_name is_printable is_character
inherits_with_block = refl

-- `Waveforms;`
pub waveforms_ended : judge_line lines [] (record { first = 21; count = 1; body = None })
    ≡ Err (Refused Shape 21)
unfolding is_digit begins_name is_printable is_character
waveforms_ended = refl

-- `Waveforms a { }`
pub waveforms_named : judge_line lines [] (record { first = 23; count = 2; body = Some end })
    ≡ Err (Refused Shape 23)
unfolding is_digit begins_name is_printable is_character
waveforms_named = refl

-- `Wave 'x';`
pub other_word : judge_line lines [] (record { first = 27; count = 2; body = None })
    ≡ Err (Refused LeftOut 27)
unfolding is_digit begins_name is_printable is_character
other_word = refl

-- `"Period" 'x';`
pub keyword_in_quotes : judge_line lines [] (record { first = 30; count = 2; body = None })
    ≡ Err (Refused LeftOut 30)
unfolding is_digit begins_name is_printable is_character
keyword_in_quotes = refl

-- `{ }`
pub no_word : judge_line lines [] (record { first = 33; count = 0; body = Some end })
    ≡ Err (Refused LeftOut 33)
unfolding is_digit begins_name is_printable is_character
no_word = refl

-- `Period 'x';` behind a period
pub period_twice : judge_line lines one_period (record { first = 9; count = 2; body = None })
    ≡ Err (Refused Twice 9)
unfolding is_digit begins_name is_printable is_character
period_twice = refl

-- `Period x;` there
pub form_before_twice : judge_line lines one_period (record { first = 0; count = 2; body = None })
    ≡ Err (Refused Shape 0)
unfolding is_digit begins_name is_printable is_character
form_before_twice = refl
