-- What known statements of Waveforms say, and each way in which they are refused.
use Rattle.std.proofs.Common.{◌≡◌, ℕ, List, [], ◌∷◌, Some, None, Ok, Err, refl, replicate}
use Rattle.std.specs.Prelude.{codes}
use Rattle.text_bytes.specs.Bytes.{is_digit, begins_name, is_printable, is_character}
use Rattle.tester_types.specs.declared.wave.Act.TheVariants as act
use Rattle.tester_types.specs.declared.wave.Push.TheVariants as push
use Rattle.tester_types.specs.declared.wave.Look.TheVariants as look
use Rattle.stil_tree.specs.Trees.{end}
use Rattle.stil_form.specs.declared.fault.FormFault.TheVariants.{Refused}
use Rattle.stil_form.specs.declared.fault.FormKind.TheVariants.{Shape, LeftOut, OutOfRange}
use Rattle.stil_form.specs.Setting.{Setting}
use Rattle.stil_form.specs.declared.part.SignKind.TheVariants.{Slash}
use Rattle.stil_form.specs.Lexeme as lexeme
use Rattle.stil_form.specs.Lexeme.{Lexeme}
use Rattle.stil_ast.specs.declared.timing.EventDecl.{EventDecl}
use Rattle.stil_ast.specs.declared.name.SigRef.TheVariants as ref
use Rattle.timing_blocks.specs.Waveforms.{act_of, acts_of, event_at, judge_event, judge_wave, judge_signal}
use Rattle.block_forms.proofs.StandardFacts.Signs.{word, name, text, mark}

-- events of a waveform
abbrev events : Setting
events = record {
  bytes = codes "'0ns' D/U; '0ns' ForceOff; \"0ns\" D; '0ns' /D; '0ns' D/Q; '0ns' Q { } '0ns'; '0ns' D/; '0ns' D/U/Z; '0ns' D U; '0ns' D { } { }";
  tokens =
      text 0 5 ∷ word 6 7 ∷ mark 47 7 ∷ word 8 9 ∷ mark 59 9 ∷ text 11 16 ∷ word 17 25 ∷ mark 59 25 ∷
      name 27 32 ∷ word 33 34 ∷ mark 59 34 ∷ text 36 41 ∷ mark 47 42 ∷ word 43 44 ∷ mark 59 44 ∷ text 46 51 ∷
      word 52 53 ∷ mark 47 53 ∷ word 54 55 ∷ mark 59 55 ∷ text 57 62 ∷ word 63 64 ∷ mark 123 65 ∷ mark 125 67 ∷
      text 69 74 ∷ mark 59 74 ∷ text 76 81 ∷ word 82 83 ∷ mark 47 83 ∷ mark 59 84 ∷ text 86 91 ∷ word 92 93 ∷
      mark 47 93 ∷ word 94 95 ∷ mark 47 95 ∷ word 96 97 ∷ mark 59 97 ∷ text 99 104 ∷ word 105 106 ∷
      word 107 108 ∷ mark 59 108 ∷ text 110 115 ∷ word 116 117 ∷ mark 123 118 ∷ mark 125 120 ∷ mark 123 122 ∷
      mark 125 124 ∷ [];
  words = codes "note" ∷ [];
}

-- `'0ns' D/U;` of two characters
pub two_acts : judge_event events 2 [] (record { first = 0; count = 4; body = None })
    ≡ Ok (event_at (codes "0ns") 1 (act.Push push.Down ∷ act.Push push.Up ∷ []))
unfolding is_digit begins_name is_printable is_character
two_acts = refl

-- `'0ns' ForceOff;`
pub act_of_all : judge_event events 2 [] (record { first = 5; count = 2; body = None })
    ≡ Ok (event_at (codes "0ns") 1 (act.Push push.Off ∷ []))
unfolding is_digit begins_name is_printable is_character
act_of_all = refl

-- `"0ns" D;`
pub no_text : judge_event events 2 [] (record { first = 8; count = 2; body = None })
    ≡ Err (Refused LeftOut 8)
unfolding is_digit begins_name is_printable is_character
no_text = refl

-- `'0ns' /D;`
pub slash_first : judge_event events 2 [] (record { first = 11; count = 3; body = None })
    ≡ Err (Refused LeftOut 11)
unfolding is_digit begins_name is_printable is_character
slash_first = refl

-- `'0ns' D/Q;`
pub no_act : judge_event events 2 [] (record { first = 15; count = 4; body = None })
    ≡ Err (Refused LeftOut 15)
unfolding is_digit begins_name is_printable is_character
no_act = refl

-- `'0ns' Q { }`
pub no_act_with_block : judge_event events 2 [] (record { first = 20; count = 2; body = Some end })
    ≡ Err (Refused LeftOut 20)
unfolding is_digit begins_name is_printable is_character
no_act_with_block = refl

-- `'0ns';`
pub acts_missing : judge_event events 2 [] (record { first = 24; count = 1; body = None })
    ≡ Err (Refused Shape 24)
unfolding is_digit begins_name is_printable is_character
acts_missing = refl

-- `'0ns' D/;`
pub last_act_missing : judge_event events 2 [] (record { first = 26; count = 3; body = None })
    ≡ Err (Refused Shape 26)
unfolding is_digit begins_name is_printable is_character
last_act_missing = refl

-- `'0ns' D/U/Z;`
pub three_acts : judge_event events 2 [] (record { first = 30; count = 6; body = None })
    ≡ Err (Refused Shape 30)
unfolding is_digit begins_name is_printable is_character
three_acts = refl

-- `'0ns' D U;`
pub slash_missing : judge_event events 2 [] (record { first = 37; count = 3; body = None })
    ≡ Err (Refused Shape 37)
unfolding is_digit begins_name is_printable is_character
slash_missing = refl

-- `'0ns' D { }`
pub event_with_block : judge_event events 2 [] (record { first = 41; count = 2; body = Some end })
    ≡ Err (Refused Shape 41)
unfolding is_digit begins_name is_printable is_character
event_with_block = refl

-- `{ }`
pub no_head : judge_event events 2 [] (record { first = 45; count = 0; body = Some end })
    ≡ Err (Refused LeftOut 45)
unfolding is_digit begins_name is_printable is_character
no_head = refl

-- sixteen events
abbrev sixteen : List EventDecl
sixteen = replicate 16 (event_at (codes "0ns") 1 (act.Push push.Down ∷ []))

-- a seventeenth event
pub seventeenth : judge_event events 2 sixteen (record { first = 0; count = 4; body = None })
    ≡ Err (Refused OutOfRange 0)
unfolding is_digit begins_name is_printable is_character
seventeenth = refl

-- a seventeenth event without a form
pub form_before_count : judge_event events 2 sixteen (record { first = 30; count = 6; body = None })
    ≡ Err (Refused Shape 30)
unfolding is_digit begins_name is_printable is_character
form_before_count = refl

-- a word, and the sign `/`
abbrev act_word : List ℕ → Lexeme
act_word bytes = lexeme.word bytes

abbrev slash : Lexeme
slash = lexeme.sign Slash

-- `D`
pub one_act : acts_of (act_word (codes "D") ∷ []) ≡ Ok (act.Push push.Down ∷ [])
one_act = refl

-- `D/U/Z`
pub acts_in_order : acts_of (act_word (codes "D") ∷ slash ∷ act_word (codes "U") ∷ slash ∷ act_word (codes "Z") ∷ [])
    ≡ Ok (act.Push push.Down ∷ act.Push push.Up ∷ act.Push push.Off ∷ [])
acts_in_order = refl

-- nothing
pub nothing_is_said : acts_of [] ≡ Err Shape
nothing_is_said = refl

-- `D/`
pub slash_last : acts_of (act_word (codes "D") ∷ slash ∷ []) ≡ Err Shape
slash_last = refl

-- `D U`
pub no_slash_between : acts_of (act_word (codes "D") ∷ act_word (codes "U") ∷ []) ≡ Err Shape
no_slash_between = refl

-- `/D`
pub slash_in_front : acts_of (slash ∷ act_word (codes "D") ∷ []) ≡ Err LeftOut
slash_in_front = refl

-- `D//U`
pub two_slashes : acts_of (act_word (codes "D") ∷ slash ∷ slash ∷ act_word (codes "U") ∷ []) ≡ Err LeftOut
two_slashes = refl

-- `Q`
pub other_character : acts_of (act_word (codes "Q") ∷ []) ≡ Err LeftOut
other_character = refl

-- `D U/Q`: that a place lacks its act is said first
pub place_before_shape : acts_of (act_word (codes "D") ∷ act_word (codes "U") ∷ slash ∷ act_word (codes "Q") ∷ []) ≡ Err LeftOut
place_before_shape = refl

-- each act, by its letter and by its long name
pub letter_D : act_of (lexeme.word (codes "D")) ≡ Some (act.Push push.Down)
letter_D = refl

pub letter_U : act_of (lexeme.word (codes "U")) ≡ Some (act.Push push.Up)
letter_U = refl

pub letter_Z : act_of (lexeme.word (codes "Z")) ≡ Some (act.Push push.Off)
letter_Z = refl

pub letter_N : act_of (lexeme.word (codes "N")) ≡ Some (act.Push push.Unknown)
letter_N = refl

pub letter_P : act_of (lexeme.word (codes "P")) ≡ Some (act.Push push.Prior)
letter_P = refl

pub letter_L : act_of (lexeme.word (codes "L")) ≡ Some (act.Look look.Low)
letter_L = refl

pub letter_H : act_of (lexeme.word (codes "H")) ≡ Some (act.Look look.High)
letter_H = refl

pub letter_T : act_of (lexeme.word (codes "T")) ≡ Some (act.Look look.Off)
letter_T = refl

pub letter_X : act_of (lexeme.word (codes "X")) ≡ Some (act.Look look.Close)
letter_X = refl

pub small_x : act_of (lexeme.word (codes "x")) ≡ Some (act.Look look.Close)
small_x = refl

pub small_l : act_of (lexeme.word (codes "l")) ≡ Some (act.Look look.LowWindow)
small_l = refl

pub small_h : act_of (lexeme.word (codes "h")) ≡ Some (act.Look look.HighWindow)
small_h = refl

pub small_t : act_of (lexeme.word (codes "t")) ≡ Some (act.Look look.OffWindow)
small_t = refl

pub act_forcedown : act_of (lexeme.word (codes "ForceDown")) ≡ Some (act.Push push.Down)
act_forcedown = refl

pub act_forceup : act_of (lexeme.word (codes "ForceUp")) ≡ Some (act.Push push.Up)
act_forceup = refl

pub act_forceoff : act_of (lexeme.word (codes "ForceOff")) ≡ Some (act.Push push.Off)
act_forceoff = refl

pub act_forceunknown : act_of (lexeme.word (codes "ForceUnknown")) ≡ Some (act.Push push.Unknown)
act_forceunknown = refl

pub act_forceprior : act_of (lexeme.word (codes "ForcePrior")) ≡ Some (act.Push push.Prior)
act_forceprior = refl

pub act_comparelow : act_of (lexeme.word (codes "CompareLow")) ≡ Some (act.Look look.Low)
act_comparelow = refl

pub act_comparehigh : act_of (lexeme.word (codes "CompareHigh")) ≡ Some (act.Look look.High)
act_comparehigh = refl

pub act_compareoff : act_of (lexeme.word (codes "CompareOff")) ≡ Some (act.Look look.Off)
act_compareoff = refl

pub act_compareunknown : act_of (lexeme.word (codes "CompareUnknown")) ≡ Some (act.Look look.Close)
act_compareunknown = refl

pub act_comparelowwindow : act_of (lexeme.word (codes "CompareLowWindow")) ≡ Some (act.Look look.LowWindow)
act_comparelowwindow = refl

pub act_comparehighwindow : act_of (lexeme.word (codes "CompareHighWindow")) ≡ Some (act.Look look.HighWindow)
act_comparehighwindow = refl

pub act_compareoffwindow : act_of (lexeme.word (codes "CompareOffWindow")) ≡ Some (act.Look look.OffWindow)
act_compareoffwindow = refl

-- `d` is no act, and neither is a name
pub small_d : act_of (lexeme.word (codes "d")) ≡ None
small_d = refl

pub quoted_act : act_of (lexeme.name (codes "D")) ≡ None
quoted_act = refl

-- waveforms of a signal
abbrev waves : Setting
waves = record {
  bytes = codes "01aZ { } 0_ { } 00 { } \"01\" { } 0 1 { } 01; 0_;";
  tokens =
      word 0 4 ∷ mark 123 5 ∷ mark 125 7 ∷ word 9 11 ∷ mark 123 12 ∷ mark 125 14 ∷ word 16 18 ∷ mark 123 19 ∷
      mark 125 21 ∷ name 23 27 ∷ mark 123 28 ∷ mark 125 30 ∷ word 32 33 ∷ word 34 35 ∷ mark 123 36 ∷
      mark 125 38 ∷ word 40 42 ∷ mark 59 42 ∷ word 44 46 ∷ mark 59 46 ∷ [];
  words = codes "note" ∷ [];
}

-- `01aZ { }`
pub characters : judge_wave waves [] (record { first = 0; count = 1; body = Some end })
    ≡ Ok (record { characters = codes "01aZ"; events = [] })
unfolding is_digit begins_name is_printable is_character
characters = refl

-- `0_ { }`
pub low_line : judge_wave waves [] (record { first = 3; count = 1; body = Some end })
    ≡ Err (Refused Shape 3)
unfolding is_digit begins_name is_printable is_character
low_line = refl

-- `00 { }`
pub character_twice : judge_wave waves [] (record { first = 6; count = 1; body = Some end })
    ≡ Err (Refused Shape 6)
unfolding is_digit begins_name is_printable is_character
character_twice = refl

-- `"01" { }`
pub quoted_characters : judge_wave waves [] (record { first = 9; count = 1; body = Some end })
    ≡ Err (Refused Shape 9)
unfolding is_digit begins_name is_printable is_character
quoted_characters = refl

-- `0 1 { }`
pub two_words : judge_wave waves [] (record { first = 12; count = 2; body = Some end })
    ≡ Err (Refused Shape 12)
unfolding is_digit begins_name is_printable is_character
two_words = refl

-- `01;`
pub characters_without_block : judge_wave waves [] (record { first = 16; count = 1; body = None })
    ≡ Err (Refused LeftOut 16)
unfolding is_digit begins_name is_printable is_character
characters_without_block = refl

-- `0_;`
pub any_without_block : judge_wave waves [] (record { first = 18; count = 1; body = None })
    ≡ Err (Refused LeftOut 18)
unfolding is_digit begins_name is_printable is_character
any_without_block = refl

-- statements of Waveforms
abbrev signals : Setting
signals = record {
  bytes = codes "a[3..0] { } \"a b\" { } 'a+b' { } a b { } 5 { } a[1 { } a[4294967295..4294967296] { } a; a b;";
  tokens =
      word 0 1 ∷ mark 91 1 ∷ word 2 3 ∷ mark 46 3 ∷ mark 46 4 ∷ word 5 6 ∷ mark 93 6 ∷ mark 123 8 ∷
      mark 125 10 ∷ name 12 17 ∷ mark 123 18 ∷ mark 125 20 ∷ text 22 27 ∷ mark 123 28 ∷ mark 125 30 ∷
      word 32 33 ∷ word 34 35 ∷ mark 123 36 ∷ mark 125 38 ∷ word 40 41 ∷ mark 123 42 ∷ mark 125 44 ∷
      word 46 47 ∷ mark 91 47 ∷ word 48 49 ∷ mark 123 50 ∷ mark 125 52 ∷ word 54 55 ∷ mark 91 55 ∷ word 56 66 ∷
      mark 46 66 ∷ mark 46 67 ∷ word 68 78 ∷ mark 93 78 ∷ mark 123 80 ∷ mark 125 82 ∷ word 84 85 ∷ mark 59 85 ∷
      word 87 88 ∷ word 89 90 ∷ mark 59 90 ∷ [];
  words = codes "note" ∷ [];
}

-- `a[3..0] { }`
pub indexed : judge_signal signals [] (record { first = 0; count = 7; body = Some end })
    ≡ Ok (record { reference = ref.Name (record { name = codes "a"; range = Some (record { first = 3; last = 0 }) }); waves = []; line = 1 })
unfolding is_digit begins_name is_printable is_character
indexed = refl

-- `"a b" { }`
pub quoted_name : judge_signal signals [] (record { first = 9; count = 1; body = Some end })
    ≡ Ok (record { reference = ref.Name (record { name = codes "a b"; range = None }); waves = []; line = 1 })
unfolding is_digit begins_name is_printable is_character
quoted_name = refl

-- `'a+b' { }`
pub grouped : judge_signal signals [] (record { first = 12; count = 1; body = Some end })
    ≡ Ok (record { reference = ref.Group (record { text = codes "a+b"; line = 1 }); waves = []; line = 1 })
unfolding is_digit begins_name is_printable is_character
grouped = refl

-- `a b { }`
pub two_names : judge_signal signals [] (record { first = 15; count = 2; body = Some end })
    ≡ Err (Refused Shape 15)
unfolding is_digit begins_name is_printable is_character
two_names = refl

-- `5 { }`
pub digit : judge_signal signals [] (record { first = 19; count = 1; body = Some end })
    ≡ Err (Refused Shape 19)
unfolding is_digit begins_name is_printable is_character
digit = refl

-- `a[1 { }`
pub no_bracket : judge_signal signals [] (record { first = 22; count = 3; body = Some end })
    ≡ Err (Refused Shape 22)
unfolding is_digit begins_name is_printable is_character
no_bracket = refl

-- `a[4294967295..4294967296] { }`
pub index_beyond : judge_signal signals [] (record { first = 27; count = 7; body = Some end })
    ≡ Err (Refused OutOfRange 27)
unfolding is_digit begins_name is_printable is_character
index_beyond = refl

-- `a;`
pub signal_without_block : judge_signal signals [] (record { first = 36; count = 1; body = None })
    ≡ Err (Refused LeftOut 36)
unfolding is_digit begins_name is_printable is_character
signal_without_block = refl

-- `a b;`
pub names_without_block : judge_signal signals [] (record { first = 38; count = 2; body = None })
    ≡ Err (Refused LeftOut 38)
unfolding is_digit begins_name is_printable is_character
names_without_block = refl
