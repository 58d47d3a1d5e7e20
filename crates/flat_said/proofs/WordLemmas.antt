-- The words and the quoted texts of flat texts.
use Rattle.std.proofs.Common.{◌≡◌, ℕ, true, not, List, [], ◌∷◌, ◌++◌, length, refl, sym, ap, ◌∙◌, arith}
use Rattle.std.specs.Prelude.{◌==◌, codes, decimal}
use Rattle.std.specs.List.{list_all}
use Rattle.std.proofs.lemmas.Bool.{and_from, or_left, false≢true}
use Rattle.std.proofs.lemmas.List.Folds.{list_all-append}
use Rattle.text_bytes.specs.Bytes.{is_blank, is_word, is_digit, is_character, is_printable}
use Rattle.text_bytes.proofs.ListLemmas.{passes_from}
use Rattle.text_bytes.proofs.DigitLemmas.{decimal_passes, decimal_some}
use Rattle.tester_types.specs.declared.signal.Direction.{Direction}
use Rattle.tester_types.specs.declared.signal.Direction.TheVariants as direction
use Rattle.tester_types.specs.declared.wave.Act.{Act}
use Rattle.tester_types.specs.declared.wave.Act.TheVariants as act
use Rattle.tester_types.specs.declared.wave.Push.{Push}
use Rattle.tester_types.specs.declared.wave.Push.TheVariants as push
use Rattle.tester_types.specs.declared.wave.Look.{Look}
use Rattle.tester_types.specs.declared.wave.Look.TheVariants as look
use Rattle.stil_lex.specs.Bytes.{may_be_quoted, double_quote, single_quote}
use Rattle.tester_types.specs.Acts.{push_letter, look_letter}
use Rattle.flat_parts.specs.FlatText.{direction_word, act_letter, is_plain}
use Rattle.flat_parts.specs.FlatBlocks.{numbered, time_text}
use Rattle.flat_said.proofs.SaysLemmas.{IsQuotable, IsPlainWord, plain_word_is}

-- ---- words

-- a direction
pub direction_is : (d : Direction) → IsPlainWord (direction_word d)
unfolding is_word
direction_is direction.In = plain_word_is (codes "In") refl
direction_is direction.Out = plain_word_is (codes "Out") refl
direction_is direction.InOut = plain_word_is (codes "InOut") refl
direction_is direction.Supply = plain_word_is (codes "Supply") refl
direction_is direction.Pseudo = plain_word_is (codes "Pseudo") refl

push_is : (p : Push) → IsPlainWord (push_letter p)
unfolding is_word
push_is push.Down = plain_word_is (codes "D") refl
push_is push.Up = plain_word_is (codes "U") refl
push_is push.Off = plain_word_is (codes "Z") refl
push_is push.Unknown = plain_word_is (codes "N") refl
push_is push.Prior = plain_word_is (codes "P") refl

look_is : (l : Look) → IsPlainWord (look_letter l)
unfolding is_word
look_is look.Low = plain_word_is (codes "L") refl
look_is look.High = plain_word_is (codes "H") refl
look_is look.Off = plain_word_is (codes "T") refl
look_is look.LowWindow = plain_word_is (codes "l") refl
look_is look.HighWindow = plain_word_is (codes "h") refl
look_is look.OffWindow = plain_word_is (codes "t") refl
look_is look.Close = plain_word_is (codes "X") refl

-- the letter of an act
pub act_is : (a : Act) → IsPlainWord (act_letter a)
act_is (act.Push p) = push_is p
act_is (act.Look l) = look_is l

-- a number
pub decimal_is : (n : ℕ) → IsPlainWord (decimal n)
unfolding is_word is_digit
decimal_is n = record {
  some = λ none. let few = ap length none in omega (arith, decimal_some n, few);
  each = decimal_passes is_word refl refl refl refl refl refl refl refl refl refl n;
  other = λ is.
      false≢true (ap (list_all is_digit) (sym is) ∙ decimal_passes is_digit refl refl refl refl refl refl refl refl refl refl n);
}

-- a character is a byte of a word
character_word : (c : ℕ) → is_character c ≡ true → is_word c ≡ true
unfolding is_word is_character
character_word c h = or_left (is_character c) (c == 0x5F) h

-- a character alone
pub character_is : (c : ℕ) → is_character c ≡ true → IsPlainWord (c ∷ [])
character_is c h = record {
  some = λ none. let few = ap length none in omega (arith, few);
  each = and_from (is_word c) true (character_word c h) refl;
  other = λ is. let long = ap length is in omega (arith, long);
}

-- ---- quoted texts

-- one text behind another
pub quotable_append : (quote : ℕ) (first second : List ℕ) → IsQuotable quote first → IsQuotable quote second
    → IsQuotable quote (first ++ second)
quotable_append quote first second f s = record {
  plain =
      list_all-append (λ byte. not (byte == quote)) first second
      ∙ and_from (list_all (λ byte. not (byte == quote)) first) (list_all (λ byte. not (byte == quote)) second) f.plain s.plain;
  each =
      list_all-append may_be_quoted first second
      ∙ and_from (list_all may_be_quoted first) (list_all may_be_quoted second) f.each s.each;
}

-- a number
decimal_double : (n : ℕ) → IsQuotable double_quote (decimal n)
unfolding may_be_quoted is_printable is_blank
decimal_double n = record {
  plain = decimal_passes (λ byte. not (byte == double_quote)) refl refl refl refl refl refl refl refl refl refl n;
  each = decimal_passes may_be_quoted refl refl refl refl refl refl refl refl refl refl n;
}

decimal_single : (n : ℕ) → IsQuotable single_quote (decimal n)
unfolding may_be_quoted is_printable is_blank
decimal_single n = record {
  plain = decimal_passes (λ byte. not (byte == single_quote)) refl refl refl refl refl refl refl refl refl refl n;
  each = decimal_passes may_be_quoted refl refl refl refl refl refl refl refl refl refl n;
}

fs_is : IsQuotable single_quote (codes "fs")
unfolding may_be_quoted is_printable is_blank
fs_is = record { plain = refl; each = refl }

-- a time
pub time_is : (time : ℕ) → IsQuotable single_quote (time_text time)
time_is time = quotable_append single_quote (decimal time) (codes "fs") (decimal_single time) fs_is

-- a letter and a number
pub numbered_is : (front : List ℕ) (n : ℕ) → IsQuotable double_quote front → IsQuotable double_quote (numbered front n)
numbered_is front n f = quotable_append double_quote front (decimal n) f (decimal_double n)

pub w_is : (n : ℕ) → IsQuotable double_quote (numbered (codes "w") n)
unfolding may_be_quoted is_printable is_blank
w_is n = numbered_is (codes "w") n (record { plain = refl; each = refl })

pub t_is : (n : ℕ) → IsQuotable double_quote (numbered (codes "t") n)
unfolding may_be_quoted is_printable is_blank
t_is n = numbered_is (codes "t") n (record { plain = refl; each = refl })

pub r_is : (n : ℕ) → IsQuotable double_quote (numbered (codes "r") n)
unfolding may_be_quoted is_printable is_blank
r_is n = numbered_is (codes "r") n (record { plain = refl; each = refl })

pub p_is : (n : ℕ) → IsQuotable double_quote (numbered (codes "p") n)
unfolding may_be_quoted is_printable is_blank
p_is n = numbered_is (codes "p") n (record { plain = refl; each = refl })

pub b_is : (n : ℕ) → IsQuotable double_quote (numbered (codes "b") n)
unfolding may_be_quoted is_printable is_blank
b_is n = numbered_is (codes "b") n (record { plain = refl; each = refl })

printable_quoted : (b : ℕ) → is_printable b ≡ true → may_be_quoted b ≡ true
unfolding may_be_quoted
printable_quoted b h = or_left (is_printable b) (is_blank b) h

-- a name of bytes that print, without double quotes
pub name_is : (name : List ℕ) → is_plain name ≡ true → list_all is_printable name ≡ true → IsQuotable double_quote name
name_is name plain printable = record {
  plain = plain;
  each = passes_from is_printable may_be_quoted printable_quoted name printable;
}
