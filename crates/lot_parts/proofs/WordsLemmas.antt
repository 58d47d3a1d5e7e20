-- What words ask for, read one by one.
use Rattle.std.proofs.Common.{◌≡◌, ℕ, ◌+◌, ◌-◌, ◌<◌, ◌≤◌, true, false, List, [], ◌∷◌, length, get_or, nat_eq, sym, ap, ◌∙◌, arith, String, string_bytes, decimal}
use Rattle.std.specs.Prelude.{codes}
use Rattle.std.specs.declared.alloc.Global.{Global}
use Rattle.std.specs.Cmp.Lexicographic.{pointwise, bytes_decides}
use Rattle.std.proofs.lemmas.Fmt.{decimal_injective}
use Rattle.std.proofs.lemmas.List.{length-map}
use Rattle.text_bytes.specs.Limits.{most_parts}
use Rattle.text_bytes.proofs.ListLemmas.{one_item, three_items, four_items}
use Rattle.lot_parts.specs.Words.{words_seen, ArePart, AreParts, AreCut, AreMerge, AreGrade, AreMergeGrade}

-- the first of some words
abbrev first_word : List (List ℕ) → List ℕ
first_word [] = []
first_word (word ∷ words) = word

-- those behind it
abbrev behind_first : List (List ℕ) → List (List ℕ)
behind_first [] = []
behind_first (word ∷ words) = words

-- ---- the first word

-- words that begin with this one
pub begins : (words rest : List (String Global)) (first : String Global) (seen command : List ℕ) → words ≡ first ∷ rest
    → seen ≡ string_bytes first → true ≡ pointwise nat_eq seen command → words_seen words ≡ command ∷ words_seen rest
begins words rest first seen command are seen_is same =
    ap words_seen are
    ∙ ap (λ (word : List ℕ). word ∷ words_seen rest) (sym seen_is ∙ (bytes_decides seen command).0 (sym same))

-- words that begin with another
pub begins_other : (words rest : List (String Global)) (first : String Global) (seen command : List ℕ) → words ≡ first ∷ rest
    → seen ≡ string_bytes first → false ≡ pointwise nat_eq seen command
    → (more : List (List ℕ)) → words_seen words ≡ command ∷ more → ⊥
begins_other words rest first seen command are seen_is differs more is =
    let same : seen ≡ command = seen_is ∙ ap first_word (sym (ap words_seen are) ∙ is) in
    let never : false ≡ true = differs ∙ (bytes_decides seen command).1 same in cc

-- no words
pub begins_none : (words : List (String Global)) (command : List ℕ) → length words ≡ 0
    → (more : List (List ℕ)) → words_seen words ≡ command ∷ more → ⊥
begins_none [] command none more is = cc
begins_none (word ∷ words) command none more is = omega (arith, none)

-- ---- how many words there are

-- a command and one word
pub one_word : (words : List (List ℕ)) (rest : List (String Global)) (a : String Global) (command plan : List ℕ)
    → words ≡ command ∷ words_seen rest → 1 ≤ length rest → length rest < 2 → a ≡ get_or rest 0 a → plan ≡ string_bytes a
    → words ≡ command ∷ plan ∷ []
one_word words rest a command plan are least below first plan_is =
    are ∙ ap (λ (l : List (String Global)). command ∷ words_seen l) (one_item rest a least below first)
    ∙ ap (λ (w : List ℕ). command ∷ w ∷ []) (sym plan_is)

-- and three
pub three_words : (words : List (List ℕ)) (rest : List (String Global)) (a b c : String Global) (command plan which of : List ℕ)
    → words ≡ command ∷ words_seen rest → 3 ≤ length rest → length rest < 4 → a ≡ get_or rest 0 a → b ≡ get_or rest 1 b
    → c ≡ get_or rest 2 c → plan ≡ string_bytes a → which ≡ string_bytes b → of ≡ string_bytes c
    → words ≡ command ∷ plan ∷ which ∷ of ∷ []
three_words words rest a b c command plan which of are least below first second third plan_is which_is of_is =
    are ∙ ap (λ (l : List (String Global)). command ∷ words_seen l) (three_items rest a b c least below first second third)
    ∙ ap (λ (w : List ℕ). command ∷ w ∷ string_bytes b ∷ string_bytes c ∷ []) (sym plan_is)
    ∙ ap (λ (w : List ℕ). command ∷ plan ∷ w ∷ string_bytes c ∷ []) (sym which_is)
    ∙ ap (λ (w : List ℕ). command ∷ plan ∷ which ∷ w ∷ []) (sym of_is)

-- and four
pub four_words : (words : List (List ℕ)) (rest : List (String Global)) (a b c d : String Global)
    (command program plan which of : List ℕ) → words ≡ command ∷ words_seen rest → 4 ≤ length rest → length rest < 5
    → a ≡ get_or rest 0 a → b ≡ get_or rest 1 b → c ≡ get_or rest 2 c → d ≡ get_or rest 3 d → program ≡ string_bytes a
    → plan ≡ string_bytes b → which ≡ string_bytes c → of ≡ string_bytes d
    → words ≡ command ∷ program ∷ plan ∷ which ∷ of ∷ []
four_words words rest a b c d command program plan which of are least below first second third fourth program_is plan_is which_is of_is =
    are ∙ ap (λ (l : List (String Global)). command ∷ words_seen l) (four_items rest a b c d least below first second third fourth)
    ∙ ap (λ (w : List ℕ). command ∷ w ∷ string_bytes b ∷ string_bytes c ∷ string_bytes d ∷ []) (sym program_is)
    ∙ ap (λ (w : List ℕ). command ∷ program ∷ w ∷ string_bytes c ∷ string_bytes d ∷ []) (sym plan_is)
    ∙ ap (λ (w : List ℕ). command ∷ program ∷ plan ∷ w ∷ string_bytes d ∷ []) (sym which_is)
    ∙ ap (λ (w : List ℕ). command ∷ program ∷ plan ∷ which ∷ w ∷ []) (sym of_is)

-- as many words stand behind a command as are said to
pub as_many : (words : List (List ℕ)) (rest : List (String Global)) (command command' : List ℕ) (more : List (List ℕ))
    → words ≡ command ∷ words_seen rest → words ≡ command' ∷ more → length rest ≡ length more
as_many words rest command command' more are is =
    let same : length (words_seen rest) ≡ length more = ap (λ (l : List (List ℕ)). length (behind_first l)) (sym are ∙ is) in
    omega (arith, same, length-map rest string_bytes)

-- ---- a part

-- the words of a part
pub is_part : (which of : List ℕ) (number parts : ℕ) → 1 ≤ number → number ≤ parts → parts ≤ most_parts → which ≡ decimal number
    → of ≡ decimal parts → ArePart (which ∷ of ∷ []) parts (number - 1)
is_part which of number parts some within few which_is of_is =
    let back : number ≡ number - 1 + 1 = omega arith in
    record {
      of = record { few = few; within = omega arith };
      is = ap (λ (word : List ℕ). word ∷ of ∷ []) (which_is ∙ ap decimal back)
          ∙ ap (λ (word : List ℕ). decimal (number - 1 + 1) ∷ word ∷ []) of_is;
    }

-- the last word spells no number of parts
pub no_parts : (which of : List ℕ) → ((n : ℕ) → 1 ≤ n → n ≤ most_parts → of ≡ decimal n → ⊥)
    → (parts part : ℕ) → ArePart (which ∷ of ∷ []) parts part → ⊥
no_parts which of none parts part are =
    none parts (omega (arith, are.of.within)) are.of.few (ap (λ (l : List (List ℕ)). first_word (behind_first l)) are.is)

-- the word before it spells none
pub no_which : (which of : List ℕ) → ((n : ℕ) → 1 ≤ n → n ≤ most_parts → which ≡ decimal n → ⊥)
    → (parts part : ℕ) → ArePart (which ∷ of ∷ []) parts part → ⊥
no_which which of none parts part are =
    none (part + 1) (omega arith) (omega (arith, are.of.within, are.of.few)) (ap first_word are.is)

-- there are fewer parts
pub past_last : (which of : List ℕ) (number all : ℕ) → number ≤ most_parts → all ≤ most_parts → which ≡ decimal number
    → of ≡ decimal all → all < number → (parts part : ℕ) → ArePart (which ∷ of ∷ []) parts part → ⊥
past_last which of number all small few which_is of_is past parts part are =
    let within = are.of.within in
    let most = are.of.few in
    let one : number ≡ part + 1 =
    decimal_injective number (part + 1) (omega (arith, small)) (omega (arith, within, most)) (sym which_is ∙ ap first_word are.is) in
    let same : all ≡ parts =
    decimal_injective all parts (omega (arith, few)) (omega (arith, most))
    (sym of_is ∙ ap (λ (l : List (List ℕ)). first_word (behind_first l)) are.is) in
    omega (arith, one, same, past, within)

-- ---- the commands

-- `part` with two words of no part
pub cut_none : (words : List (List ℕ)) (command plan which of : List ℕ) → words ≡ command ∷ plan ∷ which ∷ of ∷ []
    → ((parts part : ℕ) → ArePart (which ∷ of ∷ []) parts part → ⊥) → (other : List ℕ) (parts part : ℕ) → AreCut words other parts part → ⊥
cut_none words command plan which of are none other parts part cut =
    none parts part (record {
      of = cut.of.of;
      is = ap (λ (l : List (List ℕ)). behind_first (behind_first l)) (sym are ∙ cut.is) ∙ cut.of.is;
    })

-- with another number of words
pub cut_short : (words : List (List ℕ)) (rest : List (String Global)) (command : List ℕ) → words ≡ command ∷ words_seen rest
    → (length rest ≡ 3 → ⊥) → (other : List ℕ) (parts part : ℕ) → AreCut words other parts part → ⊥
cut_short words rest command are short other parts part cut =
    short (omega (arith, as_many words rest command (codes "part") (other ∷ cut.last) are cut.is, ap (λ (l : List (List ℕ)). length l) cut.of.is))

-- `grade` with two words of no part
pub grade_none : (words : List (List ℕ)) (command program plan which of : List ℕ)
    → words ≡ command ∷ program ∷ plan ∷ which ∷ of ∷ [] → ((parts part : ℕ) → ArePart (which ∷ of ∷ []) parts part → ⊥)
    → (program' plan' : List ℕ) (parts part : ℕ) → AreGrade words program' plan' parts part → ⊥
grade_none words command program plan which of are none program' plan' parts part grade =
    none parts part (record {
      of = grade.of.of;
      is = ap (λ (l : List (List ℕ)). behind_first (behind_first (behind_first l))) (sym are ∙ grade.is) ∙ grade.of.is;
    })

-- with another number of words
pub grade_short : (words : List (List ℕ)) (rest : List (String Global)) (command : List ℕ) → words ≡ command ∷ words_seen rest
    → (length rest ≡ 4 → ⊥) → (program plan : List ℕ) (parts part : ℕ) → AreGrade words program plan parts part → ⊥
grade_short words rest command are short program plan parts part grade =
    short (omega (
      arith,
      as_many words rest command (codes "grade") (program ∷ plan ∷ grade.last) are grade.is,
      ap (λ (l : List (List ℕ)). length l) grade.of.is,
    ))

-- `parts` with another number of words
pub parts_short : (words : List (List ℕ)) (rest : List (String Global)) (command : List ℕ) → words ≡ command ∷ words_seen rest
    → (length rest ≡ 1 → ⊥) → (plan : List ℕ) → AreParts words plan → ⊥
parts_short words rest command are short plan is =
    short (omega (arith, as_many words rest command (codes "parts") (plan ∷ []) are is))

-- `merge` with a plan and files
pub merge_is : (words : List (List ℕ)) (rest files : List (String Global)) (a : String Global) (command plan : List ℕ)
    → words ≡ command ∷ words_seen rest → rest ≡ a ∷ files → plan ≡ string_bytes a → words ≡ command ∷ plan ∷ words_seen files
merge_is words rest files a command plan are split plan_is =
    are ∙ ap (λ (l : List (String Global)). command ∷ words_seen l) split
    ∙ ap (λ (w : List ℕ). command ∷ w ∷ words_seen files) (sym plan_is)

-- with no plan
pub merge_short : (words : List (List ℕ)) (rest : List (String Global)) (command : List ℕ) → words ≡ command ∷ words_seen rest
    → length rest ≡ 0 → (plan : List ℕ) (files : List (List ℕ)) → AreMerge words plan files → ⊥
merge_short words rest command are none plan files merge =
    omega (arith, as_many words rest command (codes "merge") (plan ∷ files) are merge.is, none)

-- with no files, or too many
pub merge_none : (words : List (List ℕ)) (rest files : List (String Global)) (a : String Global) (command : List ℕ)
    → words ≡ command ∷ words_seen rest → rest ≡ a ∷ files → ((0 < length files) × (length files ≤ most_parts) → ⊥)
    → (plan : List ℕ) (others : List (List ℕ)) → AreMerge words plan others → ⊥
merge_none words rest files a command are split none plan others merge =
    let same : length files ≡ length others =
    omega (arith, as_many words rest command (codes "merge") (plan ∷ others) are merge.is, ap (λ (l : List (String Global)). length l) split) in
    none (omega (arith, same, merge.some), omega (arith, same, merge.few))

-- `merge-grade` with no files, or too many
pub merge_grade_none : (words : List (List ℕ)) (files : List (String Global)) (command : List ℕ) → words ≡ command ∷ words_seen files
    → ((0 < length files) × (length files ≤ most_parts) → ⊥) → (others : List (List ℕ)) → AreMergeGrade words others → ⊥
merge_grade_none words files command are none others merge =
    let same : length files ≡ length others = as_many words files command (codes "merge-grade") others are merge.is in
    none (omega (arith, same, merge.some), omega (arith, same, merge.few))

-- as many files as words
pub files_long : (files : List (String Global)) → length (words_seen files) ≡ length files
files_long files = length-map files string_bytes
