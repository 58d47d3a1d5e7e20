-- The words of a command, read one by one.
use Rattle.std.proofs.Common.{◌≡◌, ℕ, ◌<◌, ◌≤◌, true, false, List, [], ◌∷◌, length, get_or, nat_eq, sym, ap, ◌∙◌, arith, String, string_bytes}
use Rattle.std.specs.declared.alloc.Global.{Global}
use Rattle.std.specs.Cmp.Lexicographic.{pointwise, bytes_decides}
use Rattle.text_bytes.proofs.ListLemmas.{two_items, three_items, four_items}
use Rattle.stil_tool.specs.Offline.{words_seen}

-- two words, of which the first is this one
pub two_words : (words : List (String Global)) (a b : String Global) (command seen file : List ℕ) →
    2 ≤ length words → length words < 3 → a ≡ get_or words 0 a → b ≡ get_or words 1 b →
    seen ≡ string_bytes a → true ≡ pointwise nat_eq seen command → file ≡ string_bytes b →
    words_seen words ≡ command ∷ file ∷ []
two_words words a b command seen file least below first second seen_is same file_is =
    ap words_seen (two_items words a b least below first second)
    ∙ ap (λ w. w ∷ string_bytes b ∷ []) (sym seen_is ∙ (bytes_decides seen command).0 (sym same))
    ∙ ap (λ w. command ∷ w ∷ []) (sym file_is)

-- three words, of which the first is this one
pub three_words : (words : List (String Global)) (a b c : String Global) (command seen first_file second_file : List ℕ) →
    3 ≤ length words → length words < 4 → a ≡ get_or words 0 a → b ≡ get_or words 1 b → c ≡ get_or words 2 c →
    seen ≡ string_bytes a → true ≡ pointwise nat_eq seen command → first_file ≡ string_bytes b → second_file ≡ string_bytes c →
    words_seen words ≡ command ∷ first_file ∷ second_file ∷ []
three_words words a b c command seen first_file second_file least below first second third seen_is same first_is second_is =
    ap words_seen (three_items words a b c least below first second third)
    ∙ ap (λ w. w ∷ string_bytes b ∷ string_bytes c ∷ []) (sym seen_is ∙ (bytes_decides seen command).0 (sym same))
    ∙ ap (λ w. command ∷ w ∷ string_bytes c ∷ []) (sym first_is) ∙ ap (λ w. command ∷ first_file ∷ w ∷ []) (sym second_is)

-- four words, of which the first is this one
pub four_words : (words : List (String Global)) (a b c d : String Global) (command seen program plan last : List ℕ) →
    4 ≤ length words → length words < 5 → a ≡ get_or words 0 a → b ≡ get_or words 1 b → c ≡ get_or words 2 c →
    d ≡ get_or words 3 d → seen ≡ string_bytes a → true ≡ pointwise nat_eq seen command → program ≡ string_bytes b →
    plan ≡ string_bytes c → last ≡ string_bytes d → words_seen words ≡ command ∷ program ∷ plan ∷ last ∷ []
four_words words a b c d command seen program plan last least below first second third fourth seen_is same first_is second_is last_is =
    ap words_seen (four_items words a b c d least below first second third fourth)
    ∙ ap (λ w. w ∷ string_bytes b ∷ string_bytes c ∷ string_bytes d ∷ []) (sym seen_is ∙ (bytes_decides seen command).0 (sym same))
    ∙ ap (λ w. command ∷ w ∷ string_bytes c ∷ string_bytes d ∷ []) (sym first_is)
    ∙ ap (λ w. command ∷ program ∷ w ∷ string_bytes d ∷ []) (sym second_is)
    ∙ ap (λ w. command ∷ program ∷ plan ∷ w ∷ []) (sym last_is)

-- ---- words whose first is another

pub not_other : (words : List (String Global)) (a : String Global) (command seen : List ℕ) (more : List (List ℕ))
    → 0 < length words → a ≡ get_or words 0 a → seen ≡ string_bytes a → false ≡ pointwise nat_eq seen command
    → words_seen words ≡ command ∷ more → ⊥
not_other [] a command seen more least item seen_is differs are = omega (arith, least)
not_other (x ∷ words) a command seen more least item seen_is differs are =
    let same : seen ≡ command = seen_is ∙ ap string_bytes item ∙ ap (λ (l : List (List ℕ)). get_or l 0 []) are in
    let never : false ≡ true = differs ∙ (bytes_decides seen command).1 same in cc
