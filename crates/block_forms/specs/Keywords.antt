-- Keywords by tables: each row has a word, and what it stands for.
use Rattle.std.specs.Prelude.{ℕ, List, Option, option_map}
use Rattle.std.specs.Option.{option_and_then}
use Rattle.std.specs.List.{find}
use Rattle.stil_form.specs.Lexeme.{Lexeme}
use Rattle.stil_form.specs.Words.{is_keyword}
use Rattle.block_forms.specs.Heads.{first_lexeme, only_of}

-- what a token stands for: the first row of its word says it
abbrev pub meaning : {K : Type 0} → List (List ℕ × K) → Lexeme → Option K
meaning {K} words one =
    option_map (λ (row : List ℕ × K). row.1) (find (λ (row : List ℕ × K). is_keyword row.0 one) words)

-- what the first token of a head stands for
abbrev pub first_meaning : {K : Type 0} → List (List ℕ × K) → List Lexeme → Option K
first_meaning words head = option_and_then (meaning words) (first_lexeme head)

-- what the one token of a head stands for, if there is just one
abbrev pub only_meaning : {K : Type 0} → List (List ℕ × K) → List Lexeme → Option K
only_meaning words head = option_and_then (meaning words) (only_of head)
