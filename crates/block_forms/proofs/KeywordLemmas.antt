-- What a word stands for is found by its row, wherever the rows lie in memory.
use Rattle.std.proofs.Common.{◌≡◌, ℕ, Bool, true, false, cond, List, [], ◌∷◌, Option, Some, map, option_map, refl, ap, ◌∙◌}
use Rattle.std.specs.Borrow.{Bor}
use Rattle.std.specs.List.{find}
use Rattle.stil_form.specs.Lexeme.{Lexeme}
use Rattle.stil_form.specs.Words.{is_keyword}
use Rattle.block_forms.specs.Keywords.{meaning}

-- the first row of a word, or a later one
found : {R S K : Type 0} (b : Bool) (row : R) (other : Option R) (kept : S) (later : Option S) (says : R → K) (tells : S → K)
    → says row ≡ tells kept → option_map says other ≡ option_map tells later
    → option_map says (cond b (Some row) other) ≡ option_map tells (cond b (Some kept) later)
found true row other kept later says tells one more = ap Some one
found false row other kept later says tells one more = more

-- what a word stands for, by the row that is found
pub by_rows : {K : Type 0} (words : List (Bor (List ℕ) × K)) (one : Lexeme)
    → option_map (λ (row : Bor (List ℕ) × K). row.1) (find (λ (row : Bor (List ℕ) × K). is_keyword row.0.now one) words)
    ≡ meaning (map (λ (row : Bor (List ℕ) × K). (row.0.now, row.1)) words) one
by_rows [] one = refl
by_rows {K} (row ∷ rows) one =
    found (is_keyword row.0.now one) row (find (λ (r : Bor (List ℕ) × K). is_keyword r.0.now one) rows) (row.0.now, row.1)
    (find (λ (r : List ℕ × K). is_keyword r.0 one) (map (λ (r : Bor (List ℕ) × K). (r.0.now, r.1)) rows))
    (λ (r : Bor (List ℕ) × K). r.1) (λ (r : List ℕ × K). r.1) refl (by_rows rows one)

-- what the row says that was found
pub by_found : {K : Type 0} (words : List (Bor (List ℕ) × K)) (one : Lexeme) (row : Option (Bor (List ℕ) × K))
    → row ≡ find (λ (r : Bor (List ℕ) × K). is_keyword r.0.now one) words
    → option_map (λ (r : Bor (List ℕ) × K). r.1) row ≡ meaning (map (λ (r : Bor (List ℕ) × K). (r.0.now, r.1)) words) one
by_found {K} words one row is = ap (option_map (λ (r : Bor (List ℕ) × K). r.1)) is ∙ by_rows words one
