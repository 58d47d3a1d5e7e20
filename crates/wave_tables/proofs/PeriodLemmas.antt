-- The periods of tables, which are judged one after another.
use Rattle.std.proofs.Common.{◌≡◌, ℕ, ◌+◌, ◌<◌, List, [], ◌∷◌, ◌++◌, length, get_or, map, ap, ◌∙◌, arith}
use Rattle.std.proofs.lemmas.List.{map-append, length-map, get_or-map}
use Rattle.stil_ast.specs.Data.Texts.{upwards}
use Rattle.stil_ast.specs.Faults.TableFaults.{Timed}
use Rattle.stil_ast.proofs.FormLemmas.{get_or-upwards, length-upwards}
use Rattle.expr_text.specs.Ratio.{Ratio}
use Rattle.wave_tables.specs.Check.{period_at, periods_in}
use Rattle.wave_tables.proofs.RowLemmas.{upwards_more}

from_zero : (n : ℕ) → 0 + n ≡ n
from_zero n = omega arith

-- those of so many tables, and one more
pub periods_more : (t : Timed Ratio) (count : ℕ)
    → map (period_at t) (upwards 0 (count + 1)) ≡ map (period_at t) (upwards 0 count) ++ period_at t count ∷ []
periods_more t count =
    ap (map (period_at t)) (upwards_more 0 count)
    ∙ map-append (period_at t) (upwards 0 count) ((0 + count) ∷ [])
    ∙ ap (λ (n : ℕ). map (period_at t) (upwards 0 count) ++ period_at t n ∷ []) (from_zero count)

-- there are as many as tables
pub periods_long : (t : Timed Ratio) (periods : List ℕ) → periods ≡ periods_in t → length periods ≡ length t.tables
periods_long t periods are =
    ap length are ∙ length-map (upwards 0 (length t.tables)) (period_at t) ∙ length-upwards 0 (length t.tables)

-- each is that of its table
pub period_there : (t : Timed Ratio) (periods : List ℕ) (k d : ℕ) → periods ≡ periods_in t → k < length t.tables
    → get_or periods k d ≡ period_at t k
period_there t periods k d are within =
    let among : k < length (upwards 0 (length t.tables)) = omega (arith, within, length-upwards 0 (length t.tables)) in
    ap (λ (l : List ℕ). get_or l k d) are
    ∙ get_or-map (period_at t) (upwards 0 (length t.tables)) k 0 d among
    ∙ ap (period_at t) (get_or-upwards 0 (length t.tables) k within ∙ from_zero k)
