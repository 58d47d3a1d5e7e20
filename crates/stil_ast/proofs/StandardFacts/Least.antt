-- How few instructions keep the loops of known trees over one signal.
use Rattle.std.proofs.Common.{◌≡◌, ℕ, zero, suc, true, false, [], ◌∷◌, Some, None, refl}
use Rattle.stil_ast.specs.Data.Places.{of_pattern}
use Rattle.stil_ast.specs.Meaning.State.{start_of}
use Rattle.stil_ast.specs.Meaning.Flat.{Flat, done, table, character, back, cycle, repeat, save}
use Rattle.stil_ast.specs.Meaning.Least.{same_vector}
use Rattle.stil_ast.specs.Meaning.ExecutiveData.{least_in}

-- those of a tree
abbrev least : Flat → ℕ
least flat = least_in (record { titles = record { pattern = []; macros = []; procedures = [] }; flat = flat } ∷ []) (start_of 1)

-- a vector of what has been set
abbrev vector : Flat → Flat
vector rest = cycle 0 (record { body = of_pattern; line = 1 }) rest

-- a vector of `1`
abbrev one_vector : Flat
one_vector = character 0 49 (vector done)

-- loops of two passes, so deep
abbrev nest : ℕ → Flat → Flat
nest zero body = body
nest (suc depth) body = repeat 2 (nest depth body) done

-- each loop takes two more
pub least_nested : (least (table 0 (nest 1 one_vector)) ≡ 3) × (least (table 0 (nest 2 one_vector)) ≡ 5)
    × (least (table 0 (nest 8 one_vector)) ≡ 17)
least_nested = (refl, refl, refl)

-- two vectors that put each other back
pub least_back : least (table 0 (repeat 1099511627776 (character 0 48 (vector one_vector)) done)) ≡ 4
least_back = refl

-- a first pass that differs in its character stands apart
pub least_late : least (table 0 (repeat 3 (vector (character 0 48 done)) done)) ≡ 4
least_late = refl

-- and so does one that differs in its table
pub least_table : least (table 0 (repeat 3 (vector (table 1 done)) done)) ≡ 4
least_table = refl

-- a procedure puts back what it sets behind its vector
pub least_saved : least (table 0 (repeat 3 (save true (vector (character 0 48 done)) done) done)) ≡ 3
least_saved = refl

-- what a signal had when the save began is what it has in the second pass
pub least_held : least (table 0 (character 0 49 (save false (repeat 3 (vector (back 0 done)) done) done))) ≡ 3
least_held = refl

-- in these nested loops all passes differ from those before them
pub least_differing : least (table 0 (repeat 2 (repeat 2 (vector (character 0 48 done)) (character 0 49 done)) done)) ≡ 10
least_differing = refl

-- one pass takes no loop, and no pass and no vector nothing
pub least_single : (least (table 0 (repeat 1 one_vector done)) ≡ 1) × (least (table 0 (repeat 0 one_vector done)) ≡ 0)
    × (least (table 0 (repeat 1099511627776 (character 0 48 done) one_vector)) ≡ 1)
least_single = (refl, refl, refl)

-- vectors differ in their tables, in a character and in their marks
pub differing : (same_vector (record { table = Some 1; characters = None ∷ Some 48 ∷ []; mark = 3 })
    (record { table = Some 1; characters = None ∷ Some 48 ∷ []; mark = 3 }) ≡ true)
    × (same_vector (record { table = None; characters = []; mark = 3 }) (record { table = Some 1; characters = []; mark = 3 }) ≡ false)
    × (same_vector (record { table = None; characters = None ∷ []; mark = 3 })
    (record { table = None; characters = Some 0 ∷ []; mark = 3 }) ≡ false)
    × (same_vector (record { table = None; characters = []; mark = 3 }) (record { table = None; characters = []; mark = 4 }) ≡ false)
differing = (refl, refl, refl, refl)
