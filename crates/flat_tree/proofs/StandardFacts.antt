-- Known trees, and what the definitions must say of them.
use Rattle.std.proofs.Common.{◌≡◌, true, false, [], ◌∷◌, refl, arith}
use Rattle.stil_ast.specs.Data.Places.{of_pattern, Origin}
use Rattle.stil_ast.specs.Meaning.Flat.{Flat, done, table, character, back, cycle, repeat, save, measure}
use Rattle.flat_tree.specs.Lean.{sets_table, sets_signal, IsLean}
use Rattle.flat_tree.specs.Counts.{item_count}
use Rattle.flat_tree.specs.Slots.{slots_flat}
use Rattle.flat_tree.specs.Kept.{has_vector, kept}
use Rattle.flat_tree.specs.FlatCode.{marks, open_trees, innermost}
use Rattle.flat_tree.specs.declared.flat.Slot.TheVariants.{Table, Character, Back, Next}
use Rattle.flat_tree.specs.declared.flat.Whole.TheVariants.{Cycle}

-- the first line of a pattern
abbrev first_line : Origin
first_line = record { body = of_pattern; line = 1 }

-- a vector at the end
abbrev vector_last : Flat
vector_last = cycle 0 first_line done

-- items in running order, of which the vectors stand in a list of their own
in_order : slots_flat (Table 2 ∷ Next ∷ Character 49 0 ∷ Next ∷ Back 1 ∷ []) (Cycle 5 first_line ∷ Cycle 0 first_line ∷ [])
    ≡ table 2 (cycle 5 first_line (character 0 49 (cycle 0 first_line (back 1 done))))
in_order = refl

-- a signal is set ahead up to a vector, a loop or a save, and not behind it
set_up_to_vector : sets_signal 1 (table 0 (character 0 49 (back 1 vector_last))) ≡ true
set_up_to_vector = refl

-- behind a vector
not_behind_vector : sets_signal 1 (cycle 0 first_line (character 1 49 done)) ≡ false
not_behind_vector = refl

-- in or behind a loop
not_behind_loop : sets_signal 1 (repeat 3 (character 1 49 done) (character 1 49 done)) ≡ false
not_behind_loop = refl

-- in or behind a save
table_not_behind_save : sets_table (save true (table 0 done) (table 0 done)) ≡ false
table_not_behind_save = refl

-- a signal twice with a vector in between
twice_with_vector : IsLean 1 (character 0 49 (cycle 0 first_line (character 0 48 vector_last)))
twice_with_vector = (λ h. refl, (λ h. refl, tt))

-- a signal twice without one
twice_without_vector : IsLean 1 (character 0 49 (back 0 vector_last)) → true ≡ false
twice_without_vector lean = lean.0 (omega arith)

-- a tree is told apart by its marks
by_marks : innermost (open_trees (marks (save false (repeat 2 vector_last done) (table 0 done))))
    ≡ save false (repeat 2 vector_last done) (table 0 done)
by_marks = refl

-- a loop of a vector measures 4
loop_measure : measure (repeat 1000 vector_last done) ≡ 4
loop_measure = refl

-- bodies count as one item
two_items : item_count (save true (table 0 (table 1 done)) vector_last) ≡ 2
two_items = refl

-- a call without a vector leaves nothing, also where it is the last of calls in calls
call_leaves_nothing : kept (save true (table 0 (save true (character 0 49 done) done)) vector_last) ≡ vector_last
call_leaves_nothing = refl

-- its loops stay, nested as they are, without other content and without the saves in them
call_leaves_loops : kept (save true (table 0 (repeat 2 (back 0 (save false (repeat 3 done done) done)) done)) vector_last)
    ≡ repeat 2 (repeat 3 done done) vector_last
call_leaves_loops = refl

-- a call with a vector stays as it is, but for the calls in it that have none
call_with_vector : kept (save true (save true (table 0 done) (character 0 49 vector_last)) done)
    ≡ save true (character 0 49 vector_last) done
call_with_vector = refl

-- the passes of a Shift stay
shift_stays : kept (save false (table 0 done) vector_last) ≡ save false (table 0 done) vector_last
shift_stays = refl

-- a vector in a loop in a save is found
vector_at_depth : has_vector (save false (repeat 2 vector_last done) done) ≡ true
vector_at_depth = refl
