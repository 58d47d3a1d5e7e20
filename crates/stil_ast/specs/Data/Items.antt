-- The items for which runs of data stand (IEEE 1450-1999, clause 21: `\r` repeats what stands behind it).
use Rattle.std.specs.Prelude.{ℕ, ◌==◌, ◌≤◌, not, List, [], ◌∷◌, ◌++◌, Option, None, option_map, replicate, sum_by, find, if◌then◌else◌}
use Rattle.std.specs.List.{All}
use Rattle.text_bytes.specs.Limits.{most_repeats}
use Rattle.stil_ast.specs.Meaning.Statements.{Item, a_character, hash, percent}
use Rattle.stil_ast.specs.declared.data.VecItem.{VecItem}
use Rattle.stil_ast.specs.declared.data.VecItem.TheVariants.{Character, Take, Peek}
use Rattle.stil_ast.specs.declared.data.ItemRun.{ItemRun}

-- an item as a contract sees it
abbrev pub item_of : VecItem → Item
item_of (Character c) = a_character c
item_of Take = hash
item_of Peek = percent

-- each run gives its item that often
abbrev pub items_of : List ItemRun → List Item
items_of [] = []
items_of (run ∷ runs) = replicate run.times (item_of run.item) ++ items_of runs

-- no run repeats its item more often than `\rN` may
abbrev pub KeepRepeats : List ItemRun → Type 0
KeepRepeats runs = All (λ (run : ItemRun). run.times ≤ most_repeats) runs

-- how many items runs stand for
abbrev pub run_length : List ItemRun → ℕ
run_length runs = sum_by (λ (run : ItemRun). run.times) runs

-- the first item of runs
abbrev pub first_item : List ItemRun → Option VecItem
first_item runs = option_map (λ (run : ItemRun). run.item) (find (λ (run : ItemRun). not (run.times == 0)) runs)

-- the one item that runs stand for, if they stand for one, as a lone `#` does
abbrev pub lone_item : List ItemRun → Option VecItem
lone_item runs = if run_length runs == 1 then first_item runs else None
