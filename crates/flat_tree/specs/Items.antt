-- The steps of a flat tree one after another.
use Rattle.std.specs.Prelude.{◌≡◌, Option}
use Rattle.std.specs.Option.{MatchOption}
use Rattle.stil_ast.specs.Meaning.Flat.{Flat, done, table, character, back, cycle, repeat, save}
use Rattle.flat_tree.specs.declared.steps.FlatItem.{FlatItem}
use Rattle.flat_tree.specs.declared.steps.FlatItem.TheVariants.{Table, Character, Back, Cycle, Repeat, Save}

-- an item, and what stands behind it
abbrev pub item_front : FlatItem → Flat → Flat
item_front (Table t) rest = table t rest
item_front (Character signal c) rest = character signal c rest
item_front (Back signal) rest = back signal rest
item_front (Cycle mark place) rest = cycle mark place rest
item_front (Repeat count body) rest = repeat count body.now rest
item_front (Save putting body) rest = save putting body.now rest

-- the first item of what was left is given, or nothing was left
abbrev pub TakesItem : Flat → Option FlatItem → Flat → Type 0
TakesItem before given after =
    MatchOption given ((before ≡ done) × (after ≡ done)) (λ item. before ≡ item_front item after)
