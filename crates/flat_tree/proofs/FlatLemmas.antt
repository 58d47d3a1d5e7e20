-- How flat trees are joined, and what their items are in them.
use Rattle.std.proofs.Common.{◌≡◌, ◌+◌, ◌≤◌, refl, ap, sym, ◌∙◌, arith}
use Rattle.stil_ast.specs.Meaning.State.{State}
use Rattle.stil_ast.specs.Meaning.Running.{times}
use Rattle.stil_ast.specs.Meaning.Flat.{Flat, done, table, character, back, cycle, repeat, save, saved, flat_run, measure}
use Rattle.stil_ast.specs.Meaning.Least.{least_written}
use Rattle.stil_ast.specs.Meaning.Flattening.{joined}
use Rattle.flat_tree.specs.Counts.{body_count}
use Rattle.flat_tree.specs.Items.{item_front}
use Rattle.flat_tree.specs.declared.steps.FlatItem.{FlatItem}
use Rattle.flat_tree.specs.declared.steps.FlatItem.TheVariants.{Table, Character, Back, Cycle, Repeat, Save}

pub joined-assoc : (a b c : Flat) → joined (joined a b) c ≡ joined a (joined b c)
joined-assoc done b c = refl
joined-assoc (table t rest) b c = ap (table t) (joined-assoc rest b c)
joined-assoc (character signal x rest) b c = ap (character signal x) (joined-assoc rest b c)
joined-assoc (back signal rest) b c = ap (back signal) (joined-assoc rest b c)
joined-assoc (cycle mark spot rest) b c = ap (cycle mark spot) (joined-assoc rest b c)
joined-assoc (repeat count body rest) b c = ap (repeat count body) (joined-assoc rest b c)
joined-assoc (save putting body rest) b c = ap (save putting body) (joined-assoc rest b c)

pub joined-done : (a : Flat) → joined a done ≡ a
joined-done done = refl
joined-done (table t rest) = ap (table t) (joined-done rest)
joined-done (character signal x rest) = ap (character signal x) (joined-done rest)
joined-done (back signal rest) = ap (back signal) (joined-done rest)
joined-done (cycle mark spot rest) = ap (cycle mark spot) (joined-done rest)
joined-done (repeat count body rest) = ap (repeat count body) (joined-done rest)
joined-done (save putting body rest) = ap (save putting body) (joined-done rest)

pub measure-joined : (a b : Flat) → measure (joined a b) ≡ measure a + measure b
measure-joined done b = omega arith
measure-joined (table t rest) b = measure-joined rest b
measure-joined (character signal x rest) b = measure-joined rest b
measure-joined (back signal rest) b = measure-joined rest b
measure-joined (cycle mark spot rest) b = omega (arith, measure-joined rest b)
measure-joined (repeat count body rest) b = omega (arith, measure-joined rest b)
measure-joined (save putting body rest) b = omega (arith, measure-joined rest b)

pub least_written-joined : (a b : Flat) (base s : State)
    → least_written (joined a b) base s ≡ least_written a base s + least_written b base (flat_run a base s).here
least_written-joined done b base s = omega arith
least_written-joined (table t rest) b base s = least_written-joined rest b base _
least_written-joined (character signal x rest) b base s = least_written-joined rest b base _
least_written-joined (back signal rest) b base s = least_written-joined rest b base _
least_written-joined (cycle mark spot rest) b base s = omega (arith, least_written-joined rest b base s)
least_written-joined (repeat count body rest) b base s =
    omega (arith, least_written-joined rest b base (times count (flat_run body base) s).here)
least_written-joined (save putting body rest) b base s =
    omega (arith, least_written-joined rest b base (saved putting s (flat_run body s s)).here)

pub bodies-joined : (a b : Flat) → body_count (joined a b) ≡ body_count a + body_count b
bodies-joined done b = omega arith
bodies-joined (table t rest) b = bodies-joined rest b
bodies-joined (character signal x rest) b = bodies-joined rest b
bodies-joined (back signal rest) b = bodies-joined rest b
bodies-joined (cycle mark spot rest) b = bodies-joined rest b
bodies-joined (repeat count body rest) b = omega (arith, bodies-joined rest b)
bodies-joined (save putting body rest) b = omega (arith, bodies-joined rest b)

-- an item stands in front of what is joined to it
pub item_front-joined : (item : FlatItem) (a b : Flat) → joined (item_front item a) b ≡ item_front item (joined a b)
item_front-joined (Table t) a b = refl
item_front-joined (Character signal c) a b = refl
item_front-joined (Back signal) a b = refl
item_front-joined (Cycle mark place) a b = refl
item_front-joined (Repeat count body) a b = refl
item_front-joined (Save putting body) a b = refl

-- what an item begins has its bodies and those of the rest
pub item_bodies : (item : FlatItem) (rest : Flat)
    → body_count (item_front item rest) ≡ body_count (item_front item done) + body_count rest
item_bodies item rest =
    ap body_count (sym (item_front-joined item done rest)) ∙ bodies-joined (item_front item done) rest

-- a tree behind a front of it, with the next item in that front
pub front_more : (front left after all : Flat) (item : FlatItem) → joined front left ≡ all
    → left ≡ item_front item after → joined (joined front (item_front item done)) after ≡ all
front_more front left after all item e is =
    joined-assoc front (item_front item done) after
    ∙ (ap (joined front) (item_front-joined item done after ∙ sym is) ∙ e)

-- the next item has no more bodies than the tree
pub next_bodies : (front left after all : Flat) (item : FlatItem) → joined front left ≡ all
    → left ≡ item_front item after → body_count (item_front item done) ≤ body_count all
next_bodies front left after all item e is =
    omega (
      arith,
      ap body_count e,
      ap body_count is,
      bodies-joined front left,
      item_bodies item after,
    )
