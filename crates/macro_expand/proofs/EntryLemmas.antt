-- The characters of runs of data are those of one run after another.
use Rattle.std.proofs.Common.{◌≡◌, ℕ, zero, suc, List, [], ◌∷◌, ◌++◌, refl, ap, ◌∙◌, replicate}
use Rattle.stil_ast.specs.Data.Items.{item_of, items_of}
use Rattle.stil_ast.specs.Meaning.Arguments.{Entry, given, entries_of}
use Rattle.stil_ast.specs.Meaning.Statements.{Item, a_character, hash, percent}
use Rattle.stil_ast.specs.declared.data.ItemRun.{ItemRun}
use Rattle.stil_ast.proofs.ItemLemmas.{items_of-more}

entries_of-append : (xs ys : List Item) → entries_of (xs ++ ys) ≡ entries_of xs ++ entries_of ys
entries_of-append [] ys = refl
entries_of-append (a_character c ∷ xs) ys = ap (λ (es : List Entry). given c ∷ es) (entries_of-append xs ys)
entries_of-append (hash ∷ xs) ys = entries_of-append xs ys
entries_of-append (percent ∷ xs) ys = entries_of-append xs ys

-- a run of a character
pub entries_of-characters : (n c : ℕ) → entries_of (replicate n (a_character c)) ≡ replicate n (given c)
entries_of-characters zero c = refl
entries_of-characters (suc n) c = ap (λ (es : List Entry). given c ∷ es) (entries_of-characters n c)

-- runs of what is no character
pub entries_of-hashes : (n : ℕ) → entries_of (replicate n hash) ≡ []
entries_of-hashes zero = refl
entries_of-hashes (suc n) = entries_of-hashes n

pub entries_of-percents : (n : ℕ) → entries_of (replicate n percent) ≡ []
entries_of-percents zero = refl
entries_of-percents (suc n) = entries_of-percents n

-- the characters of one run more
pub entries-more : (runs : List ItemRun) (run : ItemRun)
    → entries_of (items_of (runs ++ run ∷ []))
    ≡ entries_of (items_of runs) ++ entries_of (replicate run.times (item_of run.item))
entries-more runs run =
    ap entries_of (items_of-more runs run) ∙ entries_of-append (items_of runs) (replicate run.times (item_of run.item))
