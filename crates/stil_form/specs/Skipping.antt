-- An index of words, and what is in it.
use Rattle.std.specs.Prelude.{ℕ, Bool, List, map}
use Rattle.std.specs.Borrow.{Bor}
use Rattle.std.specs.List.{list_any}
use Rattle.std.specs.Str.{bytes_eq}

-- words without where they lie in memory
abbrev pub words_of : List (Bor (List ℕ)) → List (List ℕ)
words_of words = map (λ (w : Bor (List ℕ)). w.now) words

-- a word is among these
abbrev pub is_listed : List (List ℕ) → List ℕ → Bool
is_listed words word = list_any (λ listed. bytes_eq listed word) words
