-- Indices of what was declared.
use Rattle.std.specs.Prelude.{◌≡◌, ℕ, Bool, ◌&&◌, List, map, unwrap_or}
use Rattle.std.specs.Borrow.{Bor}
use Rattle.std.specs.List.{list_any}
use Rattle.std.specs.Str.{bytes_eq}
use Rattle.indexmap.specs.IndexMap.{IndexMap, get_by}
use Rattle.indexmap.specs.IndexSet.{IndexSet, keys}
use Rattle.block_forms.specs.Heads.{is_declared, count_under}

-- pairs without where they lie in memory
abbrev pub pairs_of : List (Bor (List ℕ) × Bor (List ℕ)) → List (List ℕ × List ℕ)
pairs_of pairs = map (λ (p : Bor (List ℕ) × Bor (List ℕ)). (p.0.now, p.1.now)) pairs

-- a name is kept under a title
abbrev pub has_pair : {S : Type 0} → IndexSet (Bor (List ℕ) × Bor (List ℕ)) S → List ℕ → List ℕ → Bool
has_pair index title called =
    list_any (λ (k : Bor (List ℕ) × Bor (List ℕ)). bytes_eq title k.0.now && bytes_eq called k.1.now) (keys index)

-- how many names are counted under a title
abbrev pub count_in : {S : Type 0} → IndexMap (Bor (List ℕ)) ℕ S → List ℕ → ℕ
count_in counts title = unwrap_or (get_by (λ (k : Bor (List ℕ)). bytes_eq title k.now) counts) 0

-- an index and counts are those of what was declared
pub record IsIndexed {S R : Type 0} (declared : List (List ℕ × List ℕ))
    (index : IndexSet (Bor (List ℕ) × Bor (List ℕ)) S) (counts : IndexMap (Bor (List ℕ)) ℕ R) : Type 0 where
  pub names : (title called : List ℕ) → has_pair index title called ≡ is_declared declared title called
  pub sums : (title : List ℕ) → count_in counts title ≡ count_under declared title
