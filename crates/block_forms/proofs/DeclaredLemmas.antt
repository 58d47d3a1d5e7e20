-- What was declared after one more name.
use Rattle.std.proofs.Common.{◌≡◌, ℕ, ◌+◌, cond, ◌&&◌, ◌||◌, List, [], ◌∷◌, ◌++◌, Option, Some, unwrap_or, sym, ap, ◌∙◌, inl, inr, arith}
use Rattle.std.specs.Borrow.{Bor}
use Rattle.std.specs.Str.{bytes_eq}
use Rattle.std.proofs.lemmas.Bool.{cases_Bool}
use Rattle.std.proofs.lemmas.List.{map-append}
use Rattle.std.proofs.lemmas.List.Folds.{list_any-append}
use Rattle.std.proofs.lemmas.List.Sums.{sum_by_push}
use Rattle.std.proofs.lemmas.Slice.Eq.{bytes_eq-Decides}
use Rattle.std.proofs.Math.Bool.{or-false}
use Rattle.indexmap.specs.IndexMap.{IndexMap}
use Rattle.indexmap.specs.IndexSet.{IndexSet}
use Rattle.block_forms.specs.Heads.{is_declared, count_under}
use Rattle.block_forms.specs.Indices.{pairs_of, has_pair, count_in, IsIndexed}

-- nothing is added
plus_none : (n : ℕ) → n + 0 ≡ n
plus_none n = omega arith

-- a name is there where it was, or is the new one
is_declared-push : (declared : List (List ℕ × List ℕ)) (title called other name : List ℕ)
    → is_declared (declared ++ (title, called) ∷ []) other name
    ≡ (is_declared declared other name || (bytes_eq title other && bytes_eq called name))
is_declared-push declared title called other name =
    list_any-append (λ (d : List ℕ × List ℕ). bytes_eq d.0 other && bytes_eq d.1 name) declared ((title, called) ∷ [])
    ∙ ap (λ b. is_declared declared other name || b) (or-false (bytes_eq title other && bytes_eq called name))

-- one more is counted under its title
count_under-push : (declared : List (List ℕ × List ℕ)) (title called other : List ℕ)
    → count_under (declared ++ (title, called) ∷ []) other ≡ count_under declared other + cond (bytes_eq title other) 1 0
count_under-push declared title called other =
    sum_by_push (λ (d : List ℕ × List ℕ). cond (bytes_eq d.0 other) 1 0) declared (title, called)

-- the new count of a title, and the old ones of the others
pub count_more : (title other : List ℕ) (n : ℕ) (old : List ℕ → Option ℕ) → n ≡ unwrap_or (old title) 0
    → unwrap_or (cond (bytes_eq title other) (Some (n + 1)) (old other)) 0
    ≡ unwrap_or (old other) 0 + cond (bytes_eq title other) 1 0
count_more title other n old is =
    elim (cases_Bool (bytes_eq title other)) [
      | inl t ↦ let same : title ≡ other = (bytes_eq-Decides title other).0 t in
          ap (λ b. unwrap_or (cond b (Some (n + 1)) (old other)) 0) t
          ∙ ap (λ m. m + 1) (is ∙ ap (λ o. unwrap_or (old o) 0) same)
          ∙ sym (ap (λ b. unwrap_or (old other) 0 + cond {A = ℕ} b 1 0) t)
      | inr t ↦ ap (λ b. unwrap_or (cond b (Some (n + 1)) (old other)) 0) t
          ∙ sym (plus_none (unwrap_or (old other) 0))
          ∙ sym (ap (λ b. unwrap_or (old other) 0 + cond {A = ℕ} b 1 0) t)
    ]

-- an index and counts with one more name
pub indexed-push : {S R : Type 0} (pairs : List (Bor (List ℕ) × Bor (List ℕ))) (title called : Bor (List ℕ))
    (index new_index : IndexSet (Bor (List ℕ) × Bor (List ℕ)) S) (counts new_counts : IndexMap (Bor (List ℕ)) ℕ R)
    → IsIndexed (pairs_of pairs) index counts
    → ((other name : List ℕ) → has_pair new_index other name
    ≡ (has_pair index other name || (bytes_eq title.now other && bytes_eq called.now name)))
    → ((other : List ℕ) → count_in new_counts other ≡ count_in counts other + cond (bytes_eq title.now other) 1 0)
    → IsIndexed (pairs_of (pairs ++ (title, called) ∷ [])) new_index new_counts
indexed-push pairs title called index new_index counts new_counts was named counted =
    let more : pairs_of (pairs ++ (title, called) ∷ []) ≡ pairs_of pairs ++ (title.now, called.now) ∷ [] =
    map-append (λ (p : Bor (List ℕ) × Bor (List ℕ)). (p.0.now, p.1.now)) pairs ((title, called) ∷ []) in
    record {
      names = λ other name.
          named other name
          ∙ ap (λ b. b || (bytes_eq title.now other && bytes_eq called.now name)) (was.names other name)
          ∙ sym (is_declared-push (pairs_of pairs) title.now called.now other name)
          ∙ sym (ap (λ ps. is_declared ps other name) more);
      sums = λ other.
          counted other
          ∙ ap (λ n. n + cond (bytes_eq title.now other) 1 0) (was.sums other)
          ∙ sym (count_under-push (pairs_of pairs) title.now called.now other)
          ∙ sym (ap (λ ps. count_under ps other) more);
    }
