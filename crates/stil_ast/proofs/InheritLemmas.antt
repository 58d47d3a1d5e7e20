-- A table that leads into no cycle is made of the tables that it inherits, each behind its own, and then of itself.
use Rattle.std.proofs.Common.{◌≡◌, ℕ, zero, suc, Bool, false, List, [], ◌∷◌, ◌++◌, refl, ap, ◌∙◌, length}
use Rattle.std.specs.List.{list_any, flat_map}
use Rattle.std.proofs.lemmas.Bool.{or_parts}
use Rattle.stil_ast.specs.Meaning.Tables.{inherited, goes_on, put_in, lineage}
use Rattle.stil_ast.specs.declared.timing.TableDecl.{TableDecl}

-- two functions that agree wherever a test fails give one list where it fails everywhere
flat_map-same : (test : ℕ → Bool) (f g : ℕ → List ℕ) → ((x : ℕ) → test x ≡ false → f x ≡ g x)
    → (xs : List ℕ) → list_any test xs ≡ false → flat_map f xs ≡ flat_map g xs
flat_map-same test f g same [] e = refl
flat_map-same test f g same (x ∷ xs) e =
    let parts = or_parts (test x) (list_any test xs) e in
    ap (λ (front : List ℕ). front ++ flat_map f xs) (same x parts.0)
    ∙ ap (λ (rest : List ℕ). g x ++ rest) (flat_map-same test f g same xs parts.1)

-- where one can't go on so often, one step more finds nothing more
put_in-deeper : (tables : List TableDecl) (depth table : ℕ) → goes_on tables depth table ≡ false
    → put_in tables depth table ≡ put_in tables (suc depth) table
put_in-deeper tables zero table e = cc
put_in-deeper tables (suc depth) table e =
    ap (λ (front : List ℕ). front ++ (table ∷ []))
    (flat_map-same (goes_on tables depth) (put_in tables depth) (put_in tables (suc depth)) (put_in-deeper tables depth) (inherited tables table) e)

lineage_within : (tables : List TableDecl) (depth table : ℕ) → goes_on tables depth table ≡ false
    → put_in tables depth table ≡ flat_map (put_in tables depth) (inherited tables table) ++ (table ∷ [])
lineage_within tables zero table e = cc
lineage_within tables (suc depth) table e = put_in-deeper tables (suc depth) table e

pub lineage_follows : (tables : List TableDecl) (table : ℕ) → goes_on tables (length tables) table ≡ false
    → lineage tables table ≡ flat_map (lineage tables) (inherited tables table) ++ (table ∷ [])
lineage_follows tables table e = lineage_within tables (length tables) table e
