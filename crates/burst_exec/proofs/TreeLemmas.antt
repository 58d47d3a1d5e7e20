-- Trees and their titles side by side.
use Rattle.std.proofs.Common.{◌≡◌, ℕ, zero, suc, ◌+◌, List, [], ◌∷◌, ◌++◌, Option, Some, refl, sym, ap, ◌∙◌, length, map}
use Rattle.std.specs.Prelude.{slice_get, option_map}
use Rattle.std.proofs.lemmas.List.{length_push}
use Rattle.stil_ast.specs.Meaning.ExecutiveData.{Tree}
use Rattle.stil_ast.specs.Meaning.Flat.{Flat}
use Rattle.macro_expand.specs.Scopes.{titles_in}
use Rattle.macro_expand.specs.declared.scope.BlockTitles.{BlockTitles}
use Rattle.burst_exec.specs.Held.{trees_in, AreEven}

next_even : {A B : Type 0} (x : A) (y : B) (xs : List A) (ys : List B) → length (x ∷ xs) ≡ length (y ∷ ys)
    → length xs ≡ length ys
next_even x y xs ys e = cc

trees-push_at : (titles : List BlockTitles) (flats : List Flat) (t : BlockTitles) (f : Flat) → length titles ≡ length flats
    → trees_in (titles ++ t ∷ []) (flats ++ f ∷ []) ≡ trees_in titles flats ++ record { titles = titles_in t; flat = f } ∷ []
trees-push_at [] [] t f e = refl
trees-push_at [] (g ∷ flats) t f e = absurd cc
trees-push_at (s ∷ titles) [] t f e = absurd cc
trees-push_at (s ∷ titles) (g ∷ flats) t f e =
    ap (λ (ts : List Tree). record { titles = titles_in s; flat = g } ∷ ts) (trees-push_at titles flats t f (next_even s g titles flats e))

pub trees-push : (titles : List BlockTitles) (flats : List Flat) (t : BlockTitles) (f : Flat) → AreEven titles flats
    → trees_in (titles ++ t ∷ []) (flats ++ f ∷ []) ≡ trees_in titles flats ++ record { titles = titles_in t; flat = f } ∷ []
unfolding AreEven
trees-push titles flats t f e = trees-push_at titles flats t f e

pub even-push : (titles : List BlockTitles) (flats : List Flat) (t : BlockTitles) (f : Flat) → AreEven titles flats
    → AreEven (titles ++ t ∷ []) (flats ++ f ∷ [])
unfolding AreEven
even-push titles flats t f e = length_push titles t ∙ ap (λ (n : ℕ). n + 1) e ∙ sym (length_push flats f)

pub even-none : AreEven [] []
unfolding AreEven
even-none = refl

flats-in_at : (titles : List BlockTitles) (flats : List Flat) → length titles ≡ length flats
    → map (λ (t : Tree). t.flat) (trees_in titles flats) ≡ flats
flats-in_at [] [] e = refl
flats-in_at [] (g ∷ flats) e = absurd cc
flats-in_at (s ∷ titles) [] e = absurd cc
flats-in_at (s ∷ titles) (g ∷ flats) e = ap (λ (fs : List Flat). g ∷ fs) (flats-in_at titles flats (next_even s g titles flats e))

pub flats-in : (titles : List BlockTitles) (flats : List Flat) → AreEven titles flats
    → map (λ (t : Tree). t.flat) (trees_in titles flats) ≡ flats
unfolding AreEven
flats-in titles flats e = flats-in_at titles flats e

length-in_at : (titles : List BlockTitles) (flats : List Flat) → length titles ≡ length flats
    → length (trees_in titles flats) ≡ length flats
length-in_at [] [] e = refl
length-in_at [] (g ∷ flats) e = absurd cc
length-in_at (s ∷ titles) [] e = absurd cc
length-in_at (s ∷ titles) (g ∷ flats) e = ap suc (length-in_at titles flats (next_even s g titles flats e))

length-in : (titles : List BlockTitles) (flats : List Flat) → AreEven titles flats
    → length (trees_in titles flats) ≡ length flats
unfolding AreEven
length-in titles flats e = length-in_at titles flats e

titles-even : (titles : List BlockTitles) (flats : List Flat) → AreEven titles flats → length titles ≡ length flats
unfolding AreEven
titles-even titles flats e = e

pub count-in : (titles : List BlockTitles) (flats : List Flat) → AreEven titles flats
    → length (trees_in titles flats) ≡ length titles
count-in titles flats e = length-in titles flats e ∙ sym (titles-even titles flats e)

titles-at : (titles : List BlockTitles) (flats : List Flat) → length titles ≡ length flats → (n : ℕ) (t : BlockTitles)
    → slice_get titles n ≡ Some t
    → option_map (λ (t : Tree). t.titles) (slice_get (trees_in titles flats) n) ≡ Some (titles_in t)
titles-at [] flats e n t h = absurd cc
titles-at (s ∷ titles) [] e n t h = absurd cc
titles-at (s ∷ titles) (g ∷ flats) e zero t h = ap (λ (o : Option BlockTitles). option_map titles_in o) h
titles-at (s ∷ titles) (g ∷ flats) e (suc n) t h = titles-at titles flats (next_even s g titles flats e) n t h

pub titles-in : (titles : List BlockTitles) (flats : List Flat) → AreEven titles flats → (n : ℕ) (t : BlockTitles)
    → slice_get titles n ≡ Some t
    → option_map (λ (t : Tree). t.titles) (slice_get (trees_in titles flats) n) ≡ Some (titles_in t)
unfolding AreEven
titles-in titles flats e n t h = titles-at titles flats e n t h
