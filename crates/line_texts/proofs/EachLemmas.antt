-- Statements one after another, those of an item of a list behind those of another.
use Rattle.std.proofs.Common.{◌≡◌, ℕ, ◌+◌, List, [], ◌∷◌, ◌++◌, refl, sym, ap, subst, ◌∙◌, append_assoc, arith}
use Rattle.std.specs.List.{flat_map}
use Rattle.std.specs.Prelude.{◌*◌, length}
use Rattle.std.proofs.lemmas.List.Concat.{flat_map-cons}
use Rattle.stil_lex.specs.Pieces.{Piece}
use Rattle.stil_lex.specs.Tokens.{spelled, ArePieces}
use Rattle.line_texts.specs.Said.{Said, pieces_of, count_of, each_said}
use Rattle.line_texts.specs.Tests.{fits}
use Rattle.line_texts.proofs.PieceLemmas.{spelled-append, ArePieces-append}
use Rattle.line_texts.proofs.TreeLemmas.{count_of-append}

-- the pieces of the items one after another
pub pieces_each : {X : Type 0} (said : X → Said → Said) (of : X → List Piece)
    → ((x : X) (more : Said) → pieces_of (said x more) ≡ of x ++ pieces_of more) → (xs : List X) (more : Said)
    → pieces_of (each_said said xs more) ≡ flat_map of xs ++ pieces_of more
pieces_each said of one [] more = refl
pieces_each said of one (x ∷ xs) more =
    one x (each_said said xs more) ∙ ap (λ ps. of x ++ ps) (pieces_each said of one xs more)
    ∙ sym (ap (λ ps. ps ++ pieces_of more) (flat_map-cons of x xs) ∙ append_assoc (of x) (flat_map of xs) (pieces_of more))

-- the text of the items is their texts one after another
pub spelled_each : {X : Type 0} (of : X → List Piece) (line : X → List ℕ) → ((x : X) → spelled (of x) ≡ line x)
    → (xs : List X) → spelled (flat_map of xs) ≡ flat_map line xs
spelled_each of line one [] = refl
spelled_each of line one (x ∷ xs) =
    ap spelled (flat_map-cons of x xs) ∙ spelled-append (of x) (flat_map of xs)
    ∙ ap (λ ys. ys ++ spelled (flat_map of xs)) (one x) ∙ ap (λ ys. line x ++ ys) (spelled_each of line one xs)
    ∙ sym (flat_map-cons line x xs)

-- the pieces of the items are pieces, where those of each are before any text
pub ArePieces_each : {X : Type 0} (of : X → List Piece) → ((x : X) (after : List ℕ) → ArePieces (of x) after)
    → (xs : List X) (after : List ℕ) → ArePieces (flat_map of xs) after
ArePieces_each of one [] after = tt
ArePieces_each of one (x ∷ xs) after =
    subst (λ (ps : List Piece). ArePieces ps after) (sym (flat_map-cons of x xs))
    (ArePieces-append (of x) (flat_map of xs) after (one x (spelled (flat_map of xs) ++ after)) (ArePieces_each of one xs after))

-- items with so many tokens each
pub count_each : {X : Type 0} (of : X → List Piece) (count : ℕ) → ((x : X) → count_of (of x) ≡ count) → (xs : List X)
    → count_of (flat_map of xs) ≡ length xs * count
count_each of count one [] = omega arith
count_each of count one (x ∷ xs) =
    ap count_of (flat_map-cons of x xs) ∙ count_of-append (of x) (flat_map of xs)
    ∙ omega (arith, one x, count_each of count one xs)

-- items that fit, one after another
pub fits_each : {X : Type 0} (said : X → Said → Said) (depth : ℕ)
    → ((x : X) (more : Said) → fits depth (said x more) ≡ fits depth more) → (xs : List X) (more : Said)
    → fits depth (each_said said xs more) ≡ fits depth more
fits_each said depth one [] more = refl
fits_each said depth one (x ∷ xs) more = one x (each_said said xs more) ∙ fits_each said depth one xs more
