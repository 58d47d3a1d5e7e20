-- The lines of a flat text: one behind another, blocks of them, and statements that say them.
use Rattle.std.proofs.Common.{◌≡◌, ℕ, List, [], ◌∷◌, ◌++◌, map, refl, sym, ap, ◌∙◌, append_assoc}
use Rattle.std.specs.Prelude.{codes}
use Rattle.std.specs.List.{AllByRecursion, flat_map}
use Rattle.std.proofs.lemmas.List.Concat.{flat_map-append}
use Rattle.stil_lex.specs.Pieces.{Piece}
use Rattle.line_texts.specs.Said.{Said, no_more, braced, each_said, next_line}
use Rattle.flat_parts.specs.FlatText.{block, text_of, with_feed}
use Rattle.flat_said.proofs.SaysLemmas.{Says, says_as, says_then, says_each, says_braced, says_line, Heads}

-- ---- lines

-- no lines
pub text_of-nil : text_of [] ≡ []
unfolding text_of
text_of-nil = refl

-- a line in front of others
pub text_of-cons : (line : List ℕ) (lines : List (List ℕ)) → text_of (line ∷ lines) ≡ with_feed line ++ text_of lines
unfolding text_of
text_of-cons line lines = refl

-- lines behind others
pub text_of-append : (xs ys : List (List ℕ)) → text_of (xs ++ ys) ≡ text_of xs ++ text_of ys
unfolding text_of
text_of-append xs ys = flat_map-append with_feed xs ys

-- the lines of each item of a list
pub text_of-flat : {X : Type 0} (lines : X → List (List ℕ)) (xs : List X)
    → text_of (flat_map lines xs) ≡ flat_map (λ x. text_of (lines x)) xs
text_of-flat lines [] = text_of-nil
text_of-flat lines (x ∷ xs) =
    text_of-append (lines x) (flat_map lines xs) ∙ ap (λ (ys : List ℕ). text_of (lines x) ++ ys) (text_of-flat lines xs)

-- a line of each item
pub text_of-map : {X : Type 0} (line : X → List ℕ) (xs : List X) → text_of (map line xs) ≡ flat_map (λ x. with_feed (line x)) xs
text_of-map line [] = text_of-nil
text_of-map line (x ∷ xs) =
    text_of-cons (line x) (map line xs) ∙ ap (λ (ys : List ℕ). with_feed (line x) ++ ys) (text_of-map line xs)

-- the text of a block
pub text_of-block : (opening : List ℕ) (lines : List (List ℕ))
    → text_of (block opening lines) ≡ with_feed opening ++ (text_of lines ++ with_feed (codes "}"))
unfolding block
text_of-block opening lines =
    text_of-cons opening (lines ++ codes "}" ∷ [])
    ∙ ap (λ (ys : List ℕ). with_feed opening ++ ys)
    (text_of-append lines (codes "}" ∷ [])
    ∙ ap (λ (ys : List ℕ). text_of lines ++ ys)
    (text_of-cons (codes "}") [] ∙ ap (λ (ys : List ℕ). with_feed (codes "}") ++ ys) text_of-nil))

-- ---- statements

-- a block over several lines says a block of the text
pub says_lines : {head : List Piece} {text : List ℕ} {body : Said → Said} (opening : List ℕ) (lines : List (List ℕ))
    → Heads head text → Says body (text_of lines) → opening ≡ text ++ 123 ∷ []
    → Says (λ more. braced head (next_line (body no_more)) (next_line more)) (text_of (block opening lines))
says_lines {head} {text} {body} opening lines h b is =
    let inner = 10 ∷ text_of lines in
    let whole : (text ++ (123 ∷ (inner ++ 125 ∷ []))) ++ 10 ∷ [] ≡ text_of (block opening lines) =
    append_assoc text (123 ∷ (inner ++ 125 ∷ [])) (10 ∷ [])
    ∙ ap (λ (ys : List ℕ). text ++ (123 ∷ 10 ∷ ys)) (append_assoc (text_of lines) (125 ∷ []) (10 ∷ []))
    ∙ sym (append_assoc text (123 ∷ []) (10 ∷ (text_of lines ++ 125 ∷ 10 ∷ [])))
    ∙ sym (append_assoc (text ++ 123 ∷ []) (10 ∷ []) (text_of lines ++ 125 ∷ 10 ∷ []))
    ∙ ap (λ (ys : List ℕ). with_feed ys ++ (text_of lines ++ 125 ∷ 10 ∷ [])) (sym is)
    ∙ sym (text_of-block opening lines) in
    says_as whole (says_then (says_braced h (says_then says_line b)) says_line)

-- the lines of the items of a list
pub says_line_each : {X : Type 0} (said : X → Said → Said) (line : X → List ℕ) (xs : List X)
    → AllByRecursion (λ x. Says (said x) (with_feed (line x))) xs → Says (each_said said xs) (text_of (map line xs))
says_line_each said line xs all = says_as (sym (text_of-map line xs)) (says_each said (λ x. with_feed (line x)) xs all)

pub says_lines_each : {X : Type 0} (said : X → Said → Said) (lines : X → List (List ℕ)) (xs : List X)
    → AllByRecursion (λ x. Says (said x) (text_of (lines x))) xs → Says (each_said said xs) (text_of (flat_map lines xs))
says_lines_each said lines xs all = says_as (sym (text_of-flat lines xs)) (says_each said (λ x. text_of (lines x)) xs all)
