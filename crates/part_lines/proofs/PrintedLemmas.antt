-- Whether a line is the one that pieces print.
use Rattle.std.proofs.Common.{◌≡◌, ◌==◌, ℕ, ◌+◌, ◌<◌, true, false, List, [], ◌∷◌, ◌++◌, length, take, drop, get_or, Option, Some, None, Bor, refl, sym, ap, subst, ◌∙◌, arith, append_assoc}
use Rattle.std.proofs.lemmas.Bool.{cond-false, eqb-true}
use Rattle.std.proofs.lemmas.List.{append_cancel_left, get_or_default}
use Rattle.std.specs.List.{list_all, flat_map}
use Rattle.std.specs.Option.{MatchOption}
use Rattle.tester_types.specs.Printing.{is_bare, quoted, printed_name}
use Rattle.tester_types.proofs.OutsideLemmas.{flat_map-split}
use Rattle.part_lines.proofs.LineLemmas.{same_tail}

-- what is asked of what stands behind a front
abbrev pub Behind : List ℕ → List ℕ → Option (Bor (List ℕ)) → Type 0
Behind text front r = MatchOption r ((rest : List ℕ) → text ≡ front ++ rest → ⊥) (λ x. text ≡ front ++ x.now)

-- a name in quotes: behind a quote and the name stands a quote
pub behind_quotes : (text inner closing name : List ℕ) (r : Option (Bor (List ℕ))) → text ≡ 34 ∷ inner → inner ≡ name ++ closing →
    Behind closing (34 ∷ []) r → Behind text (quoted name) r
behind_quotes text inner closing name None first second none =
    λ rest e. none rest (append_cancel_left name closing (34 ∷ rest)
    (sym second ∙ same_tail 34 34 inner ((name ++ 34 ∷ []) ++ rest) (sym first ∙ e) ∙ append_assoc name (34 ∷ []) rest))
behind_quotes text inner closing name (Some x) first second last =
    first ∙ ap (λ t. 34 ∷ t) (second ∙ ap (λ t. name ++ t) last ∙ sym (append_assoc name (34 ∷ []) x.now))

-- a name with other bytes is printed in quotes
pub printed_other : (name : List ℕ) → false ≡ list_all is_bare name → printed_name name ≡ quoted name
printed_other [] e = refl
printed_other (b ∷ name) e = cond-false _ _ _ (sym e)

-- so is the empty one
pub printed_empty : (name : List ℕ) → true ≡ (length name == 0) → printed_name name ≡ quoted name
printed_empty [] e = refl
printed_empty (b ∷ name) e = absurd (let zero = eqb-true (length (b ∷ name)) 0 (sym e) in omega arith)

-- what stands behind a name in quotes stands behind it as it is printed
pub behind_printed : (text name : List ℕ) (r : Option (Bor (List ℕ))) → printed_name name ≡ quoted name →
    Behind text (quoted name) r → Behind text (printed_name name) r
behind_printed text name r e h = subst (λ (shown : List ℕ). Behind text shown r) (sym e) h

-- where a piece doesn't stand next, the line isn't that of the pieces
pub piece_apart : {X : Type 0} (text : X → List ℕ) (line left : List ℕ) (items : List X) (i : ℕ) (d : X) → i < length items →
    line ≡ flat_map text (take i items) ++ left → ((rest : List ℕ) → left ≡ text (get_or items i d) ++ rest → ⊥) →
    line ≡ flat_map text items → ⊥
piece_apart text line left items i d within so_far none whole =
    let item = get_or items i d in
    none (flat_map text (drop (i + 1) items))
    (append_cancel_left (flat_map text (take i items)) left (text item ++ flat_map text (drop (i + 1) items))
    (sym so_far ∙ whole ∙ flat_map-split text items i item within (get_or_default items i d item within)))
