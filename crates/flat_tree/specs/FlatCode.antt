-- Flat trees as a list of marks, from which they can be told apart.
use Rattle.std.specs.Prelude.{◌≡◌, ℕ, Bool, ◌⊎◌, List, [], ◌∷◌, ◌++◌, refl}
use Rattle.std.proofs.Common.{ap, sym, ◌∙◌, inl, inr, append_assoc, append-nil}
use Rattle.std.specs.Coded.{Coded, code_by, coded_list, coded×, coded⊎, coded_ℕ, coded_bool}
use Rattle.stil_ast.specs.Data.Places.{Body, of_pattern, of_macro, of_procedure, Origin}
use Rattle.stil_ast.specs.Meaning.Flat.{Flat, done, table, character, back, cycle, repeat, save}

-- an item without others in it, the head of a loop, the head of a save, or the end of such a body
pub data Mark : Type 0 where
  at_table : ℕ → Mark
  at_character : ℕ → ℕ → Mark
  at_back : ℕ → Mark
  at_cycle : ℕ → Origin → Mark
  opens_loop : ℕ → Mark
  opens_save : Bool → Mark
  ends : Mark

-- a kind of body as a number
abbrev pub number_of : Body → ℕ ⊎ (ℕ ⊎ ℕ)
number_of of_pattern = inl 0
number_of of_macro = inr (inl 0)
number_of of_procedure = inr (inr 0)

-- the kind of body of that number
abbrev pub numbered : ℕ ⊎ (ℕ ⊎ ℕ) → Body
numbered (inl n) = of_pattern
numbered (inr (inl n)) = of_macro
numbered (inr (inr n)) = of_procedure

-- nothing is lost
pub numbered-number_of : (b : Body) → numbered (number_of b) ≡ b
numbered-number_of of_pattern = refl
numbered-number_of of_macro = refl
numbered-number_of of_procedure = refl

-- a kind of body is stored as its number
abbrev pub body_code : Coded Body
body_code =
    code_by (ℕ ⊎ (ℕ ⊎ ℕ)) (coded⊎ coded_ℕ (coded⊎ coded_ℕ coded_ℕ)) number_of numbered numbered-number_of

-- a place is stored as its parts
abbrev pub origin_code : Coded Origin
origin_code =
    code_by (Body × ℕ) (coded× body_code coded_ℕ)
    (λ p. (p.body, p.line)) (λ p. record { body = p.0; line = p.1 }) (λ _. refl)

-- a mark as numbers
abbrev pub Parts : Type 0
Parts = ℕ ⊎ ((ℕ × ℕ) ⊎ (ℕ ⊎ ((ℕ × Origin) ⊎ (ℕ ⊎ (Bool ⊎ ℕ)))))

-- the numbers of a mark
abbrev pub mark_to : Mark → Parts
mark_to (at_table t) = inl t
mark_to (at_character signal c) = inr (inl (signal, c))
mark_to (at_back signal) = inr (inr (inl signal))
mark_to (at_cycle mark spot) = inr (inr (inr (inl (mark, spot))))
mark_to (opens_loop count) = inr (inr (inr (inr (inl count))))
mark_to (opens_save putting) = inr (inr (inr (inr (inr (inl putting)))))
mark_to ends = inr (inr (inr (inr (inr (inr 0)))))

-- the mark of those
abbrev pub mark_from : Parts → Mark
mark_from (inl t) = at_table t
mark_from (inr (inl p)) = at_character p.0 p.1
mark_from (inr (inr (inl signal))) = at_back signal
mark_from (inr (inr (inr (inl p)))) = at_cycle p.0 p.1
mark_from (inr (inr (inr (inr (inl count))))) = opens_loop count
mark_from (inr (inr (inr (inr (inr (inl putting)))))) = opens_save putting
mark_from (inr (inr (inr (inr (inr (inr n)))))) = ends

-- nothing is lost
pub mark_from-mark_to : (m : Mark) → mark_from (mark_to m) ≡ m
mark_from-mark_to (at_table t) = refl
mark_from-mark_to (at_character signal c) = refl
mark_from-mark_to (at_back signal) = refl
mark_from-mark_to (at_cycle mark spot) = refl
mark_from-mark_to (opens_loop count) = refl
mark_from-mark_to (opens_save putting) = refl
mark_from-mark_to ends = refl

-- a mark is stored as its numbers
abbrev pub mark_code : Coded Mark
mark_code =
    code_by Parts
    (coded⊎ coded_ℕ (coded⊎ (coded× coded_ℕ coded_ℕ)
    (coded⊎ coded_ℕ (coded⊎ (coded× coded_ℕ origin_code) (coded⊎ coded_ℕ (coded⊎ coded_bool coded_ℕ))))))
    mark_to mark_from mark_from-mark_to

-- the marks of a flat tree
abbrev pub marks : Flat → List Mark
marks done = []
marks (table t rest) = at_table t ∷ marks rest
marks (character signal c rest) = at_character signal c ∷ marks rest
marks (back signal rest) = at_back signal ∷ marks rest
marks (cycle mark spot rest) = at_cycle mark spot ∷ marks rest
marks (repeat count body rest) = opens_loop count ∷ (marks body ++ (ends ∷ marks rest))
marks (save putting body rest) = opens_save putting ∷ (marks body ++ (ends ∷ marks rest))

-- what an item does in front of the innermost of the trees that are open behind it
abbrev pub in_innermost : (Flat → Flat) → List Flat → List Flat
in_innermost front [] = []
in_innermost front (rest ∷ more) = front rest ∷ more

-- what the head of a body does: the innermost is its body, the next one stands behind it
abbrev pub closed_by : (Flat → Flat → Flat) → List Flat → List Flat
closed_by front [] = []
closed_by front (body ∷ []) = []
closed_by front (body ∷ rest ∷ more) = front body rest ∷ more

-- the trees that are open in front of marks, the innermost first
abbrev pub open_trees : List Mark → List Flat
open_trees [] = done ∷ []
open_trees (at_table t ∷ more) = in_innermost (table t) (open_trees more)
open_trees (at_character signal c ∷ more) = in_innermost (character signal c) (open_trees more)
open_trees (at_back signal ∷ more) = in_innermost (back signal) (open_trees more)
open_trees (at_cycle mark spot ∷ more) = in_innermost (cycle mark spot) (open_trees more)
open_trees (opens_loop count ∷ more) = closed_by (repeat count) (open_trees more)
open_trees (opens_save putting ∷ more) = closed_by (save putting) (open_trees more)
open_trees (ends ∷ more) = done ∷ open_trees more

-- the innermost open tree
abbrev pub innermost : List Flat → Flat
innermost [] = done
innermost (f ∷ more) = f

-- marks in front of the end of a body are read as the tree that they came from
pub open_trees-marks : (f : Flat) (after : List Mark) (more : List Flat)
    → open_trees after ≡ done ∷ more → open_trees (marks f ++ after) ≡ f ∷ more
open_trees-marks done after more e = e
open_trees-marks (table t rest) after more e = ap (in_innermost (table t)) (open_trees-marks rest after more e)
open_trees-marks (character signal c rest) after more e =
    ap (in_innermost (character signal c)) (open_trees-marks rest after more e)
open_trees-marks (back signal rest) after more e = ap (in_innermost (back signal)) (open_trees-marks rest after more e)
open_trees-marks (cycle mark spot rest) after more e =
    ap (in_innermost (cycle mark spot)) (open_trees-marks rest after more e)
open_trees-marks (repeat count body rest) after more e =
    ap (λ (ms : List Mark). closed_by (repeat count) (open_trees ms))
    (append_assoc (marks body) (ends ∷ marks rest) after)
    ∙ ap (closed_by (repeat count))
    (open_trees-marks body (ends ∷ (marks rest ++ after)) (rest ∷ more)
    (ap (λ (fs : List Flat). done ∷ fs) (open_trees-marks rest after more e)))
open_trees-marks (save putting body rest) after more e =
    ap (λ (ms : List Mark). closed_by (save putting) (open_trees ms))
    (append_assoc (marks body) (ends ∷ marks rest) after)
    ∙ ap (closed_by (save putting))
    (open_trees-marks body (ends ∷ (marks rest ++ after)) (rest ∷ more)
    (ap (λ (fs : List Flat). done ∷ fs) (open_trees-marks rest after more e)))

-- marks are read as the tree that they came from
pub innermost-marks : (f : Flat) → innermost (open_trees (marks f)) ≡ f
innermost-marks f =
    ap (λ (ms : List Mark). innermost (open_trees ms)) (sym (append-nil (marks f)))
    ∙ ap innermost (open_trees-marks f [] [] refl)

-- flat trees are stored as their marks
abbrev pub flat_code : Coded Flat
flat_code = code_by (List Mark) (coded_list mark_code) marks (λ ms. innermost (open_trees ms)) innermost-marks
