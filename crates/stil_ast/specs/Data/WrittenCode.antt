-- Statements as a list of marks, from which they can be told apart.
use Rattle.std.specs.Prelude.{◌≡◌, ℕ, ◌⊎◌, List, [], ◌∷◌, ◌++◌, refl}
use Rattle.std.proofs.Common.{ap, sym, ◌∙◌, inl, inr, append_assoc, append-nil}
use Rattle.std.specs.Coded.{Coded, code_by, coded_list, coded×, coded⊎, coded_ℕ}
use Rattle.stil_ast.specs.Data.Written.{Written, no_more, single, looped, shifted}
use Rattle.stil_ast.specs.declared.body.Step.{Step}

-- a statement, the head of a Loop, the head of a Shift, or the end of such a body
pub data Mark : Type 0 where
  one : ℕ → Step → Mark
  opens_loop : ℕ → ℕ → Mark
  opens_shift : ℕ → Mark
  ends : Mark

-- a mark as numbers and statements
abbrev pub mark_to : Mark → (ℕ × Step) ⊎ ((ℕ × ℕ) ⊎ (ℕ ⊎ ℕ))
mark_to (one line plain) = inl (line, plain)
mark_to (opens_loop line times) = inr (inl (line, times))
mark_to (opens_shift line) = inr (inr (inl line))
mark_to ends = inr (inr (inr 0))

-- the mark of those
abbrev pub mark_from : (ℕ × Step) ⊎ ((ℕ × ℕ) ⊎ (ℕ ⊎ ℕ)) → Mark
mark_from (inl p) = one p.0 p.1
mark_from (inr (inl p)) = opens_loop p.0 p.1
mark_from (inr (inr (inl line))) = opens_shift line
mark_from (inr (inr (inr n))) = ends

-- nothing is lost
pub mark_from-mark_to : (m : Mark) → mark_from (mark_to m) ≡ m
mark_from-mark_to (one line plain) = refl
mark_from-mark_to (opens_loop line times) = refl
mark_from-mark_to (opens_shift line) = refl
mark_from-mark_to ends = refl

-- the marks of statements
abbrev pub marks : Written → List Mark
marks no_more = []
marks (single line plain rest) = one line plain ∷ marks rest
marks (looped line times body rest) = opens_loop line times ∷ (marks body ++ (ends ∷ marks rest))
marks (shifted line body rest) = opens_shift line ∷ (marks body ++ (ends ∷ marks rest))

-- the statements of each body that is open at a mark, the innermost first
abbrev pub behind_one : ℕ → Step → List Written → List Written
behind_one line plain [] = []
behind_one line plain (rest ∷ more) = single line plain rest ∷ more

-- the same at the head of a Loop
abbrev pub behind_loop : ℕ → ℕ → List Written → List Written
behind_loop line times [] = []
behind_loop line times (body ∷ []) = []
behind_loop line times (body ∷ rest ∷ more) = looped line times body rest ∷ more

-- the same at the head of a Shift
abbrev pub behind_shift : ℕ → List Written → List Written
behind_shift line [] = []
behind_shift line (body ∷ []) = []
behind_shift line (body ∷ rest ∷ more) = shifted line body rest ∷ more

-- the bodies that are open in front of marks
abbrev pub open_bodies : List Mark → List Written
open_bodies [] = no_more ∷ []
open_bodies (one line plain ∷ more) = behind_one line plain (open_bodies more)
open_bodies (opens_loop line times ∷ more) = behind_loop line times (open_bodies more)
open_bodies (opens_shift line ∷ more) = behind_shift line (open_bodies more)
open_bodies (ends ∷ more) = no_more ∷ open_bodies more

-- the innermost open body
abbrev pub innermost : List Written → Written
innermost [] = no_more
innermost (w ∷ more) = w

-- in front of the end of a body, marks are read as the statements that they came from
pub open_bodies-marks : (w : Written) (after : List Mark) (more : List Written)
    → open_bodies after ≡ no_more ∷ more → open_bodies (marks w ++ after) ≡ w ∷ more
open_bodies-marks no_more after more e = e
open_bodies-marks (single line plain rest) after more e =
    ap (behind_one line plain) (open_bodies-marks rest after more e)
open_bodies-marks (looped line times body rest) after more e =
    ap (λ (ms : List Mark). behind_loop line times (open_bodies ms))
    (append_assoc (marks body) (ends ∷ marks rest) after)
    ∙ ap (behind_loop line times)
    (open_bodies-marks body (ends ∷ (marks rest ++ after)) (rest ∷ more)
    (ap (λ (ws : List Written). no_more ∷ ws) (open_bodies-marks rest after more e)))
open_bodies-marks (shifted line body rest) after more e =
    ap (λ (ms : List Mark). behind_shift line (open_bodies ms)) (append_assoc (marks body) (ends ∷ marks rest) after)
    ∙ ap (behind_shift line)
    (open_bodies-marks body (ends ∷ (marks rest ++ after)) (rest ∷ more)
    (ap (λ (ws : List Written). no_more ∷ ws) (open_bodies-marks rest after more e)))

-- marks are read as the statements that they came from
pub innermost-marks : (w : Written) → innermost (open_bodies (marks w)) ≡ w
innermost-marks w =
    ap (λ (ms : List Mark). innermost (open_bodies ms)) (sym (append-nil (marks w)))
    ∙ ap innermost (open_bodies-marks w [] [] refl)

-- statements are stored as their marks
abbrev pub written_code : Coded Step → Coded Written
written_code plain =
    code_by (List Mark) (coded_list (code_by ((ℕ × Step) ⊎ ((ℕ × ℕ) ⊎ (ℕ ⊎ ℕ)))
    (coded⊎ (coded× coded_ℕ plain) (coded⊎ (coded× coded_ℕ coded_ℕ) (coded⊎ coded_ℕ coded_ℕ))) mark_to mark_from
    mark_from-mark_to))
    marks (λ ms. innermost (open_bodies ms)) innermost-marks
