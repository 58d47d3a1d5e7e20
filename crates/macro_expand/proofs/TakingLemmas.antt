-- The signals that have a `#` in the V and C of a body, assignment by assignment.
use Rattle.std.proofs.Common.{◌≡◌, ℕ, List, [], ◌∷◌, ◌++◌, ap, sym, ◌∙◌, append_assoc}
use Rattle.stil_ast.specs.Meaning.Statements.{Item, Assign, Statements}
use Rattle.stil_ast.specs.Meaning.Dealing.{spread, takers}
use Rattle.stil_ast.specs.Meaning.Shift.{taking}
use Rattle.macro_expand.specs.Pairs.{Taker, paired, hashed_in}
use Rattle.macro_expand.proofs.PairLemmas.{takers_paired}

-- those of a V or a C in front of those behind it
pub taken_in_front : (now before : List ℕ) (assigns : List Assign) (rest : Statements) → now ≡ before ++ takers assigns
    → now ++ taking rest ≡ before ++ (takers assigns ++ taking rest)
taken_in_front now before assigns rest e =
    ap (λ xs. xs ++ taking rest) e ∙ append_assoc before (takers assigns) (taking rest)

-- those of an assignment, by its pairs
pub taken_of : (after before signals known : List ℕ) (items : List Item) (ts : List Taker) → signals ≡ known
    → ts ≡ paired signals (spread signals items) → after ≡ before ++ hashed_in ts
    → after ≡ before ++ takers (record { signals = known; items = items } ∷ [])
taken_of after before signals known items ts are pairs e =
    e ∙ ap (λ us. before ++ hashed_in us) pairs
    ∙ ap (λ xs. before ++ xs) (sym (takers_paired signals items))
    ∙ ap (λ (xs : List ℕ). before ++ takers (record { signals = xs; items = items } ∷ [])) are
