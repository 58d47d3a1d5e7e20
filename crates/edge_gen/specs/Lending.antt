-- What is held once the moments that were lent are given back.
use Rattle.std.specs.Prelude.{◌≡◌, ℕ, List, Result, MatchResult, ⊤}
use Rattle.std.specs.Borrow.{Fml, MutBor, Bor, follows_so}
use mathlib.Core.Option.{none}
use Rattle.tester_types.specs.declared.cycle.Moment.{Moment}
use Rattle.edge_gen.specs.Held.{Held, asked}
use Rattle.edge_gen.specs.contracts.schedules.Schedules.{the_row}

-- the numbers were asked for, or nothing is changed
abbrev pub EndsAsked : {E : Type 0} → MutBor Held → ℕ × ℕ → List Moment → Result (Bor (List Moment)) E → Fml
EndsAsked held pair moments result =
    follows_so the_row the_row held.ghost_name none (λ _ _. ⊤)
    (λ last. MatchResult result (λ _. last ≡ asked held.now pair moments) (λ _. last ≡ held.now))
