-- The passes of a loop: from the second one on all are alike.
use Rattle.std.proofs.Common.{◌≡◌, ◌++◌, ℕ, zero, suc, ap, refl, ◌∙◌}
use Rattle.stil_ast.specs.Meaning.State.{State}
use Rattle.stil_ast.specs.Meaning.Running.{Ran, behind, times}
use Rattle.cycle_comp.specs.Writing.{often}

-- so many passes that end where they began
pub times-steady : (n : ℕ) (f : State → Ran State) (s : State) → (f s).here ≡ s
    → times n f s ≡ record { made = often n (f s).made; here = s }
unfolding often
times-steady zero f s e = refl
times-steady (suc n) f s e =
    ap (λ (here : State). behind (f s).made (times n f here)) e ∙ ap (behind (f s).made) (times-steady n f s e)

-- where the second pass ends as the first one did, all further ones are like it
pub times-later : (n : ℕ) (f : State → Ran State) (s : State) → (f (f s).here).here ≡ (f s).here
    → times (suc n) f s ≡ record { made = (f s).made ++ often n (f (f s).here).made; here = (f s).here }
times-later n f s e = ap (behind (f s).made) (times-steady n f (f s).here e)
