-- Bodies inside which a statement runs, as the code holds them.
use Rattle.std.proofs.Common.{◌≡◌, ◌||◌, List, [], ◌∷◌, refl, ap, map}
use Rattle.std.specs.List.{list_any}
use Rattle.stil_ast.specs.Meaning.Resolved.{Scope}
use Rattle.stil_ast.specs.Faults.PatternFaults.{same_callee}
use Rattle.macro_expand.specs.declared.standing.Callee.{Callee}
use Rattle.macro_expand.specs.Standings.{callee_in, is_one}

-- a body is among them where its number is
pub running-is : (sc : Scope) (c : Callee) (running : List Callee)
    → list_any (same_callee (callee_in sc c)) (map (callee_in sc) running) ≡ list_any (is_one c) running
running-is sc c [] = refl
running-is sc c (body ∷ running) = ap (λ b. is_one c body || b) (running-is sc c running)
