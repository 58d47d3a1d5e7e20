use Rattle.std.proofs.Common.{◌≡◌, ℕ, Option, map, take}
use Rattle.std.specs.Prelude.{unwrap_or}
use Rattle.cycle_comp.proofs.state.row_of.Given as goal

abbrev pub invariant-loop-character : goal.invariant-loop-character
invariant-loop-character l = l.row.items ≡ map (λ (c : Option ℕ). unwrap_or c 0) (take l.character-index l.characters)
