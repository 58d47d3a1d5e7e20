-- The number of a name that no body has.
use Rattle.std.proofs.Common.{◌≡◌, Bool, true, false, not, cond, List, length, Some, None, refl, sym, ap, ◌∙◌, arith}
use Rattle.std.specs.Prelude.{nat_lt, position}
use Rattle.std.specs.List.{position_or_len}
use Rattle.std.proofs.lemmas.Bool.{ltb-false}
use Rattle.std.proofs.lemmas.List.Sums.{prefix_len-le-length}
use Rattle.std.proofs.lemmas.Option.{none-some}

-- it is one past the last
pub none-number : {X : Type 0} (p : X → Bool) (xs : List X) → position p xs ≡ None → length xs ≡ position_or_len p xs
none-number p xs h = by_cases (nat_lt (position_or_len p xs) (length xs)) refl
  where
    by_cases : (b : Bool) → nat_lt (position_or_len p xs) (length xs) ≡ b → length xs ≡ position_or_len p xs
    by_cases true t =
        absurd (none-some (position_or_len p xs) (sym h ∙ ap (λ b. cond b (Some (position_or_len p xs)) None) t))
    by_cases false f = omega (arith, ltb-false (position_or_len p xs) (length xs) f, prefix_len-le-length (λ x. not (p x)) xs)
