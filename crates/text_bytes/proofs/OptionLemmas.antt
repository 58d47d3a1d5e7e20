-- Facts on options and results that the standard library's lemmas don't have.
use Rattle.std.proofs.Common.{◌≡◌, false, Option, Some, None, Result, Ok, Err, is_some, refl}
use Rattle.std.specs.Option.{option_or}
use Rattle.std.specs.Result.{OnErr}

-- nothing is there
pub none-from : {X : Type 0} (o : Option X) → false ≡ is_some o → o ≡ None
none-from None h = refl
none-from (Some x) h = cc

-- where neither of two is there, the first isn't
pub or_none : {X : Type 0} (o p : Option X) → option_or o p ≡ None → o ≡ None
or_none None p e = refl
or_none (Some x) p e = cc

-- what holds in any case holds at an error
pub on_err : {T E P : Type 0} (r : Result T E) → P → OnErr r P
on_err (Ok _) p = tt
on_err (Err _) p = p
