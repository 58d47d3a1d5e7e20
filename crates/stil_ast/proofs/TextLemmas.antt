-- Names and other texts that are the same.
use Rattle.std.proofs.Common.{◌≡◌, ℕ, true, List, refl}
use Rattle.std.proofs.lemmas.Slice.Eq.{bytes_eq-Decides}
use Rattle.stil_ast.specs.Data.Texts.{same}

-- a text is the same as itself
pub same-refl : (text : List ℕ) → same text text ≡ true
same-refl text = (bytes_eq-Decides text text).1 refl
