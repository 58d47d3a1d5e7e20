-- Choices that are made.
use Rattle.std.proofs.Common.{◌≡◌, Bool, true, false, cond, refl}

-- a choice whose test is so, or not
pub chosen_first : {A : Type 0} (b : Bool) (x y : A) → b ≡ true → cond b x y ≡ x
chosen_first true x y is = refl
chosen_first false x y is = cc

pub chosen_second : {A : Type 0} (b : Bool) (x y : A) → b ≡ false → cond b x y ≡ y
chosen_second true x y is = cc
chosen_second false x y is = refl
