-- What is so where a call gave a value is so where it gave no error.
use Rattle.std.proofs.Common.{◌≡◌, false}
use Rattle.std.specs.Prelude.{Result, Ok, Err, OnOk}
use Rattle.std.specs.Result.{is_err}

pub ok_is : {T E P : Type 0} (r : Result T E) → is_err r ≡ false → OnOk r P → P
ok_is (Ok x) e p = p
ok_is (Err x) e p = cc
