-- Reading fields from left to right. A reader gives a value and the bytes behind it, or the first refusal.
use Rattle.std.specs.Prelude.{ℕ, zero, suc, Bool, List, [], ◌∷◌, ◌++◌, length, take, drop, Option, Some, None, Result, Ok, Err, nat_lt, if◌then◌else◌, ◌≡◌}
use Rattle.std.specs.Int.{Width, byte_len, from_le_bytes}
use Rattle.page_code.specs.declared.fault.Refusal.{Refusal}
use Rattle.page_code.specs.declared.fault.Refusal.TheVariants.{Torn, BadCode}
use Rattle.answers.specs.declared.short.Short.{Short}
use Rattle.answers.specs.declared.short.Short.TheVariants as errors

infixl 10 ◌>>=◌
-- one step after another, up to the first refusal
abbrev pub ◌>>=◌ : {A B : Type 0} → Result A Refusal → (A → Result B Refusal) → Result B Refusal
(Ok x) >>= f = f x
(Err e) >>= f = Err e

-- what a reader gives
abbrev pub Read : Type 0 → Type 0
Read A = Result (A × List ℕ) Refusal

-- why a part could not be read
abbrev pub ReadError : Type 0
ReadError = Short Refusal

-- an error is the refusal that reading meets, or want of memory
abbrev pub Fails : {Y : Type 0} → ReadError → Result Y Refusal → Type 0
Fails errors.NoMemory read = Unit {0}
Fails (errors.Fault refusal) read = read ≡ Err refusal

-- what a call returned, seen by `view`, is what reading gives, unless memory ran out
abbrev pub Gives : {X Y : Type 0} → (X → Y) → Result X ReadError → Result Y Refusal → Type 0
Gives view (Ok x) read = read ≡ Ok (view x)
Gives view (Err e) read = Fails e read

-- a byte
abbrev pub byte_at : List ℕ → Read ℕ
byte_at [] = Err Torn
byte_at (byte ∷ rest) = Ok (byte, rest)

-- so many bytes
abbrev pub piece_at : ℕ → List ℕ → Read (List ℕ)
piece_at size bytes = if nat_lt (length bytes) size then Err Torn else Ok (take size bytes, drop size bytes)

-- a number
unfoldable pub number_at : Width → List ℕ → Read ℕ
number_at width bytes =
    if nat_lt (length bytes) (byte_len width) then Err Torn
    else Ok (from_le_bytes width (take (byte_len width) bytes), drop (byte_len width) bytes)

-- what was read, under a condition: where it fails, it is refused where so many bytes are left
abbrev pub judged : {A : Type 0} → ℕ → (A → Bool) → A × List ℕ → Read A
judged left fits x = if fits x.0 then Ok x else Err (BadCode left)

-- a field with a condition: where it fails, it is refused at the field's first byte
abbrev pub checked : {A : Type 0} → (List ℕ → Read A) → (A → Bool) → List ℕ → Read A
checked read fits bytes = read bytes >>= judged (length bytes) fits

-- a value that bytes stand for, or a refusal with so many bytes left
abbrev pub meant : {A : Type 0} → ℕ → Option A → List ℕ → Read A
meant left None rest = Err (BadCode left)
meant left (Some x) rest = Ok (x, rest)

-- a field whose bytes stand for a value: where they stand for none, it is refused at the field's first byte
abbrev pub known : {A B : Type 0} → (List ℕ → Read A) → (A → Option B) → List ℕ → Read B
known read meaning bytes = read bytes >>= λ x. meant (length bytes) (meaning x.0) x.1

-- so many items behind those before them
unfoldable pub items_at : {A : Type 0} → (List A → List ℕ → Read A) → ℕ → List A → List ℕ → Read (List A)
items_at one zero before bytes = Ok (before, bytes)
items_at one (suc n) before bytes = one before bytes >>= λ x. items_at one n (before ++ x.0 ∷ []) x.1
