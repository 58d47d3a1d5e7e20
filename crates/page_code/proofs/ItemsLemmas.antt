-- Reading items one after another, as a loop does.
use Rattle.std.proofs.Common.{◌≡◌, ℕ, suc, ap, ◌+◌, ◌-◌, ◌<◌, ◌≤◌, List, [], ◌∷◌, ◌++◌, Result, Ok, Err, refl, sym, ◌∙◌, arith}
use Rattle.page_code.specs.declared.fault.Refusal.{Refusal}
use Rattle.answers.specs.declared.short.Short.TheVariants as errors
use Rattle.page_code.specs.Fields.{◌>>=◌, Read, Fails, items_at, ReadError}
use Rattle.page_code.specs.Reading.{change_at, changed_at}

-- one item more
pub goes_on : {A : Type 0} (one : List A → List ℕ → Read A) (before : List A) (count i : ℕ) (bytes : List ℕ) (x : A) (after : List ℕ) (total : Read (List A))
    → i < count → one before bytes ≡ Ok (x, after) → items_at one (count - i) before bytes ≡ total
    → items_at one (count - (i + 1)) (before ++ x ∷ []) after ≡ total
unfolding items_at
goes_on one before count i bytes x after total lt is so_far =
    let k : count - i ≡ suc (count - (i + 1)) = omega arith in
    let here : items_at one (count - i) before bytes ≡ items_at one (count - (i + 1)) (before ++ x ∷ []) after = rw (k, is) refl in
    sym here ∙ so_far

-- an item that is refused
pub stops : {A : Type 0} (e : ReadError) (one : List A → List ℕ → Read A) (before : List A) (count i : ℕ) (bytes : List ℕ) (total : Read (List A))
    → i < count → Fails e (one before bytes) → items_at one (count - i) before bytes ≡ total → Fails e total
unfolding items_at
stops errors.NoMemory one before count i bytes total lt fails so_far = tt
stops (errors.Fault refusal) one before count i bytes total lt fails so_far =
    let k : count - i ≡ suc (count - (i + 1)) = omega arith in
    let here : items_at one (count - i) before bytes ≡ Err refusal = rw (k, fails) refl in
    sym so_far ∙ here

-- no item more
pub is_done : {A : Type 0} (one : List A → List ℕ → Read A) (before : List A) (count i : ℕ) (bytes : List ℕ) (total : Read (List A))
    → count ≤ i → items_at one (count - i) before bytes ≡ total → total ≡ Ok (before, bytes)
unfolding items_at
is_done one before count i bytes total le so_far =
    let k : count - i ≡ 0 = omega arith in
    let here : items_at one (count - i) before bytes ≡ Ok (before, bytes) = rw k refl in
    sym so_far ∙ here

-- what follows a refused part is not read
fails_on : {A B : Type 0} (e : ReadError) (read : Result A Refusal) (next : A → Result B Refusal) → Fails e read → Fails e (read >>= next)
fails_on errors.NoMemory read next fails = tt
fails_on (errors.Fault refusal) read next fails = ap (λ r. r >>= next) fails

-- a change that is refused
pub changed_stops : (e : ReadError) (signals : ℕ) (last : List ℕ) (before : List (ℕ × ℕ)) (count i : ℕ) (rest bytes : List ℕ)
    → i < count → Fails e (change_at signals last before rest)
    → items_at (change_at signals last) (count - i) before rest ≡ items_at (change_at signals last) count [] bytes
    → Fails e (changed_at signals last count bytes)
changed_stops e signals last before count i rest bytes lt fails so_far =
    fails_on e (items_at (change_at signals last) count [] bytes) _
    (stops e (change_at signals last) before count i rest (items_at (change_at signals last) count [] bytes) lt fails so_far)
