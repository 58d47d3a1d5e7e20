-- What the readers of fields see.
use Rattle.std.proofs.Common.{◌≡◌, ℕ, zero, suc, ◌+◌, ◌-◌, ◌<◌, ◌≤◌, Bool, true, false, cond, ltb, ◌&&◌, List, [], ◌∷◌, length, take, drop, Ok, refl, sym, ap, subst, ◌∙◌, arith, inl, inr}
use Rattle.std.specs.Int.{Width, byte_len, from_le_bytes}
use Rattle.std.specs.List.{list_all, take_while, prefix_len}
use Rattle.std.proofs.lemmas.Bool.{cases_lt, ltb-false, lt-ltb, le-ltb}
use Rattle.std.proofs.lemmas.List.{take-append-drop, length-append, length-take}
use Rattle.packed_code.specs.RowBytes.{is_place}
use Rattle.page_code.specs.Fields.{◌>>=◌, Read, byte_at, piece_at, number_at, judged, checked}
use Rattle.page_code.specs.Reading.{characters_at}
use Rattle.page_code.proofs.ReaderLaws.{bind_ok, guard_ok, guard_not, ok_is, piece_again}
use Rattle.saved_laws.proofs.Sights.{torn, refused, Sees, takes, ends, IsLocal, IsShort, then_local, done_local, alike, checked_local}

-- ---- bytes and pieces

pub byte_local : IsLocal byte_at
byte_local [] = ends refl
byte_local (b ∷ bytes) = takes b bytes (record {
  front = b ∷ [];
  split = refl;
  same = λ other. refl;
  waits = none;
})
  where
    none : (n : ℕ) → n < 1 → byte_at (take n (b ∷ [])) ≡ torn
    none zero lt = refl
    none (suc n) lt = absurd (omega (arith, lt))

pub piece_local : (size : ℕ) → IsLocal (piece_at size)
piece_local size bytes = by_test (ltb (length bytes) size) refl
  where
    by_test : (b : Bool) → ltb (length bytes) size ≡ b → Sees (piece_at size) bytes
    by_test true is = ends (ap (λ (c : Bool). cond {A = Read (List ℕ)} c torn (Ok (take size bytes, drop size bytes))) is)
    by_test false is =
        let long : size ≤ length bytes = ltb-false (length bytes) size is in
        let all : length (take size bytes) ≡ size = omega (arith, length-take size bytes, long) in
        takes (take size bytes) (drop size bytes) (record {
          front = take size bytes;
          split = sym (take-append-drop size bytes);
          same = λ other. piece_again size (take size bytes) other all;
          waits = λ n lt.
              let few : ltb (length (take n (take size bytes))) size ≡ true =
              lt-ltb (length (take n (take size bytes))) size (omega (arith, length-take n (take size bytes), lt, all)) in
              ap (λ (c : Bool). cond {A = Read (List ℕ)} c torn (Ok (take size (take n (take size bytes)), drop size (take n (take size bytes))))) few;
        })

number_piece : (w : Width) (bytes : List ℕ)
    → number_at w bytes ≡ (piece_at (byte_len w) bytes >>= λ x. Ok (from_le_bytes w x.0, x.1))
unfolding number_at
number_piece w bytes = by_test (ltb (length bytes) (byte_len w))
  where
    by_test : (b : Bool)
        → cond {A = Read ℕ} b torn (Ok (from_le_bytes w (take (byte_len w) bytes), drop (byte_len w) bytes))
        ≡ (cond {A = Read (List ℕ)} b torn (Ok (take (byte_len w) bytes, drop (byte_len w) bytes)) >>= λ x. Ok (from_le_bytes w x.0, x.1))
    by_test true = refl
    by_test false = refl

pub number_local : (w : Width) → IsLocal (number_at w)
number_local w =
    alike (λ bytes. piece_at (byte_len w) bytes >>= λ x. Ok (from_le_bytes w x.0, x.1)) (number_at w) (number_piece w)
    (then_local (piece_at (byte_len w)) (λ x. Ok (from_le_bytes w x.0, x.1)) (piece_local (byte_len w))
    (λ piece. done_local (from_le_bytes w piece)))

-- ---- how many bytes are taken

pub byte_short : (most : ℕ) → 1 ≤ most → IsShort most byte_at
byte_short most le [] a rest e = absurd cc
byte_short most le (b ∷ bytes) a rest e =
    let same : bytes ≡ rest = ap (λ p. p.1) (ok_is (b, bytes) (a, rest) e) in
    omega (arith, le, ap length same)

pub piece_short : (size : ℕ) → IsShort size (piece_at size)
piece_short size bytes a rest e =
    let g = guard_not (ltb (length bytes) size) _ (take size bytes, drop size bytes) (a, rest) e in
    let same : drop size bytes ≡ rest = ap (λ (p : List ℕ × List ℕ). p.1) g.1 in
    let whole : length (take size bytes) + length (drop size bytes) ≡ length bytes =
    sym (length-append (take size bytes) (drop size bytes)) ∙ ap length (take-append-drop size bytes) in
    omega (arith, whole, length-take size bytes, ap length same)

-- a reader that takes at most so many takes at most more
pub shorter : {A : Type 0} (few many : ℕ) (read : List ℕ → Read A) → few ≤ many → IsShort few read → IsShort many read
shorter few many read le short bytes a rest e = let s = short bytes a rest e in omega (arith, le, s)

pub then_short : {A B : Type 0} (few more : ℕ) (read : List ℕ → Read A) (next : A × List ℕ → Read B) → IsShort few read
    → ((bytes : List ℕ) (a : A) (rest : List ℕ) → read bytes ≡ Ok (a, rest) → IsShort more (λ bytes. next (a, bytes)))
    → IsShort (few + more) (λ bytes. read bytes >>= next)
then_short few more read next first second bytes b rest e =
    let step = bind_ok (read bytes) next (b, rest) e in
    let one = first bytes step.0.0 step.0.1 step.1 in
    let two = second bytes step.0.0 step.0.1 step.1 step.0.1 b rest step.2 in
    omega (arith, one, two)

pub done_short : {A : Type 0} (made : A) → IsShort 0 (λ bytes. Ok (made, bytes))
done_short made bytes a rest e =
    let same : bytes ≡ rest = ap (λ p. p.1) (ok_is (made, bytes) (a, rest) e) in
    omega (arith, ap length same)

pub number_short : (w : Width) (most : ℕ) → byte_len w ≤ most → IsShort most (number_at w)
number_short w most le bytes a rest e =
    let step = bind_ok (piece_at (byte_len w) bytes) (λ x. Ok (from_le_bytes w x.0, x.1)) (a, rest) (sym (number_piece w bytes) ∙ e) in
    let one = piece_short (byte_len w) bytes step.0.0 step.0.1 step.1 in
    let same : step.0.1 ≡ rest = ap (λ p. p.1) (ok_is (from_le_bytes w step.0.0, step.0.1) (a, rest) step.2) in
    omega (arith, one, le, ap length same)

-- what is judged was read, and passes
pub judged_is : {A : Type 0} (read : List ℕ → Read A) (test : A → Bool) (bytes : List ℕ) (left : ℕ) (a : A) (rest : List ℕ)
    → (read bytes >>= judged left test) ≡ Ok (a, rest) → (read bytes ≡ Ok (a, rest)) × (test a ≡ true)
judged_is read test bytes left a rest e =
    let step = bind_ok (read bytes) (judged left test) (a, rest) e in
    let guard = guard_ok (test step.0.0) _ step.0 (a, rest) step.2 in
    (step.1 ∙ ap Ok guard.1, subst (λ x. test x.0 ≡ true) guard.1 guard.0)

pub checked_short : {A : Type 0} (most : ℕ) (read : List ℕ → Read A) (test : A → Bool) → IsShort most read → IsShort most (checked read test)
checked_short most read test short bytes a rest e = short bytes a rest (judged_is read test bytes (length bytes) a rest e).0

-- ---- the characters of a row

less_next : (a b : ℕ) → ltb (suc a) (suc b) ≡ ltb a b
less_next a b =
    elim (cases_lt a b) [
      | inl lt ↦ lt-ltb (suc a) (suc b) (omega (arith, lt)) ∙ sym (lt-ltb a b lt)
      | inr le ↦ le-ltb (suc a) (suc b) (omega (arith, le)) ∙ sym (le-ltb a b le)
    ]

-- behind a character that may stand in a row
characters_good : (n b : ℕ) (bytes : List ℕ) (q r s : Bool) → s ≡ r
    → cond {A = Read (List ℕ)} q (cond s torn (Ok (b ∷ take n bytes, drop n bytes)))
    (refused (suc (length bytes) - length (take (1 + prefix_len is_place bytes) (b ∷ bytes))))
    ≡ (cond {A = Read (List ℕ)} q (cond r torn (Ok (take n bytes, drop n bytes)))
    (refused (length bytes - length (take_while is_place bytes))) >>= λ x. Ok (b ∷ x.0, x.1))
characters_good n b bytes true true s is = ap (λ (c : Bool). cond {A = Read (List ℕ)} c torn (Ok (b ∷ take n bytes, drop n bytes))) is
characters_good n b bytes true false s is = ap (λ (c : Bool). cond {A = Read (List ℕ)} c torn (Ok (b ∷ take n bytes, drop n bytes))) is
characters_good n b bytes false r s is =
    let k = prefix_len is_place bytes in
    let as_many : suc (length bytes) - length (take (1 + k) (b ∷ bytes)) ≡ length bytes - length (take k bytes) =
    omega (arith, length-take (1 + k) (b ∷ bytes), length-take k bytes) in
    ap (λ (k : ℕ). refused {A = List ℕ} k) as_many

characters_by : (n b : ℕ) (bytes : List ℕ) (p : Bool)
    → cond {A = Read (List ℕ)} (p && list_all is_place (take n bytes))
    (cond (ltb (suc (length bytes)) (suc n)) torn (Ok (b ∷ take n bytes, drop n bytes)))
    (refused (suc (length bytes) - length (take (cond p (1 + prefix_len is_place bytes) 0) (b ∷ bytes))))
    ≡ (cond {A = Read ℕ} p (Ok (b, bytes)) (refused (suc (length bytes))) >>= λ c. characters_at n c.1 >>= λ x. Ok (c.0 ∷ x.0, x.1))
unfolding characters_at
characters_by n b bytes true =
    characters_good n b bytes (list_all is_place (take n bytes)) (ltb (length bytes) n) (ltb (suc (length bytes)) (suc n)) (less_next (length bytes) n)
characters_by n b bytes false =
    let all : suc (length bytes) - 0 ≡ suc (length bytes) = omega arith in ap (λ (k : ℕ). refused {A = List ℕ} k) all

characters_first : (n : ℕ) (bytes : List ℕ)
    → characters_at (suc n) bytes ≡ (checked byte_at is_place bytes >>= λ c. characters_at n c.1 >>= λ x. Ok (c.0 ∷ x.0, x.1))
unfolding characters_at
characters_first n [] =
    let few : ltb 0 (suc n) ≡ true = lt-ltb 0 (suc n) (omega arith) in
    ap (λ (c : Bool). cond {A = Read (List ℕ)} c torn (Ok ([], []))) few
characters_first n (b ∷ bytes) = characters_by n b bytes (is_place b)

characters_none : (bytes : List ℕ) → characters_at 0 bytes ≡ Ok ([], bytes)
unfolding characters_at
characters_none bytes =
    let all : ltb (length bytes) 0 ≡ false = le-ltb (length bytes) 0 (omega arith) in
    ap (λ (c : Bool). cond {A = Read (List ℕ)} c torn (Ok ([], bytes))) all

pub characters_local : (n : ℕ) → IsLocal (characters_at n)
characters_local zero = alike (λ bytes. Ok ([], bytes)) (characters_at 0) characters_none (done_local [])
characters_local (suc n) =
    alike (λ bytes. checked byte_at is_place bytes >>= λ c. characters_at n c.1 >>= λ x. Ok (c.0 ∷ x.0, x.1)) (characters_at (suc n)) (characters_first n)
    (then_local (checked byte_at is_place) (λ c. characters_at n c.1 >>= λ x. Ok (c.0 ∷ x.0, x.1))
    (checked_local byte_at is_place (byte_short 1026 (omega arith)) byte_local)
    (λ c. then_local (characters_at n) (λ x. Ok (c ∷ x.0, x.1)) (characters_local n) (λ x. done_local (c ∷ x))))

characters_behind : (n : ℕ) → IsShort n (characters_at n) → (c : ℕ) → IsShort n (λ bytes. characters_at n bytes >>= λ x. Ok (c ∷ x.0, x.1))
characters_behind n short c bytes a rest e =
    let step = bind_ok (characters_at n bytes) (λ x. Ok (c ∷ x.0, x.1)) (a, rest) e in
    let one = short bytes step.0.0 step.0.1 step.1 in
    let same : step.0.1 ≡ rest = ap (λ p. p.1) (ok_is (c ∷ step.0.0, step.0.1) (a, rest) step.2) in
    omega (arith, one, ap length same)

pub characters_short : (n : ℕ) → IsShort n (characters_at n)
characters_short zero bytes a rest e = done_short [] bytes a rest (sym (characters_none bytes) ∙ e)
characters_short (suc n) bytes a rest e =
    let read : List ℕ → Read (List ℕ) = λ bytes. checked byte_at is_place bytes >>= λ c. characters_at n c.1 >>= λ x. Ok (c.0 ∷ x.0, x.1) in
    let short : IsShort (1 + n) read =
    then_short 1 n (checked byte_at is_place) (λ c. characters_at n c.1 >>= λ x. Ok (c.0 ∷ x.0, x.1))
    (checked_short 1 byte_at is_place (byte_short 1 (omega arith)))
    (λ bytes c rest is. characters_behind n (characters_short n) c) in
    let is = short bytes a rest (sym (characters_first n bytes) ∙ e) in
    omega (arith, is)
