-- What is read is spelled so, and what is spelled so is read: for fields, and for what is made of them.
use Rattle.std.proofs.Common.{◌≡◌, ℕ, zero, suc, ◌+◌, ◌^◌, ◌<◌, ◌≤◌, Bool, true, false, cond, ltb, List, [], ◌∷◌, ◌++◌, length, get_or, take, drop, Option, Some, None, Result, Ok, Err, refl, sym, ap, subst, ◌∙◌, append_assoc, arith, inl, inr}
use Rattle.std.specs.Int.{Width, w16, w32, w64, byte_len, from_le_bytes}
use Rattle.std.specs.List.{flat_map}
use Rattle.std.proofs.lemmas.Bool.{cases_lt, ltb-false, le-ltb}
use Rattle.std.proofs.lemmas.List.{append-nil, take_at, drop_at, take-append-drop, length-append, length-take, get_or-drop, get_or-take, get_or_past}
use Rattle.std.proofs.lemmas.Nat.{le_bytes_2, le_bytes_4, le_bytes_8, from_le_bytes-to_le_bytes_2, from_le_bytes-to_le_bytes_4, from_le_bytes-to_le_bytes_8}
use Rattle.page_code.specs.declared.fault.Refusal.{Refusal}
use Rattle.page_code.specs.declared.fault.Refusal.TheVariants.{Torn, BadCode}
use Rattle.packed_code.specs.Conditions.{EachBehind}
use Rattle.page_code.specs.Fields.{◌>>=◌, Read, byte_at, piece_at, number_at, judged, checked, meant, known, items_at}
use Rattle.packed_code.specs.Packed.{number}
use Rattle.page_code.specs.Spelling.{behind}

-- ---- bytes

abbrev pub IsBytes : List ℕ → Type 0
IsBytes bytes = (i : ℕ) → get_or bytes i 0 < 256

pub IsBytes-drop : (n : ℕ) (bytes : List ℕ) → IsBytes bytes → IsBytes (drop n bytes)
IsBytes-drop n bytes h i = rw get_or-drop (h (n + i))

pub IsBytes-take : (n : ℕ) (bytes : List ℕ) → IsBytes bytes → IsBytes (take n bytes)
IsBytes-take n bytes h i =
    elim (cases_lt i n) [
      | inl lt ↦ rw (get_or-take n bytes i 0 lt) (h i)
      | inr le ↦ rw (get_or_past (take n bytes) i 0 (omega (arith, length-take n bytes))) (omega arith)
    ]

-- ---- steps that did not fail

pub bind_ok : {A B : Type 0} (r : Result A Refusal) (f : A → Result B Refusal) (y : B) → (r >>= f) ≡ Ok y → (x : A) × (r ≡ Ok x) × (f x ≡ Ok y)
bind_ok (Ok x) f y e = (x, refl, e)
bind_ok (Err d) f y e = absurd cc

pub guard_ok : {A : Type 0} (b : Bool) (d : Refusal) (x y : A) → cond b (Ok x) (Err d) ≡ Ok y → (b ≡ true) × (x ≡ y)
guard_ok true d x y e = (refl, cc)
guard_ok false d x y e = absurd cc

pub guard_not : {A : Type 0} (b : Bool) (d : Refusal) (x y : A) → cond b (Err d) (Ok x) ≡ Ok y → (b ≡ false) × (x ≡ y)
guard_not true d x y e = absurd cc
guard_not false d x y e = (refl, cc)

abbrev done : {A : Type 0} → A → Result A Refusal
done x = Ok x

pub ok_is : {A : Type 0} (x y : A) → done x ≡ done y → x ≡ y
ok_is x y e = cc

-- ---- readers

-- a reader gives what is spelled in front, exactly where it fits
pub record IsReader {A : Type 0} (read : List ℕ → Read A) (spell : A → List ℕ) (Fits : A → Type 0) : Type 0 where
  pub takes : (bytes : List ℕ) (a : A) (rest : List ℕ) → IsBytes bytes → read bytes ≡ Ok (a, rest) → (bytes ≡ spell a ++ rest) × IsBytes rest × Fits a
  pub again : (a : A) (rest : List ℕ) → Fits a → read (spell a ++ rest) ≡ Ok (a, rest)

-- the same reader by another spelling and other words
pub adapted : {A : Type 0} (read : List ℕ → Read A) (s s' : A → List ℕ) (F F' : A → Type 0) → IsReader read s F
    → ((a : A) → F a → F' a) → ((a : A) → F' a → F a) → ((a : A) → F' a → s a ≡ s' a) → IsReader read s' F'
adapted read s s' F F' reader to from same = record {
  takes = λ bytes a rest fits e.
      let t = reader.takes bytes a rest fits e in
      (t.0 ∙ ap (λ (x : List ℕ). x ++ rest) (same a (to a t.2)), t.1, to a t.2);
  again = λ a rest fits. ap (λ (x : List ℕ). read (x ++ rest)) (sym (same a fits)) ∙ reader.again a rest (from a fits);
}

-- nothing more is read
pub done_reader : {A : Type 0} (made : A) → IsReader (λ bytes. Ok (made, bytes)) (λ a. []) (λ a. a ≡ made)
done_reader made = record {
  takes = λ bytes a rest fits e.
      let same = ok_is (made, bytes) (a, rest) e in
      (ap (λ p. p.1) same, subst IsBytes (ap (λ p. p.1) same) fits, sym (ap (λ p. p.0) same));
  again = λ a rest fits. ap (λ x. Ok (x, rest)) (sym fits);
}

-- one part, and then the rest by it
pub then_reader : {A B : Type 0} (read : List ℕ → Read A) (s : A → List ℕ) (F : A → Type 0) (next : A × List ℕ → Read B) (s' : B → List ℕ)
    (G : A → B → Type 0) (of : B → A) → IsReader read s F → ((a : A) → F a → IsReader (λ bytes. next (a, bytes)) s' (G a)) → ((a : A) (b : B)
    → G a b → of b ≡ a)
    → IsReader (λ bytes. read bytes >>= next) (λ b. s (of b) ++ s' b) (λ b. F (of b) × G (of b) b)
then_reader {A} read s F next s' G of first second back = record {
  takes = λ bytes b rest fits e.
      let step = bind_ok (read bytes) next (b, rest) e in
      let one = first.takes bytes step.0.0 step.0.1 fits step.1 in
      let two = (second step.0.0 one.2).takes step.0.1 b rest one.1 step.2 in
      let is = back step.0.0 b two.2 in (
        subst (λ (a : A). bytes ≡ (s a ++ s' b) ++ rest) (sym is) (one.0 ∙ ap (λ (x : List ℕ). s step.0.0 ++ x) two.0 ∙ sym (append_assoc (s step.0.0) (s' b) rest)),
        two.1,
        (subst F (sym is) one.2, subst (λ (a : A). G a b) (sym is) two.2),
      );
  again = λ b rest fits.
      ap (λ (x : List ℕ). read x >>= next) (append_assoc (s (of b)) (s' b) rest)
      ∙ ap (λ r. r >>= next) (first.again (of b) (s' b ++ rest) fits.0)
      ∙ (second (of b) fits.0).again b rest fits.1;
}

-- a condition, which is refused where so many bytes are left
pub judged_reader : {A : Type 0} (read : List ℕ → Read A) (s : A → List ℕ) (F : A → Type 0) (test : A → Bool) (left : List ℕ → ℕ)
    → IsReader read s F → IsReader (λ bytes. read bytes >>= judged (left bytes) test) s (λ a. F a × (test a ≡ true))
judged_reader read s F test left reader = record {
  takes = λ bytes a rest fits e.
      let step = bind_ok (read bytes) (judged (left bytes) test) (a, rest) e in
      let guard = guard_ok (test step.0.0) (BadCode (left bytes)) step.0 (a, rest) step.2 in
      let t = reader.takes bytes a rest fits (step.1 ∙ ap Ok guard.1) in
      (t.0, t.1, (t.2, subst (λ x. test x.0 ≡ true) guard.1 guard.0));
  again = λ a rest fits. rw (reader.again a rest fits.0, fits.1) refl;
}

-- a condition, which is refused at the first byte
pub checked_reader : {A : Type 0} (read : List ℕ → Read A) (s : A → List ℕ) (F : A → Type 0) (test : A → Bool) → IsReader read s F
    → IsReader (checked read test) s (λ a. F a × (test a ≡ true))
checked_reader read s F test reader = judged_reader read s F test length reader

-- a condition on what was read before, and then the rest
pub judged_then : {A B : Type 0} (a : A) (test : A → Bool) (left : ℕ) (next : A × List ℕ → Read B) (s : B → List ℕ) (G : B → Type 0)
    → (test a ≡ true → IsReader (λ bytes. next (a, bytes)) s G)
    → IsReader (λ bytes. judged left test (a, bytes) >>= next) s (λ b. (test a ≡ true) × G b)
judged_then a test left next s G second = record {
  takes = λ bytes b rest fits e.
      let step = bind_ok (judged left test (a, bytes)) next (b, rest) e in
      let guard = guard_ok (test a) (BadCode left) (a, bytes) step.0 step.1 in
      let t = (second guard.0).takes bytes b rest fits (ap next guard.1 ∙ step.2) in
      (t.0, t.1, (guard.0, t.2));
  again = λ b rest fits. rw fits.0 ((second fits.0).again b rest fits.1);
}

-- what was read, as what it stands for
pub mapped_reader : {A B : Type 0} (read : List ℕ → Read A) (s : A → List ℕ) (F : A → Type 0) (to : A → B) (back : B → A) (G : B → Type 0)
    → IsReader read s F → ((a : A) → F a → (back (to a) ≡ a) × G (to a)) → ((b : B) → G b → F (back b) × (to (back b) ≡ b))
    → IsReader (λ bytes. read bytes >>= λ x. Ok (to x.0, x.1)) (λ b. s (back b)) G
mapped_reader {A} {B} read s F to back G reader forth again = record {
  takes = λ bytes b rest fits e.
      let step = bind_ok (read bytes) (λ x. Ok (to x.0, x.1)) (b, rest) e in
      let same = ok_is (to step.0.0, step.0.1) (b, rest) step.2 in
      let is : to step.0.0 ≡ b = ap (λ p. p.0) same in
      let end : step.0.1 ≡ rest = ap (λ p. p.1) same in
      let t = reader.takes bytes step.0.0 step.0.1 fits step.1 in
      let f = forth step.0.0 t.2 in (
        t.0 ∙ ap (λ (a : A). s a ++ step.0.1) (sym f.0 ∙ ap back is) ∙ ap (λ (x : List ℕ). s (back b) ++ x) end,
        subst IsBytes end t.1,
        subst G is f.1,
      );
  again = λ b rest fits.
      let f = again b fits in
      ap (λ r. r >>= λ x. Ok (to x.0, x.1)) (reader.again (back b) rest f.0) ∙ ap (λ (x : B). Ok (x, rest)) f.1;
}

-- ---- bytes and numbers

byte_takes : (bytes : List ℕ) (a : ℕ) (rest : List ℕ) → IsBytes bytes → byte_at bytes ≡ Ok (a, rest) → (bytes ≡ a ∷ rest) × IsBytes rest × (a < 256)
byte_takes [] a rest fits e = absurd cc
byte_takes (b ∷ bytes) a rest fits e =
    let same = ok_is (b, bytes) (a, rest) e in
    let head : b ≡ a = ap (λ p. p.0) same in
    let tail : bytes ≡ rest = ap (λ p. p.1) same in
    (ap (λ (x : ℕ). x ∷ bytes) head ∙ ap (λ (x : List ℕ). a ∷ x) tail, subst IsBytes tail (λ i. fits (suc i)), subst (λ (x : ℕ). x < 256) head (fits 0))

pub byte_reader : IsReader byte_at (λ b. b ∷ []) (λ b. b < 256)
byte_reader = record { takes = byte_takes; again = λ a rest fits. refl }

-- how numbers of a width are spelled
pub record IsWide (w : Width) (limit : ℕ) : Type 0 where
  pub size : (n : ℕ) → length (number w n) ≡ byte_len w
  pub back : (bytes : List ℕ) → length bytes ≡ byte_len w → IsBytes bytes → number w (from_le_bytes w bytes) ≡ bytes
  pub again : (n : ℕ) → n < limit → from_le_bytes w (number w n) ≡ n
  pub below : (bytes : List ℕ) → IsBytes bytes → from_le_bytes w bytes < limit

pub wide16 : IsWide w16 (2 ^ 16)
unfolding number
wide16 = record {
  size = λ n. refl;
  back = λ bytes len fits. le_bytes_2 bytes _ len fits refl;
  again = λ n lt. from_le_bytes-to_le_bytes_2 n lt;
  below = λ bytes fits. omega (arith, fits 0, fits 1);
}

pub wide32 : IsWide w32 (2 ^ 32)
unfolding number
wide32 = record {
  size = λ n. refl;
  back = λ bytes len fits. le_bytes_4 bytes _ len fits refl;
  again = λ n lt. from_le_bytes-to_le_bytes_4 n lt;
  below = λ bytes fits. omega (arith, fits 0, fits 1, fits 2, fits 3);
}

pub wide64 : IsWide w64 (2 ^ 64)
unfolding number
wide64 = record {
  size = λ n. refl;
  back = λ bytes len fits. le_bytes_8 bytes _ len fits refl;
  again = λ n lt. from_le_bytes-to_le_bytes_8 n lt;
  below = λ bytes fits. omega (arith, fits 0, fits 1, fits 2, fits 3, fits 4, fits 5, fits 6, fits 7);
}

number_takes : (w : Width) (limit : ℕ) → IsWide w limit → (bytes : List ℕ) (n : ℕ) (rest : List ℕ) → IsBytes bytes → number_at w bytes ≡ Ok (n, rest)
    → (bytes ≡ number w n ++ rest) × IsBytes rest × (n < limit)
unfolding number_at
number_takes w limit wide bytes n rest fits e =
    let g = guard_not (ltb (length bytes) (byte_len w)) Torn (from_le_bytes w (take (byte_len w) bytes), drop (byte_len w) bytes) (n, rest) e in
    let long : byte_len w ≤ length bytes = ltb-false _ _ g.0 in
    let n-is : from_le_bytes w (take (byte_len w) bytes) ≡ n = ap (λ (p : ℕ × List ℕ). p.0) g.1 in
    let rest-is : drop (byte_len w) bytes ≡ rest = ap (λ (p : ℕ × List ℕ). p.1) g.1 in
    let front : number w n ≡ take (byte_len w) bytes =
    rw (← n-is) (wide.back (take (byte_len w) bytes) (omega (arith, length-take (byte_len w) bytes)) (IsBytes-take (byte_len w) bytes fits)) in (
      rw (front, ← rest-is) (sym (take-append-drop (byte_len w) bytes)),
      rw (← rest-is) (IsBytes-drop (byte_len w) bytes fits),
      rw (← n-is) (wide.below (take (byte_len w) bytes) (IsBytes-take (byte_len w) bytes fits)),
    )

number_again : (w : Width) (limit : ℕ) → IsWide w limit → (n : ℕ) (rest : List ℕ) → n < limit → number_at w (number w n ++ rest) ≡ Ok (n, rest)
unfolding number_at
number_again w limit wide n rest lt =
    let size = wide.size n in
    let long : ltb (length (number w n ++ rest)) (byte_len w) ≡ false = le-ltb _ _ (omega (arith, length-append (number w n) rest)) in
    rw (long, take_at (number w n) rest (byte_len w) size, drop_at (number w n) rest (byte_len w) size, wide.again n lt) refl

pub number_reader : (w : Width) (limit : ℕ) → IsWide w limit → IsReader (number_at w) (number w) (λ n. n < limit)
number_reader w limit wide = record { takes = number_takes w limit wide; again = number_again w limit wide }

-- so many bytes
piece_takes : (size : ℕ) (bytes p rest : List ℕ) → IsBytes bytes → piece_at size bytes ≡ Ok (p, rest)
    → (bytes ≡ p ++ rest) × IsBytes rest × ((length p ≡ size) × IsBytes p)
piece_takes size bytes p rest fits e =
    let g = guard_not (ltb (length bytes) size) Torn (take size bytes, drop size bytes) (p, rest) e in
    let long : size ≤ length bytes = ltb-false _ _ g.0 in
    let p-is : take size bytes ≡ p = ap (λ (x : List ℕ × List ℕ). x.0) g.1 in
    let rest-is : drop size bytes ≡ rest = ap (λ (x : List ℕ × List ℕ). x.1) g.1 in (
      rw (← p-is, ← rest-is) (sym (take-append-drop size bytes)),
      rw (← rest-is) (IsBytes-drop size bytes fits),
      (rw (← p-is) (omega (arith, length-take size bytes)), rw (← p-is) (IsBytes-take size bytes fits)),
    )

pub piece_again : (size : ℕ) (p rest : List ℕ) → length p ≡ size → piece_at size (p ++ rest) ≡ Ok (p, rest)
piece_again size p rest is =
    let long : ltb (length (p ++ rest)) size ≡ false = le-ltb _ _ (omega (arith, length-append p rest)) in
    rw (long, take_at p rest size is, drop_at p rest size is) refl

pub piece_reader : (size : ℕ) → IsReader (piece_at size) (λ p. p) (λ p. (length p ≡ size) × IsBytes p)
piece_reader size = record { takes = piece_takes size; again = λ p rest fits. piece_again size p rest fits.0 }

-- the same, where nothing is asked of the bytes
pub plain_reader : (size : ℕ) → IsReader (piece_at size) (λ p. p) (λ p. length p ≡ size)
plain_reader size = record {
  takes = λ bytes p rest fits e. let t = piece_takes size bytes p rest fits e in (t.0, t.1, t.2.0);
  again = piece_again size;
}

-- ---- bytes that stand for values

meant_some : {A : Type 0} (left : ℕ) (o : Option A) (rest : List ℕ) (a : A) (after : List ℕ) → meant left o rest ≡ Ok (a, after) → (o ≡ Some a) × (rest ≡ after)
meant_some left None rest a after e = absurd cc
meant_some left (Some x) rest a after e =
    let same = ok_is (x, rest) (a, after) e in (ap (λ p. Some p.0) same, ap (λ p. p.1) same)

-- bytes as a reader takes them, whose meaning is known
pub known_takes : {A B : Type 0} (read : List ℕ → Read A) (s : A → List ℕ) (F : A → Type 0) (meaning : A → Option B) → IsReader read s F
    → (bytes : List ℕ) (b : B) (rest : List ℕ) → IsBytes bytes → known read meaning bytes ≡ Ok (b, rest)
    → (a : A) × (bytes ≡ s a ++ rest) × IsBytes rest × F a × (meaning a ≡ Some b)
known_takes read s F meaning reader bytes b rest fits e =
    let step = bind_ok (read bytes) (λ x. meant (length bytes) (meaning x.0) x.1) (b, rest) e in
    let m = meant_some (length bytes) (meaning step.0.0) step.0.1 b rest step.2 in
    let t = reader.takes bytes step.0.0 step.0.1 fits step.1 in
    (step.0.0, t.0 ∙ ap (λ (x : List ℕ). s step.0.0 ++ x) m.1, subst IsBytes m.1 t.1, t.2, m.0)

-- ---- items

-- readers of items behind those before them, where those are good
record AreReaders {A : Type 0} (one : List A → List ℕ → Read A) (spell : List A → A → List ℕ) (Fits : List A → A → Type 0) (Good : List A → Type 0) : Type 0 where
  pub reads : (before : List A) → Good before → IsReader (one before) (spell before) (Fits before)
  pub stays : (before : List A) (x : A) → Good before → Fits before x → Good (before ++ x ∷ [])

items_takes : {A : Type 0} (one : List A → List ℕ → Read A) (spell : List A → A → List ℕ) (Fits : List A → A → Type 0) (Good : List A → Type 0)
    → AreReaders one spell Fits Good → (count : ℕ) (before : List A) → Good before → (bytes : List ℕ) (all : List A) (rest : List ℕ)
    → IsBytes bytes → items_at one count before bytes ≡ Ok (all, rest)
    → (new : List A) × (all ≡ before ++ new) × (bytes ≡ behind spell before new ++ rest) × IsBytes rest × (length new ≡ count)
    × EachBehind Fits before new
unfolding items_at
items_takes one spell Fits Good readers zero before good bytes all rest fits e =
    let same = ok_is (before, bytes) (all, rest) e in
    ([], sym (ap (λ p. p.0) same) ∙ sym (append-nil before), ap (λ p. p.1) same, subst IsBytes (ap (λ p. p.1) same) fits, refl, tt)
items_takes {A} one spell Fits Good readers (suc n) before good bytes all rest fits e =
    let step = bind_ok (one before bytes) (λ x. items_at one n (before ++ x.0 ∷ []) x.1) (all, rest) e in
    let t = (readers.reads before good).takes bytes step.0.0 step.0.1 fits step.1 in
    let more = items_takes one spell Fits Good readers n (before ++ step.0.0 ∷ []) (readers.stays before step.0.0 good t.2) step.0.1 all rest t.1 step.2 in (
      step.0.0 ∷ more.0,
      more.1 ∙ append_assoc before (step.0.0 ∷ []) more.0,
      t.0 ∙ ap (λ (x : List ℕ). spell before step.0.0 ++ x) more.2
          ∙ sym (append_assoc (spell before step.0.0) (behind spell (before ++ step.0.0 ∷ []) more.0) rest),
      more.3,
      ap suc more.4,
      (t.2, more.5),
    )

items_again : {A : Type 0} (one : List A → List ℕ → Read A) (spell : List A → A → List ℕ) (Fits : List A → A → Type 0) (Good : List A → Type 0)
    → AreReaders one spell Fits Good → (before : List A) → Good before → (new : List A) (rest : List ℕ) → EachBehind Fits before new
    → items_at one (length new) before (behind spell before new ++ rest) ≡ Ok (before ++ new, rest)
unfolding items_at
items_again one spell Fits Good readers before good [] rest each = ap (λ x. Ok (x, rest)) (sym (append-nil before))
items_again {A} one spell Fits Good readers before good (x ∷ xs) rest each =
    ap (λ (bs : List ℕ). items_at one (suc (length xs)) before bs) (append_assoc (spell before x) (behind spell (before ++ x ∷ []) xs) rest)
    ∙ ap (λ r. r >>= λ y. items_at one (length xs) (before ++ y.0 ∷ []) y.1)
    ((readers.reads before good).again x (behind spell (before ++ x ∷ []) xs ++ rest) each.0)
    ∙ items_again one spell Fits Good readers (before ++ x ∷ []) (readers.stays before x good each.0) xs rest each.1
    ∙ ap (λ (ys : List A). Ok (ys, rest)) (append_assoc before (x ∷ []) xs)

-- so many items, each spelled as it is behind those before it
pub behind_reader : {A : Type 0} (one : List A → List ℕ → Read A) (spell : List A → A → List ℕ) (Fits : List A → A → Type 0) (Good : List A → Type 0)
    → Good [] → ((before : List A) → Good before → IsReader (one before) (spell before) (Fits before))
    → ((before : List A) (x : A) → Good before → Fits before x → Good (before ++ x ∷ [])) → (count : ℕ)
    → IsReader (items_at one count []) (behind spell []) (λ items. (length items ≡ count) × EachBehind Fits [] items)
behind_reader {A} one spell Fits Good begins reads stays count =
    let readers : AreReaders one spell Fits Good = record { reads = reads; stays = stays } in
    record {
      takes = λ bytes items rest fits e.
          let t = items_takes one spell Fits Good readers count [] begins bytes items rest fits e in
          let is : items ≡ t.0 = t.1 in (
            t.2 ∙ ap (λ (xs : List A). behind spell [] xs ++ rest) (sym is),
            t.3,
            (ap length is ∙ t.4, subst (λ (xs : List A). EachBehind Fits [] xs) (sym is) t.5),
          );
      again = λ items rest fits.
          ap (λ (n : ℕ). items_at one n [] (behind spell [] items ++ rest)) (sym fits.0)
          ∙ items_again one spell Fits Good readers [] begins items rest fits.1;
    }

behind_flat : {A : Type 0} (spell : A → List ℕ) (before items : List A) → behind (λ before item. spell item) before items ≡ flat_map spell items
behind_flat spell before [] = refl
behind_flat spell before (x ∷ xs) = ap (λ (more : List ℕ). spell x ++ more) (behind_flat spell (before ++ x ∷ []) xs)

-- so many items, each spelled alike wherever it is
pub items_reader : {A : Type 0} (one : List A → List ℕ → Read A) (spell : A → List ℕ) (Fits : List A → A → Type 0)
    → ((before : List A) → IsReader (one before) spell (Fits before)) → (count : ℕ)
    → IsReader (items_at one count []) (λ items. flat_map spell items) (λ items. (length items ≡ count) × EachBehind Fits [] items)
items_reader one spell Fits readers count =
    adapted (items_at one count []) (behind (λ before item. spell item) []) (flat_map spell) _ _
    (behind_reader one (λ before item. spell item) Fits (λ before. Unit {0}) tt (λ before good. readers before) (λ before x good fits. tt) count)
    (λ items f. f) (λ items f. f) (λ items f. behind_flat spell [] items)

-- a field that is read passes its test
pub checked_test : {A : Type 0} (read : List ℕ → Read A) (test : A → Bool) (bytes : List ℕ) (a : A) (rest : List ℕ)
    → checked read test bytes ≡ Ok (a, rest) → test a ≡ true
checked_test read test bytes a rest e =
    let step = bind_ok (read bytes) (judged (length bytes) test) (a, rest) e in
    let guard = guard_ok (test step.0.0) (BadCode (length bytes)) step.0 (a, rest) step.2 in
    subst (λ x. test x.0 ≡ true) guard.1 guard.0
