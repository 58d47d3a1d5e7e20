-- What readers see: whatever stands behind what a reader has taken or refused, it answers the same.
use Rattle.std.proofs.Common.{◌≡◌, ℕ, zero, suc, ◌+◌, ◌-◌, ◌<◌, ◌≤◌, Bool, true, false, cond, List, [], ◌∷◌, ◌++◌, length, take, Option, Some, None, Ok, refl, sym, ap, subst, ◌∙◌, append_assoc, arith, inl, inr}
use Rattle.std.proofs.lemmas.Bool.{cases_lt}
use Rattle.std.proofs.lemmas.List.{length-append, take-append-le}
use Rattle.std.proofs.Math.Seq.{take-append-add}
use Rattle.page_code.specs.Fields.{◌>>=◌, Read, byte_at, judged, checked, meant, known, items_at}

-- ---- what a reader has seen

-- what is read where the bytes end before a field does
abbrev pub torn : {A : Type 0} → Read A
torn {A} = known {B = A} byte_at (λ byte. None) []

-- what is read where a condition fails with so many bytes left
abbrev pub refused : {A : Type 0} → ℕ → Read A
refused {A} left = meant {A = A} left None []

-- where the bytes end before all of these, they are torn
abbrev pub Waits : {A : Type 0} → (List ℕ → Read A) → List ℕ → Type 0
Waits read front = (n : ℕ) → n < length front → read (take n front) ≡ torn

-- the bytes that were taken give this value whatever is behind them, and no fewer do
pub record Takes {A : Type 0} (read : List ℕ → Read A) (bytes : List ℕ) (value : A) (after : List ℕ) : Type 0 where
  pub front : List ℕ
  pub split : bytes ≡ front ++ after
  pub same : (other : List ℕ) → read (front ++ other) ≡ Ok (value, other)
  pub waits : Waits read front

-- the field that was refused is refused there whatever is behind it, and nothing shorter is
pub record Refuses {A : Type 0} (read : List ℕ → Read A) (bytes : List ℕ) : Type 0 where
  pub before : List ℕ
  pub field : List ℕ
  pub rest : List ℕ
  pub split : bytes ≡ before ++ (field ++ rest)
  pub short : length field ≤ 1026
  pub same : (other : List ℕ) → read (before ++ (field ++ other)) ≡ refused (length (field ++ other))
  pub waits : Waits read (before ++ field)

-- it takes something, refuses a field, or meets the end of the bytes
pub data Sees {A : Type 0} (read : List ℕ → Read A) (bytes : List ℕ) : Type 0 where
  takes : (value : A) (after : List ℕ) → Takes read bytes value after → Sees read bytes
  refuses : Refuses read bytes → Sees read bytes
  ends : read bytes ≡ torn → Sees read bytes

-- a reader that sees no more than it takes or refuses
abbrev pub IsLocal : {A : Type 0} → (List ℕ → Read A) → Type 0
IsLocal read = (bytes : List ℕ) → Sees read bytes

-- a reader that takes at most so many bytes
abbrev pub IsShort : {A : Type 0} → ℕ → (List ℕ → Read A) → Type 0
IsShort {A} most read = (bytes : List ℕ) (a : A) (rest : List ℕ) → read bytes ≡ Ok (a, rest) → length bytes ≤ most + length rest

-- ---- one after another

abbrev pub Then : {A B : Type 0} → (List ℕ → Read A) → (A × List ℕ → Read B) → List ℕ → Read B
Then read next bytes = read bytes >>= next

pub bound : {A B : Type 0} (r s : Read A) (next : A × List ℕ → Read B) → r ≡ s → (r >>= next) ≡ (s >>= next)
bound r s next e = ap (λ x. x >>= next) e

pub waits_then : {A B : Type 0} (read : List ℕ → Read A) (next : A × List ℕ → Read B) (value : A) (front later : List ℕ) → Waits read front
    → ((other : List ℕ) → read (front ++ other) ≡ Ok (value, other)) → Waits (λ bytes. next (value, bytes)) later
    → Waits (Then read next) (front ++ later)
waits_then read next value front later first same second n lt =
    elim (cases_lt n (length front)) [
      | inl few ↦
          ap (Then read next) (take-append-le n front later (omega (arith, few)))
          ∙ bound (read (take n front)) torn next (first n few)
      | inr many ↦
          let m = n - length front in
          let is : n ≡ length front + m = omega (arith, many) in
          let whole : take n (front ++ later) ≡ front ++ take m later =
          ap (λ (k : ℕ). take k (front ++ later)) is ∙ take-append-add front later m in
          ap (Then read next) whole
          ∙ bound (read (front ++ take m later)) (Ok (value, take m later)) next (same (take m later))
          ∙ second m (omega (arith, length-append front later, lt, is))
    ]

pub same_then : {A B : Type 0} (read : List ℕ → Read A) (next : A × List ℕ → Read B) (value : A) (front : List ℕ) (made : Read B)
    → ((other : List ℕ) → read (front ++ other) ≡ Ok (value, other)) → (later other : List ℕ) → next (value, later ++ other) ≡ made
    → Then read next ((front ++ later) ++ other) ≡ made
same_then read next value front made same later other second =
    ap (Then read next) (append_assoc front later other)
    ∙ bound (read (front ++ (later ++ other))) (Ok (value, later ++ other)) next (same (later ++ other))
    ∙ second

takes_then : {A B : Type 0} (read : List ℕ → Read A) (next : A × List ℕ → Read B) (bytes : List ℕ) (a : A) (rest : List ℕ) (b : B) (after : List ℕ)
    → Takes read bytes a rest → Takes (λ bytes. next (a, bytes)) rest b after → Takes (Then read next) bytes b after
takes_then read next bytes a rest b after first second = record {
  front = first.front ++ second.front;
  split = first.split ∙ ap (λ (x : List ℕ). first.front ++ x) second.split ∙ sym (append_assoc first.front second.front after);
  same = λ other. same_then read next a first.front (Ok (b, other)) first.same second.front other (second.same other);
  waits = waits_then read next a first.front second.front first.waits first.same second.waits;
}

refuses_then : {A B : Type 0} (read : List ℕ → Read A) (next : A × List ℕ → Read B) (bytes : List ℕ) (a : A) (rest : List ℕ)
    → Takes read bytes a rest → Refuses (λ bytes. next (a, bytes)) rest → Refuses (Then read next) bytes
refuses_then read next bytes a rest first second = record {
  before = first.front ++ second.before;
  field = second.field;
  rest = second.rest;
  split = first.split ∙ ap (λ (x : List ℕ). first.front ++ x) second.split
      ∙ sym (append_assoc first.front second.before (second.field ++ second.rest));
  short = second.short;
  same = λ other. same_then read next a first.front (refused (length (second.field ++ other))) first.same second.before
      (second.field ++ other) (second.same other);
  waits = subst (λ (x : List ℕ). Waits (Then read next) x) (sym (append_assoc first.front second.before second.field))
      (waits_then read next a first.front (second.before ++ second.field) first.waits first.same second.waits);
}

-- what was taken was read
pub took : {A : Type 0} (read : List ℕ → Read A) (bytes : List ℕ) (a : A) (rest : List ℕ) → Takes read bytes a rest → read bytes ≡ Ok (a, rest)
took read bytes a rest t = ap read t.split ∙ t.same rest

pub sees_then : {A B : Type 0} (read : List ℕ → Read A) (next : A × List ℕ → Read B) (bytes : List ℕ) (a : A) (rest : List ℕ)
    → Takes read bytes a rest → Sees (λ bytes. next (a, bytes)) rest → Sees (Then read next) bytes
sees_then read next bytes a rest first (takes b after second) = takes b after (takes_then read next bytes a rest b after first second)
sees_then read next bytes a rest first (refuses second) = refuses (refuses_then read next bytes a rest first second)
sees_then read next bytes a rest first (ends second) =
    ends (bound (read bytes) (Ok (a, rest)) next (took read bytes a rest first) ∙ second)

-- a field that is refused is refused in what is made of it, where `next` may know how long the bytes are
pub kept : {A B : Type 0} (read : List ℕ → Read A) (next : ℕ → A × List ℕ → Read B) (bytes : List ℕ) → Refuses read bytes
    → Refuses (λ bytes. read bytes >>= next (length bytes)) bytes
kept read next bytes s = record {
  before = s.before;
  field = s.field;
  rest = s.rest;
  split = s.split;
  short = s.short;
  same = λ other.
      bound (read (s.before ++ (s.field ++ other))) (refused (length (s.field ++ other))) (next (length (s.before ++ (s.field ++ other))))
      (s.same other);
  waits = λ n lt. bound (read (take n (s.before ++ s.field))) torn (next (length (take n (s.before ++ s.field)))) (s.waits n lt);
}

-- one part, and then the rest by it
pub then_given : {A B : Type 0} (read : List ℕ → Read A) (next : A × List ℕ → Read B) → IsLocal read
    → ((bytes : List ℕ) (a : A) (rest : List ℕ) → read bytes ≡ Ok (a, rest) → IsLocal (λ bytes. next (a, bytes)))
    → IsLocal (λ bytes. read bytes >>= next)
then_given {A} read next first second bytes = by_first (first bytes)
  where
    by_first : Sees read bytes → Sees (Then read next) bytes
    by_first (takes a rest t) = sees_then read next bytes a rest t (second bytes a rest (took read bytes a rest t) rest)
    by_first (refuses s) = refuses (kept read (λ left. next) bytes s)
    by_first (ends e) = ends (bound (read bytes) torn next e)

pub then_local : {A B : Type 0} (read : List ℕ → Read A) (next : A × List ℕ → Read B) → IsLocal read
    → ((a : A) → IsLocal (λ bytes. next (a, bytes))) → IsLocal (λ bytes. read bytes >>= next)
then_local read next first second = then_given read next first (λ bytes a rest is. second a)

-- nothing more is read
pub done_local : {A : Type 0} (made : A) → IsLocal (λ bytes. Ok (made, bytes))
done_local made bytes = takes made bytes (record {
  front = [];
  split = refl;
  same = λ other. refl;
  waits = λ n lt. absurd (omega (arith, lt));
})

-- one of two readers
pub either_local : {A : Type 0} (first : Bool) (read other : List ℕ → Read A) → IsLocal read → IsLocal other
    → IsLocal (λ bytes. cond first (read bytes) (other bytes))
either_local true read other one two = one
either_local false read other one two = two

-- what holds of a reader holds of one that reads the same
pub alike_at : {A : Type 0} (read other : List ℕ → Read A) → ((bytes : List ℕ) → other bytes ≡ read bytes) → (bytes : List ℕ) → Sees read bytes
    → Sees other bytes
alike_at read other is bytes (takes a rest s) = takes a rest (record {
  front = s.front;
  split = s.split;
  same = λ more. is (s.front ++ more) ∙ s.same more;
  waits = λ n lt. is (take n s.front) ∙ s.waits n lt;
})
alike_at read other is bytes (refuses s) = refuses (record {
  before = s.before;
  field = s.field;
  rest = s.rest;
  split = s.split;
  short = s.short;
  same = λ more. is (s.before ++ (s.field ++ more)) ∙ s.same more;
  waits = λ n lt. is (take n (s.before ++ s.field)) ∙ s.waits n lt;
})
alike_at read other is bytes (ends e) = ends (is bytes ∙ e)

pub alike : {A : Type 0} (read other : List ℕ → Read A) → ((bytes : List ℕ) → other bytes ≡ read bytes) → IsLocal read → IsLocal other
alike read other is local bytes = alike_at read other is bytes (local bytes)

-- ---- conditions

-- a field that was taken and is refused at its first byte, since `made` refuses its value
refused_field : {A B : Type 0} (read : List ℕ → Read A) (made : ℕ → A × List ℕ → Read B) (bytes : List ℕ) (a : A) (rest : List ℕ)
    → IsShort 1026 read → Takes read bytes a rest → ((left : ℕ) (rest : List ℕ) → made left (a, rest) ≡ refused left)
    → Refuses (λ bytes. read bytes >>= made (length bytes)) bytes
refused_field read made bytes a after few t refusing = record {
  before = [];
  field = t.front;
  rest = after;
  split = t.split;
  short = let most = few (t.front ++ []) a [] (t.same []) in omega (arith, most, length-append t.front []);
  same = λ other.
      bound (read (t.front ++ other)) (Ok (a, other)) (made (length (t.front ++ other))) (t.same other)
      ∙ refusing (length (t.front ++ other)) other;
  waits = λ n lt. bound (read (take n t.front)) torn (made (length (take n t.front))) (t.waits n lt);
}

taken_field : {A B : Type 0} (read : List ℕ → Read A) (made : ℕ → A × List ℕ → Read B) (bytes : List ℕ) (a : A) (b : B) (rest : List ℕ)
    → Takes read bytes a rest → ((left : ℕ) (rest : List ℕ) → made left (a, rest) ≡ Ok (b, rest))
    → Takes (λ bytes. read bytes >>= made (length bytes)) bytes b rest
taken_field read made bytes a b rest t taken = record {
  front = t.front;
  split = t.split;
  same = λ other.
      bound (read (t.front ++ other)) (Ok (a, other)) (made (length (t.front ++ other))) (t.same other)
      ∙ taken (length (t.front ++ other)) other;
  waits = λ n lt. bound (read (take n t.front)) torn (made (length (take n t.front))) (t.waits n lt);
}

pub checked_local : {A : Type 0} (read : List ℕ → Read A) (test : A → Bool) → IsShort 1026 read → IsLocal read
    → IsLocal (checked read test)
checked_local {A} read test few local bytes = by_read (local bytes)
  where
    by_test : (a : A) (rest : List ℕ) (b : Bool) → test a ≡ b → Takes read bytes a rest → Sees (checked read test) bytes
    by_test a rest true is t = takes a rest (taken_field read (λ left. judged left test) bytes a a rest t
        (λ left rest. ap (λ (c : Bool). cond {A = Read A} c (Ok (a, rest)) (refused left)) is))
    by_test a rest false is t = refuses (refused_field read (λ left. judged left test) bytes a rest few t
        (λ left rest. ap (λ (c : Bool). cond {A = Read A} c (Ok (a, rest)) (refused left)) is))

    by_read : Sees read bytes → Sees (checked read test) bytes
    by_read (takes a rest t) = by_test a rest (test a) refl t
    by_read (refuses s) = refuses (kept read (λ left. judged left test) bytes s)
    by_read (ends e) = ends (bound (read bytes) torn (judged (length bytes) test) e)

pub known_local : {A B : Type 0} (read : List ℕ → Read A) (meaning : A → Option B) → IsShort 1026 read → IsLocal read
    → IsLocal (known read meaning)
known_local {A} {B} read meaning few local bytes = by_read (local bytes)
  where
    by_meaning : (a : A) (rest : List ℕ) (o : Option B) → meaning a ≡ o → Takes read bytes a rest → Sees (known read meaning) bytes
    by_meaning a rest None is t = refuses (refused_field read (λ left y. meant left (meaning y.0) y.1) bytes a rest few t
        (λ left rest. ap (λ (o : Option B). meant left o rest) is))
    by_meaning a rest (Some b) is t = takes b rest (taken_field read (λ left y. meant left (meaning y.0) y.1) bytes a b rest t
        (λ left rest. ap (λ (o : Option B). meant left o rest) is))

    by_read : Sees read bytes → Sees (known read meaning) bytes
    by_read (takes a rest t) = by_meaning a rest (meaning a) refl t
    by_read (refuses s) = refuses (kept read (λ left y. meant left (meaning y.0) y.1) bytes s)
    by_read (ends e) = ends (bound (read bytes) torn (λ y. meant (length bytes) (meaning y.0) y.1) e)

-- ---- items

pub items_local : {A : Type 0} (one : List A → List ℕ → Read A) → ((before : List A) → IsLocal (one before)) → (count : ℕ) (before : List A)
    → IsLocal (items_at one count before)
unfolding items_at
items_local one local zero before = done_local before
items_local one local (suc n) before =
    then_local (one before) (λ x. items_at one n (before ++ x.0 ∷ []) x.1) (local before)
    (λ a. items_local one local n (before ++ a ∷ []))
