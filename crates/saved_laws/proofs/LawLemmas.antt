-- What bytes come to when they are loaded, with what that depends on, and the laws from it.
use Rattle.std.proofs.Common.{◌≡◌, ℕ, suc, ◌-◌, ◌<◌, ◌≤◌, Bool, false, cond, eqb, List, [], ◌∷◌, ◌++◌, length, take, drop, Result, Ok, Err, refl, sym, ap, subst, ◌∙◌, append_assoc, arith, inl, inr}
use Rattle.std.specs.Int.{w16}
use Rattle.std.proofs.lemmas.Bool.{cases_lt, ne_eqb}
use Rattle.std.proofs.lemmas.List.{append-nil, take-append-drop, length-append, length-take-le, take-append-le}
use Rattle.std.proofs.Math.Seq.{take-append_seam}
use Rattle.page_code.specs.declared.fault.SavedFault.{SavedFault}
use Rattle.page_code.specs.declared.fault.SavedFault.TheVariants as saved
use Rattle.packed_code.specs.Program.{Program}
use Rattle.page_code.specs.Saved.{Saved}
use Rattle.page_code.specs.Fields.{◌>>=◌, Read, byte_at, number_at, checked}
use Rattle.page_code.specs.Reading.{magic_at, known_version, version_of, head_at, program_at, whole_at, answered, load_of}
use Rattle.page_code.proofs.LoadLemmas.{is_only}
use Rattle.saved_laws.specs.Laws.{HasRefusedField, HasRefusedHead, AgreeUpTo}
use Rattle.saved_laws.proofs.Sights.{torn, refused, Waits, Takes, Refuses, Sees, takes, refuses, ends, took}
use Rattle.saved_laws.proofs.ProgramSights.{Stops, Begins, sees, other_magic, other_version, bad_magic, bad_version, parsed, parsed_begins}

-- ---- what is answered

-- the refusals of readers, which have no name here
abbrev ErrorOf : {X E : Type 0} → Result X E → Type 0
ErrorOf {X} {E} r = E

abbrev Refused : Type 0
Refused = ErrorOf (byte_at [])

-- nothing may be behind a program
abbrev closing : Program × List ℕ → Result Program Refused
closing program = cond (eqb (length program.1) 0) (Ok program.0) (refused (length program.1) >>= λ y. Ok y.0)

abbrev pair_with : {C D : Type 0} → C → D × List ℕ → Read C
pair_with c u = Ok (c, u.1)

abbrev head_part : {C D : Type 0} → (C × List ℕ → Read D) → C × List ℕ → Read C
head_part z w = z w >>= pair_with w.0

abbrev program_part : {C D : Type 0} → (C × List ℕ → Read D) → (C → List ℕ → Read Program) → C × List ℕ → Read Program
program_part z p w = z w >>= λ u. p w.0 u.1

abbrev closing_part : {C : Type 0} → (C → List ℕ → Read Program) → C × List ℕ → Result Program Refused
closing_part p h = p h.0 h.1 >>= closing

zeros_flat : {C D : Type 0} (c : C) (z : Read D) (p : C → List ℕ → Read Program)
    → ((z >>= pair_with c) >>= closing_part p) ≡ ((z >>= λ u. p c u.1) >>= closing)
zeros_flat c (Ok u) p = refl
zeros_flat c (Err e) p = refl

version_flat : {C D : Type 0} (v : Read C) (z : C × List ℕ → Read D) (p : C → List ℕ → Read Program)
    → ((v >>= head_part z) >>= closing_part p) ≡ ((v >>= program_part z p) >>= closing)
version_flat (Ok w) z p = zeros_flat w.0 (z w) p
version_flat (Err e) z p = refl

number_flat : {B C D : Type 0} (n : Read B) (v : B × List ℕ → Read C) (z : C × List ℕ → Read D) (p : C → List ℕ → Read Program)
    → ((n >>= λ y. v y >>= head_part z) >>= closing_part p) ≡ ((n >>= λ y. v y >>= program_part z p) >>= closing)
number_flat (Ok y) v z p = version_flat (v y) z p
number_flat (Err e) v z p = refl

magic_flat : {A B C D : Type 0} (m : Read A) (n : A × List ℕ → Read B) (v : B × List ℕ → Read C) (z : C × List ℕ → Read D)
    (p : C → List ℕ → Read Program)
    → ((m >>= λ x. n x >>= λ y. v y >>= head_part z) >>= closing_part p) ≡ ((m >>= λ x. n x >>= λ y. v y >>= program_part z p) >>= closing)
magic_flat (Ok x) n v z p = number_flat (n x) v z p
magic_flat (Err e) n v z p = refl

whole_is : (bytes : List ℕ) → whole_at bytes ≡ (parsed bytes >>= closing)
unfolding whole_at head_at
whole_is bytes =
    magic_flat (magic_at (0xD7 ∷ 0x53 ∷ 0x54 ∷ 0x50 ∷ []) bytes) (λ m. number_at w16 m.1) (λ n. known_version (version_of n.0) n.1)
    (λ v. checked (number_at w16) (λ n. eqb n 0) v.1) program_at

abbrev told : ℕ → Read Program → Result Program SavedFault
told size r = answered size (r >>= closing)

load_is : (bytes : List ℕ) → load_of bytes ≡ told (length bytes) (parsed bytes)
load_is bytes = ap (answered (length bytes)) (whole_is bytes)

abbrev torn_at : ℕ → Result Program SavedFault
torn_at n = Err (saved.Torn n)

abbrev refused_at : ℕ → Result Program SavedFault
refused_at place = Err (saved.BadCode place)

load_told : (bytes : List ℕ) (r : Read Program) → parsed bytes ≡ r → load_of bytes ≡ told (length bytes) r
load_told bytes r e = load_is bytes ∙ ap (told (length bytes)) e

load_torn : (bytes : List ℕ) → parsed bytes ≡ torn → load_of bytes ≡ torn_at (length bytes)
load_torn bytes e = load_told bytes torn e

-- all of them, and bytes behind them
load_all : (bytes : List ℕ) (code : Program) → parsed bytes ≡ Ok (code, []) → load_of bytes ≡ Ok code
load_all bytes code e = load_told bytes (Ok (code, [])) e

load_behind : (bytes : List ℕ) (code : Program) (b : ℕ) (more : List ℕ) → parsed (bytes ++ b ∷ more) ≡ Ok (code, b ∷ more)
    → load_of (bytes ++ b ∷ more) ≡ refused_at (length bytes)
load_behind bytes code b more e =
    let size = length (bytes ++ b ∷ more) in
    let some : eqb (suc (length more)) 0 ≡ false = ne_eqb (suc (length more)) 0 (λ is. absurd (omega (arith, is))) in
    let place : size - suc (length more) ≡ length bytes = omega (arith, length-append bytes (b ∷ more)) in
    load_told (bytes ++ b ∷ more) (Ok (code, b ∷ more)) e
    ∙ ap (λ (c : Bool). answered size (cond c (Ok code) (refused (suc (length more)) >>= λ y. Ok y.0))) some
    ∙ ap (λ (k : ℕ). refused_at k) place

load_field : (before rest : List ℕ) → parsed (before ++ rest) ≡ refused (length rest) → load_of (before ++ rest) ≡ refused_at (length before)
load_field before rest e =
    let place : length (before ++ rest) - length rest ≡ length before = omega (arith, length-append before rest) in
    load_told (before ++ rest) (refused (length rest)) e ∙ ap (λ (k : ℕ). refused_at k) place

-- where the bytes end before this
load_waits : (front bytes rest : List ℕ) → bytes ≡ front ++ rest → Waits parsed front → (n : ℕ) → n < length front
    → load_of (take n bytes) ≡ torn_at n
load_waits front bytes rest split waits n lt =
    let is : take n bytes ≡ take n front = ap (λ (x : List ℕ). take n x) split ∙ take-append-le n front rest (omega (arith, lt)) in
    ap load_of is ∙ load_torn (take n front) (waits n lt) ∙ ap torn_at (length-take-le n front (omega (arith, lt)))

-- ---- what bytes come to

pub data Outcome (bytes : List ℕ) : Type 0 where
  a_code : (code : Program) → load_of bytes ≡ Ok code → ((n : ℕ) → n < length bytes → load_of (take n bytes) ≡ Err (saved.Torn n))
      → ((b : ℕ) (more : List ℕ) → load_of (bytes ++ b ∷ more) ≡ Err (saved.BadCode (length bytes))) → Outcome bytes
  a_field : (place : ℕ) → HasRefusedField bytes place → Outcome bytes
  an_end : load_of bytes ≡ Err (saved.Torn (length bytes)) → Outcome bytes
  a_magic : HasRefusedHead bytes 4 saved.BadMagic → Outcome bytes
  a_version : HasRefusedHead bytes 6 saved.BadVersion → Outcome bytes

of_field : (bytes : List ℕ) → (s : Refuses parsed bytes) → HasRefusedField bytes (length s.before)
of_field bytes s = record {
  before = s.before;
  field = s.field;
  rest = s.rest;
  whole = s.split;
  begins = refl;
  short = s.short;
  same = λ other. load_field s.before (s.field ++ other) (s.same other);
  sooner = λ n lt. inl (load_waits (s.before ++ s.field) bytes s.rest (s.split ∙ sym (append_assoc s.before s.field s.rest)) s.waits n
      (omega (arith, lt, length-append s.before s.field)));
}

-- a program behind which is a byte
of_more : (bytes : List ℕ) (code : Program) (b : ℕ) (more : List ℕ) → (t : Takes parsed bytes code (b ∷ more))
    → HasRefusedField bytes (length t.front)
of_more bytes code b more t = record {
  before = t.front;
  field = b ∷ [];
  rest = more;
  whole = t.split;
  begins = refl;
  short = omega arith;
  same = λ other. load_behind t.front code b other (t.same (b ∷ other));
  sooner = λ n lt.
      elim (cases_lt n (length t.front)) [
        | inl few ↦ inl (load_waits t.front bytes (b ∷ more) t.split t.waits n few)
        | inr all ↦
            let is : n ≡ length t.front = omega (arith, all, lt) in
            let front : take n bytes ≡ t.front =
            ap (λ (k : ℕ). take k bytes) is ∙ ap (λ (x : List ℕ). take (length t.front) x) t.split ∙ take-append_seam t.front (b ∷ more) in
            let done : parsed t.front ≡ Ok (code, []) = ap parsed (sym (append-nil t.front)) ∙ t.same [] in
            inr (is, refl, code, ap load_of front ∙ load_all t.front code done)
      ];
}

of_code : (bytes : List ℕ) (code : Program) → Takes parsed bytes code [] → Outcome bytes
of_code bytes code t =
    let is : bytes ≡ t.front = t.split ∙ append-nil t.front in
    a_code code (load_all bytes code (took parsed bytes code [] t))
    (λ n lt. load_waits t.front bytes [] t.split t.waits n (omega (arith, lt, ap length is)))
    (λ b more. ap (λ (x : List ℕ). load_of (x ++ b ∷ more)) is ∙ load_behind t.front code b more (t.same (b ∷ more))
    ∙ ap (λ (k : ℕ). refused_at k) (ap length (sym is)))

of_taken : (bytes : List ℕ) (code : Program) (rest : List ℕ) → Takes parsed bytes code rest → Outcome bytes
of_taken bytes code [] t = of_code bytes code t
of_taken bytes code (b ∷ more) t = a_field (length t.front) (of_more bytes code b more t)

-- first bytes that are refused
head_of : (bytes : List ℕ) (most : ℕ) (fault : SavedFault) (bad : Read Program) → ((size : ℕ) → told size bad ≡ Err fault)
    → Stops parsed bytes most bad → HasRefusedHead bytes most fault
head_of bytes most fault bad is s = record {
  front = s.front;
  rest = s.rest;
  whole = s.split;
  short = s.few;
  same = λ other. load_told (s.front ++ other) bad (s.same other) ∙ is (length (s.front ++ other));
  sooner = λ n lt. load_waits s.front bytes s.rest s.split s.waits n lt;
}

pub outcome : (bytes : List ℕ) → Outcome bytes
outcome bytes = by_sight (parsed_begins bytes)
  where
    by_seen : Sees parsed bytes → Outcome bytes
    by_seen (takes code rest t) = of_taken bytes code rest t
    by_seen (refuses s) = a_field (length s.before) (of_field bytes s)
    by_seen (ends e) = an_end (load_torn bytes e)

    by_sight : Begins parsed bytes 4 6 → Outcome bytes
    by_sight (sees s) = by_seen s
    by_sight (other_magic s) = a_magic (head_of bytes 4 saved.BadMagic bad_magic (λ size. refl) s)
    by_sight (other_version s) = a_version (head_of bytes 6 saved.BadVersion bad_version (λ size. refl) s)

-- ---- the laws

field_here : (bytes : List ℕ) (place : ℕ) → (h : HasRefusedField bytes place) → load_of bytes ≡ refused_at place
field_here bytes place h = ap load_of h.whole ∙ h.same h.rest

head_here : (bytes : List ℕ) (most : ℕ) (fault : SavedFault) → (h : HasRefusedHead bytes most fault) → load_of bytes ≡ Err fault
head_here bytes most fault h = ap load_of h.whole ∙ h.same h.rest

abbrev faulty : SavedFault → Result Program SavedFault
faulty fault = Err fault

one_fault : (read : Result Program SavedFault) (a b : SavedFault) → read ≡ Err a → read ≡ Err b → a ≡ b
one_fault read a b one two = same (sym one ∙ two)
  where
    same : faulty a ≡ faulty b → a ≡ b
    same e = cc

ok_or_err : (read : Result Program SavedFault) (code : Program) (a : SavedFault) → read ≡ Ok code → read ≡ Err a → ⊥
ok_or_err read code a one two = differ (sym one ∙ two)
  where
    differ : Ok code ≡ faulty a → ⊥
    differ e = cc

-- what must be so for a refusal; none is for want of memory
abbrev Met : List ℕ → SavedFault → Type 0
Met bytes (saved.BadCode place) = HasRefusedField bytes place
Met bytes saved.BadMagic = HasRefusedHead bytes 4 saved.BadMagic
Met bytes saved.BadVersion = HasRefusedHead bytes 6 saved.BadVersion
Met bytes (saved.Torn size) = size ≡ length bytes
Met bytes saved.NoMemory = ⊥

met : (bytes : List ℕ) (fault : SavedFault) → load_of bytes ≡ Err fault → Met bytes fault
met bytes fault e = by_outcome (outcome bytes)
  where
    moved : (other : SavedFault) → load_of bytes ≡ Err other → Met bytes other → Met bytes fault
    moved other is h = subst (Met bytes) (one_fault (load_of bytes) other fault is e) h

    by_outcome : Outcome bytes → Met bytes fault
    by_outcome (a_code code is w m) = absurd (ok_or_err (load_of bytes) code fault is e)
    by_outcome (a_field place h) = moved (saved.BadCode place) (field_here bytes place h) h
    by_outcome (an_end is) = moved (saved.Torn (length bytes)) is refl
    by_outcome (a_magic h) = moved saved.BadMagic (head_here bytes 4 saved.BadMagic h) h
    by_outcome (a_version h) = moved saved.BadVersion (head_here bytes 6 saved.BadVersion h) h

pub field_law : (bytes : List ℕ) (place : ℕ) → load_of bytes ≡ Err (saved.BadCode place) → HasRefusedField bytes place
field_law bytes place e = met bytes (saved.BadCode place) e

pub magic_law : (bytes : List ℕ) → load_of bytes ≡ Err saved.BadMagic → HasRefusedHead bytes 4 saved.BadMagic
magic_law bytes e = met bytes saved.BadMagic e

pub version_law : (bytes : List ℕ) → load_of bytes ≡ Err saved.BadVersion → HasRefusedHead bytes 6 saved.BadVersion
version_law bytes e = met bytes saved.BadVersion e

-- torn bytes are torn at their end, and all their beginnings at theirs
pub torn_law : (bytes : List ℕ) (size : ℕ) → load_of bytes ≡ Err (saved.Torn size)
    → (size ≡ length bytes) × ((n : ℕ) → n ≤ length bytes → load_of (take n bytes) ≡ Err (saved.Torn n))
torn_law bytes size e = (met bytes (saved.Torn size) e, each)
  where
    back : (n : ℕ) → take n bytes ++ drop n bytes ≡ bytes
    back n = take-append-drop n bytes

    behind_field : (n place : ℕ) → HasRefusedField (take n bytes) place → ⊥
    behind_field n place h =
        let is : bytes ≡ h.before ++ (h.field ++ (h.rest ++ drop n bytes)) =
        sym (back n) ∙ ap (λ (x : List ℕ). x ++ drop n bytes) h.whole ∙ append_assoc h.before (h.field ++ h.rest) (drop n bytes)
        ∙ ap (λ (x : List ℕ). h.before ++ x) (append_assoc h.field h.rest (drop n bytes)) in
        let here : load_of bytes ≡ refused_at place = ap load_of is ∙ h.same (h.rest ++ drop n bytes) in
        let same = one_fault (load_of bytes) (saved.BadCode place) (saved.Torn size) here e in absurd cc

    behind_head : (n most : ℕ) (fault : SavedFault) → HasRefusedHead (take n bytes) most fault → fault ≡ saved.Torn size
    behind_head n most fault h =
        let is : bytes ≡ h.front ++ (h.rest ++ drop n bytes) =
        sym (back n) ∙ ap (λ (x : List ℕ). x ++ drop n bytes) h.whole ∙ append_assoc h.front h.rest (drop n bytes) in
        one_fault (load_of bytes) fault (saved.Torn size) (ap load_of is ∙ h.same (h.rest ++ drop n bytes)) e

    behind_code : (n : ℕ) (code : Program) (more : List ℕ) → take n bytes ++ more ≡ bytes → load_of (take n bytes) ≡ Ok code
        → ((b : ℕ) (more : List ℕ) → load_of (take n bytes ++ b ∷ more) ≡ Err (saved.BadCode (length (take n bytes)))) → ⊥
    behind_code n code [] whole is m =
        ok_or_err (load_of bytes) code (saved.Torn size) (ap load_of (sym whole ∙ append-nil (take n bytes)) ∙ is) e
    behind_code n code (b ∷ more) whole is m =
        let here = ap load_of (sym whole) ∙ m b more in
        let same = one_fault (load_of bytes) (saved.BadCode (length (take n bytes))) (saved.Torn size) here e in absurd cc

    at_end : (n : ℕ) → n ≤ length bytes → Outcome (take n bytes) → load_of (take n bytes) ≡ Err (saved.Torn n)
    at_end n le (a_code code is w m) = absurd (behind_code n code (drop n bytes) (back n) is m)
    at_end n le (a_field place h) = absurd (behind_field n place h)
    at_end n le (an_end is) = is ∙ ap torn_at (length-take-le n bytes le)
    at_end n le (a_magic h) = let same = behind_head n 4 saved.BadMagic h in absurd cc
    at_end n le (a_version h) = let same = behind_head n 6 saved.BadVersion h in absurd cc

    each : (n : ℕ) → n ≤ length bytes → load_of (take n bytes) ≡ Err (saved.Torn n)
    each n le = at_end n le (outcome (take n bytes))

-- a saved program isn't refused
saved_memory : (bytes : List ℕ) (code : Program) (fault : SavedFault) → Saved code bytes → load_of bytes ≡ Err fault → fault ≡ saved.NoMemory
saved_memory bytes code fault is e = is_only bytes (Err fault) code is (inr e)

pub saved_law : (bytes : List ℕ) (code : Program) → Saved code bytes
    → ((n : ℕ) → n < length bytes → load_of (take n bytes) ≡ Err (saved.Torn n))
    × ((b : ℕ) (more : List ℕ) → load_of (bytes ++ b ∷ more) ≡ Err (saved.BadCode (length bytes)))
saved_law bytes code is = by_outcome (outcome bytes)
  where
    by_outcome : Outcome bytes → ((n : ℕ) → n < length bytes → load_of (take n bytes) ≡ Err (saved.Torn n))
        × ((b : ℕ) (more : List ℕ) → load_of (bytes ++ b ∷ more) ≡ Err (saved.BadCode (length bytes)))
    by_outcome (a_code other e w m) = (w, m)
    by_outcome (a_field place h) = let same = saved_memory bytes code (saved.BadCode place) is (field_here bytes place h) in absurd cc
    by_outcome (an_end e) = let same = saved_memory bytes code (saved.Torn (length bytes)) is e in absurd cc
    by_outcome (a_magic h) = let same = saved_memory bytes code saved.BadMagic is (head_here bytes 4 saved.BadMagic h) in absurd cc
    by_outcome (a_version h) = let same = saved_memory bytes code saved.BadVersion is (head_here bytes 6 saved.BadVersion h) in absurd cc

-- bytes that agree up to the end of the refused field
pub agree_law : (bytes : List ℕ) (place : ℕ) → load_of bytes ≡ Err (saved.BadCode place) → AgreeUpTo bytes place
agree_law bytes place e =
    let h = field_law bytes place e in
    let front = h.before ++ h.field in
    let split : bytes ≡ front ++ h.rest = h.whole ∙ sym (append_assoc h.before h.field h.rest) in
    let size = length-append h.before h.field in
    let begins = h.begins in
    let short = h.short in
    record {
      end = length front;
      behind = omega (arith, size, begins);
      near = omega (arith, size, begins, short);
      inside = omega (arith, ap length split, length-append front h.rest);
      same = λ other agrees.
          let first : take (length front) other ≡ front =
          agrees ∙ ap (λ (x : List ℕ). take (length front) x) split ∙ take-append_seam front h.rest in
          let is : other ≡ h.before ++ (h.field ++ drop (length front) other) =
          sym (take-append-drop (length front) other) ∙ ap (λ (x : List ℕ). x ++ drop (length front) other) first
          ∙ append_assoc h.before h.field (drop (length front) other) in
          ap load_of is ∙ h.same (drop (length front) other);
    }
