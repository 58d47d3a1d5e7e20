-- A fault is that of the first refused item.
use Rattle.std.proofs.Common.{◌≡◌, suc, ◌+◌, List, [], ◌∷◌, ◌++◌, length, Result, Ok, Err, refl, ap, ◌∙◌, arith, length-append}
use Rattle.answers.specs.Reading.{and_then, reading, IsFirst}

-- reading what was met at one item
read_on : {X E F : Type 0} (judge : List X → E → Result X F) (before read : List X) (front es : List E) (r : Result X F)
    → ((x : X) → reading judge (before ++ x ∷ []) front ≡ Ok read
    → reading judge (before ++ x ∷ []) (front ++ es) ≡ reading judge read es)
    → and_then r (λ x. reading judge (before ++ x ∷ []) front) ≡ Ok read
    → and_then r (λ x. reading judge (before ++ x ∷ []) (front ++ es)) ≡ reading judge read es
read_on judge before read front es (Ok x) later is = later x is
read_on judge before read front es (Err fault) later is = cc

-- reading a front, and then the rest
pub reading-append : {X E F : Type 0} (judge : List X → E → Result X F) (before read : List X) (front es : List E)
    → reading judge before front ≡ Ok read → reading judge before (front ++ es) ≡ reading judge read es
reading-append judge before read [] es is = let same : before ≡ read = cc in ap (λ xs. reading judge xs es) same
reading-append judge before read (e ∷ front) es is =
    read_on judge before read front es (judge before e) (λ x. reading-append judge (before ++ x ∷ []) read front es) is

-- one more item
pub reading-one : {X E F : Type 0} (judge : List X → E → Result X F) (before read : List X) (front : List E) (e : E) (x : X)
    → reading judge before front ≡ Ok read → judge read e ≡ Ok x → reading judge before (front ++ e ∷ []) ≡ Ok (read ++ x ∷ [])
reading-one {F = F} judge before read front e x is judged =
    reading-append judge before read front (e ∷ []) is
    ∙ ap (λ (r : Result _ F). and_then r (λ y. Ok (read ++ y ∷ []))) judged

-- as much is read as there are items
counted : {X E F : Type 0} (judge : List X → E → Result X F) (before read : List X) (es : List E) (r : Result X F)
    → ((x : X) → reading judge (before ++ x ∷ []) es ≡ Ok read → length read ≡ length (before ++ x ∷ []) + length es)
    → and_then r (λ x. reading judge (before ++ x ∷ []) es) ≡ Ok read → length read ≡ length before + suc (length es)
counted judge before read es (Ok x) later is = omega (arith, later x is, length-append before (x ∷ []))
counted judge before read es (Err fault) later is = cc

-- as much is read as there are items
pub length-reading : {X E F : Type 0} (judge : List X → E → Result X F) (before read : List X) (es : List E)
    → reading judge before es ≡ Ok read → length read ≡ length before + length es
length-reading judge before read [] is = let same : before ≡ read = cc in omega (arith, ap length same)
length-reading judge before read (e ∷ es) is =
    counted judge before read es (judge before e) (λ x. length-reading judge (before ++ x ∷ []) read es) is

-- the fault of one item, or of those behind it
met_or_later : {X E F : Type 0} (judge : List X → E → Result X F) (before : List X) (e : E) (es : List E) (fault : F) (r : Result X F)
    → judge before e ≡ r
    → ((x : X) → reading judge (before ++ x ∷ []) es ≡ Err fault → IsFirst judge (before ++ x ∷ []) es fault)
    → and_then r (λ x. reading judge (before ++ x ∷ []) es) ≡ Err fault → IsFirst judge before (e ∷ es) fault
met_or_later judge before e es fault (Ok x) judged later is =
    let first = later x is in
    record {
      front = e ∷ first.front;
      here = first.here;
      back = first.back;
      read = first.read;
      split = ap (λ tail. e ∷ tail) first.split;
      front_read = ap (λ r. and_then r (λ y. reading judge (before ++ y ∷ []) first.front)) judged ∙ first.front_read;
      refused = first.refused;
    }
met_or_later judge before e es fault (Err met) judged later is =
    let same : met ≡ fault = cc in
    record {
      front = [];
      here = e;
      back = es;
      read = before;
      split = refl;
      front_read = refl;
      refused = judged ∙ ap Err same;
    }

-- a fault is that of a first refused item
pub first_is : {X E F : Type 0} (judge : List X → E → Result X F) (before : List X) (es : List E) (fault : F)
    → reading judge before es ≡ Err fault → IsFirst judge before es fault
first_is judge before [] fault is = cc
first_is judge before (e ∷ es) fault is =
    met_or_later judge before e es fault (judge before e) refl (λ x. first_is judge (before ++ x ∷ []) es fault) is

-- a first refused item's fault is that of the whole
pub is_first : {X E F : Type 0} (judge : List X → E → Result X F) (before : List X) (es : List E) (fault : F)
    → IsFirst judge before es fault → reading judge before es ≡ Err fault
is_first judge before es fault first =
    ap (reading judge before) first.split
    ∙ reading-append judge before first.read first.front (first.here ∷ first.back) first.front_read
    ∙ ap (λ r. and_then r (λ x. reading judge (first.read ++ x ∷ []) first.back)) first.refused
