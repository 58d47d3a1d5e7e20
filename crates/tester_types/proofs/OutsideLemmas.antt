-- Texts that are gained one after another, the fronts of them that a fault leaves, and counts of faults.
use Rattle.std.proofs.Common.{◌≡◌, ℕ, ◌+◌, ◌-◌, ◌<◌, ◌≤◌, List, [], ◌++◌, length, min, take, drop, Option, Some, None, Result, Ok, Err, inl, inr, sym, subst, get_or, refl, ap, ◌∙◌, ◌^◌, arith, append_assoc}
use Rattle.std.proofs.lemmas.Bool.{cases_lt}
use Rattle.std.proofs.lemmas.List.{take_rest, take-append-drop, take-append-le, take_min, append-nil}
use Rattle.std.proofs.Math.Seq.{take-add, take-append-add}
use Rattle.text_bytes.proofs.ListLemmas.{drop-item}
use Rattle.std.proofs.lemmas.Grind.{flat_map-append}
use Rattle.std.specs.List.{flat_map}
use Rattle.tester_types.specs.declared.outside.SinkFault.{SinkFault}
use Rattle.tester_types.specs.Outside.{HasRisen, gained, GainsFront, Puts}

-- two texts, one after another
pub gained-gained : (held : Option (List ℕ)) (a b : List ℕ) → gained (gained held a) b ≡ gained held (a ++ b)
gained-gained None a b = refl
gained-gained (Some bytes) a b = ap Some (append_assoc bytes a b)

-- no text
pub gained-none : (held : Option (List ℕ)) → gained held [] ≡ held
gained-none None = refl
gained-none (Some bytes) = ap Some (append-nil bytes)

-- one more put of the rest of a text
pub gained-more : (held before now : Option (List ℕ)) (text : List ℕ) (at n : ℕ) →
    before ≡ gained held (take at text) → now ≡ gained before (take n (take (length text - at) (drop at text))) →
    now ≡ gained held (take (at + n) text)
gained-more held before now text at n so_far was =
    was ∙ ap (λ was_held. gained was_held (take n (take (length text - at) (drop at text)))) so_far
    ∙ ap (λ rest. gained (gained held (take at text)) (take n rest)) (take_rest text at)
    ∙ gained-gained held (take at text) (take n (drop at text))
    ∙ ap (gained held) (sym (take-add at n text))

-- a front of a text is a front of a longer one
pub front_more : (held now : Option (List ℕ)) (a b : List ℕ) → GainsFront held a now → GainsFront held (a ++ b) now
front_more held now a b (n, is) =
    let short : min n (length a) ≤ length a = omega arith in
    (min n (length a), is ∙ ap (gained held) (sym (take-append-le (min n (length a)) a b short ∙ take_min n a)))

-- a front of what comes behind a text that was gained whole
pub front_behind : (held now : Option (List ℕ)) (a b : List ℕ) → GainsFront (gained held a) b now → GainsFront held (a ++ b) now
front_behind held now a b (n, is) =
    (length a + n, is ∙ gained-gained held a (take n b) ∙ ap (gained held) (sym (take-append-add a b n)))

-- the last of two texts ends as it ends
pub puts_last : (held before now : Option (List ℕ)) (a b : List ℕ) (r : Result (Unit {0}) SinkFault) →
    before ≡ gained held a → Puts before b r now → Puts held (a ++ b) r now
puts_last held before now a b (Ok done) first is = is ∙ ap (λ was. gained was b) first ∙ gained-gained held a b
puts_last held before now a b (Err fault) first front =
    front_behind held now a b (subst (λ (was : Option (List ℕ)). GainsFront was b now) first front)

-- a fault in the second of three texts
pub puts_stops : (held before now : Option (List ℕ)) (a b c : List ℕ) →
    before ≡ gained held a → GainsFront before b now → GainsFront held (a ++ (b ++ c)) now
puts_stops held before now a b c first front =
    front_behind held now a (b ++ c)
    (front_more (gained held a) now b c (subst (λ (was : Option (List ℕ)). GainsFront was b now) first front))

-- two texts were gained, one after another
pub gained_both : (held before now : Option (List ℕ)) (a b : List ℕ) →
    before ≡ gained held a → now ≡ gained before b → now ≡ gained held (a ++ b)
gained_both held before now a b first second = second ∙ ap (λ was. gained was b) first ∙ gained-gained held a b

-- a fault in the first of three texts that stand to the left
pub first_stops : (held now : Option (List ℕ)) (a b c : List ℕ) → GainsFront held a now → GainsFront held ((a ++ b) ++ c) now
first_stops held now a b c front = front_more held now (a ++ b) c (front_more held now a b front)

-- a fault in the second of them
pub second_stops : (held before now : Option (List ℕ)) (a b c : List ℕ) → before ≡ gained held a →
    GainsFront before b now → GainsFront held ((a ++ b) ++ c) now
second_stops held before now a b c first front =
    front_more held now (a ++ b) c (front_behind held now a b (subst (λ (was : Option (List ℕ)). GainsFront was b now) first front))

-- the third ends them all as it ends
pub third_ends : (held before between now : Option (List ℕ)) (a b c : List ℕ) (r : Result (Unit {0}) SinkFault) →
    before ≡ gained held a → between ≡ gained before b → Puts between c r now → Puts held ((a ++ b) ++ c) r now
third_ends held before between now a b c r first second last =
    puts_last held between now (a ++ b) c r (gained_both held before between a b first second) last

-- a text among many: those before it, it, and those behind it
pub flat_map-split : {X : Type 0} (text : X → List ℕ) (items : List X) (i : ℕ) (item : X) → i < length items →
    item ≡ get_or items i item →
    flat_map text items ≡ flat_map text (take i items) ++ (text item ++ flat_map text (drop (i + 1) items))
flat_map-split text items i item within is =
    ap (flat_map text) (sym (take-append-drop i items)) ∙ flat_map-append text (take i items) (drop i items)
    ∙ ap (λ xs. flat_map text (take i items) ++ flat_map text xs) (drop-item items i item within is)

-- a fault in one of many texts
pub each_stops : {X : Type 0} (text : X → List ℕ) (held before now : Option (List ℕ)) (items : List X) (i : ℕ) (item : X) →
    i < length items → item ≡ get_or items i item →
    before ≡ gained held (flat_map text (take i items)) → GainsFront before (text item) now →
    GainsFront held (flat_map text items) now
each_stops text held before now items i item within is first front =
    subst (λ (all : List ℕ). GainsFront held all now) (sym (flat_map-split text items i item within is))
    (puts_stops held before now (flat_map text (take i items)) (text item) (flat_map text (drop (i + 1) items)) first front)

-- a count that has risen behind another has risen
pub risen_behind : (before between now : ℕ) → before ≤ between → between ≤ now → HasRisen between now → HasRisen before now
risen_behind before between now first second risen = λ room. elim (cases_lt between (2 ^ 64 - 1)) [
  | inl below ↦ let more : between < now = risen below in omega arith
  | inr above ↦ omega arith
]
