-- Lines with their nets by numbers say of each net what the lines say of its name.
use Rattle.std.proofs.Common.{◌≡◌, ℕ, suc, ◌+◌, ◌<◌, ◌≤◌, Bool, true, false, not, ◌||◌, cond, List, [], ◌∷◌, ◌++◌, length, get_or, set, take, drop, ◌-◌, map, replicate, Option, Some, None, refl, sym, ap, ◌∙◌, subst, arith, inl, inr}
use Rattle.std.specs.Prelude.{All, fold, ◌⊎◌}
use Rattle.std.specs.List.{list_any, list_all, find, filter_map, flat_map, cons_option}
use Rattle.std.specs.Option.{option_map, option_map_or, option_or}
use Rattle.std.specs.Borrow.{Bor}
use Rattle.std.specs.Str.{bytes_eq}
use Rattle.std.specs.Cmp.Lexicographic.{bytes_decides}
use Rattle.std.proofs.lemmas.Bool.{cases_Bool, or_parts, and_parts}
use Rattle.std.proofs.lemmas.List.{map-append, take_rest, append_assoc, append-nil, length-map}
use Rattle.std.proofs.lemmas.List.Elements.{All-cons, All-head, All-tail, All-append}
use Rattle.std.proofs.lemmas.List.Folds.{list_any-append}
use Rattle.std.proofs.lemmas.Simd.{map-map, splat_is_map}
use Rattle.std.proofs.Math.Bool.{or-false}
use Rattle.text_bytes.specs.Texts.{added}
use Rattle.text_bytes.specs.Limits.{most_nets}
use Rattle.text_bytes.proofs.ListLemmas.{list_any-map}
use Rattle.text_bytes.proofs.TextLemmas.{bytes_eq-comm}
use Rattle.bench_net.specs.declared.fault.NetFault.{NetFault}
use Rattle.bench_net.specs.declared.fault.NetFault.TheVariants.{NoMemory, Twice}
use Rattle.bench_net.specs.declared.gate.Driver.{Driver}
use Rattle.bench_net.specs.declared.gate.Driver.TheVariants.{Input}
use Rattle.bench_net.specs.declared.numbers.Numbered.{Numbered}
use Rattle.bench_net.specs.Circuit.{number}
use Rattle.bench_net.specs.Line.{Form, nothing, input, output, gate}
use Rattle.bench_net.specs.Net.{named, names, driven, shown, used, drives, driver_of, net_of, first_repeat, arity_fault, twice_fault, is_missing, missing_fault}
use Rattle.bench_net.specs.Fault.{IsRefusal}
use Rattle.bench_net.specs.Numbers.{numbered, IsNumber, AreNumbers, driven_net, shown_net, with_mark, first_twice, IsTwice, with_driver, placed, lacks}
use Rattle.bench_net.specs.Views.{texts}
use Rattle.bench_net.proofs.NamesLemmas.{AreApart, AreApart-names, number_there, number_not, number-added, number-fold, added_there, fold_stays, fold_there, same_bytes, All-left, All-right}

-- ---- names that are put behind the others

-- a name with a number is there
pub added-numbered : (ks : List (List ℕ)) (n : List ℕ) → number ks n < length ks → ks ≡ added ks n
added-numbered ks n l =
    elim (cases_Bool (list_any (bytes_eq n) ks)) [
      | inl e ↦ sym (ap (λ b. cond b ks (ks ++ n ∷ [])) e)
      | inr e ↦ absurd (omega (arith, l, number_not ks n e))
    ]

-- a key that is put among the others is put so among their texts
pub added-inserted : {X : Type 0} (f : X → List ℕ) (keys keys' : List X) (k : X)
    → keys' ≡ cond (list_any (λ j. bytes_eq (f k) (f j)) keys) keys (keys ++ k ∷ []) → map f keys' ≡ added (map f keys) (f k)
added-inserted f keys keys' k put =
    let test = list_any-map f (bytes_eq (f k)) keys in
    elim (cases_Bool (list_any (λ j. bytes_eq (f k) (f j)) keys)) [
      | inl e ↦ ap (map f) (put ∙ ap (λ b. cond b keys (keys ++ k ∷ [])) e)
          ∙ sym (ap (λ b. cond b (map f keys) (map f keys ++ f k ∷ [])) (test ∙ e))
      | inr e ↦ ap (map f) (put ∙ ap (λ b. cond b keys (keys ++ k ∷ [])) e) ∙ map-append f keys (k ∷ [])
          ∙ sym (ap (λ b. cond b (map f keys) (map f keys ++ f k ∷ [])) (test ∙ e))
    ]

-- where a name is or will be stands its number, whatever names come behind
pub IsNumber-place : (ks : List (List ℕ)) (name : List ℕ) (place n : ℕ) → place ≡ number ks name
    → (place ≤ most_nets → n ≡ place) → IsNumber ks name n
IsNumber-place ks name place n p kept more small =
    let there = added_there ks name in
    let stays : number (fold added (added ks name) more) name ≡ number ks name =
    number-fold more (added ks name) name there ∙ number-added ks name in
    let within = number_there (fold added (added ks name) more) name (fold_stays more (added ks name) name there) in
    kept (omega (arith, p, stays, within, small)) ∙ p ∙ sym stays

-- the next pin is put behind the others, and then the rest
pub names-more : (ks ks' whole : List (List ℕ)) (rest : List (Bor (List ℕ))) (d : Bor (List ℕ)) → 1 ≤ length rest
    → ks' ≡ added ks (get_or rest 0 d).now → fold added ks (texts rest) ≡ whole
    → fold added ks' (texts (take (length rest - 1) (drop 1 rest))) ≡ whole
names-more ks ks' whole [] d some grown h = absurd (omega (arith, some))
names-more ks ks' whole (z ∷ zs) d some grown h = (λ i. fold added (grown i) (texts (take_rest (z ∷ zs) 1 i))) ∙ h

-- the numbers of the next pin and of the rest
pub AreNumbers-more : (ks ks' ks0 all : List (List ℕ)) (nets nets' : List ℕ) (rest : List (Bor (List ℕ))) (d : Bor (List ℕ)) (n : ℕ)
    → 1 ≤ length rest → ks' ≡ added ks (get_or rest 0 d).now → IsNumber ks (get_or rest 0 d).now n → nets' ≡ nets ++ n ∷ []
    → ((ns : List ℕ) → AreNumbers ks (texts rest) ns → AreNumbers ks0 all (nets ++ ns))
    → (ns : List ℕ) → AreNumbers ks' (texts (take (length rest - 1) (drop 1 rest))) ns → AreNumbers ks0 all (nets' ++ ns)
AreNumbers-more ks ks' ks0 all nets nets' [] d n some grown one put whole ns are = absurd (omega (arith, some))
AreNumbers-more ks ks' ks0 all nets nets' (z ∷ zs) d n some grown one put whole ns are =
    subst (AreNumbers ks0 all) (sym (ap (λ (ms : List ℕ). ms ++ ns) put ∙ append_assoc nets (n ∷ []) ns))
    (whole (n ∷ ns) (λ more small. λ i. one (texts zs ++ more) small i ∷ others more small i))
  where
    others : AreNumbers (added ks z.now) (texts zs) ns
    others = subst (λ (bs : List (Bor (List ℕ))). AreNumbers (added ks z.now) (texts bs) ns) (take_rest (z ∷ zs) 1)
        (subst (λ (k : List (List ℕ)). AreNumbers k (texts (take (length (z ∷ zs) - 1) (drop 1 (z ∷ zs)))) ns) grown are)

-- behind the last pin there are no more
pub AreNumbers-done : (ks ks0 all : List (List ℕ)) (nets nets' : List ℕ) (rest : List (Bor (List ℕ))) → length rest < 1 → nets' ≡ nets
    → ((ns : List ℕ) → AreNumbers ks (texts rest) ns → AreNumbers ks0 all (nets ++ ns)) → AreNumbers ks0 all nets'
AreNumbers-done ks ks0 all nets nets' [] none same whole =
    subst (AreNumbers ks0 all) (append-nil nets ∙ sym same) (whole [] (λ more small. refl))
AreNumbers-done ks ks0 all nets nets' (z ∷ zs) none same whole = absurd (omega (arith, none))

-- ---- the slots of nets, by their names

-- at the number of a net stands its name
at_number : (all : List (List ℕ)) (n : List ℕ) → list_any (bytes_eq n) all ≡ true → get_or all (number all n) [] ≡ n
at_number [] n h = cc
at_number (k ∷ ks) n h =
    let one : 1 + number ks n ≡ suc (number ks n) = omega arith in
    elim (cases_Bool (bytes_eq n k)) [
      | inl e ↦ ap (λ b. get_or (k ∷ ks) (cond {A = ℕ} (not b) (1 + number ks n) 0) []) e ∙ sym ((bytes_decides n k).0 e)
      | inr e ↦ ap (λ b. get_or (k ∷ ks) (cond {A = ℕ} (not b) (1 + number ks n) 0) []) e
          ∙ ap (λ i. get_or (k ∷ ks) i []) one
          ∙ at_number ks n (sym (ap (λ b. b || list_any (bytes_eq n) ks) e) ∙ h)
    ]

-- and what is kept of its name
mark_at_number : (p : List ℕ → Bool) (all : List (List ℕ)) (n : List ℕ) → list_any (bytes_eq n) all ≡ true
    → get_or (map p all) (number all n) false ≡ p n
mark_at_number p [] n h = cc
mark_at_number p (k ∷ ks) n h =
    let one : 1 + number ks n ≡ suc (number ks n) = omega arith in
    elim (cases_Bool (bytes_eq n k)) [
      | inl e ↦ ap (λ b. get_or (map p (k ∷ ks)) (cond {A = ℕ} (not b) (1 + number ks n) 0) false) e
          ∙ sym (ap p ((bytes_decides n k).0 e))
      | inr e ↦ ap (λ b. get_or (map p (k ∷ ks)) (cond {A = ℕ} (not b) (1 + number ks n) 0) false) e
          ∙ ap (λ i. get_or (map p (k ∷ ks)) i false) one
          ∙ mark_at_number p ks n (sym (ap (λ b. b || list_any (bytes_eq n) ks) e) ∙ h)
    ]

-- the first name stands nowhere behind
no_other : (k : List ℕ) (ks : List (List ℕ)) → AreApart (k ∷ ks) → list_any (bytes_eq k) ks ≡ false
no_other k ks h =
    elim (cases_Bool (list_any (bytes_eq k) ks)) [
      | inl e ↦
          let later : number (k ∷ ks) k ≡ suc (number ks k) = sym (ap (number (k ∷ ks)) (at_number ks k e))
          ∙ h.each (suc (number ks k)) (omega (arith, number_there ks k e)) in
          let first : number (k ∷ ks) k ≡ 0 = ap (λ b. cond {A = ℕ} (not b) (1 + number ks k) 0) (same_bytes k) in
          absurd (omega (arith, later, first))
      | inr e ↦ e
    ]

AreApart-rest : (k : List ℕ) (ks : List (List ℕ)) → AreApart (k ∷ ks) → AreApart ks
AreApart-rest k ks h = record { each = λ i l. own i l }
  where
    own : (i : ℕ) → i < length ks → number ks (get_or ks i []) ≡ i
    own i l =
        let n = get_or ks i [] in
        let at : number (k ∷ ks) n ≡ suc i = h.each (suc i) (omega (arith, l)) in
        elim (cases_Bool (bytes_eq n k)) [
          | inl e ↦
              let first : number (k ∷ ks) n ≡ 0 = ap (λ b. cond {A = ℕ} (not b) (1 + number ks n) 0) e in
              absurd (omega (arith, at, first))
          | inr e ↦
              let later : number (k ∷ ks) n ≡ 1 + number ks n = ap (λ b. cond {A = ℕ} (not b) (1 + number ks n) 0) e in
              omega (arith, at, later)
        ]

-- what is written in the slot of a net is what its name has from then on
written_nowhere : {B : Type 0} (f : List ℕ → B) (ks : List (List ℕ)) (n : List ℕ) (v : B) → list_any (bytes_eq n) ks ≡ false
    → map f ks ≡ map (λ m. cond (bytes_eq m n) v (f m)) ks
written_nowhere f [] n v h = refl
written_nowhere f (k ∷ ks) n v h =
    let both = or_parts (bytes_eq n k) (list_any (bytes_eq n) ks) h in
    λ i. sym (ap (λ b. cond b v (f k)) (bytes_eq-comm k n ∙ both.0)) i ∷ written_nowhere f ks n v both.1 i

written : {B : Type 0} (f : List ℕ → B) (all : List (List ℕ)) (n : List ℕ) (v : B) → AreApart all
    → set (map f all) (number all n) v ≡ map (λ m. cond (bytes_eq m n) v (f m)) all
written f [] n v h = refl
written f (k ∷ ks) n v h =
    let one : 1 + number ks n ≡ suc (number ks n) = omega arith in
    elim (cases_Bool (bytes_eq n k)) [
      | inl e ↦
          let none = ap (λ (m : List ℕ). list_any (bytes_eq m) ks) ((bytes_decides n k).0 e) ∙ no_other k ks h in
          ap (λ b. set (map f (k ∷ ks)) (cond {A = ℕ} (not b) (1 + number ks n) 0) v) e
          ∙ (λ i. sym (ap (λ b. cond b v (f k)) (bytes_eq-comm k n ∙ e)) i ∷ written_nowhere f ks n v none i)
      | inr e ↦
          ap (λ b. set (map f (k ∷ ks)) (cond {A = ℕ} (not b) (1 + number ks n) 0) v) e
          ∙ ap (λ j. set (map f (k ∷ ks)) j v) one
          ∙ (λ i. sym (ap (λ b. cond b v (f k)) (bytes_eq-comm k n ∙ e)) i ∷ written f ks n v (AreApart-rest k ks h) i)
    ]

-- ---- marks

or_swap : (a b c : Bool) → (cond a true b || c) ≡ (b || (a || c))
or_swap true true c = refl
or_swap true false c = refl
or_swap false true c = refl
or_swap false false c = refl

-- the nets that lines name, by their numbers
abbrev numbers_of : List (List ℕ) → (Form → Option (List ℕ)) → List Form → List (Option ℕ)
numbers_of all pick fs = map (λ f. option_map (number all) (pick f)) fs

marks_step : (all : List (List ℕ)) (pick : Form → Option (List ℕ)) (p : List ℕ → Bool) (fs : List Form) (o : Option (List ℕ))
    → AreApart all
    → ((q : List ℕ → Bool) → fold with_mark (map q all) (numbers_of all pick fs)
    ≡ map (λ m. q m || list_any (bytes_eq m) (filter_map pick fs)) all)
    → fold with_mark (with_mark (map p all) (option_map (number all) o)) (numbers_of all pick fs)
    ≡ map (λ m. p m || list_any (bytes_eq m) (cons_option o (filter_map pick fs))) all
marks_step all pick p fs None apart rest = rest p
marks_step all pick p fs (Some n) apart rest =
    ap (λ (ms : List Bool). fold with_mark ms (numbers_of all pick fs)) (written p all n true apart)
    ∙ rest (λ m. cond (bytes_eq m n) true (p m))
    ∙ (λ i. map (λ m. or_swap (bytes_eq m n) (p m) (list_any (bytes_eq m) (filter_map pick fs)) i) all)

-- the marks that lines leave
marks_are : (all : List (List ℕ)) (pick : Form → Option (List ℕ)) (fs : List Form) → AreApart all → (p : List ℕ → Bool)
    → fold with_mark (map p all) (numbers_of all pick fs) ≡ map (λ m. p m || list_any (bytes_eq m) (filter_map pick fs)) all
marks_are all pick [] apart p = λ i. map (λ m. sym (or-false (p m)) i) all
marks_are all pick (f ∷ fs) apart p = marks_step all pick p fs (pick f) apart (marks_are all pick fs apart)

twice_step : (all before : List (List ℕ)) (pick : Form → Option (List ℕ)) (fs : List Form) (o : Option (List ℕ)) → AreApart all
    → All (λ m. list_any (bytes_eq m) all ≡ true) (cons_option o (filter_map pick fs))
    → ((front : List (List ℕ)) → All (λ m. list_any (bytes_eq m) all ≡ true) (filter_map pick fs)
    → first_twice (map (λ m. list_any (bytes_eq m) front) all) (numbers_of all pick fs)
    ≡ option_map (number all) (first_repeat front (filter_map pick fs)))
    → first_twice (map (λ m. list_any (bytes_eq m) before) all) (option_map (number all) o ∷ numbers_of all pick fs)
    ≡ option_map (number all) (first_repeat before (cons_option o (filter_map pick fs)))
twice_step all before pick fs None apart there rest = rest before there
twice_step all before pick fs (Some n) apart there rest =
    let p : List ℕ → Bool = λ m. list_any (bytes_eq m) before in
    let nets = numbers_of all pick fs in
    let more = filter_map pick fs in
    let next = first_twice (set (map p all) (number all n) true) nets in
    let later = first_repeat (before ++ n ∷ []) more in
    let hit : get_or (map p all) (number all n) false ≡ p n = mark_at_number p all n (All-head (λ m. list_any (bytes_eq m) all ≡ true) n more there) in
    elim (cases_Bool (p n)) [
      | inl e ↦ ap (λ b. option_or (cond b (Some (number all n)) None) next) (hit ∙ e)
          ∙ sym (ap (λ b. option_map (number all) (cond b (Some n) later)) e)
      | inr e ↦ ap (λ b. option_or (cond b (Some (number all n)) None) next) (hit ∙ e)
          ∙ ap (λ (ms : List Bool). first_twice ms nets) (written p all n true apart
          ∙ (λ i. map (λ m. both m i) all))
          ∙ rest (before ++ n ∷ []) (All-tail (λ m. list_any (bytes_eq m) all ≡ true) n more there)
          ∙ sym (ap (λ b. option_map (number all) (cond b (Some n) later)) e)
    ]
  where
    both : (m : List ℕ) → cond (bytes_eq m n) true (list_any (bytes_eq m) before) ≡ list_any (bytes_eq m) (before ++ n ∷ [])
    both m = sym (or-false (cond (bytes_eq m n) true (list_any (bytes_eq m) before)))
        ∙ or_swap (bytes_eq m n) (list_any (bytes_eq m) before) false
        ∙ sym (list_any-append (bytes_eq m) before (n ∷ []))

-- the first net that is marked twice is the first name that comes twice
twice_is : (all : List (List ℕ)) (pick : Form → Option (List ℕ)) (fs : List Form) → AreApart all → (before : List (List ℕ))
    → All (λ m. list_any (bytes_eq m) all ≡ true) (filter_map pick fs)
    → first_twice (map (λ m. list_any (bytes_eq m) before) all) (numbers_of all pick fs)
    ≡ option_map (number all) (first_repeat before (filter_map pick fs))
twice_is all pick [] apart before there = refl
twice_is all pick (f ∷ fs) apart before there = twice_step all before pick fs (pick f) apart there (twice_is all pick fs apart)

-- ---- drivers

put_driver : (all : List (List ℕ)) (f : Form) (n : List ℕ) (fs : List Form) (ds : List Driver) → AreApart all
    → ds ≡ map (λ m. option_map_or (driver_of all) (find (drives m) fs) Input) all
    → set ds (number all n) (driver_of all f)
    ≡ map (λ m. option_map_or (driver_of all) (cond (bytes_eq m n) (Some f) (find (drives m) fs)) Input) all
put_driver all f n fs ds apart e =
    ap (λ (xs : List Driver). set xs (number all n) (driver_of all f)) e
    ∙ written (λ m. option_map_or (driver_of all) (find (drives m) fs) Input) all n (driver_of all f) apart
    ∙ (λ i. map (λ m. either (bytes_eq m n) (find (drives m) fs) i) all)
  where
    either : (b : Bool) (o : Option Form) → cond b (driver_of all f) (option_map_or (driver_of all) o Input)
        ≡ option_map_or (driver_of all) (cond b (Some f) o) Input
    either true o = refl
    either false o = refl

drivers_are : (all : List (List ℕ)) (fs : List Form) → AreApart all → placed (map (λ _. Input) all) (map (numbered all) fs)
    ≡ map (λ m. option_map_or (driver_of all) (find (drives m) fs) Input) all
drivers_are all [] apart = refl
drivers_are all (nothing ∷ fs) apart = drivers_are all fs apart
drivers_are all (output n ∷ fs) apart = drivers_are all fs apart
drivers_are all (input n ∷ fs) apart = put_driver all (input n) n fs _ apart (drivers_are all fs apart)
drivers_are all (gate n f pins ∷ fs) apart = put_driver all (gate n f pins) n fs _ apart (drivers_are all fs apart)

-- a line that is put in front of those that are placed is placed last
pub placed-last : (drivers : List Driver) (ls : List Numbered) (l : Numbered)
    → placed drivers (ls ++ l ∷ []) ≡ placed (with_driver drivers l) ls
placed-last drivers [] l = refl
placed-last drivers (m ∷ ms) l = ap (λ (ds : List Driver). with_driver ds m) (placed-last drivers ms l)

-- ---- the lines of a text

driven_of : (all : List (List ℕ)) (fs : List Form) → map driven_net (map (numbered all) fs) ≡ numbers_of all driven fs
driven_of all fs = map-map driven_net (numbered all) fs ∙ (λ i. map (λ f. each f i) fs)
  where
    each : (f : Form) → driven_net (numbered all f) ≡ option_map (number all) (driven f)
    each nothing = refl
    each (input n) = refl
    each (output n) = refl
    each (gate n f pins) = refl

shown_of : (all : List (List ℕ)) (fs : List Form) → map shown_net (map (numbered all) fs) ≡ numbers_of all shown fs
shown_of all fs = map-map shown_net (numbered all) fs ∙ (λ i. map (λ f. each f i) fs)
  where
    each : (f : Form) → shown_net (numbered all f) ≡ option_map (number all) (shown f)
    each nothing = refl
    each (input n) = refl
    each (output n) = refl
    each (gate n f pins) = refl

-- what holds of each net that lines name holds of each that they give a driver, and of each that they use
All-driven : (P : List ℕ → Type 0) (forms : List Form) → All P (flat_map named forms) → All P (filter_map driven forms)
All-driven P [] h = h
All-driven P (nothing ∷ fs) h = All-driven P fs h
All-driven P (output n ∷ fs) h = All-driven P fs (All-tail P n (flat_map named fs) h)
All-driven P (input n ∷ fs) h =
    All-cons P n (filter_map driven fs) (All-head P n (flat_map named fs) h)
    (All-driven P fs (All-tail P n (flat_map named fs) h))
All-driven P (gate n f pins ∷ fs) h =
    All-cons P n (filter_map driven fs) (All-head P n (pins ++ flat_map named fs) h)
    (All-driven P fs (All-right P pins (flat_map named fs) (All-tail P n (pins ++ flat_map named fs) h)))

All-used : (P : List ℕ → Type 0) (forms : List Form) → All P (flat_map named forms) → All P (flat_map used forms)
All-used P [] h = h
All-used P (nothing ∷ fs) h = All-used P fs h
All-used P (input n ∷ fs) h = All-used P fs (All-tail P n (flat_map named fs) h)
All-used P (output n ∷ fs) h =
    All-cons P n (flat_map used fs) (All-head P n (flat_map named fs) h)
    (All-used P fs (All-tail P n (flat_map named fs) h))
All-used P (gate n f pins ∷ fs) h =
    let rest = All-tail P n (pins ++ flat_map named fs) h in
    All-append P pins (flat_map used fs) (All-left P pins (flat_map named fs) rest)
    (All-used P fs (All-right P pins (flat_map named fs) rest))

-- the lines are these, and the nets so many, which are within the limit
pub record AreLines (forms : List Form) (count : ℕ) (lines : List Numbered) : Type 0 where
  pub nets : count ≡ length (names forms)
  pub small : length (names forms) ≤ most_nets
  pub lines_are : lines ≡ map (numbered (names forms)) forms

pub AreLines-small : {X : Type 0} (f : X → List ℕ) (keys : List X) (forms : List Form) (lines : List Numbered)
    → map f keys ≡ names forms → length keys ≤ most_nets
    → (length (names forms) ≤ most_nets → lines ≡ map (numbered (names forms)) forms) → AreLines forms (length keys) lines
AreLines-small f keys forms lines named few are =
    let count : length keys ≡ length (names forms) = sym (length-map keys f) ∙ ap length named in
    let small : length (names forms) ≤ most_nets = omega (arith, count, few) in
    record { nets = count; small = small; lines_are = are small }

same_start : {B : Type 0} (forms : List Form) (count : ℕ) (v : B) → count ≡ length (names forms)
    → replicate count v ≡ map (λ _. v) (names forms)
same_start forms count v e = splat_is_map (names forms) count v (sym e)

marks_of : (forms : List Form) (count : ℕ) (pick : Form → Option (List ℕ)) (nets : List (Option ℕ)) → count ≡ length (names forms)
    → nets ≡ numbers_of (names forms) pick forms → fold with_mark (replicate count false) nets
    ≡ map (λ m. list_any (bytes_eq m) (filter_map pick forms)) (names forms)
marks_of forms count pick nets c e =
    (λ i. fold with_mark (same_start forms count false c i) (e i))
    ∙ marks_are (names forms) pick forms (AreApart-names forms) (λ _. false)

pub outputs-placed : (forms : List Form) (count : ℕ) (lines : List Numbered) → AreLines forms count lines
    → fold with_mark (replicate count false) (map shown_net lines) ≡ (net_of forms).outputs
outputs-placed forms count lines h = marks_of forms count shown (map shown_net lines) h.nets
    (ap (map shown_net) h.lines_are ∙ shown_of (names forms) forms)

pub drivers-placed : (forms : List Form) (count : ℕ) (lines : List Numbered) → AreLines forms count lines
    → placed (replicate count Input) lines ≡ (net_of forms).drivers
drivers-placed forms count lines h =
    (λ i. placed (same_start forms count Input h.nets i) (h.lines_are i))
    ∙ drivers_are (names forms) forms (AreApart-names forms)

-- the first net with two drivers, by its number
twice_number : (forms : List Form) (count : ℕ) (lines : List Numbered) → AreLines forms count lines
    → first_twice (replicate count false) (map driven_net lines) ≡ option_map (number (names forms)) (twice_fault forms)
twice_number forms count lines h =
    (λ i. first_twice (same_start forms count false h.nets i) ((ap (map driven_net) h.lines_are ∙ driven_of (names forms) forms) i))
    ∙ twice_is (names forms) driven forms (AreApart-names forms) []
    (All-driven (λ m. list_any (bytes_eq m) (names forms) ≡ true) forms (fold_there (flat_map named forms) []))

no_number : (all : List (List ℕ)) (o : Option (List ℕ)) → option_map (number all) o ≡ None → o ≡ None
no_number all None e = refl
no_number all (Some n) e = cc

pub once-placed : (forms : List Form) (count : ℕ) (lines : List Numbered) → AreLines forms count lines
    → first_twice (replicate count false) (map driven_net lines) ≡ None → twice_fault forms ≡ None
once-placed forms count lines h e = no_number (names forms) (twice_fault forms) (sym (twice_number forms count lines h) ∙ e)

repeat_among : (P : List ℕ → Type 0) (before xs : List (List ℕ)) (n : List ℕ) → first_repeat before xs ≡ Some n → All P xs → P n
repeat_among P before [] n e h = cc
repeat_among P before (x ∷ xs) n e h =
    elim (cases_Bool (list_any (bytes_eq x) before)) [
      | inl b ↦ subst P (same x n (sym (ap (λ c. cond c (Some x) (first_repeat (before ++ x ∷ []) xs)) b) ∙ e)) (All-head P x xs h)
      | inr b ↦ repeat_among P (before ++ x ∷ []) xs n (sym (ap (λ c. cond c (Some x) (first_repeat (before ++ x ∷ []) xs)) b) ∙ e)
          (All-tail P x xs h)
    ]
  where
    same : (x n : List ℕ) → Some x ≡ Some n → x ≡ n
    same x n e = cc

named_twice : (all : List (List ℕ)) (o : Option (List ℕ)) (net : ℕ) → option_map (number all) o ≡ Some net
    → ((n : List ℕ) → o ≡ Some n → list_any (bytes_eq n) all ≡ true) → o ≡ Some (get_or all net [])
named_twice all None net e there = cc
named_twice all (Some n) net e there =
    ap (λ m. Some m) (sym (at_number all n (there n refl)) ∙ ap (λ k. get_or all k []) (same (number all n) net e))
  where
    same : (a b : ℕ) → Some a ≡ Some b → a ≡ b
    same a b e = cc

pub twice-placed : (forms : List Form) (count net : ℕ) (lines : List Numbered) → AreLines forms count lines
    → first_twice (replicate count false) (map driven_net lines) ≡ Some net → twice_fault forms ≡ Some (get_or (names forms) net [])
twice-placed forms count net lines h e =
    named_twice (names forms) (twice_fault forms) net (sym (twice_number forms count lines h) ∙ e)
    (λ n f. repeat_among (λ m. list_any (bytes_eq m) (names forms) ≡ true) [] (filter_map driven forms) n f
    (All-driven (λ m. list_any (bytes_eq m) (names forms) ≡ true) forms (fold_there (flat_map named forms) [])))

-- a net with two drivers is refused by its name
pub twice-refused : (forms : List Form) (count : ℕ) (lines : List Numbered) (all : List (List ℕ)) (fault : NetFault)
    → AreLines forms count lines → all ≡ names forms → arity_fault forms ≡ None
    → (fault ≡ NoMemory) ⊎ IsTwice count all lines fault → (fault ≡ NoMemory) ⊎ IsRefusal forms fault
twice-refused forms count lines all fault h same arity r = elim r [
  | inl e ↦ inl e
  | inr t ↦ inr (subst (IsRefusal forms) (sym (t.fault_is ∙ ap (λ (ks : List (List ℕ)). Twice (get_or ks t.net [])) same))
      (h.small, arity, twice-placed forms count t.net lines h t.twice))
]

-- ---- nets without a driver

find-same : (p q : List ℕ → Bool) (xs : List (List ℕ)) → All (λ x. p x ≡ q x) xs → find p xs ≡ find q xs
find-same p q [] h = refl
find-same p q (x ∷ xs) h =
    λ i. cond (All-head (λ y. p y ≡ q y) x xs h i) (Some x) (find-same p q xs (All-tail (λ y. p y ≡ q y) x xs h) i)

find-none : (p : List ℕ → Bool) (xs : List (List ℕ)) → All (λ x. p x ≡ false) xs → find p xs ≡ None
find-none p [] h = refl
find-none p (x ∷ xs) h =
    ap (λ b. cond b (Some x) (find p xs)) (All-head (λ y. p y ≡ false) x xs h)
    ∙ find-none p xs (All-tail (λ y. p y ≡ false) x xs h)

all_marked : (p : List ℕ → Bool) (all : List (List ℕ)) (m : List ℕ) → list_all (λ b. b) (map p all) ≡ true
    → list_any (bytes_eq m) all ≡ true → p m ≡ true
all_marked p [] m h e = cc
all_marked p (k ∷ ks) m h e =
    let both = and_parts (p k) (list_all (λ b. b) (map p ks)) h in
    elim (cases_Bool (bytes_eq m k)) [
      | inl s ↦ ap p ((bytes_decides m k).0 s) ∙ both.0
      | inr s ↦ all_marked p ks m both.1 (sym (ap (λ b. b || list_any (bytes_eq m) ks) s) ∙ e)
    ]

module _ (forms : List Form) (count : ℕ) (lines : List Numbered) (marks : List Bool) (h : AreLines forms count lines)
    (are : marks ≡ fold with_mark (replicate count false) (map driven_net lines)) where
  marks_has : marks ≡ map (λ m. list_any (bytes_eq m) (filter_map driven forms)) (names forms)
  marks_has = are ∙ marks_of forms count driven (map driven_net lines) h.nets
      (ap (map driven_net) h.lines_are ∙ driven_of (names forms) forms)

  lacks_is : (m : List ℕ) → list_any (bytes_eq m) (names forms) ≡ true → lacks (names forms) marks m ≡ is_missing forms m
  lacks_is m there = ap not (ap (λ (ms : List Bool). get_or ms (number (names forms) m) false) marks_has
      ∙ mark_at_number (λ n. list_any (bytes_eq n) (filter_map driven forms)) (names forms) m there)

  -- the first use of a net that isn't marked is the first of one without a driver
  pub missing-placed : find (lacks (names forms) marks) (flat_map used forms) ≡ missing_fault forms
  missing-placed = find-same (lacks (names forms) marks) (is_missing forms) (flat_map used forms)
      (All-used (λ m. lacks (names forms) marks m ≡ is_missing forms m) forms
      (λ k d l. lacks_is (get_or (flat_map named forms) k d) (fold_there (flat_map named forms) [] k d l)))

  -- where all are marked there is none
  pub none-lacks : list_all (λ b. b) marks ≡ true → find (lacks (names forms) marks) (flat_map used forms) ≡ None
  none-lacks every = missing-placed ∙ find-none (is_missing forms) (flat_map used forms)
      (All-used (λ m. is_missing forms m ≡ false) forms
      (λ k d l. ap not (all_marked (λ n. list_any (bytes_eq n) (filter_map driven forms)) (names forms)
      (get_or (flat_map named forms) k d) (sym (ap (list_all (λ b. b)) marks_has) ∙ every)
      (fold_there (flat_map named forms) [] k d l))))
