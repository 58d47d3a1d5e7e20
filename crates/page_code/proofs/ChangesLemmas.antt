-- Changes that are read make a row of which they are the changes, and the changes of a row make it again.
use Rattle.std.proofs.Common.{◌≡◌, ℕ, zero, suc, ◌+◌, ◌-◌, ◌<◌, ◌≤◌, Bool, true, false, cond, eqb, List, [], ◌∷◌, ◌++◌, length, get_or, set, take, drop, min, refl, sym, ap, subst, ◌∙◌, arith, inl, inr}
use Rattle.std.specs.List.{AllByRecursion, list_all}
use Rattle.std.specs.Option.{option_map_or}
use Rattle.std.proofs.lemmas.Bool.{cases_Bool, cases_lt, eqb-true, eq-eqb, and_parts, and_from}
use Rattle.std.proofs.lemmas.List.{length-set, length-append, length-take, length-drop, append-nil, take-append-drop, take_more, drop_more, drop_all, get_or_push}
use Rattle.packed_code.specs.RowBytes.{is_place}
use Rattle.packed_code.specs.Conditions.{EachBehind}
use Rattle.page_code.specs.Changes.{last_row, changes, with_changes, least_behind}
use Rattle.packed_code.proofs.Lists.{last_of_push}

-- ---- changes that rise

-- changes rise strictly by signal, from this one on
abbrev Rising : ℕ → List (ℕ × ℕ) → Type 0
Rising least [] = Unit {0}
Rising least (c ∷ cs) = (least ≤ c.0) × Rising (suc c.0) cs

rising_sooner : (a b : ℕ) (cs : List (ℕ × ℕ)) → a ≤ b → Rising b cs → Rising a cs
rising_sooner a b [] le rising = tt
rising_sooner a b (c ∷ cs) le rising = (let low : b ≤ c.0 = rising.0 in omega arith, rising.1)

-- a change of a row that begins at signal n: to another character, in its place
abbrev IsOther : ℕ → List ℕ → ℕ × ℕ → Type 0
IsOther n last c = (c.0 - n < length last) × (is_place c.1 ≡ true) × (eqb c.1 (get_or last (c.0 - n) 0) ≡ false)

-- changes of a row that begins at signal n are those of the row behind its first character
others_behind : (n o : ℕ) (last : List ℕ) (cs : List (ℕ × ℕ)) → Rising (suc n) cs → AllByRecursion (IsOther n (o ∷ last)) cs
    → AllByRecursion (IsOther (suc n) last) cs
others_behind n o last [] rising all = tt
others_behind n o last (c ∷ cs) rising all =
    let low : suc n ≤ c.0 = rising.0 in
    let place : c.0 - n ≡ suc (c.0 - suc n) = omega arith in
    let here : IsOther n (o ∷ last) c = all.0 in
    let inside : c.0 - n < length (o ∷ last) = here.0 in (
      (omega arith, here.1, ap (λ (k : ℕ). eqb c.1 (get_or (o ∷ last) k 0)) (sym place) ∙ here.2),
      others_behind n o last cs (rising_sooner (suc n) (suc c.0) cs (omega arith) rising.1) all.1,
    )

others_before : (n o : ℕ) (last : List ℕ) (cs : List (ℕ × ℕ)) → Rising (suc n) cs → AllByRecursion (IsOther (suc n) last) cs
    → AllByRecursion (IsOther n (o ∷ last)) cs
others_before n o last [] rising all = tt
others_before n o last (c ∷ cs) rising all =
    let low : suc n ≤ c.0 = rising.0 in
    let place : c.0 - n ≡ suc (c.0 - suc n) = omega arith in
    let here : IsOther (suc n) last c = all.0 in
    let inside : c.0 - suc n < length last = here.0 in (
      (omega arith, here.1, ap (λ (k : ℕ). eqb c.1 (get_or (o ∷ last) k 0)) place ∙ here.2),
      others_before n o last cs (rising_sooner (suc n) (suc c.0) cs (omega arith) rising.1) all.1,
    )

-- ---- characters in place

-- a row that begins at signal n, with these characters in place
abbrev placed : ℕ → List ℕ → List (ℕ × ℕ) → List ℕ
placed n row [] = row
placed n row (c ∷ cs) = placed n (set row (c.0 - n) c.1) cs

pub less_none : (n : ℕ) → n - 0 ≡ n
less_none n = omega arith

placed_at_0 : (row : List ℕ) (cs : List (ℕ × ℕ)) → placed 0 row cs ≡ with_changes row cs
placed_at_0 row [] = refl
placed_at_0 row (c ∷ cs) =
    ap (λ (k : ℕ). placed 0 (set row k c.1) cs) (less_none c.0) ∙ placed_at_0 (set row c.0 c.1) cs

-- what comes behind the first character leaves it alone
placed_behind : (n o : ℕ) (row : List ℕ) (cs : List (ℕ × ℕ)) → Rising (suc n) cs → placed n (o ∷ row) cs ≡ o ∷ placed (suc n) row cs
placed_behind n o row [] rising = refl
placed_behind n o row (c ∷ cs) rising =
    let low : suc n ≤ c.0 = rising.0 in
    let place : c.0 - n ≡ suc (c.0 - suc n) = omega arith in
    ap (λ (k : ℕ). placed n (set (o ∷ row) k c.1) cs) place
    ∙ placed_behind n o (set row (c.0 - suc n) c.1) cs (rising_sooner (suc n) (suc c.0) cs (omega arith) rising.1)

-- ---- what is read, and what is spelled

none_changed : (n : ℕ) (row : List ℕ) → changes n row row ≡ []
none_changed n [] = refl
none_changed n (o ∷ row) = rw (eq-eqb o o refl) (none_changed (suc n) row)

-- the changes of the row that changes make are these
changes_again : (n : ℕ) (last : List ℕ) (cs : List (ℕ × ℕ)) → Rising n cs → AllByRecursion (IsOther n last) cs → changes n last (placed n last cs) ≡ cs
changes_again n [] [] rising all = refl
changes_again n [] (c ∷ cs) rising all = let inside : c.0 - n < 0 = all.0.0 in absurd (omega arith)
changes_again n (o ∷ last) [] rising all = none_changed n (o ∷ last)
changes_again n (o ∷ last) (c ∷ cs) rising all =
    elim (cases_lt n c.0) [
      | inl later ↦
          ap (changes n (o ∷ last)) (placed_behind n o last (c ∷ cs) (omega arith, rising.1))
          ∙ rw (eq-eqb o o refl)
          (changes_again (suc n) last (c ∷ cs) (omega arith, rising.1)
          (others_behind n o last (c ∷ cs) (omega arith, rising.1) all))
      | inr here ↦
          let low : n ≤ c.0 = rising.0 in
          let first : c.0 ≡ n = omega arith in
          let place : c.0 - n ≡ 0 = omega arith in
          let after : Rising (suc n) cs = subst (λ (k : ℕ). Rising (suc k) cs) first rising.1 in
          let other : eqb c.1 o ≡ false = ap (λ (k : ℕ). eqb c.1 (get_or (o ∷ last) k 0)) (sym place) ∙ all.0.2 in
          ap (λ (k : ℕ). changes n (o ∷ last) (placed n (set (o ∷ last) k c.1) cs)) place
          ∙ ap (changes n (o ∷ last)) (placed_behind n c.1 last cs after)
          ∙ rw other
          (ap (λ (k : ℕ). (k, c.1) ∷ changes (suc n) last (placed (suc n) last cs)) (sym first)
          ∙ ap (λ (more : List (ℕ × ℕ)). c ∷ more) (changes_again (suc n) last cs after (others_behind n o last cs after all.1)))
    ]

-- what is so of the changes of a row
record AreChanges (n : ℕ) (last row : List ℕ) (cs : List (ℕ × ℕ)) : Type 0 where
  rising : Rising n cs
  others : AllByRecursion (IsOther n last) cs
  made : placed n last cs ≡ row

-- one change more, or none, before those behind
first_change : (n o w : ℕ) (last row : List ℕ) (cs : List (ℕ × ℕ)) → is_place w ≡ true → AreChanges (suc n) last row cs
    → AreChanges n (o ∷ last) (w ∷ row) (cond (eqb w o) cs ((n, w) ∷ cs))
first_change n o w last row cs place are =
    elim (cases_Bool (eqb w o)) [
      | inl same ↦
          let is : w ≡ o = eqb-true w o same in
          subst (λ (b : Bool). AreChanges n (o ∷ last) (w ∷ row) (cond b cs ((n, w) ∷ cs))) (sym same)
          (record {
            rising = rising_sooner n (suc n) cs (omega arith) are.rising;
            others = others_before n o last cs are.rising are.others;
            made = placed_behind n o last cs are.rising ∙ ap (λ (more : List ℕ). o ∷ more) are.made ∙ ap (λ (x : ℕ). x ∷ row) (sym is);
          })
      | inr other ↦
          let at : n - n ≡ 0 = omega arith in
          subst (λ (b : Bool). AreChanges n (o ∷ last) (w ∷ row) (cond b cs ((n, w) ∷ cs))) (sym other)
          (record {
            rising = (omega arith, are.rising);
            others = (
              (omega arith, place, ap (λ (k : ℕ). eqb w (get_or (o ∷ last) k 0)) at ∙ other),
              others_before n o last cs are.rising are.others,
            );
            made = ap (λ (k : ℕ). placed n (set (o ∷ last) k w) cs) at
                ∙ placed_behind n w last cs are.rising ∙ ap (λ (more : List ℕ). w ∷ more) are.made;
          })
    ]

are_changes : (n : ℕ) (last row : List ℕ) → length row ≡ length last → list_all is_place row ≡ true → AreChanges n last row (changes n last row)
are_changes n [] [] size places = record { rising = tt; others = tt; made = refl }
are_changes n [] (w ∷ row) size places = absurd (omega (arith, size))
are_changes n (o ∷ last) [] size places = absurd (omega (arith, size))
are_changes n (o ∷ last) (w ∷ row) size places =
    let both = and_parts (is_place w) (list_all is_place row) places in
    first_change n o w last row (changes (suc n) last row) both.0 (are_changes (suc n) last row (omega (arith, size)) both.1)

-- ---- one change behind another

pub least_push : (before : List (ℕ × ℕ)) (c : ℕ × ℕ) → least_behind (before ++ c ∷ []) ≡ suc c.0
least_push before c = ap (λ o. option_map_or (λ (change : ℕ × ℕ). suc change.0) o 0) (last_of_push before c)

-- a change of a row behind those before it
pub record IsChange (last : List ℕ) (before : List (ℕ × ℕ)) (c : ℕ × ℕ) : Type 0 where
  pub order : least_behind before ≤ c.0
  pub inside : c.0 < length last
  pub place : is_place c.1 ≡ true
  pub other : eqb c.1 (get_or last c.0 0) ≡ false

all_rise : (last : List ℕ) (before cs : List (ℕ × ℕ)) → EachBehind (IsChange last) before cs → Rising (least_behind before) cs
all_rise last before [] each = tt
all_rise last before (c ∷ cs) each =
    (each.0.order, subst (λ (n : ℕ). Rising n cs) (least_push before c) (all_rise last (before ++ c ∷ []) cs each.1))

all_others : (last : List ℕ) (before cs : List (ℕ × ℕ)) → EachBehind (IsChange last) before cs → AllByRecursion (IsOther 0 last) cs
all_others last before [] each = tt
all_others last before (c ∷ cs) each = (
  subst (λ (k : ℕ). (k < length last) × (is_place c.1 ≡ true) × (eqb c.1 (get_or last k 0) ≡ false)) (sym (less_none c.0))
      (each.0.inside, each.0.place, each.0.other),
  all_others last (before ++ c ∷ []) cs each.1,
)

each_change : (last : List ℕ) (before cs : List (ℕ × ℕ)) → Rising (least_behind before) cs → AllByRecursion (IsOther 0 last) cs
    → EachBehind (IsChange last) before cs
each_change last before [] rising all = tt
each_change last before (c ∷ cs) rising all =
    let is_other = subst (λ (k : ℕ). (k < length last) × (is_place c.1 ≡ true) × (eqb c.1 (get_or last k 0) ≡ false)) (less_none c.0) all.0 in (
      record { order = rising.0; inside = is_other.0; place = is_other.1; other = is_other.2 },
      each_change last (before ++ c ∷ []) cs (subst (λ (n : ℕ). Rising n cs) (sym (least_push before c)) rising.1) all.1,
    )

-- ---- the two laws

-- changes that were read are those of the row that they make
pub read_again : (last : List ℕ) (cs : List (ℕ × ℕ)) → EachBehind (IsChange last) [] cs → changes 0 last (with_changes last cs) ≡ cs
read_again last cs each =
    ap (changes 0 last) (sym (placed_at_0 last cs))
    ∙ changes_again 0 last cs (all_rise last [] cs each) (all_others last [] cs each)

-- the changes of a row are read
pub changes_read : (last row : List ℕ) → length row ≡ length last → list_all is_place row ≡ true → EachBehind (IsChange last) [] (changes 0 last row)
changes_read last row size places =
    let are = are_changes 0 last row size places in
    each_change last [] (changes 0 last row) are.rising are.others

-- the changes of a row make it
pub made_again : (last row : List ℕ) → length row ≡ length last → list_all is_place row ≡ true → with_changes last (changes 0 last row) ≡ row
made_again last row size places =
    sym (placed_at_0 last (changes 0 last row)) ∙ (are_changes 0 last row size places).made

-- ---- the row that is made

pub length-with_changes : (last : List ℕ) (cs : List (ℕ × ℕ)) → length (with_changes last cs) ≡ length last
length-with_changes last [] = refl
length-with_changes last (c ∷ cs) = length-with_changes (set last c.0 c.1) cs ∙ length-set last c.0 c.1

all-set : (row : List ℕ) (i x : ℕ) → list_all is_place row ≡ true → is_place x ≡ true → list_all is_place (set row i x) ≡ true
all-set [] i x all fits = refl
all-set (w ∷ row) zero x all fits = and_from (is_place x) (list_all is_place row) fits (and_parts (is_place w) (list_all is_place row) all).1
all-set (w ∷ row) (suc i) x all fits =
    let both = and_parts (is_place w) (list_all is_place row) all in
    and_from (is_place w) (list_all is_place (set row i x)) both.0 (all-set row i x both.1 fits)

pub places_stay : (last : List ℕ) (before cs : List (ℕ × ℕ)) (row : List ℕ) → list_all is_place row ≡ true → EachBehind (IsChange last) before cs
    → list_all is_place (with_changes row cs) ≡ true
places_stay last before [] row all each = all
places_stay last before (c ∷ cs) row all each =
    places_stay last (before ++ c ∷ []) cs (set row c.0 c.1) (all-set row c.0 c.1 all each.0.place) each.1

-- ---- one more

pub last_row_push : (rows : List (List ℕ)) (row : List ℕ) → last_row (rows ++ row ∷ []) ≡ row
last_row_push rows row =
    let size : length (rows ++ row ∷ []) ≡ length rows + 1 = length-append rows (row ∷ []) in
    let place : length (rows ++ row ∷ []) - 1 ≡ length rows = omega arith in
    ap (λ (i : ℕ). get_or (rows ++ row ∷ []) i []) place ∙ get_or_push rows row [] (length rows) refl

pub with_more : (row : List ℕ) (cs : List (ℕ × ℕ)) (c : ℕ × ℕ) → with_changes row (cs ++ c ∷ []) ≡ set (with_changes row cs) c.0 c.1
with_more row [] c = refl
with_more row (d ∷ cs) c = with_more (set row d.0 d.1) cs c

-- the changes of rows that are cut at one signal
pub changes-append : (n : ℕ) (last row last' row' : List ℕ) → length row ≡ length last
    → changes n (last ++ last') (row ++ row') ≡ changes n last row ++ changes (n + length last) last' row'
changes-append n [] [] last' row' size = ap (λ (k : ℕ). changes k last' row') (omega arith)
changes-append n [] (w ∷ row) last' row' size = absurd (omega (arith, size))
changes-append n (o ∷ last) [] last' row' size = absurd (omega (arith, size))
changes-append n (o ∷ last) (w ∷ row) last' row' size =
    let more : changes (suc n) (last ++ last') (row ++ row') ≡ changes (suc n) last row ++ changes (n + suc (length last)) last' row' =
    changes-append (suc n) last row last' row' (omega (arith, size))
    ∙ ap (λ (k : ℕ). changes (suc n) last row ++ changes k last' row') (omega arith) in
    elim (cases_Bool (eqb w o)) [
      | inl same ↦ rw same more
      | inr other ↦ rw other (ap (λ (cs : List (ℕ × ℕ)). (n, w) ∷ cs) more)
    ]

cut : (xs : List ℕ) (i : ℕ) → i < length xs → take i xs ++ (get_or xs i 0 ∷ drop (i + 1) xs) ≡ xs
cut xs i inside = ap (λ (ys : List ℕ). take i xs ++ ys) (sym (drop_more xs i 0 inside)) ∙ take-append-drop i xs

same_size : (last row : List ℕ) (i : ℕ) → i ≤ length last → i ≤ length row → length (take i row) ≡ length (take i last)
same_size last row i in_last in_row = omega (arith, length-take i row, length-take i last)

-- the changes up to a signal, and those from it on
pub changes_cut : (last row : List ℕ) (i : ℕ) → i < length last → i < length row
    → changes 0 last row ≡ changes 0 (take i last) (take i row)
    ++ changes i (get_or last i 0 ∷ drop (i + 1) last) (get_or row i 0 ∷ drop (i + 1) row)
changes_cut last row i in_last in_row =
    let old = get_or last i 0 ∷ drop (i + 1) last in
    let new = get_or row i 0 ∷ drop (i + 1) row in
    let place : 0 + length (take i last) ≡ i = omega (arith, length-take i last) in
    sym (ap (λ (xs : List ℕ). changes 0 xs (take i row ++ new)) (cut last i in_last) ∙ ap (changes 0 last) (cut row i in_row))
    ∙ changes-append 0 (take i last) (take i row) old new (same_size last row i (omega arith) (omega arith))
    ∙ ap (λ (k : ℕ). changes 0 (take i last) (take i row) ++ changes k old new) place

-- the change in one signal
abbrev pub change_in : ℕ → ℕ → ℕ → List (ℕ × ℕ)
change_in signal old new = cond (eqb new old) [] ((signal, new) ∷ [])

-- one signal more
pub changes_more : (last row : List ℕ) (i : ℕ) → i < length last → i < length row
    → changes 0 (take (i + 1) last) (take (i + 1) row) ≡ changes 0 (take i last) (take i row) ++ change_in i (get_or last i 0) (get_or row i 0)
changes_more last row i in_last in_row =
    let place : 0 + length (take i last) ≡ i = omega (arith, length-take i last) in
    ap (λ (xs : List ℕ). changes 0 xs (take (i + 1) row)) (take_more last i 0 in_last)
    ∙ ap (λ (xs : List ℕ). changes 0 (take i last ++ get_or last i 0 ∷ []) xs) (take_more row i 0 in_row)
    ∙ changes-append 0 (take i last) (take i row) (get_or last i 0 ∷ []) (get_or row i 0 ∷ []) (same_size last row i (omega arith) (omega arith))
    ∙ ap (λ (k : ℕ). changes 0 (take i last) (take i row) ++ change_in k (get_or last i 0) (get_or row i 0)) place

change_count : (signal old new : ℕ) → length (change_in signal old new) ≡ cond {A = ℕ} (eqb new old) 0 1
change_count signal old new = elim (cases_Bool (eqb new old)) [
  | inl same ↦ rw same refl
  | inr other ↦ rw other refl
]

-- how many changes, with one signal more
pub count_more : (last row : List ℕ) (i : ℕ) → i < length last → i < length row
    → length (changes 0 (take (i + 1) last) (take (i + 1) row))
    ≡ length (changes 0 (take i last) (take i row)) + cond {A = ℕ} (eqb (get_or row i 0) (get_or last i 0)) 0 1
count_more last row i in_last in_row =
    ap length (changes_more last row i in_last in_row)
    ∙ length-append (changes 0 (take i last) (take i row)) (change_in i (get_or last i 0) (get_or row i 0))
    ∙ ap (λ (n : ℕ). length (changes 0 (take i last) (take i row)) + n) (change_count i (get_or last i 0) (get_or row i 0))

none_left : (n : ℕ) (last row : List ℕ) → length row ≡ 0 → changes n last row ≡ []
none_left n [] row none = refl
none_left n (o ∷ last) [] none = refl
none_left n (o ∷ last) (w ∷ row) none = absurd (omega (arith, none))

-- all signals of both
pub changes_all : (last row : List ℕ) (i : ℕ) → i ≡ min (length last) (length row) → changes 0 (take i last) (take i row) ≡ changes 0 last row
changes_all last row i end =
    let low : i ≤ length last = omega arith in
    let short : i ≤ length row = omega arith in
    let rest : changes (0 + length (take i last)) (drop i last) (drop i row) ≡ [] =
    elim (cases_lt i (length last)) [
      | inl more ↦ none_left _ (drop i last) (drop i row) (omega (arith, length-drop i row))
      | inr all ↦ ap (λ (xs : List ℕ). changes (0 + length (take i last)) xs (drop i row)) (drop_all i last all)
    ] in
    sym (append-nil (changes 0 (take i last) (take i row)))
    ∙ ap (λ (cs : List (ℕ × ℕ)). changes 0 (take i last) (take i row) ++ cs) (sym rest)
    ∙ sym (changes-append 0 (take i last) (take i row) (drop i last) (drop i row) (same_size last row i low short))
    ∙ ap (λ (xs : List ℕ). changes 0 xs (take i row ++ drop i row)) (take-append-drop i last)
    ∙ ap (changes 0 last) (take-append-drop i row)
