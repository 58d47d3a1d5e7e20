-- Names that were judged to be new differ under each title, and are no more than their limit.
use Rattle.std.proofs.Common.{◌≡◌, ℕ, ◌+◌, ◌≤◌, Bool, true, false, not, ◌&&◌, ◌||◌, cond, nat_lt, List, [], ◌∷◌, ◌++◌, length, map, refl, sym, ap, subst, ◌∙◌, inl, inr, arith, append-nil, append_assoc, length-append}
use Rattle.std.specs.List.{list_any, flat_map}
use Rattle.std.proofs.lemmas.List.{map-append}
use Rattle.std.proofs.lemmas.Bool.{and_parts, and_from, or_parts, not-true, cases_Bool, ltb-true, or_from}
use Rattle.std.proofs.lemmas.List.Folds.{list_any-append}
use Rattle.std.proofs.lemmas.List.Sums.{sum_by-cons}
use Rattle.std.proofs.lemmas.Slice.Eq.{bytes_eq-Decides}
use Rattle.stil_ast.specs.Data.Texts.{same}
use Rattle.stil_ast.specs.Data.Forms.{all_differ}
use Rattle.block_forms.specs.Heads.{is_declared, count_under, under}

-- the names that were declared under a title
abbrev pub names_under : List (List ℕ × List ℕ) → List ℕ → List (List ℕ)
names_under [] title = []
names_under (d ∷ ds) title = cond (same d.0 title) (d.1 ∷ names_under ds title) (names_under ds title)

-- under each title no name stands twice
abbrev pub Differ : List (List ℕ × List ℕ) → Type 0
Differ declared = (title : List ℕ) → all_differ same (names_under declared title) ≡ true

-- under each title stand at most so many names
abbrev pub AtMost : ℕ → List (List ℕ × List ℕ) → Type 0
AtMost most declared = (title : List ℕ) → length (names_under declared title) ≤ most

-- a name in front, or not
in_front : (b : Bool) (x : List ℕ) (more xs tail : List (List ℕ)) → more ≡ xs ++ tail
    → cond b (x ∷ more) more ≡ cond b (x ∷ xs) xs ++ tail
in_front true x more xs tail is = ap (λ ys. x ∷ ys) is
in_front false x more xs tail is = is

-- names of two lists
pub names_under-append : (ds es : List (List ℕ × List ℕ)) (title : List ℕ)
    → names_under (ds ++ es) title ≡ names_under ds title ++ names_under es title
names_under-append [] es title = refl
names_under-append (d ∷ ds) es title =
    in_front (same d.0 title) d.1 (names_under (ds ++ es) title) (names_under ds title) (names_under es title)
    (names_under-append ds es title)

-- one more name
one_more : (b : Bool) (x : List ℕ) (xs : List (List ℕ)) → cond b (x ∷ cond b xs []) (cond b xs []) ≡ cond b (x ∷ xs) []
one_more true x xs = refl
one_more false x xs = refl

none_more : (b : Bool) → [] ≡ cond {A = List (List ℕ)} b [] []
none_more true = refl
none_more false = refl

-- names of one title
pub names_under-under : (title : List ℕ) (names : List (List ℕ)) (other : List ℕ)
    → names_under (under title names) other ≡ cond (same title other) names []
names_under-under title [] other = none_more (same title other)
names_under-under title (called ∷ names) other =
    ap (λ ys. cond (same title other) (called ∷ ys) ys) (names_under-under title names other)
    ∙ one_more (same title other) called names

-- one more name under a title
pub under-more : {X : Type 0} (name : X → List ℕ) (title : List ℕ) (declared : List (List ℕ × List ℕ)) (read : List X) (x : X)
    → (declared ++ under title (map name read)) ++ (title, name x) ∷ []
    ≡ declared ++ under title (map name (read ++ x ∷ []))
under-more name title declared read x =
    append_assoc declared (under title (map name read)) ((title, name x) ∷ [])
    ∙ ap (λ names. declared ++ names)
    (sym (map-append (λ (called : List ℕ). (title, called)) (map name read) (name x ∷ []))
    ∙ ap (under title) (sym (map-append name read (x ∷ []))))

-- the names of items that stand, or don't
names_where : {D : Type 0} (name : D → List ℕ) (b : Bool) (items : List D) (rest : List (List ℕ))
    → cond b (map name items) [] ++ rest ≡ map name (cond b items []) ++ rest
names_where name true items rest = refl
names_where name false items rest = refl

-- the names under a title are those of the items in blocks of that title
pub names_under-blocks : {B D : Type 0} (title : B → List ℕ) (items : B → List D) (name : D → List ℕ) (bs : List B) (other : List ℕ)
    → names_under (flat_map (λ b. under (title b) (map name (items b))) bs) other
    ≡ map name (flat_map (λ b. cond (same (title b) other) (items b) []) bs)
names_under-blocks title items name [] other = refl
names_under-blocks title items name (b ∷ bs) other =
    let rest : List (List ℕ × List ℕ) = flat_map (λ c. under (title c) (map name (items c))) bs in
    let more = flat_map (λ c. cond (same (title c) other) (items c) []) bs in
    names_under-append (under (title b) (map name (items b))) rest other
    ∙ ap (λ ns. ns ++ names_under rest other) (names_under-under (title b) (map name (items b)) other)
    ∙ names_where name (same (title b) other) (items b) (names_under rest other)
    ∙ ap (λ ns. map name (cond (same (title b) other) (items b) []) ++ ns) (names_under-blocks title items name bs other)
    ∙ sym (map-append name (cond (same (title b) other) (items b) []) more)

-- one more item that equals none before it
pub all_differ-push : {A : Type 0} (equal : A → A → Bool) (xs : List A) (y : A) → all_differ equal xs ≡ true
    → list_any (λ x. equal x y) xs ≡ false → all_differ equal (xs ++ y ∷ []) ≡ true
all_differ-push equal [] y differ new = refl
all_differ-push equal (x ∷ xs) y differ new =
    let parts = and_parts (not (list_any (equal x) xs)) (all_differ equal xs) differ in
    let apart = or_parts (equal x y) (list_any (λ z. equal z y) xs) new in
    let none : list_any (equal x) (xs ++ y ∷ []) ≡ false =
    list_any-append (equal x) xs (y ∷ [])
    ∙ or_from (list_any (equal x) xs) (equal x y || false) (not-true (list_any (equal x) xs) parts.0) (or_from (equal x y) false apart.0 refl) in
    and_from (not (list_any (equal x) (xs ++ y ∷ []))) (all_differ equal (xs ++ y ∷ [])) (ap not none)
    (all_differ-push equal xs y parts.1 apart.1)

-- a name that is not the new one, under this title or another
apart : (b : Bool) (x called : List ℕ) (xs : List (List ℕ)) → (b && same x called) ≡ false
    → list_any (λ y. same y called) xs ≡ false → list_any (λ y. same y called) (cond b (x ∷ xs) xs) ≡ false
apart true x called xs first rest = or_from (same x called) (list_any (λ y. same y called) xs) first rest
apart false x called xs first rest = rest

-- a name that was not declared is not among those under its title
not_among : (declared : List (List ℕ × List ℕ)) (title called : List ℕ) → is_declared declared title called ≡ false
    → list_any (λ y. same y called) (names_under declared title) ≡ false
not_among [] title called new = refl
not_among (d ∷ ds) title called new =
    let parts = or_parts (same d.0 title && same d.1 called) (is_declared ds title called) new in
    apart (same d.0 title) d.1 called (names_under ds title) parts.0 (not_among ds title called parts.1)

-- the names under a title with one more
names_push : (declared : List (List ℕ × List ℕ)) (title called other : List ℕ)
    → names_under (declared ++ (title, called) ∷ []) other ≡ names_under declared other ++ cond (same title other) (called ∷ []) []
names_push declared title called other = names_under-append declared ((title, called) ∷ []) other

-- a new name differs from those before it
pub Differ-push : (declared : List (List ℕ × List ℕ)) (title called : List ℕ) → Differ declared
    → is_declared declared title called ≡ false → Differ (declared ++ (title, called) ∷ [])
Differ-push declared title called differ new other =
    let xs : List (List ℕ) = names_under declared other in
    ap (all_differ same) (names_push declared title called other)
    ∙ elim (cases_Bool (same title other)) [
      | inl t ↦ ap (λ b. all_differ same (xs ++ cond b (called ∷ []) [])) t
          ∙ all_differ-push same xs called (differ other)
          (subst (λ o. list_any (λ y. same y called) (names_under declared o) ≡ false) ((bytes_eq-Decides title other).0 t)
          (not_among declared title called new))
      | inr f ↦ ap (λ b. all_differ same (xs ++ cond b (called ∷ []) [])) f
          ∙ ap (all_differ same) (append-nil xs)
          ∙ differ other
    ]

-- how many names one is
length_cond : (b : Bool) (x : List ℕ) (xs : List (List ℕ)) (n : ℕ) → length xs ≡ n
    → length (cond b (x ∷ xs) xs) ≡ cond {A = ℕ} b 1 0 + n
length_cond true x xs n is = omega (arith, is)
length_cond false x xs n is = omega (arith, is)

-- as many names stand under a title as are counted there
pub length-names_under : (declared : List (List ℕ × List ℕ)) (title : List ℕ)
    → length (names_under declared title) ≡ count_under declared title
length-names_under [] title = refl
length-names_under (d ∷ ds) title =
    length_cond (same d.0 title) d.1 (names_under ds title) (count_under ds title) (length-names_under ds title)
    ∙ sym (sum_by-cons (λ (p : List ℕ × List ℕ). cond {A = ℕ} (same p.0 title) 1 0) d ds)

-- where there was room, the limit is kept
pub AtMost-push : (most : ℕ) (declared : List (List ℕ × List ℕ)) (title called : List ℕ) → AtMost most declared
    → nat_lt (count_under declared title) most ≡ true → AtMost most (declared ++ (title, called) ∷ [])
AtMost-push most declared title called within room other =
    let xs : List (List ℕ) = names_under declared other in
    elim (cases_Bool (same title other)) [
      | inl t ↦
          let size : length (names_under declared title) ≡ length xs = ap (λ o. length (names_under declared o)) ((bytes_eq-Decides title other).0 t) in
          let whole : length (names_under (declared ++ (title, called) ∷ []) other) ≡ length (xs ++ called ∷ []) =
          ap length (names_push declared title called other) ∙ ap (λ b. length (xs ++ cond b (called ∷ []) [])) t in
          omega (arith, whole, length-append xs (called ∷ []), size, length-names_under declared title, ltb-true (count_under declared title) most room)
      | inr f ↦
          let whole : length (names_under (declared ++ (title, called) ∷ []) other) ≡ length (xs ++ []) =
          ap length (names_push declared title called other) ∙ ap (λ b. length (xs ++ cond b (called ∷ []) [])) f in
          omega (arith, whole, length-append xs [], within other)
    ]
