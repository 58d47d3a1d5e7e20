-- What is found in a table is what is found among the signals and groups that it was made of.
use Rattle.std.proofs.Common.{◌≡◌, ℕ, suc, Bool, true, false, cond, not, ◌||◌, List, [], ◌∷◌, ◌++◌, length, get_or, map, Option, Some, None, refl, sym, ap, ◌∙◌, subst, arith, inl, inr}
use Rattle.std.specs.Prelude.{Vec, All, filter, ◌<◌, ◌+◌, nat_lt, position}
use Rattle.std.specs.List.{list_any, position_or_len, enumerate_from, filter_map, cons_option, IsDistinct}
use Rattle.std.specs.declared.alloc.Global.{Global}
use Rattle.std.specs.Cmp.Lexicographic.{bytes_decides}
use Rattle.std.specs.Str.{bytes_eq}
use Rattle.std.proofs.lemmas.Bool.{cases_Bool, cases_lt, lt-ltb}
use Rattle.std.proofs.lemmas.List.Elements.{All-nil, All-cons}
use Rattle.std.proofs.lemmas.List.Quantifiers.{position-Some}
use Rattle.std.proofs.lemmas.List.{map-append, length-map, get_or_past}
use Rattle.std.proofs.lemmas.List.Sums.{position_or_len_is}
use Rattle.std.proofs.lemmas.Map.Keys.{apart_from_distinct}
use Rattle.text_bytes.specs.Texts.{key_texts}
use Rattle.stil_ast.specs.Data.Texts.{same, indices, indexed}
use Rattle.stil_ast.specs.Meaning.Members.{is_based_on}
use Rattle.stil_ast.specs.declared.name.IndexRange.{IndexRange}
use Rattle.stil_ast.specs.declared.name.NameRef.{NameRef}
use Rattle.signal_groups.specs.Table.{Table, IsSound}
use Rattle.signal_groups.specs.Lookup.{number_in, plain_in, ranged_in, item_in}

-- names are the same, whichever comes first
pub same-sym : (a b : List ℕ) → same a b ≡ same b a
same-sym a b =
    elim (cases_Bool (same a b)) [
      | inl e ↦ subst (λ (x : List ℕ). same a x ≡ same x a) ((bytes_decides a b).0 e) refl
      | inr e ↦ elim (cases_Bool (same b a)) [
        | inl f ↦ subst (λ (x : List ℕ). same x b ≡ same b x) ((bytes_decides b a).0 f) refl
        | inr f ↦ e ∙ sym f
      ]
    ]

-- where the first that passes stands, in a list and in what is seen of it
position_or_len-seen : {X Y : Type 0} (f : X → Y) (p : X → Bool) (q : Y → Bool) → ((x : X) → p x ≡ q (f x)) → (xs : List X)
    → position_or_len p xs ≡ position_or_len q (map f xs)
position_or_len-seen f p q e [] = refl
position_or_len-seen f p q e (x ∷ xs) =
    ap (λ b. cond {A = ℕ} (not b) (1 + position_or_len p xs) 0) (e x)
    ∙ ap (λ n. cond {A = ℕ} (not (q (f x))) (1 + n) 0) (position_or_len-seen f p q e xs)

pub position-seen : {X Y : Type 0} (f : X → Y) (p : X → Bool) (q : Y → Bool) → ((x : X) → p x ≡ q (f x)) → (xs : List X)
    → position p xs ≡ position q (map f xs)
position-seen f p q e xs =
    ap (λ n. cond (nat_lt n (length xs)) (Some n) None) (position_or_len-seen f p q e xs)
    ∙ ap (λ n. cond (nat_lt (position_or_len q (map f xs)) n) (Some (position_or_len q (map f xs))) None) (sym (length-map xs f))

-- where a name stands among keys
pub number_in-keys : (keys : List (Vec ℕ Global)) (name : List ℕ)
    → position (λ k. bytes_eq name k.items) keys ≡ number_in (key_texts keys) name
number_in-keys keys name =
    position-seen (λ k. k.items) (λ k. bytes_eq name k.items) (λ t. same t name) (λ k. same-sym name k.items) keys

-- a name stands where a key is it, as keys differ
pub position-at : (keys : List (Vec ℕ Global)) (name : List ℕ) (i : ℕ) (k : Vec ℕ Global)
    → IsDistinct (λ (x y : Vec ℕ Global). bytes_eq x.items y.items) keys → i < length keys → k ≡ get_or keys i k
    → bytes_eq k.items name ≡ true → position (λ k. bytes_eq name k.items) keys ≡ Some i
position-at keys name i k apart within at e =
    let here : (get_or keys i k).items ≡ name
    = ap (λ (x : Vec ℕ Global). x.items) (sym at) ∙ (bytes_decides k.items name).0 e in
    let before : (j : ℕ) → j < i → bytes_eq name (get_or keys j k).items ≡ false =
    λ j less. same-sym name (get_or keys j k).items
    ∙ subst (λ (n : List ℕ). bytes_eq (get_or keys j k).items n ≡ false) here
    (apart_from_distinct (λ (x y : Vec ℕ Global). bytes_eq x.items y.items) keys j i k apart less within) in
    let is : position_or_len (λ k. bytes_eq name k.items) keys ≡ i =
    position_or_len_is (λ (x : Vec ℕ Global). bytes_eq name x.items) keys i k (omega (arith, within)) before
    (λ _. (bytes_decides name (get_or keys i k).items).1 (sym here)) in
    ap (λ n. cond (nat_lt n (length keys)) (Some n) None) is
    ∙ ap (λ b. cond b (Some i) None) (lt-ltb i (length keys) within)

-- a number is that of a name
pub number_in-within : (texts : List (List ℕ)) (name : List ℕ) (i : ℕ) → number_in texts name ≡ Some i → i < length texts
number_in-within texts name i e = (position-Some (λ t. same t name) texts i [] e).0

based_within : (name : List ℕ) (n : ℕ) (bases : List (Option (List ℕ)))
    → All (λ s. s < n + length bases) (map (λ s. s.0) (filter (λ s. is_based_on name s.1) (enumerate_from n bases)))
based_within name n [] = All-nil (λ s. s < n + 0)
based_within name n (b ∷ bases) =
    by_test (is_based_on name b) (λ k d lt. omega (arith, based_within name (n + 1) bases k d lt))
  where
    by_test : (t : Bool) → All (λ s. s < n + suc (length bases))
        (map (λ s. s.0) (filter (λ s. is_based_on name s.1) (enumerate_from (n + 1) bases)))
        → All (λ s. s < n + suc (length bases))
        (map (λ s. s.0) (cond t ((n, b) ∷ filter (λ s. is_based_on name s.1) (enumerate_from (n + 1) bases))
        (filter (λ s. is_based_on name s.1) (enumerate_from (n + 1) bases))))
    by_test true more = All-cons (λ s. s < n + suc (length bases)) n _ (omega arith) more
    by_test false more = more

ranged_within : (texts : List (List ℕ)) (name : List ℕ) (is : List ℕ)
    → All (λ s. s < length texts) (filter_map (λ i. number_in texts (indexed name i)) is)
ranged_within texts name [] = All-nil (λ s. s < length texts)
ranged_within texts name (i ∷ is) = by_number (number_in texts (indexed name i)) refl (ranged_within texts name is)
  where
    by_number : (o : Option ℕ) → number_in texts (indexed name i) ≡ o
        → All (λ s. s < length texts) (filter_map (λ i. number_in texts (indexed name i)) is)
        → All (λ s. s < length texts) (cons_option o (filter_map (λ i. number_in texts (indexed name i)) is))
    by_number None e more = more
    by_number (Some s) e more =
        All-cons (λ s. s < length texts) s (filter_map (λ i. number_in texts (indexed name i)) is)
        (number_in-within texts (indexed name i) s e) more

-- the signals of an item are signals
pub item_in-within : (table : Table) (r : NameRef) → IsSound table → All (λ s. s < length table.texts) (item_in table r)
item_in-within table r sound = by_range r.range
  where
    by_group : (o : Option ℕ) → All (λ s. s < length table.texts) (plain_in table r.name None o)
    by_group None = λ k d lt. omega (arith, based_within r.name 0 table.bases k d lt, sound.each_base)
    by_group (Some g) = elim (cases_lt g (length table.members)) [
      | inl l ↦ sound.each_member g [] l
      | inr l ↦ subst (λ (ss : List ℕ). All (λ s. s < length table.texts) ss) (sym (get_or_past table.members g [] l)) (All-nil (λ s. s < length table.texts))
    ]

    by_signal : (o : Option ℕ) → number_in table.texts r.name ≡ o
        → All (λ s. s < length table.texts) (plain_in table r.name o (number_in table.groups r.name))
    by_signal None e = by_group (number_in table.groups r.name)
    by_signal (Some s) e = All-cons (λ s. s < length table.texts) s [] (number_in-within table.texts r.name s e) (All-nil (λ s. s < length table.texts))

    by_range : (range : Option IndexRange) → All (λ s. s < length table.texts) (ranged_in table r.name range)
    by_range None = by_signal (number_in table.texts r.name) refl
    by_range (Some range) = ranged_within table.texts r.name (indices range)

-- whether a name stands among keys
pub any-keys : (keys : List (Vec ℕ Global)) (name : List ℕ)
    → list_any (λ k. bytes_eq name k.items) keys ≡ list_any (λ t. same t name) (key_texts keys)
any-keys [] name = refl
any-keys (k ∷ keys) name =
    ap (λ b. b || list_any (λ k. bytes_eq name k.items) keys) (same-sym name k.items)
    ∙ ap (λ b. same k.items name || b) (any-keys keys name)

-- a new name goes behind the others
pub keys-pushed : (keys keys' : List (Vec ℕ Global)) (k : Vec ℕ Global) (name : List ℕ) → k.items ≡ name
    → list_any (λ t. same t name) (key_texts keys) ≡ false
    → keys' ≡ cond (list_any (λ j. bytes_eq k.items j.items) keys) keys (keys ++ k ∷ [])
    → key_texts keys' ≡ key_texts keys ++ name ∷ []
keys-pushed keys keys' k name is new put =
    let absent : list_any (λ j. bytes_eq k.items j.items) keys ≡ false =
    any-keys keys k.items ∙ ap (λ (n : List ℕ). list_any (λ t. same t n) (key_texts keys)) is ∙ new in
    ap key_texts (put ∙ ap (λ b. cond b keys (keys ++ k ∷ [])) absent)
    ∙ map-append (λ (j : Vec ℕ Global). j.items) keys (k ∷ [])
    ∙ ap (λ n. key_texts keys ++ n ∷ []) is
