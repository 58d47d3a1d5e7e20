-- What groups need by their names is what they need by their numbers.
use Rattle.std.proofs.Common.{◌≡◌, ℕ, zero, suc, ◌<◌, ◌+◌, ◌==◌, ◌||◌, Bool, true, false, cond, List, [], ◌∷◌, ◌++◌, length, get_or, map, Option, Some, None, refl, sym, ap, ◌∙◌, subst, arith, inl, inr, append_assoc, length-append, true≢false}
use Rattle.std.specs.Prelude.{All, nat_lt, find}
use Rattle.std.specs.List.{list_any, filter_map, cons_option, position_from}
use Rattle.std.specs.Option.{option_map}
use Rattle.std.proofs.Math.Seq.{get_or-append_seam}
use Rattle.std.proofs.lemmas.Bool.{cases_lt, cases_order, eq-eqb, ne_eqb}
use Rattle.std.proofs.lemmas.List.{length-map, get_or_append_left, append-nil}
use Rattle.std.proofs.lemmas.List.Elements.{All-nil, All-cons, All-head, All-tail}
use Rattle.std.proofs.lemmas.Iterator.Adapters.{position_from-zero}
use Rattle.std.specs.Cmp.Lexicographic.{bytes_decides}
use Rattle.stil_ast.specs.Data.Texts.{same}
use Rattle.stil_ast.specs.Faults.Found.{fault_at, unless, refuse_if}
use Rattle.stil_ast.specs.Faults.SignalFaults.{groups_fault, group_unless, group_named, groups_in, needs}
use Rattle.stil_ast.specs.Meaning.Signals.{Signal, Group, Names}
use Rattle.stil_ast.specs.Meaning.GroupText.{Term}
use Rattle.stil_ast.specs.Meaning.GroupReading.{terms_of}
use Rattle.stil_ast.specs.Meaning.Members.{group_of}
use Rattle.stil_ast.specs.declared.name.IndexRange.{IndexRange}
use Rattle.stil_ast.specs.declared.fault.StilKind.TheVariants.{Twice, OutOfRange}
use Rattle.signal_groups.specs.Lookup.{number_in}
use Rattle.signal_groups.specs.Graph.{needed_unless, needed_by, needed_in, needs_at, reaches}
use Rattle.signal_groups.proofs.LookupLemmas.{same-sym, number_in-within}
use Rattle.signal_groups.proofs.ResolveLemmas.{ext, number_in-signals}

-- the names of groups, and the texts of signals
abbrev pub names_in : List Group → List (List ℕ)
names_in groups = map (λ (g : Group). g.name) groups

abbrev pub texts_in : List Signal → List (List ℕ)
texts_in signals = map (λ (s : Signal). s.text) signals

-- the group of a name has its number
found_from : (name : List ℕ) (d : Group) (front groups : List Group)
    → find (λ (g : Group). same g.name name) groups
    ≡ option_map (λ h. get_or (front ++ groups) h d) (position_from (λ n. same n name) (length front) (names_in groups))
found_from name d front [] = refl
found_from name d front (g ∷ groups) =
    by_test (same g.name name)
    (found_from name d (front ++ g ∷ []) groups
    ∙ ap (λ gs. option_map (λ h. get_or gs h d) (position_from (λ n. same n name) (length (front ++ g ∷ [])) (names_in groups)))
    (append_assoc front (g ∷ []) groups)
    ∙ ap (λ n. option_map (λ h. get_or (front ++ g ∷ groups) h d) (position_from (λ n. same n name) n (names_in groups)))
    (length-append front (g ∷ [])))
  where
    by_test : (b : Bool)
        → find (λ (g : Group). same g.name name) groups
        ≡ option_map (λ h. get_or (front ++ g ∷ groups) h d) (position_from (λ n. same n name) (length front + 1) (names_in groups))
        → cond b (Some g) (find (λ (g : Group). same g.name name) groups)
        ≡ option_map (λ h. get_or (front ++ g ∷ groups) h d)
        (cond b (Some (length front)) (position_from (λ n. same n name) (length front + 1) (names_in groups)))
    by_test true more = ap (λ (x : Group). Some x) (sym (get_or-append_seam front g groups d))
    by_test false more = more

pub group-found : (groups : List Group) (name : List ℕ) (d : Group)
    → find (λ (g : Group). same g.name name) groups ≡ option_map (λ h. get_or groups h d) (number_in (names_in groups) name)
group-found groups name d =
    found_from name d [] groups
    ∙ ap (option_map (λ h. get_or groups h d)) (sym (position_from-zero (λ n. same n name) (names_in groups)))

-- no two of these groups have one name
pub record Differ (groups : List Group) : Type 0 where
  pub each : (i j : ℕ) (d : Group) → i < j → j < length groups → same (get_or groups i d).name (get_or groups j d).name ≡ false

none_passes : (p : Group → Bool) (groups : List Group) → list_any p groups ≡ false → (k : ℕ) (d : Group) → k < length groups
    → p (get_or groups k d) ≡ false
none_passes p [] h k d lt = absurd (omega (arith, lt))
none_passes p (g ∷ groups) h zero d lt = by_test (p g) h
  where
    by_test : (b : Bool) → (b || list_any p groups) ≡ false → b ≡ false
    by_test true e = e
    by_test false e = refl
none_passes p (g ∷ groups) h (suc k) d lt = none_passes p groups (by_test (p g) h) k d (omega (arith, lt))
  where
    by_test : (b : Bool) → (b || list_any p groups) ≡ false → list_any p groups ≡ false
    by_test true e = absurd (true≢false e)
    by_test false e = e

differ-push : (groups : List Group) (g : Group) → Differ groups → list_any (λ (b : Group). same b.name g.name) groups ≡ false
    → Differ (groups ++ g ∷ [])
differ-push groups g h new = record { each = each }
  where
    each : (i j : ℕ) (d : Group) → i < j → j < length (groups ++ g ∷ [])
        → same (get_or (groups ++ g ∷ []) i d).name (get_or (groups ++ g ∷ []) j d).name ≡ false
    each i j d lt lj =
        let count = length-append groups (g ∷ []) in
        elim (cases_lt j (length groups)) [
          | inl l ↦
              let li : i < length groups = omega (arith, lt, l) in
              ap (λ (x : Group). same x.name (get_or (groups ++ g ∷ []) j d).name) (get_or_append_left groups (g ∷ []) d i li)
              ∙ ap (λ (x : Group). same (get_or groups i d).name x.name) (get_or_append_left groups (g ∷ []) d j l)
              ∙ h.each i j d lt l
          | inr l ↦
              let at : j ≡ length groups = omega (arith, lj, count, l) in
              let li : i < length groups = omega (arith, lt, at) in
              ap (λ (x : Group). same x.name (get_or (groups ++ g ∷ []) j d).name) (get_or_append_left groups (g ∷ []) d i li)
              ∙ ap (λ n. same (get_or groups i d).name (get_or (groups ++ g ∷ []) n d).name) at
              ∙ ap (λ (x : Group). same (get_or groups i d).name x.name) (get_or-append_seam groups g [] d)
              ∙ none_passes (λ (b : Group). same b.name g.name) groups new i d li
        ]

-- where no group is refused they differ
groups_differ : (before groups : List Group) → groups_fault before groups ≡ None → Differ before → Differ (before ++ groups)
groups_differ before [] e h = subst Differ (sym (append-nil before)) h
groups_differ before (g ∷ groups) e h =
    by_tests (list_any (λ (b : Group). same b.name g.name) before) refl (nat_lt (length before) 4096) e
    (λ new rest. subst Differ (append_assoc before (g ∷ []) groups)
    (groups_differ (before ++ g ∷ []) groups rest (differ-push before g h new)))
  where
    by_few : (few : Bool) → unless few (fault_at g.place OutOfRange) (groups_fault (before ++ g ∷ []) groups) ≡ None
        → groups_fault (before ++ g ∷ []) groups ≡ None
    by_few true r = r
    by_few false r = cc

    by_tests : (twice : Bool) → list_any (λ (b : Group). same b.name g.name) before ≡ twice → (few : Bool)
        → refuse_if twice (fault_at g.place Twice)
        (unless few (fault_at g.place OutOfRange) (groups_fault (before ++ g ∷ []) groups)) ≡ None
        → (list_any (λ (b : Group). same b.name g.name) before ≡ false → groups_fault (before ++ g ∷ []) groups ≡ None
        → Differ (before ++ g ∷ groups))
        → Differ (before ++ g ∷ groups)
    by_tests true t few r more = cc
    by_tests false t few r more = more t (by_few few r)

pub all_differ : (groups : List Group) → groups_fault [] groups ≡ None → Differ groups
all_differ groups e = groups_differ [] groups e (record { each = λ i j d lt lj. absurd (omega (arith, lj)) })

-- an item of what is seen of a list
pub seen_at : {X Y : Type 0} (f : X → Y) (xs : List X) (k : ℕ) (d : X) (e : Y) → k < length xs → get_or (map f xs) k e ≡ f (get_or xs k d)
seen_at f [] k d e lt = absurd (omega (arith, lt))
seen_at f (x ∷ xs) zero d e lt = refl
seen_at f (x ∷ xs) (suc k) d e lt = seen_at f xs k d e (omega (arith, lt))

module _ (names : Names) (d : Group) (differ : Differ names.groups) where
  abbrev texts : List (List ℕ)
  texts = texts_in names.signals

  abbrev called : List (List ℕ)
  called = names_in names.groups

  abbrev at : ℕ → Group
  at h = get_or names.groups h d

  abbrev needed : List ℕ → List ℕ
  needed text = needed_in texts called (terms_of text)

  abbrev graph : List (List ℕ)
  graph = map (λ (g : Group). needed g.text) names.groups

  named_with : (s : Option ℕ) (o : Option ℕ) (range : Option IndexRange)
      → group_unless s (option_map at o) range ≡ option_map at (needed_unless s o range)
  named_with None o None = refl
  named_with None o (Some range) = refl
  named_with (Some s) o range = refl

  named : (t : Term) → group_named names t ≡ option_map at (needed_by texts called t)
  named t =
      ap (λ s. group_unless s (group_of names t.item.name) t.item.range) (sym (number_in-signals names.signals t.item.name))
      ∙ ap (λ g. group_unless (number_in texts t.item.name) g t.item.range) (group-found names.groups t.item.name d)
      ∙ named_with (number_in texts t.item.name) (number_in called t.item.name) t.item.range

  mapped : (f : Term → Option ℕ) (terms : List Term) → filter_map (λ t. option_map at (f t)) terms ≡ map at (filter_map f terms)
  mapped f [] = refl
  mapped f (t ∷ terms) = by_item (f t) (mapped f terms)
    where
      by_item : (o : Option ℕ) → filter_map (λ t. option_map at (f t)) terms ≡ map at (filter_map f terms)
          → cons_option (option_map at o) (filter_map (λ t. option_map at (f t)) terms) ≡ map at (cons_option o (filter_map f terms))
      by_item None more = more
      by_item (Some h) more = ap (λ gs. at h ∷ gs) more

  in_groups : (o : Option (List Term)) → groups_in names o ≡ map at (needed_in texts called o)
  in_groups None = refl
  in_groups (Some terms) =
      ap (λ (f : Term → Option Group). filter_map f terms) (ext named) ∙ mapped (needed_by texts called) terms

  -- what is needed is a group
  needed_within : (s o : Option ℕ) (range : Option IndexRange) (h n : ℕ) → ((k : ℕ) → o ≡ Some k → k < n)
      → needed_unless s o range ≡ Some h → h < n
  needed_within None o None h n within e = within h e
  needed_within None o (Some range) h n within e = cc
  needed_within (Some s) o range h n within e = cc

  pub below : (o : Option (List Term)) → All (λ h. h < length names.groups) (needed_in texts called o)
  below None = All-nil (λ h. h < length names.groups)
  below (Some terms) = each terms
    where
      each : (terms : List Term) → All (λ h. h < length names.groups) (filter_map (needed_by texts called) terms)
      each [] = All-nil (λ h. h < length names.groups)
      each (t ∷ terms) = by_item (needed_by texts called t) refl (each terms)
        where
          by_item : (o : Option ℕ) → needed_by texts called t ≡ o
              → All (λ h. h < length names.groups) (filter_map (needed_by texts called) terms)
              → All (λ h. h < length names.groups) (cons_option o (filter_map (needed_by texts called) terms))
          by_item None e more = more
          by_item (Some h) e more =
              All-cons (λ h. h < length names.groups) h (filter_map (needed_by texts called) terms)
              (needed_within (number_in texts t.item.name) (number_in called t.item.name) t.item.range h (length names.groups)
              (λ k f. subst (λ (n : ℕ). k < n) (length-map names.groups (λ (g : Group). g.name)) (number_in-within called t.item.name k f)) e)
              more

  -- one name is one number
  one_name : (h t : ℕ) → h < length names.groups → t < length names.groups → same (at h).name (at t).name ≡ (h == t)
  one_name h t lh lt =
      elim (cases_order h t) [
        | inl q ↦ (bytes_decides (at h).name (at t).name).1 (ap (λ k. (at k).name) q) ∙ sym (eq-eqb h t q)
        | inr o ↦ elim o [
          | inl l ↦ differ.each h t d l lt ∙ sym (ne_eqb h t (λ q. absurd (omega (arith, l, q))))
          | inr l ↦ same-sym (at h).name (at t).name ∙ differ.each t h d l lh ∙ sym (ne_eqb h t (λ q. absurd (omega (arith, l, q))))
        ]
      ]

  any_alike : (p : Group → Bool) (q : ℕ → Bool) (hs : List ℕ) → All (λ h. p (at h) ≡ q h) hs → list_any p (map at hs) ≡ list_any q hs
  any_alike p q [] e = refl
  any_alike p q (h ∷ hs) e =
      ap (λ b. b || list_any p (map at hs)) (All-head (λ k. p (at k) ≡ q k) h hs e)
      ∙ ap (λ b. q h || b) (any_alike p q hs (All-tail (λ k. p (at k) ≡ q k) h hs e))

  get_or_read_at : (h : ℕ) → h < length names.groups → get_or graph h [] ≡ needed (at h).text
  get_or_read_at h lt =
      seen_at (λ (g : Group). needed g.text) names.groups h d [] lt

  graph_at : (h : ℕ) → h < length names.groups → needed (at h).text ≡ needs_at graph h
  graph_at h lt = sym (get_or_read_at h lt)

  -- what a text needs within so many steps
  pub needs-reaches : (steps : ℕ) (text : List ℕ) (t : ℕ) → t < length names.groups
      → needs names steps text (at t).name ≡ reaches graph steps (needed text) t
  needs-reaches zero text t lt = refl
  needs-reaches (suc steps) text t lt =
      ap (list_any (λ (g : Group). same g.name (at t).name || needs names steps g.text (at t).name)) (in_groups (terms_of text))
      ∙ any_alike (λ (g : Group). same g.name (at t).name || needs names steps g.text (at t).name)
      (λ h. h == t || reaches graph steps (needs_at graph h) t) (needed text)
      (λ k e lk.
      let h = get_or (needed text) k e in
      let lh : h < length names.groups = below (terms_of text) k e lk in
      ap (λ b. b || needs names steps (at h).text (at t).name) (one_name h t lh lt)
      ∙ ap (λ b. h == t || b) (needs-reaches steps (at h).text t lt ∙ ap (λ from. reaches graph steps from t) (graph_at h lh)))
