-- What a table of names answers is what the names mean.
use Rattle.std.proofs.Common.{◌≡◌, append_assoc, length-append, ℕ, ◌+◌, Bool, true, false, cond, ◌||◌, List, [], ◌∷◌, ◌++◌, length, get_or, map, filter, Option, Some, None, refl, sym, ap, ◌∙◌, subst}
use Rattle.std.specs.Prelude.{position, find, is_some, slice_index_or, Result, Ok, Err}
use Rattle.std.specs.List.{list_all, list_any, enumerate_from, filter_map, position_from}
use Rattle.std.proofs.Math.Seq.{get_or-append_seam}
use Rattle.std.proofs.lemmas.List.{map-append, length-map}
use Rattle.std.proofs.lemmas.Iterator.Adapters.{position_from-zero}
use Rattle.text_bytes.proofs.ListLemmas.{list_any-map}
use Rattle.stil_ast.specs.Data.Texts.{same, indices, indexed}
use Rattle.stil_ast.specs.Meaning.Signals.{Signal, Group, Names}
use Rattle.stil_ast.specs.Meaning.GroupText.{Term}
use Rattle.stil_ast.specs.Meaning.GroupReading.{terms_of}
use Rattle.stil_ast.specs.Meaning.Members.{signal_of, group_of, is_based_on, based_on, plain_members, item_members, text_members, is_known, combined_text, reference_kind, followed, members, none_where, kind_of_terms}
use Rattle.stil_ast.specs.declared.name.IndexRange.{IndexRange}
use Rattle.stil_ast.specs.declared.name.NameRef.{NameRef}
use Rattle.stil_ast.specs.declared.name.SigRef.{SigRef}
use Rattle.stil_ast.specs.declared.name.SigRef.TheVariants.{Name, Group as GroupRef}
use Rattle.stil_ast.specs.declared.fault.StilKind.{StilKind}
use Rattle.stil_ast.specs.declared.fault.StilKind.TheVariants.{UnknownName}
use Rattle.signal_groups.specs.declared.fault.RefFault.{RefFault}
use Rattle.signal_groups.specs.Table.{Table, table_of}
use Rattle.signal_groups.specs.Lookup.{number_in, based_in, plain_in, item_in, known_in, kind_in, signals_in, terms_kind, Refuses, Resolves}
use Rattle.signal_groups.proofs.LookupLemmas.{position-seen}

-- functions that agree everywhere are one
pub ext : {A B : Type 0} {f g : A → B} → ((x : A) → f x ≡ g x) → f ≡ g
ext h = λ j x. h x j

-- a number is a signal's
pub number_in-signals : (signals : List Signal) (text : List ℕ)
    → number_in (map (λ (s : Signal). s.text) signals) text ≡ position (λ (s : Signal). same s.text text) signals
number_in-signals signals text =
    sym (position-seen (λ (s : Signal). s.text) (λ (s : Signal). same s.text text) (λ t. same t text) (λ s. refl) signals)

pub based_from : (name : List ℕ) (n : ℕ) (signals : List Signal)
    → map (λ s. s.0) (filter (λ s. is_based_on name s.1) (enumerate_from n (map (λ (s : Signal). s.base) signals)))
    ≡ map (λ s. s.0) (filter (λ s. is_based_on name s.1.base) (enumerate_from n signals))
based_from name n [] = refl
based_from name n (s ∷ signals) = by_test (is_based_on name s.base) (based_from name (n + 1) signals)
  where
    by_test : (b : Bool)
        → map (λ s. s.0) (filter (λ s. is_based_on name s.1) (enumerate_from (n + 1) (map (λ (s : Signal). s.base) signals)))
        ≡ map (λ s. s.0) (filter (λ s. is_based_on name s.1.base) (enumerate_from (n + 1) signals))
        → map (λ s. s.0) (cond b ((n, s.base) ∷ filter (λ s. is_based_on name s.1) (enumerate_from (n + 1) (map (λ (s : Signal). s.base) signals)))
        (filter (λ s. is_based_on name s.1) (enumerate_from (n + 1) (map (λ (s : Signal). s.base) signals))))
        ≡ map (λ s. s.0) (cond b ((n, s) ∷ filter (λ s. is_based_on name s.1.base) (enumerate_from (n + 1) signals))
        (filter (λ s. is_based_on name s.1.base) (enumerate_from (n + 1) signals)))
    by_test true more = ap (λ ms. n ∷ ms) more
    by_test false more = more

-- the members of a group, if there is one
abbrev slot : List (List ℕ) → List ℕ → Option ℕ → List ℕ
slot lists based None = based
slot lists based (Some g) = slice_index_or lists g []

abbrev slot_of : (Group → List ℕ) → List ℕ → Option Group → List ℕ
slot_of f based None = based
slot_of f based (Some g) = f g

slot_from : (f : Group → List ℕ) (name based : List ℕ) (front groups : List Group)
    → slot (map f (front ++ groups)) based (position_from (λ n. same n name) (length front) (map (λ (g : Group). g.name) groups))
    ≡ slot_of f based (find (λ (g : Group). same g.name name) groups)
slot_from f name based front [] = refl
slot_from f name based front (g ∷ groups) =
    by_test (same g.name name)
    (ap (λ gs. slot (map f gs) based (position_from (λ n. same n name) (length front + 1) (map (λ (g : Group). g.name) groups)))
    (sym (append_assoc front (g ∷ []) groups))
    ∙ ap (λ n. slot (map f ((front ++ g ∷ []) ++ groups)) based (position_from (λ n. same n name) n (map (λ (g : Group). g.name) groups)))
    (sym (length-append front (g ∷ [])))
    ∙ slot_from f name based (front ++ g ∷ []) groups)
  where
    by_test : (b : Bool)
        → slot (map f (front ++ g ∷ groups)) based (position_from (λ n. same n name) (length front + 1) (map (λ (g : Group). g.name) groups))
        ≡ slot_of f based (find (λ (g : Group). same g.name name) groups)
        → slot (map f (front ++ g ∷ groups)) based
        (cond b (Some (length front)) (position_from (λ n. same n name) (length front + 1) (map (λ (g : Group). g.name) groups)))
        ≡ slot_of f based (cond b (Some g) (find (λ (g : Group). same g.name name) groups))
    by_test true more =
        ap (λ ls. get_or ls (length front) []) (map-append f front (g ∷ groups))
        ∙ ap (λ n. get_or (map f front ++ f g ∷ map f groups) n []) (sym (length-map front f))
        ∙ get_or-append_seam (map f front) (f g) (map f groups) []
    by_test false more = more

-- what is said of one group or signal
is_some_from : (name : List ℕ) (n : ℕ) (groups : List Group)
    → is_some (position_from (λ n. same n name) n (map (λ (g : Group). g.name) groups))
    ≡ is_some (find (λ (g : Group). same g.name name) groups)
is_some_from name n [] = refl
is_some_from name n (g ∷ groups) = by_test (same g.name name) (is_some_from name (n + 1) groups)
  where
    by_test : (b : Bool)
        → is_some (position_from (λ n. same n name) (n + 1) (map (λ (g : Group). g.name) groups))
        ≡ is_some (find (λ (g : Group). same g.name name) groups)
        → is_some (cond b (Some n) (position_from (λ n. same n name) (n + 1) (map (λ (g : Group). g.name) groups)))
        ≡ is_some (cond b (Some g) (find (λ (g : Group). same g.name name) groups))
    by_test true more = refl
    by_test false more = more

module _ (names : Names) where
  abbrev table : Table
  table = table_of names

  abbrev inner : List ℕ → List ℕ
  inner = text_members names (length names.groups)

  signal_in : (name : List ℕ) → number_in table.texts name ≡ signal_of names name
  signal_in name = number_in-signals names.signals name

  plain : (name : List ℕ) (o : Option ℕ)
      → plain_in table name o (number_in table.groups name)
      ≡ plain_members o (group_of names name) inner (based_on names name)
  plain name (Some s) = refl
  plain name None =
      by_slot (number_in table.groups name)
      ∙ ap (λ based. slot table.members based (number_in table.groups name)) (based_from name 0 names.signals)
      ∙ ap (slot table.members (based_on names name)) (position_from-zero (λ n. same n name) table.groups)
      ∙ slot_from (λ (g : Group). inner g.text) name (based_on names name) [] names.groups
      ∙ sym (by_group (group_of names name))
    where
      by_slot : (o : Option ℕ) → plain_in table name None o ≡ slot table.members (based_in table.bases name) o
      by_slot None = refl
      by_slot (Some g) = refl

      by_group : (o : Option Group)
          → plain_members None o inner (based_on names name) ≡ slot_of (λ (g : Group). inner g.text) (based_on names name) o
      by_group None = refl
      by_group (Some g) = refl

  -- an item stands for the same signals
  pub item_in-names : (r : NameRef) → item_in table r ≡ item_members names inner r
  item_in-names r = by_range r.range
    where
      by_range : (range : Option IndexRange)
          → item_in table (record { name = r.name; range = range })
          ≡ item_members names inner (record { name = r.name; range = range })
      by_range None = plain r.name (number_in table.texts r.name)
          ∙ ap (λ o. plain_members o (group_of names r.name) inner (based_on names r.name)) (signal_in r.name)
      by_range (Some range) =
          ap (λ (f : ℕ → Option ℕ). filter_map f (indices range)) (ext (λ i. signal_in (indexed r.name i)))

  -- and is known alike
  pub known_in-names : (r : NameRef) → known_in table r ≡ is_known names r
  known_in-names r = by_range r.range
    where
      by_range : (range : Option IndexRange)
          → known_in table (record { name = r.name; range = range })
          ≡ is_known names (record { name = r.name; range = range })
      by_range None =
          ap (λ o. is_some o || is_some (number_in table.groups r.name) || list_any (is_based_on r.name) table.bases) (signal_in r.name)
          ∙ ap (λ b. is_some (signal_of names r.name) || b || list_any (is_based_on r.name) table.bases)
          (ap is_some (position_from-zero (λ n. same n r.name) table.groups) ∙ is_some_from r.name 0 names.groups)
          ∙ ap (λ b. is_some (signal_of names r.name) || is_some (group_of names r.name) || b)
          (list_any-map (λ (s : Signal). s.base) (is_based_on r.name) names.signals)
      by_range (Some range) =
          ap (λ (f : ℕ → Bool). list_all f (indices range)) (ext (λ i. ap is_some (signal_in (indexed r.name i))))

  pub kind_of_terms-names : (o : Option (List Term)) → terms_kind table o ≡ kind_of_terms names o
  kind_of_terms-names None = refl
  kind_of_terms-names (Some terms) =
      ap (λ (f : Term → Bool). cond (list_all f terms) None (Some UnknownName)) (ext (λ t. known_in-names t.item))

  kind_in-names : (r : SigRef) → kind_in table r ≡ reference_kind names r
  kind_in-names (Name r) = ap (λ b. cond b None (Some UnknownName)) (known_in-names r)
  kind_in-names (GroupRef q) = kind_of_terms-names (terms_of q.text)

  signals_in-names : (r : SigRef) → signals_in table r ≡ followed names r
  signals_in-names (Name r) = item_in-names r
  signals_in-names (GroupRef q) =
      ap (λ (f : NameRef → List ℕ). combined_text f (terms_of q.text)) (ext item_in-names)

  resolves_names : (r : SigRef) (result : Result (List ℕ) RefFault)
      → Resolves (kind_in table r) (signals_in table r) result → Resolves (reference_kind names r) (members names r) result
  resolves_names r (Ok found) h =
      let none : reference_kind names r ≡ None = sym (kind_in-names r) ∙ h.0 in
      (none, h.1 ∙ signals_in-names r ∙ sym (ap (λ k. none_where k (followed names r)) none))
  resolves_names r (Err fault) h = subst (λ (k : Option StilKind). Refuses k fault) (kind_in-names r) h

pub resolves : (names : Names) (table : Table) (r : SigRef) (result : Result (List ℕ) RefFault) → table ≡ table_of names
    → Resolves (kind_in table r) (signals_in table r) result → Resolves (reference_kind names r) (members names r) result
resolves names t r result e h =
    resolves_names names r result (subst (λ (t : Table). Resolves (kind_in t r) (signals_in t r) result) e h)
