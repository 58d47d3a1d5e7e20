-- Rounds: each puts the tables in that inherit only such as are there.
use Rattle.std.proofs.Common.{◌≡◌, ℕ, zero, suc, ◌+◌, ◌-◌, ◌<◌, ◌≤◌, Bool, true, false, not, ◌||◌, List, [], ◌∷◌, ◌++◌, Option, Some, None, is_some, length, get_or, map, refl, sym, ap, ◌∙◌, subst, inl, inr, arith}
use Rattle.std.specs.List.{flat_map, list_any, list_all}
use Rattle.std.specs.Prelude.{slice_get}
use Rattle.std.proofs.lemmas.List.{length-map, get_or_past}
use Rattle.std.proofs.lemmas.Bool.{or_parts, cases_lt, true≢false}
use Rattle.stil_ast.proofs.InheritLemmas.{lineage_follows}
use Rattle.stil_ast.specs.Meaning.Tables.{inherited_by, inherited, lineage, goes_on, leads_into_cycle}
use Rattle.stil_ast.specs.Faults.TableFaults.{Timed}
use Rattle.stil_ast.specs.declared.timing.TableDecl.{TableDecl}
use Rattle.expr_text.specs.Ratio.{Ratio}
use Rattle.wave_tables.specs.declared.lineage.Whole.{Whole}
use Rattle.wave_tables.specs.Lineage.{is_there, HasOf, AreMadeAt, Adds, HaveAll, IsLevel, AreWhole}
use Rattle.wave_tables.proofs.TakenLemmas.{item_passes}
use Rattle.wave_tables.proofs.LevelLemmas.{goes_less, all_not, all_same, inherited_within, stays}

-- before the first round no table is there
pub level_none : (t : Timed Ratio) (wholes : List (Option Whole)) → length wholes ≡ length t.tables
    → ((k : ℕ) → get_or wholes k None ≡ None) → IsLevel t 0 wholes
level_none t wholes size none = record {
  size = size;
  there = λ k h. ap is_some (none k);
  have = λ k w e. absurd (clash w (sym (none k) ∙ e));
}
  where
    clash : (w : Whole) → None ≡ Some w → ⊥
    clash w e = cc

-- the last round found none: as often as there are tables, and once more, one can go on from the same tables
pub level_last : (t : Timed Ratio) (n : ℕ) (wholes : List (Option Whole)) → n ≤ length t.tables → IsLevel t n wholes
    → ((k : ℕ) → k < length t.tables → goes_on t.tables n k ≡ goes_on t.tables (suc n) k) → AreWhole t wholes
level_last t n wholes few level same = record {
  size = level.size;
  there = λ k h. level.there k h ∙ ap not (sym (at_all k h));
  have = level.have;
  closed = λ k h. at_all k h ∙ sym (once_more k h);
}
  where
    at_all : (k : ℕ) → k < length t.tables → leads_into_cycle t.tables k ≡ goes_on t.tables n k
    at_all k h =
        let more : length t.tables - n + n ≡ length t.tables = omega arith in
        ap (λ (i : ℕ). goes_on t.tables i k) (sym more) ∙ stays t.tables n same (length t.tables - n) k h

    once_more : (k : ℕ) → k < length t.tables → goes_on t.tables (suc (length t.tables)) k ≡ goes_on t.tables n k
    once_more k h =
        let more : suc (length t.tables - n) + n ≡ suc (length t.tables) = omega arith in
        ap (λ (i : ℕ). goes_on t.tables i k) (sym more) ∙ stays t.tables n same (suc (length t.tables - n)) k h

-- what is seen of the item at a place
map_at : {X Y : Type 0} (g : X → Y) (xs : List X) (k : ℕ) (d : Y) (e : X) → k < length xs
    → get_or (map g xs) k d ≡ g (get_or xs k e)
map_at g [] k d e h = absurd (omega arith)
map_at g (x ∷ xs) zero d e h = refl
map_at g (x ∷ xs) (suc k) d e h = map_at g xs k d e (omega arith)

-- the same, where a place past the items has nothing
each_at : (f : Option TableDecl → List ℕ) → f None ≡ [] → (tables : List TableDecl) (k : ℕ)
    → get_or (map (λ (d : TableDecl). f (Some d)) tables) k [] ≡ f (slice_get tables k)
each_at f none [] k = sym none
each_at f none (d ∷ tables) zero = refl
each_at f none (d ∷ tables) (suc k) = each_at f none tables k

-- none passes, so this one doesn't
none_at : (p : ℕ → Bool) (ks : List ℕ) (i : ℕ) → list_any p ks ≡ false → i < length ks → p (get_or ks i 0) ≡ false
none_at p [] i e h = absurd (omega arith)
none_at p (k ∷ ks) zero e h = (or_parts (p k) (list_any p ks) e).0
none_at p (k ∷ ks) (suc i) e h = none_at p ks i (or_parts (p k) (list_any p ks) e).1 (omega arith)

-- what a table inherits leads into no cycle where it doesn't
heirs : (tables : List TableDecl) (n k i : ℕ) → goes_on tables n k ≡ false → i < length (inherited tables k)
    → goes_on tables n (get_or (inherited tables k) i 0) ≡ false
heirs tables zero k i e h = cc
heirs tables (suc n) k i e h =
    goes_less tables n (get_or (inherited tables k) i 0) (none_at (goes_on tables n) (inherited tables k) i e h)

-- what is there
there_is : (o : Option Whole) → is_some o ≡ true → (whole : Whole) × (o ≡ Some whole)
there_is None e = cc
there_is (Some whole) e = (whole, refl)

not_or : (a b : Bool) → (a ≡ false → b ≡ false) → (not a || not b) ≡ not b
not_or true b h = refl
not_or false b h = sym (ap not (h refl))

not_tells : (a b : Bool) → not a ≡ not b → a ≡ b
not_tells true true e = refl
not_tells true false e = cc
not_tells false true e = cc
not_tells false false e = refl

module _ (t : Timed Ratio) (n : ℕ) (old new : List (Option Whole)) (inherits : List (List ℕ)) (ready : List Bool)
    (added : Bool)
    (level : IsLevel t n old) (listed : inherits ≡ map (λ (d : TableDecl). inherited_by t.tables (Some d)) t.tables)
    (found : ready ≡ map (λ (ks : List ℕ). list_all (is_there old) ks) inherits)
    (adds : Adds t inherits ready old new added) where
  -- what is listed for a table
  inherits_at : (k : ℕ) → get_or inherits k [] ≡ inherited t.tables k
  inherits_at k = ap (λ (l : List (List ℕ)). get_or l k []) listed ∙ each_at (inherited_by t.tables) refl t.tables k

  -- there are as many lists and marks as tables
  inherits_len : length inherits ≡ length t.tables
  inherits_len = ap length listed ∙ length-map t.tables _

  ready_len : length ready ≡ length t.tables
  ready_len = ap length found ∙ length-map inherits _ ∙ inherits_len

  -- a table is ready where all that it inherits are there
  ready_all : (k : ℕ) → k < length t.tables → get_or ready k false ≡ list_all (is_there old) (inherited t.tables k)
  ready_all k h =
      ap (λ (l : List Bool). get_or l k false) found
      ∙ map_at (λ (ks : List ℕ). list_all (is_there old) ks) inherits k false [] (omega (arith, inherits_len))
      ∙ ap (list_all (is_there old)) (inherits_at k)

  -- that is where one can't go on so often and once more
  ready_is : (k : ℕ) → k < length t.tables → get_or ready k false ≡ not (goes_on t.tables (suc n) k)
  ready_is k h =
      ready_all k h
      ∙ all_same (is_there old) (λ (j : ℕ). not (goes_on t.tables n j)) (length t.tables) level.there
      (inherited t.tables k) (inherited_within t.tables k)
      ∙ all_not (goes_on t.tables n) (inherited t.tables k)

  there_next : (k : ℕ) → k < length t.tables → is_there new k ≡ not (goes_on t.tables (suc n) k)
  there_next k h =
      adds.there k (omega (arith, level.size))
      ∙ ap (λ (b : Bool). is_there old k || b) (ready_is k h)
      ∙ ap (λ (b : Bool). b || not (goes_on t.tables (suc n) k)) (level.there k h)
      ∙ not_or (goes_on t.tables n k) (goes_on t.tables (suc n) k) (goes_less t.tables n k)

  -- what a ready table inherits is made
  made_all : (k : ℕ) → get_or ready k false ≡ true → k < length t.tables → leads_into_cycle t.tables k ≡ false
      → AreMadeAt t old (get_or inherits k [])
  made_all k is_ready h lead = rw (inherits_at k) (λ i low.
      let at : ℕ = get_or (inherited t.tables k) i 0 in
      let all : list_all (is_there old) (inherited t.tables k) ≡ true = sym (ready_all k h) ∙ is_ready in
      let is : (whole : Whole) × (get_or old at None ≡ Some whole) =
      there_is (get_or old at None) (item_passes (is_there old) (inherited t.tables k) i 0 all low) in
      record {
        whole = is.0;
        there = is.1;
        has = level.have at is.0 is.1
            (heirs t.tables (length t.tables) k i lead low);
      })

  have_next : HaveAll t new
  have_next k w e lead =
      elim (adds.has k w e) [
        | inl same ↦ level.have k w same lead
        | inr p ↦
            elim (cases_lt k (length t.tables)) [
              | inr past ↦ absurd (true≢false (sym p.0 ∙ get_or_past ready k false (omega (arith, ready_len))))
              | inl h ↦
                  let has : HasOf t (flat_map (lineage t.tables) (get_or inherits k []) ++ k ∷ []) w =
                  p.1 (made_all k p.0 h lead) in
                  let whole : lineage t.tables k ≡ flat_map (lineage t.tables) (get_or inherits k []) ++ k ∷ [] =
                  lineage_follows t.tables k lead
                  ∙ ap (λ (l : List ℕ). flat_map (lineage t.tables) l ++ k ∷ []) (sym (inherits_at k)) in
                  subst (λ (l : List ℕ). HasOf t l w) (sym whole) has
            ]
      ]

  -- a round more
  pub level_more : IsLevel t (n + 1) new
  level_more =
      let next : IsLevel t (suc n) new =
      record { size = adds.size ∙ level.size; there = there_next; have = have_next } in
      let same : suc n ≡ n + 1 = omega arith in
      subst (λ (i : ℕ). IsLevel t i new) same next

  -- a round that finds none
  pub level_whole : n ≤ length t.tables → added ≡ false → AreWhole t new
  level_whole few none =
      let same : new ≡ old = adds.kept none in
      let stable : (k : ℕ) → k < length t.tables → goes_on t.tables n k ≡ goes_on t.tables (suc n) k =
      λ k h. not_tells (goes_on t.tables n k) (goes_on t.tables (suc n) k)
      (sym (level.there k h) ∙ ap (λ (l : List (Option Whole)). is_there l k) (sym same) ∙ there_next k h) in
      rw same (level_last t n old few level stable)
