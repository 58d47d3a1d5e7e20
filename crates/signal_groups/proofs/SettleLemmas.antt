-- Groups that are given their signals one after another, each after those that it needs, have those of the definition.
use Rattle.std.proofs.Common.{◌≡◌, ℕ, zero, suc, ◌<◌, ◌≤◌, ◌+◌, Bool, true, false, cond, List, [], ◌∷◌, length, get_or, map, Option, Some, None, refl, sym, ap, ◌∙◌, subst, arith, inl, inr, true≢false, length-set}
use Rattle.std.specs.Prelude.{All, slice_index_or, slice_set, count_by}
use Rattle.std.specs.List.{filter_map, cons_option}
use Rattle.std.specs.Option.{option_map}
use Rattle.std.proofs.lemmas.Bool.{cases_lt, cases_eq}
use Rattle.std.proofs.lemmas.List.{get_or-set_same, get_or-set_other, get_or_past, length-map}
use Rattle.std.proofs.lemmas.List.Sums.{sum_by-set}
use Rattle.std.proofs.lemmas.List.Elements.{All-head, All-tail}
use Rattle.stil_ast.specs.Data.Texts.{indices, indexed}
use Rattle.stil_ast.specs.Meaning.Signals.{Signal, Group, Names}
use Rattle.stil_ast.specs.Meaning.GroupText.{Term}
use Rattle.stil_ast.specs.Meaning.GroupReading.{terms_of}
use Rattle.stil_ast.specs.Meaning.Members.{group_of, based_on, added, removed, combined, combined_text, plain_members, item_members, text_members}
use Rattle.stil_ast.specs.declared.name.IndexRange.{IndexRange}
use Rattle.signal_groups.specs.Table.{Table, with_members}
use Rattle.signal_groups.specs.Lookup.{number_in, plain_in, item_in}
use Rattle.signal_groups.specs.Graph.{needed_unless, needed_by, needed_in, needs_at, reaches, is_done, IsReady, AreSettled}
use Rattle.signal_groups.specs.Settled.{IsNamed, WereSettled, text_signals}
use Rattle.signal_groups.proofs.GraphLemmas.{outside}
use Rattle.signal_groups.proofs.NeedsLemmas.{names_in, texts_in, group-found, seen_at}
use Rattle.signal_groups.proofs.ResolveLemmas.{ext, number_in-signals, based_from}

-- a table of these names, with these signals of groups
abbrev pub named_table : Names → List (List ℕ) → Table
named_table names lists = record {
  texts = texts_in names.signals;
  bases = map (λ (s : Signal). s.base) names.signals;
  directions = map (λ (s : Signal). s.direction) names.signals;
  groups = names_in names.groups;
  members = lists;
}

pub named_table-is : (names : Names) (groups : List Group) (graph lists : List (List ℕ)) (table : Table)
    → IsNamed names groups graph table → with_members table lists ≡ named_table names lists
named_table-is names groups graph lists table h = λ j. record {
  texts = h.texts j;
  bases = h.bases j;
  directions = h.directions j;
  groups = h.called j;
  members = lists;
}

module _ (names : Names) (d : Group) (inner : List ℕ → List ℕ) (lists : List (List ℕ)) where
  abbrev fits : ℕ → Type 0
  fits h = inner (get_or names.groups h d).text ≡ slice_index_or lists h []

  by_group : (name : List ℕ) (o : Option ℕ) → ((h : ℕ) → o ≡ Some h → fits h)
      → plain_in (named_table names lists) name None o
      ≡ plain_members None (option_map (λ h. get_or names.groups h d) o) inner (based_on names name)
  by_group name None e = based_from name 0 names.signals
  by_group name (Some h) e = sym (e h refl)

  plain : (name : List ℕ) (s : Option ℕ)
      → ((h : ℕ) → needed_unless s (number_in (names_in names.groups) name) None ≡ Some h → fits h)
      → plain_in (named_table names lists) name s (number_in (names_in names.groups) name)
      ≡ plain_members s (group_of names name) inner (based_on names name)
  plain name (Some s) e = refl
  plain name None e =
      by_group name (number_in (names_in names.groups) name) e
      ∙ ap (λ g. plain_members None g inner (based_on names name)) (sym (group-found names.groups name d))

  -- an item has its signals where the group that it needs has
  item_same : (t : Term) → ((h : ℕ) → needed_by (texts_in names.signals) (names_in names.groups) t ≡ Some h → fits h)
      → item_in (named_table names lists) t.item ≡ item_members names inner t.item
  item_same t = by_range t.item.range
    where
      by_range : (range : Option IndexRange)
          → ((h : ℕ) → needed_unless (number_in (texts_in names.signals) t.item.name)
          (number_in (names_in names.groups) t.item.name) range ≡ Some h → fits h)
          → item_in (named_table names lists) (record { name = t.item.name; range = range })
          ≡ item_members names inner (record { name = t.item.name; range = range })
      by_range None e =
          plain t.item.name (number_in (texts_in names.signals) t.item.name) e
          ∙ ap (λ o. plain_members o (group_of names t.item.name) inner (based_on names t.item.name))
          (number_in-signals names.signals t.item.name)
      by_range (Some range) e =
          ap (λ (f : ℕ → Option ℕ). filter_map f (indices range))
          (ext (λ i. number_in-signals names.signals (indexed t.item.name i)))

  combined_same : (terms : List Term) (ms : List ℕ)
      → All fits (filter_map (needed_by (texts_in names.signals) (names_in names.groups)) terms)
      → combined (item_in (named_table names lists)) terms ms ≡ combined (item_members names inner) terms ms
  combined_same [] ms e = refl
  combined_same (t ∷ terms) ms e =
      let here : item_in (named_table names lists) t.item ≡ item_members names inner t.item =
      item_same t (λ h f. first (needed_by (texts_in names.signals) (names_in names.groups) t) h f e) in
      ap (λ ss. combined (item_in (named_table names lists)) terms (cond t.adds (added ms ss) (removed ms ss))) here
      ∙ combined_same terms (cond t.adds (added ms (item_members names inner t.item)) (removed ms (item_members names inner t.item)))
      (rest (needed_by (texts_in names.signals) (names_in names.groups) t) e)
    where
      first : (o : Option ℕ) (h : ℕ) → o ≡ Some h
          → All fits (cons_option o (filter_map (needed_by (texts_in names.signals) (names_in names.groups)) terms)) → fits h
      first o h f e =
          All-head fits h (filter_map (needed_by (texts_in names.signals) (names_in names.groups)) terms)
          (subst (λ (x : Option ℕ). All fits (cons_option x (filter_map (needed_by (texts_in names.signals) (names_in names.groups)) terms))) f e)

      rest : (o : Option ℕ) → All fits (cons_option o (filter_map (needed_by (texts_in names.signals) (names_in names.groups)) terms))
          → All fits (filter_map (needed_by (texts_in names.signals) (names_in names.groups)) terms)
      rest None e = e
      rest (Some h) e = All-tail fits h (filter_map (needed_by (texts_in names.signals) (names_in names.groups)) terms) e

  pub text_same : (o : Option (List Term)) → All fits (needed_in (texts_in names.signals) (names_in names.groups) o)
      → combined_text (item_in (named_table names lists)) o ≡ combined_text (item_members names inner) o
  text_same None e = refl
  text_same (Some terms) e = combined_same terms [] e

-- one more is done
count_more : (done : List Bool) (g : ℕ) → g < length done → is_done done g ≡ false
    → count_by (λ b. b) (slice_set done g true) ≡ count_by (λ b. b) done + 1
count_more done g lt undone =
    let h = sum_by-set (λ (b : Bool). cond {A = ℕ} b 1 0) done g true false lt in
    let none : cond {A = ℕ} (get_or done g false) 1 0 ≡ 0 = ap (λ b. cond {A = ℕ} b 1 0) undone in
    omega (arith, h, none)

done_here : (done : List Bool) (g : ℕ) → g < length done → is_done (slice_set done g true) g ≡ true
done_here done g lt = get_or-set_same done g true false lt

done_still : (done : List Bool) (g h : ℕ) → g < length done → is_done done h ≡ true → is_done (slice_set done g true) h ≡ true
done_still done g h lt e =
    elim (cases_eq h g) [
      | inl q ↦ subst (λ (k : ℕ). is_done (slice_set done g true) k ≡ true) (sym q) (done_here done g lt)
      | inr ne ↦ get_or-set_other done g h true false ne ∙ e
    ]

-- a group is given its signals
pub settled-more : (names : Names) (groups : List Group) (graph lists : List (List ℕ)) (done : List Bool) (before : Table) (g : ℕ)
    (d : Group) → IsNamed names groups graph before → g < length graph → IsReady graph done g → AreSettled names graph done lists
    → AreSettled names graph (slice_set done g true)
    (slice_set lists g (text_signals (with_members before lists) (slice_index_or (map (λ (x : Group). x.text) names.groups) g [])))
settled-more names groups graph lists done before g d named lt ready h = record {
  one_each = length-set done g true ∙ h.one_each;
  lists_each = length-set lists g new ∙ h.lists_each;
  signals = signals;
  closed = closed;
  apart = apart;
}
  where
    texts : List (List ℕ)
    texts = map (λ (x : Group). x.text) names.groups

    new : List ℕ
    new = text_signals (with_members before lists) (slice_index_or (map (λ (x : Group). x.text) names.groups) g [])

    ltd : g < length done
    ltd = omega (arith, lt, h.one_each)

    within_done : (k : ℕ) → is_done done k ≡ true → k < length graph
    within_done k e = elim (cases_lt k (length done)) [
      | inl l ↦ omega (arith, l, h.one_each)
      | inr l ↦ absurd (true≢false (sym e ∙ get_or_past done k false l))
    ]

    was_done : (k : ℕ) → (k ≡ g → ⊥) → is_done (slice_set done g true) k ≡ true → is_done done k ≡ true
    was_done k ne e = sym (get_or-set_other done g k true false ne) ∙ e

    closed : (k : ℕ) → k < length graph → is_done (slice_set done g true) k ≡ true
        → All (λ x. is_done (slice_set done g true) x ≡ true) (needs_at graph k)
    closed k lk e = elim (cases_eq k g) [
      | inl q ↦ λ j x lj. done_still done g _ ltd
          (subst (λ (n : ℕ). All (λ x. is_done done x ≡ true) (needs_at graph n)) (sym q) ready.needs j x lj)
      | inr ne ↦ λ j x lj. done_still done g _ ltd (h.closed k lk (was_done k ne e) j x lj)
    ]

    apart : (k steps : ℕ) → k < length graph → is_done (slice_set done g true) k ≡ true
        → reaches graph steps (needs_at graph k) k ≡ false
    apart k steps lk e = elim (cases_eq k g) [
      | inl q ↦ subst (λ (n : ℕ). reaches graph steps (needs_at graph n) n ≡ false) (sym q)
          (outside graph (is_done done) g (λ x there. h.closed x (within_done x there) there) ready.undone steps
          (needs_at graph g) ready.needs)
      | inr ne ↦ h.apart k steps lk (was_done k ne e)
    ]

    groups_count : length graph ≡ length names.groups
    groups_count = ap length named.graph_is ∙ length-map names.groups _

    here : (depth : ℕ) → count_by (λ b. b) (slice_set done g true) ≤ depth
        → text_members names depth (slice_index_or (map (λ (x : Group). x.text) names.groups) g [])
        ≡ text_signals (with_members before lists) (slice_index_or (map (λ (x : Group). x.text) names.groups) g [])
    here zero le = absurd (omega (arith, le, count_more done g ltd ready.undone))
    here (suc depth) le =
        let text = slice_index_or (map (λ (x : Group). x.text) names.groups) g [] in
        let lg : g < length names.groups = omega (arith, lt, groups_count) in
        let is : text ≡ (get_or names.groups g d).text = seen_at (λ (x : Group). x.text) names.groups g d [] lg in
        let needs-is : needs_at graph g ≡ needed_in (texts_in names.signals) (names_in names.groups) (terms_of text) =
        ap (λ (gr : List (List ℕ)). get_or gr g []) named.graph_is
        ∙ seen_at (λ (x : Group). needed_in (texts_in names.signals) (names_in names.groups) (terms_of x.text)) names.groups g d [] lg
        ∙ ap (λ t. needed_in (texts_in names.signals) (names_in names.groups) (terms_of t)) (sym is) in
        let few : count_by (λ b. b) done ≤ depth = omega (arith, le, count_more done g ltd ready.undone) in
        sym (ap (λ (t : Table). text_signals t text) (named_table-is names groups graph lists before named)
        ∙ text_same names d (text_members names depth) lists (terms_of text)
        (subst (λ (hs : List ℕ). All (fits names d (text_members names depth) lists) hs) needs-is
        (λ k e lk.
        let there = ready.needs k e lk in
        let lh = within_done (get_or (needs_at graph g) k e) there in
        ap (text_members names depth)
        (sym (seen_at (λ (x : Group). x.text) names.groups (get_or (needs_at graph g) k e) d [] (omega (arith, lh, groups_count))))
        ∙ h.signals (get_or (needs_at graph g) k e) depth lh there few)))

    signals : (k depth : ℕ) → k < length graph → is_done (slice_set done g true) k ≡ true
        → count_by (λ b. b) (slice_set done g true) ≤ depth
        → text_members names depth (slice_index_or (map (λ (x : Group). x.text) names.groups) k [])
        ≡ slice_index_or (slice_set lists g (text_signals (with_members before lists)
        (slice_index_or (map (λ (x : Group). x.text) names.groups) g []))) k []
    signals k depth lk e le = elim (cases_eq k g) [
      | inl q ↦
          subst (λ (n : ℕ). text_members names depth (slice_index_or (map (λ (x : Group). x.text) names.groups) n [])
          ≡ slice_index_or (slice_set lists g (text_signals (with_members before lists)
          (slice_index_or (map (λ (x : Group). x.text) names.groups) g []))) n []) (sym q)
          (here depth le ∙ sym (get_or-set_same lists g _ [] (omega (arith, lt, h.lists_each))))
      | inr ne ↦
          h.signals k depth lk (was_done k ne e) (omega (arith, le, count_more done g ltd ready.undone))
          ∙ sym (get_or-set_other lists g k _ [] ne)
    ]

-- one step while groups are given their signals
pub settle_step : (names : Names) (groups : List Group) (graph : List (List ℕ)) (done done' : List Bool) (begun before after : Table)
    (place : ℕ) (text : List ℕ) (d : Group) → IsNamed names groups graph begun → WereSettled names graph done begun before
    → place < length graph → IsReady graph done place
    → after ≡ with_members before (slice_set before.members place (text_signals before text)) → done' ≡ slice_set done place true
    → text ≡ (get_or groups place d).text → WereSettled names graph done' begun after
settle_step names groups graph done done' begun before after place text d named h lt ready e f t =
    let set = slice_set before.members place (text_signals before text) in
    let texts = map (λ (x : Group). x.text) names.groups in
    let lg : place < length names.groups = omega (arith, lt, ap length named.graph_is ∙ length-map names.groups _) in
    let is : text ≡ slice_index_or texts place [] =
    t ∙ ap (λ (gs : List Group). (get_or gs place d).text) named.groups_are
    ∙ sym (seen_at (λ (x : Group). x.text) names.groups place d [] lg) in
    let members : after.members ≡ set = ap (λ (x : Table). x.members) e in
    let same' : after ≡ with_members begun set = e ∙ ap (λ (x : Table). with_members x set) h.same in
    let signals : text_signals before text ≡ text_signals (with_members begun before.members) (slice_index_or texts place []) =
    ap (λ (x : Table). text_signals x text) h.same ∙ ap (text_signals (with_members begun before.members)) is in
    let all : after.members ≡ slice_set before.members place (text_signals (with_members begun before.members) (slice_index_or texts place [])) =
    members ∙ ap (slice_set before.members place) signals in
    record {
      same = same' ∙ ap (with_members begun) (sym members);
      settled = subst (λ (x : List Bool). AreSettled names graph x after.members) (sym f)
          (subst (λ (x : List (List ℕ)). AreSettled names graph (slice_set done place true) x) (sym all)
          (settled-more names groups graph before.members done begun place d named lt ready h.settled));
    }
