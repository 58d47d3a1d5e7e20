-- The table of names whose groups have their signals, and the first fault of their texts.
use Rattle.std.proofs.Common.{◌≡◌, ℕ, zero, suc, ◌<◌, ◌≤◌, ◌+◌, Bool, true, false, cond, List, [], ◌∷◌, length, get_or, map, Option, Some, None, refl, sym, ap, ◌∙◌, subst, arith, true≢false}
use Rattle.std.specs.Prelude.{All, Ok, Err, is_some, slice_index_or, count_by}
use Rattle.std.specs.List.{list_all, filter_map, cons_option}
use Rattle.std.proofs.lemmas.List.{length-map, same_lists}
use Rattle.std.proofs.lemmas.List.Elements.{All-nil, All-cons}
use Rattle.std.proofs.lemmas.List.Sums.{count_by-le-length}
use Rattle.stil_ast.specs.Faults.Found.{fault_at, or_else, refuse_if, first_in}
use Rattle.stil_ast.specs.Faults.SignalFaults.{kind_fault, group_fault, needs}
use Rattle.stil_ast.specs.Meaning.Signals.{Group, Names}
use Rattle.stil_ast.specs.Data.Places.{Place}
use Rattle.stil_ast.specs.Meaning.GroupText.{Term}
use Rattle.stil_ast.specs.Meaning.GroupReading.{terms_of}
use Rattle.stil_ast.specs.Meaning.Members.{text_kind, text_members}
use Rattle.stil_ast.specs.declared.name.IndexRange.{IndexRange}
use Rattle.stil_ast.specs.declared.fault.StilFault.{StilFault}
use Rattle.stil_ast.specs.declared.fault.StilKind.{StilKind}
use Rattle.stil_ast.specs.declared.fault.StilKind.TheVariants.{Cyclic, UnknownName}
use Rattle.stil_ast.specs.Data.Refusal.{StilRefusal}
use Rattle.signal_groups.specs.Table.{Table, table_of, with_members}
use Rattle.signal_groups.specs.Lookup.{number_in, known_with, terms_kind}
use Rattle.answers.specs.Answers.{Blames}
use Rattle.signal_groups.specs.Graph.{needed_unless, needed_by, needed_in, needs_at, reaches, is_done, IsStuck, AreBelow, kind_at, or_cyclic, faults_from}
use Rattle.signal_groups.specs.Settled.{IsBegun, IsNamed, WereSettled, Completes}
use Rattle.signal_groups.proofs.GraphLemmas.{waits_for_itself}
use Rattle.signal_groups.proofs.LookupLemmas.{number_in-within}
use Rattle.signal_groups.proofs.NeedsLemmas.{names_in, texts_in, seen_at, all_differ, needs-reaches}
use Rattle.signal_groups.proofs.ResolveLemmas.{ext, kind_of_terms-names}
use Rattle.signal_groups.proofs.SettleLemmas.{named_table}

-- what is needed is a group
needed_within : (s o : Option ℕ) (range : Option IndexRange) (h n : ℕ) → ((k : ℕ) → o ≡ Some k → k < n)
    → needed_unless s o range ≡ Some h → h < n
needed_within None o None h n within e = within h e
needed_within None o (Some range) h n within e = cc
needed_within (Some s) o range h n within e = cc

terms_below : (texts called : List (List ℕ)) (terms : List Term)
    → All (λ h. h < length called) (filter_map (needed_by texts called) terms)
terms_below texts called [] = All-nil (λ h. h < length called)
terms_below texts called (t ∷ terms) = by_item (needed_by texts called t) refl (terms_below texts called terms)
  where
    by_item : (o : Option ℕ) → needed_by texts called t ≡ o
        → All (λ h. h < length called) (filter_map (needed_by texts called) terms)
        → All (λ h. h < length called) (cons_option o (filter_map (needed_by texts called) terms))
    by_item None e more = more
    by_item (Some h) e more =
        All-cons (λ h. h < length called) h (filter_map (needed_by texts called) terms)
        (needed_within (number_in texts t.item.name) (number_in called t.item.name) t.item.range h (length called)
        (λ k f. number_in-within called t.item.name k f) e) more

needed_below : (texts called : List (List ℕ)) (o : Option (List Term)) → All (λ h. h < length called) (needed_in texts called o)
needed_below texts called None = All-nil (λ h. h < length called)
needed_below texts called (Some terms) = terms_below texts called terms

graph_each : (texts called : List (List ℕ)) (groups : List Group)
    → All (λ (hs : List ℕ). All (λ h. h < length called) hs) (map (λ (g : Group). needed_in texts called (terms_of g.text)) groups)
graph_each texts called [] = All-nil (λ (hs : List ℕ). All (λ h. h < length called) hs)
graph_each texts called (g ∷ groups) =
    All-cons (λ (hs : List ℕ). All (λ h. h < length called) hs) (needed_in texts called (terms_of g.text))
    (map (λ (g : Group). needed_in texts called (terms_of g.text)) groups) (needed_below texts called (terms_of g.text))
    (graph_each texts called groups)

-- the numbers of a graph are those of groups
pub graph-below : (texts called : List (List ℕ)) (groups : List Group) (graph : List (List ℕ))
    → graph ≡ map (λ (g : Group). needed_in texts called (terms_of g.text)) groups → length called ≡ length groups → AreBelow graph
graph-below texts called groups graph e count =
    let same : length called ≡ length graph = count ∙ sym (length-map groups _) ∙ sym (ap length e) in
    subst (λ (n : ℕ). All (λ (hs : List ℕ). All (λ h. h < n) hs) graph) same
    (subst (λ (gr : List (List ℕ)). All (λ (hs : List ℕ). All (λ h. h < length called) hs) gr) (sym e)
    (graph_each texts called groups))

kind_none : (p : Place) (kind : Option StilKind) (rest : Option StilFault) → or_else (kind_fault p kind) rest ≡ None
    → (kind ≡ None) × (rest ≡ None)
kind_none p None rest e = (refl, e)
kind_none p (Some k) rest e = cc

-- where there is no first fault, no group has one
faults_none : (kind : ℕ → Option StilKind) (n : ℕ) (groups : List Group) → faults_from kind n groups ≡ None
    → (k : ℕ) → k < length groups → kind (n + k) ≡ None
faults_none kind n [] e k lt = absurd (omega (arith, lt))
faults_none kind n (g ∷ groups) e zero lt =
    let same : n + 0 ≡ n = omega arith in ap kind same ∙ (kind_none g.text_place (kind n) (faults_from kind (n + 1) groups) e).0
faults_none kind n (g ∷ groups) e (suc k) lt =
    let same : n + suc k ≡ n + 1 + k = omega arith in
    ap kind same
    ∙ faults_none kind (n + 1) groups (kind_none g.text_place (kind n) (faults_from kind (n + 1) groups) e).1 k (omega (arith, lt))

none_of : (o : Option StilKind) (b : Bool) → or_cyclic o b ≡ None → (o ≡ None) × (b ≡ false)
none_of None true e = cc
none_of None false e = (refl, refl)
none_of (Some k) b e = cc

kinds_clean : (kinds : List (Option StilKind)) (graph : List (List ℕ)) (groups : List Group)
    → faults_from (kind_at kinds graph) 0 groups ≡ None → (k : ℕ) → k < length groups
    → (slice_index_or kinds k None ≡ None) × (reaches graph (length graph) (needs_at graph k) k ≡ false)
kinds_clean kinds graph groups e k lt =
    let same : 0 + k ≡ k = omega arith in
    none_of (slice_index_or kinds k None) (reaches graph (length graph) (needs_at graph k) k)
    (sym (ap (kind_at kinds graph) same) ∙ faults_none (kind_at kinds graph) 0 groups e k lt)

-- a text with a fault
pub bad-refused : (kinds : List (Option StilKind)) (graph : List (List ℕ)) (groups : List Group) (k : ℕ) → k < length groups
    → is_some (slice_index_or kinds k None) ≡ true → faults_from (kind_at kinds graph) 0 groups ≡ None → ⊥
bad-refused kinds graph groups k lt bad e =
    true≢false (sym bad ∙ ap is_some (kinds_clean kinds graph groups e k lt).0)

-- groups that wait for each other
pub stuck-refused : (kinds : List (Option StilKind)) (graph : List (List ℕ)) (groups : List Group) (done : List Bool) (g : ℕ)
    → AreBelow graph → length groups ≡ length graph → IsStuck graph done → g < length graph → is_done done g ≡ false
    → faults_from (kind_at kinds graph) 0 groups ≡ None → ⊥
stuck-refused kinds graph groups done g below count stuck lt undone e =
    waits_for_itself graph done below stuck (record { group = g; within = lt; undone = undone })
    (λ k lk. (kinds_clean kinds graph groups e k (omega (arith, lk, count))).1)

-- ---- the faults of groups

first_by : (kind : ℕ → Option StilKind) (rule : Group → Option StilFault) (n : ℕ) (groups : List Group)
    → ((k : ℕ) (d : Group) → k < length groups → rule (get_or groups k d) ≡ kind_fault (get_or groups k d).text_place (kind (n + k)))
    → faults_from kind n groups ≡ first_in rule groups
first_by kind rule n [] e = refl
first_by kind rule n (g ∷ groups) e =
    let here : n + 0 ≡ n = omega arith in
    ap (λ o. or_else o (faults_from kind (n + 1) groups)) (sym (e 0 g (omega arith) ∙ ap (λ m. kind_fault g.text_place (kind m)) here))
    ∙ ap (or_else (rule g)) (first_by kind rule (n + 1) groups (λ k d lt.
    let next : n + suc k ≡ n + 1 + k = omega arith in
    e (suc k) d (omega (arith, lt)) ∙ ap (λ m. kind_fault (get_or groups k d).text_place (kind m)) next))

one_fault : (p : Place) (o : Option StilKind) (b : Bool)
    → or_else (kind_fault p o) (refuse_if b (fault_at p Cyclic) None) ≡ kind_fault p (or_cyclic o b)
one_fault p None true = refl
one_fault p None false = refl
one_fault p (Some k) b = refl

-- a group, where none is needed
no_group : Group
no_group =
    record {
      name = [];
      text = [];
      place = record { block = []; name = []; line = 0 };
      text_place = record { block = []; name = []; line = 0 };
    }

-- what is known doesn't depend on the signals of groups
known_with_members : (table : Table) (ms : List (List ℕ)) (name : List ℕ) (range : Option IndexRange)
    → known_with table name range ≡ known_with (with_members table ms) name range
known_with_members table ms name None = refl
known_with_members table ms name (Some range) = refl

kind_with_members : (table : Table) (ms : List (List ℕ)) (o : Option (List Term))
    → terms_kind table o ≡ terms_kind (with_members table ms) o
kind_with_members table ms None = refl
kind_with_members table ms (Some terms) =
    ap (λ (f : Term → Bool). cond (list_all f terms) None (Some UnknownName))
    (ext (λ t. known_with_members table ms t.item.name t.item.range))

begun_table : (names : Names) (groups : List Group) (table : Table) → IsBegun names groups table → (ms : List (List ℕ))
    → with_members table ms ≡ named_table names ms
begun_table names groups table h ms = λ j. record {
  texts = h.texts j;
  bases = h.bases j;
  directions = h.directions j;
  groups = h.called j;
  members = ms;
}

-- the fault of a text by the table
text_kind-is : (names : Names) (groups : List Group) (table : Table) → IsBegun names groups table → (text : List ℕ)
    → terms_kind table (terms_of text) ≡ text_kind names text
text_kind-is names groups table h text =
    kind_with_members table (table_of names).members (terms_of text)
    ∙ ap (λ (t : Table). terms_kind t (terms_of text)) (begun_table names groups table h (table_of names).members)
    ∙ kind_of_terms-names names (terms_of text)

-- the graph of names
graph-is : (names : Names) (groups : List Group) (table : Table) (graph : List (List ℕ)) → IsBegun names groups table
    → graph ≡ map (λ (g : Group). needed_in table.texts table.groups (terms_of g.text)) groups
    → graph ≡ map (λ (g : Group). needed_in (texts_in names.signals) (names_in names.groups) (terms_of g.text)) names.groups
graph-is names groups table graph h e =
    e
    ∙ ap (λ (ts : List (List ℕ)). map (λ (g : Group). needed_in ts table.groups (terms_of g.text)) groups) h.texts
    ∙ ap (λ (cs : List (List ℕ)). map (λ (g : Group). needed_in (texts_in names.signals) cs (terms_of g.text)) groups) h.called
    ∙ ap (map (λ (g : Group). needed_in (texts_in names.signals) (names_in names.groups) (terms_of g.text))) h.groups_are

-- the first fault by the numbers of groups is that of their names
faults-first : (names : Names) (groups : List Group) (table : Table) (kinds : List (Option StilKind)) (graph : List (List ℕ))
    → IsBegun names groups table
    → kinds ≡ map (λ (g : Group). terms_kind table (terms_of g.text)) groups
    → graph ≡ map (λ (g : Group). needed_in table.texts table.groups (terms_of g.text)) groups
    → faults_from (kind_at kinds graph) 0 groups ≡ first_in (group_fault names) names.groups
faults-first names groups table kinds graph h ek eg =
    ap (faults_from (kind_at kinds graph) 0) h.groups_are
    ∙ first_by (kind_at kinds graph) (group_fault names) 0 names.groups each
  where
    each : (k : ℕ) (d : Group) → k < length names.groups
        → group_fault names (get_or names.groups k d)
        ≡ kind_fault (get_or names.groups k d).text_place (kind_at kinds graph (0 + k))
    each k d lt =
        let g = get_or names.groups k d in
        let zero : k ≡ 0 + k = omega arith in
        let gi = graph-is names groups table graph h eg in
        let count : length graph ≡ length names.groups = ap length gi ∙ length-map names.groups _ in
        let kind : slice_index_or kinds k None ≡ text_kind names g.text =
        ap (λ (ks : List (Option StilKind)). slice_index_or ks k None)
        (ek ∙ ap (map (λ (g : Group). terms_kind table (terms_of g.text))) h.groups_are)
        ∙ seen_at (λ (g : Group). terms_kind table (terms_of g.text)) names.groups k d None lt
        ∙ text_kind-is names groups table h g.text in
        let from : needs_at graph k ≡ needed_in (texts_in names.signals) (names_in names.groups) (terms_of g.text) =
        ap (λ (gr : List (List ℕ)). get_or gr k []) gi
        ∙ seen_at (λ (g : Group). needed_in (texts_in names.signals) (names_in names.groups) (terms_of g.text)) names.groups k d [] lt in
        let itself : needs names (length names.groups) g.text g.name ≡ reaches graph (length graph) (needs_at graph k) k =
        needs-reaches names d (all_differ names.groups h.differ) (length names.groups) g.text k lt
        ∙ ap (λ (gr : List (List ℕ)). reaches gr (length names.groups)
        (needed_in (texts_in names.signals) (names_in names.groups) (terms_of g.text)) k) (sym gi)
        ∙ ap (λ (hs : List ℕ). reaches graph (length names.groups) hs k) (sym from)
        ∙ ap (λ n. reaches graph n (needs_at graph k) k) (sym count) in
        one_fault g.text_place (text_kind names g.text) (needs names (length names.groups) g.text g.name)
        ∙ ap (λ o. kind_fault g.text_place (or_cyclic o (needs names (length names.groups) g.text g.name))) (sym kind)
        ∙ ap (λ b. kind_fault g.text_place (or_cyclic (slice_index_or kinds k None) b)) itself
        ∙ ap (λ n. kind_fault g.text_place (kind_at kinds graph n)) zero

-- the refusal of names
pub completes-refused : (names : Names) (groups : List Group) (table : Table) (kinds : List (Option StilKind)) (graph : List (List ℕ))
    (e : StilRefusal) → IsBegun names groups table
    → kinds ≡ map (λ (g : Group). terms_kind table (terms_of g.text)) groups
    → graph ≡ map (λ (g : Group). needed_in table.texts table.groups (terms_of g.text)) groups
    → Blames (faults_from (kind_at kinds graph) 0 groups) e → Completes names (Err e)
completes-refused names groups table kinds graph e h ek eg told = λ fault is.
    sym (faults-first names groups table kinds graph h ek eg) ∙ told fault is

faults_clean : (kind : ℕ → Option StilKind) (n : ℕ) (groups : List Group) → ((k : ℕ) → k < length groups → kind (n + k) ≡ None)
    → faults_from kind n groups ≡ None
faults_clean kind n [] e = refl
faults_clean kind n (g ∷ groups) e =
    let here : n ≡ n + 0 = omega arith in
    ap (λ o. or_else (kind_fault g.text_place o) (faults_from kind (n + 1) groups)) (ap kind here ∙ e 0 (omega arith))
    ∙ faults_clean kind (n + 1) groups (λ k lt.
    let next : n + 1 + k ≡ n + suc k = omega arith in ap kind next ∙ e (suc k) (omega (arith, lt)))

any_default : (xs : List (List ℕ)) (k : ℕ) (d e : List ℕ) → k < length xs → get_or xs k d ≡ get_or xs k e
any_default [] k d e lt = absurd (omega (arith, lt))
any_default (x ∷ xs) zero d e lt = refl
any_default (x ∷ xs) (suc k) d e lt = any_default xs k d e (omega (arith, lt))

-- where nothing is left to be done
pub completes-done : (names : Names) (groups : List Group) (table after : Table) (kinds : List (Option StilKind))
    (graph : List (List ℕ)) (done : List Bool) → IsBegun names groups table
    → kinds ≡ map (λ (g : Group). terms_kind table (terms_of g.text)) groups
    → graph ≡ map (λ (g : Group). needed_in table.texts table.groups (terms_of g.text)) groups
    → ((k : ℕ) → k < length graph → slice_index_or kinds k None ≡ None)
    → ((k : ℕ) → k < length graph → is_done done k ≡ true)
    → ((names : Names) → IsNamed names groups graph table → WereSettled names graph done table after)
    → Completes names (Ok after)
completes-done names groups table after kinds graph done h ek eg good all settled = (clean, whole)
  where
    gi : graph ≡ map (λ (g : Group). needed_in (texts_in names.signals) (names_in names.groups) (terms_of g.text)) names.groups
    gi = graph-is names groups table graph h eg

    named : IsNamed names groups graph table
    named = record {
      groups_are = h.groups_are;
      texts = h.texts;
      bases = h.bases;
      directions = h.directions;
      called = h.called;
      graph_is = graph-is names groups table graph h eg;
      differ = h.differ;
    }

    w : WereSettled names graph done table after
    w = settled names named

    count : length graph ≡ length names.groups
    count = ap length (graph-is names groups table graph h eg) ∙ length-map names.groups _

    clean : first_in (group_fault names) names.groups ≡ None
    clean =
        sym (faults-first names groups table kinds graph h ek eg)
        ∙ faults_clean (kind_at kinds graph) 0 groups (λ k lt.
        let lk : k < length graph = omega (arith, lt, count, ap length h.groups_are) in
        let same : 0 + k ≡ k = omega arith in
        ap (kind_at kinds graph) same
        ∙ ap (λ o. or_cyclic o (reaches graph (length graph) (needs_at graph k) k)) (good k lk)
        ∙ ap (or_cyclic None) (w.settled.apart k (length graph) lk (all k lk)))

    members : after.members ≡ map (λ (g : Group). text_members names (length names.groups) g.text) names.groups
    members =
        same_lists after.members (map (λ (g : Group). text_members names (length names.groups) g.text) names.groups)
        (w.settled.lists_each ∙ count ∙ sym (length-map names.groups _))
        (λ k d lt.
        let lk : k < length graph = omega (arith, lt, w.settled.lists_each) in
        let lg : k < length names.groups = omega (arith, lk, count) in
        let few : count_by (λ b. b) done ≤ length names.groups =
        omega (arith, count_by-le-length (λ b. b) done, w.settled.one_each, count) in
        any_default after.members k d [] lt
        ∙ sym (w.settled.signals k (length names.groups) lk (all k lk) few)
        ∙ ap (text_members names (length names.groups)) (seen_at (λ (g : Group). g.text) names.groups k no_group [] lg)
        ∙ sym (seen_at (λ (g : Group). text_members names (length names.groups) g.text) names.groups k no_group d lg))

    whole : after ≡ table_of names
    whole = w.same ∙ begun_table names groups table h after.members ∙ ap (named_table names) members
