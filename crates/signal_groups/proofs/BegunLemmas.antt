-- Signals and names of groups that are taken one after another have the first fault of the definition.
use Rattle.std.proofs.Common.{◌≡◌, ℕ, ◌<◌, ◌≤◌, Bool, true, false, cond, List, [], ◌∷◌, ◌++◌, length, map, Option, Some, None, refl, sym, ap, ◌∙◌, subst, arith, append_assoc, length-append}
use Rattle.std.specs.Prelude.{Result, Ok, Err, Vec, All, replicate, nat_le, nat_lt}
use Rattle.std.specs.declared.alloc.Global.{Global}
use Rattle.std.proofs.lemmas.List.Elements.{All-nil, All-replicate}
use Rattle.std.specs.List.{list_any, flat_map}
use Rattle.std.proofs.lemmas.Bool.{ltb-true}
use Rattle.std.proofs.lemmas.List.{map-append, length-map, length-replicate, append-nil}
use Rattle.text_bytes.specs.Texts.{key_texts}
use Rattle.text_bytes.proofs.ListLemmas.{list_any-map}
use Rattle.answers.specs.Answers.{Blames}
use Rattle.answers.specs.Reading.{and_then, stepping}
use Rattle.stil_ast.specs.Data.Texts.{same}
use Rattle.stil_ast.specs.Faults.Found.{fault_at, unless, refuse_if}
use Rattle.stil_ast.specs.Faults.SignalFaults.{signals_fault, groups_fault}
use Rattle.stil_ast.specs.Meaning.Signals.{Signal, Group, declared}
use Rattle.stil_ast.specs.declared.fault.StilFault.{StilFault}
use Rattle.stil_ast.specs.declared.fault.StilKind.TheVariants.{Twice, OutOfRange}
use Rattle.stil_ast.specs.declared.signal.SignalDecl.{SignalDecl}
use Rattle.stil_ast.specs.Data.Refusal.{StilRefusal}
use Rattle.answers.specs.declared.short.Short.TheVariants as refusal
use Rattle.signal_groups.specs.declared.table.Declared.{Declared}
use Rattle.signal_groups.specs.Table.{IsSound}
use Rattle.signal_groups.specs.Begun.{Begun, begun_in, begun_of, with_signal, signal_said, group_said, decl_said}

-- items one after another, and then others
stepping-append : {S E F : Type 0} (step : S → E → Result S F) (s : S) (xs ys : List E)
    → stepping step s (xs ++ ys) ≡ and_then (stepping step s xs) (λ t. stepping step t ys)
stepping-append step s [] ys = refl
stepping-append {S} {E} {F} step s (x ∷ xs) ys = by_step (step s x) (λ t. stepping-append step t xs ys)
  where
    by_step : (r : Result S F)
        → ((t : S) → stepping step t (xs ++ ys) ≡ and_then (stepping step t xs) (λ u. stepping step u ys))
        → and_then r (λ t. stepping step t (xs ++ ys))
        ≡ and_then (and_then r (λ t. stepping step t xs)) (λ u. stepping step u ys)
    by_step (Ok t) more = more t
    by_step (Err f) more = refl

-- declaration by declaration is signal by signal
pub each_declared : (b : Begun) (decls : List SignalDecl) → stepping decl_said b decls ≡ stepping signal_said b (flat_map declared decls)
each_declared b [] = refl
each_declared b (d ∷ decls) =
    by_step (decl_said b d) (λ t. each_declared t decls)
    ∙ sym (stepping-append signal_said b (declared d) (flat_map declared decls))
  where
    by_step : (r : Result Begun StilFault)
        → ((t : Begun) → stepping decl_said t decls ≡ stepping signal_said t (flat_map declared decls))
        → and_then r (λ t. stepping decl_said t decls) ≡ and_then r (λ t. stepping signal_said t (flat_map declared decls))
    by_step (Ok t) more = more t
    by_step (Err f) more = refl

abbrev pub answered : {X : Type 0} → Option StilFault → X → Result X StilFault
answered None x = Ok x
answered (Some f) x = Err f

begun_of-push : (before : List Signal) (s : Signal) → begun_of (before ++ s ∷ []) ≡ with_signal (begun_of before) s
begun_of-push before s = λ j. record {
  texts = map-append (λ (s : Signal). s.text) before (s ∷ []) j;
  bases = map-append (λ (s : Signal). s.base) before (s ∷ []) j;
  directions = map-append (λ (s : Signal). s.direction) before (s ∷ []) j;
}

-- a signal behind others by its three tests
abbrev signal_tested : List Signal → Signal → Bool → Bool → Bool → Result Begun StilFault
signal_tested before s twice short few =
    cond twice (Err (fault_at s.place Twice))
    (cond short (cond few (Ok (with_signal (begun_of before) s)) (Err (fault_at s.place OutOfRange)))
    (Err (fault_at s.place OutOfRange)))

-- a group behind others by its two tests
abbrev group_tested : List Group → Group → Bool → Bool → Result (List (List ℕ)) StilFault
group_tested before g twice few =
    cond twice (Err (fault_at g.place Twice))
    (cond few (Ok (map (λ (g : Group). g.name) before ++ g.name ∷ [])) (Err (fault_at g.place OutOfRange)))

-- the signals that are taken, or the first fault
pub signals_said : (before signals : List Signal)
    → stepping signal_said (begun_of before) signals ≡ answered (signals_fault before signals) (begun_of (before ++ signals))
signals_said before [] = ap (λ ss. Ok (begun_of ss)) (sym (append-nil before))
signals_said before (s ∷ signals) =
    ap (λ b. and_then (signal_tested before s b (nat_le (length s.text) 1024) (nat_lt (length (map (λ (s : Signal). s.text) before)) 1024))
    (λ t. stepping signal_said t signals)) (list_any-map (λ (s : Signal). s.text) (λ t. same t s.text) before)
    ∙ ap (λ n. and_then (signal_tested before s (list_any (λ (b : Signal). same b.text s.text) before) (nat_le (length s.text) 1024) (nat_lt n 1024))
    (λ t. stepping signal_said t signals)) (length-map before (λ (s : Signal). s.text))
    ∙ by_tests (list_any (λ (b : Signal). same b.text s.text) before) (nat_le (length s.text) 1024) (nat_lt (length before) 1024)
    (ap (λ b. stepping signal_said b signals) (sym (begun_of-push before s))
    ∙ signals_said (before ++ s ∷ []) signals
    ∙ ap (λ ss. answered (signals_fault (before ++ s ∷ []) signals) (begun_of ss)) (append_assoc before (s ∷ []) signals))
  where
    by_tests : (twice short few : Bool)
        → stepping signal_said (with_signal (begun_of before) s) signals
        ≡ answered (signals_fault (before ++ s ∷ []) signals) (begun_of (before ++ s ∷ signals))
        → and_then (signal_tested before s twice short few) (λ t. stepping signal_said t signals)
        ≡ answered (refuse_if twice (fault_at s.place Twice) (unless short (fault_at s.place OutOfRange)
        (unless few (fault_at s.place OutOfRange) (signals_fault (before ++ s ∷ []) signals)))) (begun_of (before ++ s ∷ signals))
    by_tests true short few more = refl
    by_tests false false few more = refl
    by_tests false true false more = refl
    by_tests false true true more = more

-- the names that are taken, or the first fault
pub groups_said : (before groups : List Group)
    → stepping group_said (map (λ (g : Group). g.name) before) groups
    ≡ answered (groups_fault before groups) (map (λ (g : Group). g.name) (before ++ groups))
groups_said before [] = ap (λ gs. Ok (map (λ (g : Group). g.name) gs)) (sym (append-nil before))
groups_said before (g ∷ groups) =
    ap (λ b. and_then (group_tested before g b (nat_lt (length (map (λ (g : Group). g.name) before)) 4096))
    (λ t. stepping group_said t groups)) (list_any-map (λ (g : Group). g.name) (λ n. same n g.name) before)
    ∙ ap (λ n. and_then (group_tested before g (list_any (λ (b : Group). same b.name g.name) before) (nat_lt n 4096))
    (λ t. stepping group_said t groups)) (length-map before (λ (g : Group). g.name))
    ∙ by_tests (list_any (λ (b : Group). same b.name g.name) before) (nat_lt (length before) 4096)
    (ap (λ ns. stepping group_said ns groups) (sym (map-append (λ (g : Group). g.name) before (g ∷ [])))
    ∙ groups_said (before ++ g ∷ []) groups
    ∙ ap (λ gs. answered (groups_fault (before ++ g ∷ []) groups) (map (λ (g : Group). g.name) gs))
    (append_assoc before (g ∷ []) groups))
  where
    by_tests : (twice few : Bool)
        → stepping group_said (map (λ (g : Group). g.name) before ++ g.name ∷ []) groups
        ≡ answered (groups_fault (before ++ g ∷ []) groups) (map (λ (g : Group). g.name) (before ++ g ∷ groups))
        → and_then (group_tested before g twice few) (λ t. stepping group_said t groups)
        ≡ answered (refuse_if twice (fault_at g.place Twice) (unless few (fault_at g.place OutOfRange)
        (groups_fault (before ++ g ∷ []) groups))) (map (λ (g : Group). g.name) (before ++ g ∷ groups))
    by_tests true few more = refl
    by_tests false false more = refl
    by_tests false true more = more

-- what a taken list says of its first fault
pub answered_ok : {X : Type 0} (fault : Option StilFault) (x y : X) → answered fault x ≡ Ok y → (fault ≡ None) × (x ≡ y)
answered_ok None x y e = (refl, cc)
answered_ok (Some f) x y e = cc

pub answered_err : {X : Type 0} (fault : Option StilFault) (x : X) (f : StilFault) → answered fault x ≡ Err f → fault ≡ Some f
answered_err None x f e = cc
answered_err (Some g) x f e = ap (λ h. Some h) cc

-- signals without a fault are few
pub signals_few : (before signals : List Signal) → signals_fault before signals ≡ None → length before ≤ 1024
    → length (before ++ signals) ≤ 1024
signals_few before [] e few = subst (λ (ss : List Signal). length ss ≤ 1024) (sym (append-nil before)) few
signals_few before (s ∷ signals) e few =
    by_tests (list_any (λ (b : Signal). same b.text s.text) before) (nat_le (length s.text) 1024) (nat_lt (length before) 1024) refl e
    (λ lt rest. subst (λ (ss : List Signal). length ss ≤ 1024) (append_assoc before (s ∷ []) signals)
    (signals_few (before ++ s ∷ []) signals rest (omega (arith, lt, length-append before (s ∷ [])))))
  where
    by_tests : (twice short few : Bool) → nat_lt (length before) 1024 ≡ few
        → refuse_if twice (fault_at s.place Twice) (unless short (fault_at s.place OutOfRange)
        (unless few (fault_at s.place OutOfRange) (signals_fault (before ++ s ∷ []) signals))) ≡ None
        → (length before < 1024 → signals_fault (before ++ s ∷ []) signals ≡ None → length (before ++ s ∷ signals) ≤ 1024)
        → length (before ++ s ∷ signals) ≤ 1024
    by_tests true short few t r more = cc
    by_tests false false few t r more = cc
    by_tests false true false t r more = cc
    by_tests false true true t r more = more (ltb-true (length before) 1024 t) r

-- groups too
pub groups_few : (before groups : List Group) → groups_fault before groups ≡ None → length before ≤ 4096
    → length (before ++ groups) ≤ 4096
groups_few before [] e few = subst (λ (gs : List Group). length gs ≤ 4096) (sym (append-nil before)) few
groups_few before (g ∷ groups) e few =
    by_tests (list_any (λ (b : Group). same b.name g.name) before) (nat_lt (length before) 4096) refl e
    (λ lt rest. subst (λ (gs : List Group). length gs ≤ 4096) (append_assoc before (g ∷ []) groups)
    (groups_few (before ++ g ∷ []) groups rest (omega (arith, lt, length-append before (g ∷ [])))))
  where
    by_tests : (twice few : Bool) → nat_lt (length before) 4096 ≡ few
        → refuse_if twice (fault_at g.place Twice) (unless few (fault_at g.place OutOfRange)
        (groups_fault (before ++ g ∷ []) groups)) ≡ None
        → (length before < 4096 → groups_fault (before ++ g ∷ []) groups ≡ None → length (before ++ g ∷ groups) ≤ 4096)
        → length (before ++ g ∷ groups) ≤ 4096
    by_tests true few t r more = cc
    by_tests false false t r more = cc
    by_tests false true t r more = more (ltb-true (length before) 4096 t) r

named_said : (keys : List (Vec ℕ Global)) (groups : List Group) → keys ≡ []
    → stepping group_said (key_texts keys) groups ≡ answered (groups_fault [] groups) (map (λ (g : Group). g.name) groups)
named_said keys groups e = ap (λ ks. stepping group_said (key_texts ks) groups) e ∙ groups_said [] groups

-- what is blamed is the first fault of the names
pub names_refused : (keys : List (Vec ℕ Global)) (groups : List Group) (e : StilRefusal) → keys ≡ []
    → ((f : StilFault) → e ≡ refusal.Fault f → stepping group_said (key_texts keys) groups ≡ Err f)
    → Blames (groups_fault [] groups) e
names_refused keys groups e none h = λ f is.
    answered_err (groups_fault [] groups) (map (λ (g : Group). g.name) groups) f (sym (named_said keys groups none) ∙ h f is)

pub names_taken : (keys : List (Vec ℕ Global)) (groups : List Group) (new : List (List ℕ)) → keys ≡ []
    → stepping group_said (key_texts keys) groups ≡ Ok new
    → (groups_fault [] groups ≡ None) × (new ≡ map (λ (g : Group). g.name) groups)
names_taken keys groups new none h =
    let a = answered_ok (groups_fault [] groups) (map (λ (g : Group). g.name) groups) new (sym (named_said keys groups none) ∙ h) in
    (a.0, sym a.1)

begun_said : (keys : List (Vec ℕ Global)) (kept : List Declared) (signals : List Signal) → keys ≡ [] → kept ≡ []
    → stepping signal_said (begun_in keys kept) signals ≡ answered (signals_fault [] signals) (begun_of signals)
begun_said keys kept signals e f =
    ap (λ ks. stepping signal_said (begun_in ks kept) signals) e
    ∙ ap (λ ds. stepping signal_said (begun_in [] ds) signals) f ∙ signals_said [] signals

-- what is blamed is the first fault of the signals
pub signals_refused : (keys : List (Vec ℕ Global)) (kept : List Declared) (signals : List Signal) (e : StilRefusal)
    → keys ≡ [] → kept ≡ []
    → ((f : StilFault) → e ≡ refusal.Fault f → stepping signal_said (begun_in keys kept) signals ≡ Err f)
    → Blames (signals_fault [] signals) e
signals_refused keys kept signals e none empty h = λ f is.
    answered_err (signals_fault [] signals) (begun_of signals) f (sym (begun_said keys kept signals none empty) ∙ h f is)

pub signals_taken : (keys : List (Vec ℕ Global)) (kept : List Declared) (signals : List Signal) (new : Begun)
    → keys ≡ [] → kept ≡ [] → stepping signal_said (begun_in keys kept) signals ≡ Ok new
    → (signals_fault [] signals ≡ None) × (new ≡ begun_of signals)
signals_taken keys kept signals new none empty h =
    let a = answered_ok (signals_fault [] signals) (begun_of signals) new (sym (begun_said keys kept signals none empty) ∙ h) in
    (a.0, sym a.1)

-- what is begun is within the limits
pub begun_sound : (signals : List Signal) (groups : List Group) (keys names : List (Vec ℕ Global)) (kept : List Declared)
    (members : List (List ℕ)) → signals_fault [] signals ≡ None → groups_fault [] groups ≡ None
    → begun_in keys kept ≡ begun_of signals → key_texts names ≡ map (λ (g : Group). g.name) groups
    → members ≡ replicate (length groups) []
    → IsSound (record {
      texts = key_texts keys;
      bases = map (λ (d : Declared). d.base) kept;
      directions = map (λ (d : Declared). d.direction) kept;
      groups = key_texts names;
      members = members;
    })
begun_sound signals groups keys names kept members e f b n m =
    let texts : length (key_texts keys) ≡ length signals = ap (λ (x : Begun). length x.texts) b ∙ length-map signals _ in
    let bases : length (map (λ (d : Declared). d.base) kept) ≡ length signals =
    ap (λ (x : Begun). length x.bases) b ∙ length-map signals _ in
    let directions : length (map (λ (d : Declared). d.direction) kept) ≡ length signals =
    ap (λ (x : Begun). length x.directions) b ∙ length-map signals _ in
    let count : length (key_texts names) ≡ length groups = ap length n ∙ length-map groups _ in
    let lists : length members ≡ length groups = ap length m ∙ length-replicate (length groups) [] in
    let few = signals_few [] signals e (omega arith) in
    let few_groups = groups_few [] groups f (omega arith) in
    record {
      few = omega (arith, texts, few);
      few_groups = omega (arith, count, few_groups);
      each_base = bases ∙ sym texts;
      each_direction = directions ∙ sym texts;
      each_group = lists ∙ sym count;
      each_member = subst (λ (x : List (List ℕ)). All (λ (ss : List ℕ). All (λ s. s < length (key_texts keys)) ss) x) (sym m)
          (All-replicate (λ (ss : List ℕ). All (λ s. s < length (key_texts keys)) ss) (length groups) []
          (All-nil (λ s. s < length (key_texts keys))));
    }
