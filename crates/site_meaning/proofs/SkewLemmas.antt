-- What an accepted plan gives a site: the skews of a plan that isn't refused keep each event inside its cycle.
use Rattle.std.proofs.Common.{◌≡◌, ℕ, ◌+◌, ◌-◌, ◌^◌, ◌<◌, ◌==◌, eqb, ℤ, pos, Bool, true, false, cond, not, List, [], ◌∷◌, length, get_or, take, Option, Some, None, refl, sym, ap, ◌∙◌, subst, arith, inl, inr, ◌⊎◌}
use Rattle.std.specs.Prelude.{All, IfSome, ◌||◌}
use Rattle.std.specs.List.{AllByRecursion, find, list_all, list_any, position}
use Rattle.std.specs.Option.{option_map_or}
use Rattle.std.specs.Str.{bytes_eq}
use Rattle.std.specs.Cmp.Lexicographic.{bytes_decides}
use Rattle.std.proofs.lemmas.Bool.{cases_order}
use Rattle.std.proofs.lemmas.Bool.Decides.{eqb_tells}
use Rattle.std.proofs.lemmas.List.{get_or-map, get_or-take, length-take-le}
use Rattle.std.proofs.lemmas.List.Folds.{list_any_at}
use Rattle.std.proofs.lemmas.List.Quantifiers.{position-Some}
use Rattle.std.proofs.lemmas.List.Sums.{AllPass-from_list_all, list_all-from_AllPass}
use Rattle.text_bytes.proofs.ListLemmas.{all_filter}
use Rattle.tester_types.specs.declared.wave.Event.{Event}
use Rattle.tester_types.specs.declared.signal.Direction.TheVariants.{In}
use Rattle.tester_types.specs.declared.wave.Wave.{Wave}
use Rattle.tester_types.specs.declared.wave.Table.{Table}
use Rattle.bench_net.specs.Circuit.{Circuit}
use Rattle.packed_code.specs.declared.parts.CodeSignal.{CodeSignal}
use Rattle.packed_code.specs.Conditions.{EachBehind, is_named, IsSignal, IsEvent, IsWave, IsTable, IsProgram, wave_count}
use Rattle.packed_code.proofs.Lists.{behind_at}
use Rattle.edge_gen.specs.Signals.{skew_of, stay_inside, is_inside, keeps_inside}
use Rattle.edge_gen.proofs.SignalLemmas.{find-passes}
use Rattle.edge_gen.proofs.InsideLemmas.{unmoved_inside}
use Rattle.plan_rows.specs.declared.fault.PlanFault.{PlanFault}
use Rattle.plan_rows.specs.declared.row.Row.{Row}
use Rattle.plan_rows.specs.declared.row.Row.TheVariants as row
use Rattle.plan_rows.specs.declared.row.SkewRow.{SkewRow}
use Rattle.plan_rows.specs.Rows.{IsLot, each_of, as_skew, skews_at}
use Rattle.lot_plan.specs.Needs.{has_name}
use Rattle.lot_plan.specs.Bound.{Bound, signals_of, circuit_of}
use Rattle.lot_plan.specs.Skews.{wave_stays, waves_stay, skew_fault, skew_refusal, skew_by, site_skews}
use Rattle.lot_plan.specs.Refusal.{is_signal, row_refusal, rows_refusal, refused_row, IsBound}
use Rattle.lot_plan.proofs.RefusalLemmas.{none_both}
use Rattle.site_meaning.specs.Part.{IsPart, part_of}
use Rattle.site_meaning.proofs.PartLemmas.{lot_in-part_of, skews_in-part_of}

-- ---- what an accepted row says

-- the signal of the row is there, and each of its waves stays inside its cycle
record Stays (signals : List CodeSignal) (tables : List Table) (k : SkewRow) : Type 0 where
  signal : ℕ
  first : position (has_name k.signal) signals ≡ Some signal
  stays : waves_stay tables signal k.skew ≡ true

stays_if : (b : Bool) (fault : PlanFault) → cond b None (Some fault) ≡ None → b ≡ true
stays_if true fault is = refl
stays_if false fault is = cc

stays_so : (signals : List CodeSignal) (tables : List Table) (n : ℕ) (k : SkewRow) (o : Option ℕ)
    → position (has_name k.signal) signals ≡ o → skew_fault tables n k o ≡ None → Stays signals tables k
stays_so signals tables n k None at is = cc
stays_so signals tables n k (Some signal) at is = record {
  signal = signal;
  first = at;
  stays = stays_if (waves_stay tables signal k.skew) _ is;
}

-- each row of a skew that isn't refused
accepted : (known : List ℕ → Bool) (signals : List CodeSignal) (tables : List Table) (execs : ℕ)
    (circuit : ℕ → ℕ → Circuit) (n : ℕ) (rows : List Row)
    → rows_refusal known (skew_refusal signals tables) execs circuit n rows ≡ None
    → AllByRecursion (Stays signals tables) (each_of as_skew rows)
accepted known signals tables execs circuit n [] is = tt
accepted known signals tables execs circuit n (row.Skew k ∷ rows) is =
    let both = none_both (row_refusal known (skew_refusal signals tables) execs circuit n (row.Skew k)) _ is in (
      stays_so signals tables n k (position (has_name k.signal) signals) refl both.0,
      accepted known signals tables execs circuit (n + 1) rows both.1,
    )
accepted known signals tables execs circuit n (row.Lot l ∷ rows) is =
    accepted known signals tables execs circuit (n + 1) rows
    (none_both (row_refusal known (skew_refusal signals tables) execs circuit n (row.Lot l)) _ is).1
accepted known signals tables execs circuit n (row.Clock s ∷ rows) is =
    accepted known signals tables execs circuit (n + 1) rows
    (none_both (row_refusal known (skew_refusal signals tables) execs circuit n (row.Clock s)) _ is).1
accepted known signals tables execs circuit n (row.Bind b ∷ rows) is =
    accepted known signals tables execs circuit (n + 1) rows
    (none_both (row_refusal known (skew_refusal signals tables) execs circuit n (row.Bind b)) _ is).1
accepted known signals tables execs circuit n (row.Die d ∷ rows) is =
    accepted known signals tables execs circuit (n + 1) rows
    (none_both (row_refusal known (skew_refusal signals tables) execs circuit n (row.Die d)) _ is).1
accepted known signals tables execs circuit n (row.Fault f ∷ rows) is =
    accepted known signals tables execs circuit (n + 1) rows
    (none_both (row_refusal known (skew_refusal signals tables) execs circuit n (row.Fault f)) _ is).1
accepted known signals tables execs circuit n (row.Stop s ∷ rows) is =
    accepted known signals tables execs circuit (n + 1) rows
    (none_both (row_refusal known (skew_refusal signals tables) execs circuit n (row.Stop s)) _ is).1
accepted known signals tables execs circuit n (row.Bin b ∷ rows) is =
    accepted known signals tables execs circuit (n + 1) rows
    (none_both (row_refusal known (skew_refusal signals tables) execs circuit n (row.Bin b)) _ is).1

-- what holds of each holds of the one that is found
all_found : {X : Type 0} (P : X → Type 0) (test : X → Bool) (xs : List X) → AllByRecursion P xs → IfSome (find test xs) P
all_found P test [] all = tt
all_found P test (x ∷ xs) all = by (test x) (all_found P test xs all.1)
  where
    by : (b : Bool) → IfSome (find test xs) P → IfSome (cond b (Some x) (find test xs)) P
    by true rest = all.0
    by false rest = rest

-- ---- the first signal of a name is the only one

only_one : (signals : List CodeSignal) (name : List ℕ) (t s : ℕ) (d : CodeSignal) → EachBehind IsSignal [] signals
    → position (has_name name) signals ≡ Some t → s < length signals → has_name name (get_or signals s d) ≡ true → t ≡ s
only_one signals name t s d each at within named = by (cases_order t s)
  where
    by : (t ≡ s) ⊎ ((t < s) ⊎ (s < t)) → t ≡ s
    by (inl same) = same
    by (inr (inl below)) =
        let first = position-Some (has_name name) signals t d at in
        let own = (get_or signals s d).name in
        let fresh : list_any (is_named own) (take s signals) ≡ false = (behind_at IsSignal [] signals s d each within).fresh in
        let same : own ≡ (get_or signals t d).name = sym ((bytes_decides name own).0 named) ∙ (bytes_decides name (get_or signals t d).name).0 first.1 in
        let before : t < length (take s signals) = omega (arith, below, length-take-le s signals (omega (arith, within))) in
        let there : is_named own (get_or (take s signals) t d) ≡ true =
        ap (is_named own) (get_or-take s signals t d below) ∙ (bytes_decides own (get_or signals t d).name).1 same in
        let found = list_any_at (is_named own) (take s signals) t d before there in
        cc
    by (inr (inr above)) =
        let none = (position-Some (has_name name) signals t d at).2 s above in
        cc

-- ---- the waves of a signal that a row moves

own_inside : (w s : ℕ) (inside : Bool) → w ≡ s → (not (w == s) || inside) ≡ true → inside ≡ true
own_inside w s inside same is = by (eqb_tells w s)
  where
    by : ((eqb w s ≡ true) × (w ≡ s)) ⊎ ((eqb w s ≡ false) × (w ≡ s → ⊥)) → inside ≡ true
    by (inl equal) = subst (λ (b : Bool). (not b || inside) ≡ true) equal.0 is
    by (inr other) = absurd (other.1 same)

own_wave : (tables : List Table) (s : ℕ) (skew : ℤ) (k j : ℕ) (t : Table) (w : Wave) → waves_stay tables s skew ≡ true
    → k < length tables → j < length (get_or tables k t).waves → (get_or (get_or tables k t).waves j w).signal ≡ s
    → stay_inside (get_or tables k t).period skew (get_or (get_or tables k t).waves j w).events ≡ true
own_wave tables s skew k j t w is within there same =
    let table = get_or tables k t in
    let all = AllPass-from_list_all (λ (table : Table). list_all (wave_stays s skew table.period) table.waves) tables is k t within in
    let here = AllPass-from_list_all (wave_stays s skew table.period) table.waves all j w there in
    own_inside (get_or table.waves j w).signal s _ same here

-- a signal, where a default is wanted
abbrev no_signal : CodeSignal
no_signal = record { name = []; direction = In }

-- the skew of a signal that has its row, or none
by_row : (signals : List CodeSignal) (tables : List Table) (name : List ℕ) (k j s : ℕ) (t : Table) (w : Wave) (o : Option SkewRow)
    → EachBehind IsSignal [] signals → k < length tables → j < length (get_or tables k t).waves
    → (get_or (get_or tables k t).waves j w).signal ≡ s → s < length signals → name ≡ (get_or signals s no_signal).name
    → All (λ (event : Event). event.time < (get_or tables k t).period) (get_or (get_or tables k t).waves j w).events
    → IfSome o (Stays signals tables) → IfSome o (λ (r : SkewRow). bytes_eq name r.signal ≡ true)
    → stay_inside (get_or tables k t).period (option_map_or (λ (r : SkewRow). r.skew) o (pos 0)) (get_or (get_or tables k t).waves j w).events ≡ true
by_row signals tables name k j s t w None each within there own low called early stays named =
    unmoved_inside (get_or tables k t).period 0 (get_or (get_or tables k t).waves j w) early
by_row signals tables name k j s t w (Some r) each within there own low called early stays named =
    let same : r.signal ≡ (get_or signals s no_signal).name = sym ((bytes_decides name r.signal).0 named) ∙ called in
    let one = only_one signals r.signal stays.signal s no_signal each stays.first low
    ((bytes_decides r.signal (get_or signals s no_signal).name).1 same) in
    own_wave tables stays.signal r.skew k j t w stays.stays within there (own ∙ sym one)

-- ---- a bound plan

wave_inside : (b : Bound) (site k j : ℕ) (t : Table) (w : Wave) → IsProgram b.program → refused_row b ≡ None
    → k < length b.program.tables → j < length (get_or b.program.tables k t).waves
    → is_inside (get_or b.program.tables k t).period (site_skews b site) (get_or (get_or b.program.tables k t).waves j w) ≡ true
wave_inside b site k j t w program none within there =
    let signals = signals_of b in
    let tables = b.program.tables in
    let table = get_or tables k t in
    let wave = get_or table.waves j w in
    let rows = skews_at site b.rows in
    let of_table = behind_at (IsTable (length signals)) [] tables k t program.tables within in
    let of_wave = behind_at (IsWave (length signals) table.period (2 ^ 20 - wave_count (take k tables))) [] table.waves j w of_table.waves there in
    let early : All (λ (event : Event). event.time < table.period) wave.events =
    λ i event lt. (behind_at (IsEvent table.period) [] wave.events i event of_wave.events lt).inside in
    let all = accepted (is_signal signals) signals tables (length b.program.execs) (circuit_of b) 1 b.rows none in
    let name = (get_or signals wave.signal no_signal).name in
    let stays = all_found (Stays signals tables) (λ (r : SkewRow). bytes_eq name r.signal) rows
    (all_filter (Stays signals tables) (λ (r : SkewRow). r.site == site) (each_of as_skew b.rows) all) in
    let named = find-passes (λ (r : SkewRow). bytes_eq name r.signal) rows in
    let inside = by_row signals tables name k j wave.signal t w (find (λ (r : SkewRow). bytes_eq name r.signal) rows) program.signals
    within there refl of_wave.signal refl early stays named in
    let skew : skew_of (site_skews b site) wave.signal ≡ skew_by rows name =
    get_or-map (λ (signal : CodeSignal). skew_by rows signal.name) signals wave.signal no_signal (pos 0) of_wave.signal in
    ap (λ (k : ℤ). stay_inside table.period k wave.events) skew ∙ inside

-- the skews of a site keep each event inside its cycle
skews_inside : (b : Bound) (site : ℕ) → IsProgram b.program → IsBound b
    → All (λ table. keeps_inside table (site_skews b site) ≡ true) b.program.tables
skews_inside b site program bound k t within =
    list_all-from_AllPass (is_inside (get_or b.program.tables k t).period (site_skews b site)) (get_or b.program.tables k t).waves
    (λ j w there. wave_inside b site k j t w program (none_both (refused_row b) _ bound.accepted).0 within there)

pub accepted_part : (plan : Bound) (site : ℕ) → IsProgram plan.program → IsBound plan → IsPart (part_of plan site)
accepted_part plan site program bound = record {
  code = program;
  inside = subst (λ (l : List ℤ). All (λ table. keeps_inside table l ≡ true) plan.program.tables) (sym (skews_in-part_of plan site))
      (skews_inside plan site program bound);
  lot = subst IsLot (sym (lot_in-part_of plan site)) bound.kept.lot;
}
