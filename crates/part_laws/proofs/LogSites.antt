-- The text of sites one after another, by what is said of each; and a datalog of sites that all have dies.
use Rattle.std.proofs.Common.{◌≡◌, ℕ, zero, suc, ◌+◌, ◌<◌, ◌≤◌, Bool, true, false, cond, List, [], ◌∷◌, ◌++◌, length, get_or, refl, sym, ap, ◌∙◌, arith}
use Rattle.std.specs.Prelude.{filter, map}
use Rattle.std.specs.List.{AllByRecursion, flat_map, range_with_len}
use Rattle.std.proofs.lemmas.List.{length-map, get_or-map}
use Rattle.std.proofs.lemmas.List.Folds.{flat_map-map}
use Rattle.tester_types.specs.declared.record.Record.{Record}
use Rattle.packed_code.specs.Program.{Program}
use Rattle.plan_rows.specs.declared.row.Row.{Row}
use Rattle.plan_rows.specs.declared.row.DieRow.{DieRow}
use Rattle.plan_rows.specs.Rows.{AreKept, dies_at, sites_of}
use Rattle.plan_rows.specs.Judging.{names_at}
use Rattle.lot_plan.specs.Bound.{Bound, die_at}
use Rattle.site_meaning.specs.Records.{AreInOrder}
use Rattle.datalog.specs.DatalogText.{die_bin, record_text, site_line, site_text, numbered, totals_text, lot_text, bins_of as lot_bins}
use Rattle.plan_parts.specs.Cut.{has_dies, sites_with_dies}
use Rattle.log_parts.specs.Log.{DieLog, IsDieLog, AreDieLogs, AreLogs, die_text, dies_text, sites_text, bins_of, log_text}
use Rattle.log_parts.specs.Merged.{merged_sites}
use Rattle.part_laws.proofs.OneLine.{ShowsNames}
use Rattle.part_laws.proofs.LogLines.{log_of, IsTried, log_fits, record_is}
use Rattle.part_laws.proofs.Ranks.{nothing_else}

-- ---- numbers in a row

-- numbered items
pub numbered_row : {X : Type 0} (text : ℕ → X → List ℕ) (f : ℕ → X) (a n : ℕ)
    → numbered text a (map f (range_with_len a n))
    ≡ flat_map (λ k. text k (f k)) (range_with_len a n)
numbered_row text f a zero = refl
numbered_row text f a (suc n) = ap (λ (l : List ℕ). text a (f a) ++ l) (numbered_row text f (a + 1) n)

-- sites by their names
sites_row : (names : ℕ → List (List ℕ)) (logs : ℕ → List DieLog) (a n : ℕ)
    → sites_text a (map names (range_with_len a n)) (map logs (range_with_len a n))
    ≡ flat_map (λ k. site_line k ++ dies_text (names k) (logs k)) (range_with_len a n)
sites_row names logs a zero = refl
sites_row names logs a (suc n) =
    ap (λ (l : List ℕ). site_line a ++ dies_text (names a) (logs a) ++ l) (sites_row names logs (a + 1) n)

-- sites of a plan
merged_row : (rows : List Row) (logs : ℕ → List DieLog) (sites : List ℕ)
    → merged_sites rows sites (map logs sites)
    ≡ flat_map (λ s. site_line s ++ dies_text (names_at s rows) (logs s)) sites
merged_row rows logs [] = refl
merged_row rows logs (s ∷ sites) =
    ap (λ (l : List ℕ). site_line s ++ dies_text (names_at s rows) (logs s) ++ l) (merged_row rows logs sites)

-- what is the same at each number
same_row : {X : Type 0} (f g : ℕ → List X) (a n : ℕ) → ((k : ℕ) → a ≤ k → k < a + n → f k ≡ g k)
    → flat_map f (range_with_len a n) ≡ flat_map g (range_with_len a n)
same_row f g a zero same = refl
same_row {X} f g a (suc n) same =
    ap (λ (l : List X). l ++ flat_map f (range_with_len (a + 1) n)) (same a (omega arith) (omega arith))
    ∙ ap (λ (l : List X). g a ++ l) (same_row f g (a + 1) n (λ k low high. same k (omega (arith, low)) (omega (arith, high))))

-- and at each number that passes
same_kept : {X : Type 0} (p : ℕ → Bool) (f g : ℕ → List X) → ((s : ℕ) → p s ≡ true → f s ≡ g s)
    → (xs : List ℕ)
    → flat_map f (filter p xs) ≡ flat_map g (filter p xs)
same_kept p f g same [] = refl
same_kept {X} p f g same (x ∷ xs) = by (p x) refl (same_kept p f g same xs)
  where
    by : (b : Bool) → p x ≡ b → flat_map f (filter p xs) ≡ flat_map g (filter p xs)
        → flat_map f (cond b (x ∷ filter p xs) (filter p xs))
        ≡ flat_map g (cond b (x ∷ filter p xs) (filter p xs))
    by true is rest = ap (λ (l : List X). l ++ flat_map f (filter p xs)) (same x is) ∙ ap (λ (l : List X). g x ++ l) rest
    by false is rest = rest

-- names with a log for each
are_logs : (names : ℕ → List (List ℕ)) (logs : ℕ → List DieLog) (a n : ℕ)
    → ((k : ℕ) → a ≤ k → k < a + n → AreDieLogs (names k) (logs k))
    → AreLogs (map names (range_with_len a n)) (map logs (range_with_len a n))
are_logs names logs a zero each = tt
are_logs names logs a (suc n) each = (
  each a (omega arith) (omega arith),
  are_logs names logs (a + 1) n (λ k low high. each k (omega (arith, low)) (omega (arith, high))),
)

-- ---- the dies of a site

-- records of dies one after another, whose names these are
named_dies : (code : Program) (plan : Bound) (site from : ℕ) (names : List (List ℕ))
    (entries : List Record) → AreInOrder from entries
    → AllByRecursion (λ (e : Record). e.site ≡ site) entries → length names ≡ length entries
    → ((i : ℕ) → i < length names → get_or names i [] ≡ (die_at plan.rows site (from + i)).name)
    → flat_map (record_text code plan) entries ≡ dies_text names (map (log_of code plan) entries)
named_dies code plan site from [] [] order own size named = refl
named_dies code plan site from [] (e ∷ entries) order own size named = absurd (omega (arith, size))
named_dies code plan site from (n ∷ names) [] order own size named = absurd (omega (arith, size))
named_dies code plan site from (n ∷ names) (e ∷ entries) order own size named =
    let first : from + 0 ≡ from = omega arith in
    let name : (die_at plan.rows e.site e.die).name ≡ n =
    ap (λ (s : ℕ). (die_at plan.rows s e.die).name) own.0 ∙ ap (λ (d : ℕ). (die_at plan.rows site d).name) (order.0 ∙ sym first)
    ∙ sym (named 0 (omega arith)) in
    ap (λ (l : List ℕ). l ++ flat_map (record_text code plan) entries)
    (record_is code plan e ∙ ap (λ (m : List ℕ). die_text m (log_of code plan e)) name)
    ∙ ap (λ (l : List ℕ). die_text n (log_of code plan e) ++ l)
    (named_dies code plan site (from + 1) names entries order.1 own.1 (omega (arith, size)) (λ i within.
    let next : from + suc i ≡ from + 1 + i = omega arith in
    named (suc i) (omega (arith, within)) ∙ ap (λ (d : ℕ). (die_at plan.rows site d).name) next))

-- records of a site, by what their text takes of them
pub record AreShown (plan : Bound) (names : List (List ℕ)) (site : ℕ) (entries : List Record) : Type 0 where
  pub own : AllByRecursion (λ (e : Record). e.site ≡ site) entries
  pub order : AreInOrder 0 entries
  pub all : length entries ≡ length (dies_at site plan.rows)
  pub some : 0 < length entries
  pub named : names ≡ names_at site plan.rows
  pub tried : AllByRecursion IsTried entries

-- no die
abbrev no_die : DieRow
no_die = record { site = 0; name = []; file = [] }

-- their text
pub site_dies : (code : Program) (plan : Bound) (names : List (List ℕ)) (site : ℕ)
    (entries : List Record) → AreShown plan names site entries
    → flat_map (record_text code plan) entries ≡ dies_text names (map (log_of code plan) entries)
site_dies code plan names site entries shown =
    named_dies code plan site 0 (names_at site plan.rows) entries shown.order shown.own (size ∙ sym shown.all)
    (λ i within.
    let none : 0 + i ≡ i = omega arith in
    get_or-map (λ (d : DieRow). d.name) (dies_at site plan.rows) i no_die [] (omega (arith, within, size))
    ∙ ap (λ (k : ℕ). (die_at plan.rows site k).name) (sym none))
    ∙ ap (λ (l : List (List ℕ)). dies_text l (map (log_of code plan) entries)) (sym shown.named)
  where
    size : length (names_at site plan.rows) ≡ length (dies_at site plan.rows)
    size = length-map (dies_at site plan.rows) (λ (d : DieRow). d.name)

-- with the line of the site
pub site_some : (code : Program) (plan : Bound) (site : ℕ) (entries : List Record)
    → 0 < length entries
    → site_text code plan site entries ≡ site_line site ++ flat_map (record_text code plan) entries
site_some code plan site [] some = absurd (omega (arith, some))
site_some code plan site (e ∷ entries) some = refl

-- their bins
pub log_bins : (code : Program) (plan : Bound) (entries : List Record)
    → map (λ (log : DieLog). log.bin) (map (log_of code plan) entries) ≡ map (die_bin plan) entries
log_bins code plan [] = refl
log_bins code plan (e ∷ entries) = ap (λ (l : List ℕ). die_bin plan e ∷ l) (log_bins code plan entries)

-- their logs
site_logs : (code : Program) (plan : Bound) → ShowsNames code → AreKept plan.rows
    → (entries : List Record) → AllByRecursion IsTried entries
    → AllByRecursion IsDieLog (map (log_of code plan) entries)
site_logs code plan shows kept [] tried = tt
site_logs code plan shows kept (e ∷ entries) tried =
    (log_fits code plan shows kept e tried.0, site_logs code plan shows kept entries tried.1)

-- ---- a datalog of sites that all have dies

-- what it says of a site
abbrev pub logs_at : Program → Bound → (ℕ → List Record) → ℕ → List DieLog
logs_at code plan entries site = map (log_of code plan) (entries site)

module _ (code : Program) (plan : Bound) (names : ℕ → List (List ℕ)) (entries : ℕ → List Record) (sites : ℕ)
    (each : (k : ℕ) → k < sites → AreShown plan (names k) k (entries k)) where
  -- what it says of each
  abbrev said : ℕ → List DieLog
  said = logs_at code plan entries

  -- its text
  pub text_is : lot_text code plan (map entries (range_with_len 0 sites))
      ≡ log_text (map names (range_with_len 0 sites)) (map said (range_with_len 0 sites))
  unfolding log_text
  text_is =
      let all : List ℕ = range_with_len 0 sites in
      let lines : numbered (site_text code plan) 0 (map entries all) ≡ sites_text 0 (map names all) (map said all) =
      numbered_row (site_text code plan) entries 0 sites
      ∙ same_row (λ k. site_text code plan k (entries k)) (λ k. site_line k ++ dies_text (names k) (said k)) 0 sites
      (λ k low high.
      let shown = each k (omega (arith, high)) in
      site_some code plan k (entries k) shown.some
      ∙ ap (λ (l : List ℕ). site_line k ++ l) (site_dies code plan (names k) k (entries k) shown))
      ∙ sym (sites_row names said 0 sites) in
      let bins : lot_bins plan (map entries all) ≡ bins_of (map said all) =
      flat_map-map (map (die_bin plan)) entries all
      ∙ same_row (λ k. map (die_bin plan) (entries k)) (λ k. map (λ (log : DieLog). log.bin) (said k)) 0 sites
      (λ k low high. sym (log_bins code plan (entries k)))
      ∙ sym (flat_map-map (map (λ (log : DieLog). log.bin)) said all) in
      ap (λ (l : List ℕ). l ++ totals_text (lot_bins plan (map entries all))) lines
      ∙ ap (λ (l : List ℕ). sites_text 0 (map names all) (map said all) ++ totals_text l) bins

  -- and its logs
  pub logs_are : ShowsNames code → AreKept plan.rows
      → AreLogs (map names (range_with_len 0 sites)) (map said (range_with_len 0 sites))
  logs_are shows kept = are_logs names said 0 sites
      (λ k low high.
      let shown = each k (omega (arith, high)) in (
        length-map (entries k) (log_of code plan) ∙ shown.all ∙ sym (ap length shown.named ∙ length-map (dies_at k plan.rows) (λ (d : DieRow). d.name)),
        site_logs code plan shows kept (entries k) shown.tried,
      ))

-- ---- a datalog of all sites, by those that have dies

module _ (code : Program) (plan : Bound) (entries : ℕ → List Record) (logs : ℕ → List DieLog)
    (none : (s : ℕ) → has_dies plan.rows s ≡ false → entries s ≡ [])
    (some : (s : ℕ) → has_dies plan.rows s ≡ true → 0 < length (entries s))
    (texts : (s : ℕ) → has_dies plan.rows s ≡ true
    → dies_text (names_at s plan.rows) (logs s) ≡ flat_map (record_text code plan) (entries s))
    (bins : (s : ℕ) → has_dies plan.rows s ≡ true
    → map (λ (log : DieLog). log.bin) (logs s) ≡ map (die_bin plan) (entries s)) where
  -- the lines of the sites
  all_lines : merged_sites plan.rows (sites_with_dies plan.rows)
      (map logs (sites_with_dies plan.rows))
      ≡ numbered (site_text code plan) 0 (map entries (range_with_len 0 (sites_of plan.rows)))
  unfolding sites_with_dies
  all_lines =
      merged_row plan.rows logs (sites_with_dies plan.rows)
      ∙ same_kept (has_dies plan.rows) (λ s. site_line s ++ dies_text (names_at s plan.rows) (logs s)) (λ s. site_text code plan s (entries s))
      (λ s has. ap (λ (l : List ℕ). site_line s ++ l) (texts s has) ∙ sym (site_some code plan s (entries s) (some s has)))
      (range_with_len 0 (sites_of plan.rows))
      ∙ sym (nothing_else (has_dies plan.rows) (λ s. site_text code plan s (entries s))
      (λ s has. ap (site_text code plan s) (none s has)) (range_with_len 0 (sites_of plan.rows)))
      ∙ sym (numbered_row (site_text code plan) entries 0 (sites_of plan.rows))

  -- the bins of their dies
  all_bins : bins_of (map logs (sites_with_dies plan.rows))
      ≡ lot_bins plan (map entries (range_with_len 0 (sites_of plan.rows)))
  unfolding sites_with_dies
  all_bins =
      flat_map-map (map (λ (log : DieLog). log.bin)) logs (sites_with_dies plan.rows)
      ∙ same_kept (has_dies plan.rows) (λ s. map (λ (log : DieLog). log.bin) (logs s)) (λ s. map (die_bin plan) (entries s)) bins
      (range_with_len 0 (sites_of plan.rows))
      ∙ sym (nothing_else (has_dies plan.rows) (λ s. map (die_bin plan) (entries s))
      (λ s has. ap (map (die_bin plan)) (none s has)) (range_with_len 0 (sites_of plan.rows)))
      ∙ sym (flat_map-map (map (die_bin plan)) entries (range_with_len 0 (sites_of plan.rows)))

  -- the whole text
  pub all_text : merged_sites plan.rows (sites_with_dies plan.rows)
      (map logs (sites_with_dies plan.rows))
      ++ totals_text (bins_of (map logs (sites_with_dies plan.rows)))
      ≡ lot_text code plan (map entries (range_with_len 0 (sites_of plan.rows)))
  all_text =
      ap (λ (l : List ℕ). l ++ totals_text (bins_of (map logs (sites_with_dies plan.rows)))) all_lines
      ∙ ap (λ (l : List ℕ). numbered (site_text code plan) 0 (map entries (range_with_len 0 (sites_of plan.rows))) ++ totals_text l) all_bins
