-- Lots that say the same of a site record it alike and print the same lines for it; without cuts the text of a lot is one; and
-- the totals of a lot are sums over its sites.
use Rattle.std.proofs.Common.{◌≡◌, ℕ, suc, ◌+◌, ◌<◌, List, [], ◌∷◌, ◌++◌, length, map, get_or, Some, refl, sym, ap, ◌∙◌, subst, arith}
use Rattle.std.specs.List.{AllByRecursion, flat_map, range_with_len}
use Rattle.std.proofs.lemmas.List.{get_or-map, length-map}
use Rattle.std.proofs.lemmas.List.FromFn.{length-map-range_with_len, get_or-map-range_with_len}
use Rattle.std.proofs.lemmas.Option.{same_Some}
use Rattle.tester_types.specs.Outside.{Files, file_of}
use Rattle.tester_types.specs.Records.{SiteRecords, records_of}
use Rattle.tester_types.specs.declared.record.Record.{Record}
use Rattle.packed_code.specs.Program.{Program}
use Rattle.plan_rows.specs.declared.row.Row.{Row}
use Rattle.plan_rows.specs.Rows.{sites_of}
use Rattle.plan_rows.specs.Plan.{IsPlan}
use Rattle.plan_rows.proofs.PlanLemmas.{one_plan}
use Rattle.lot_plan.specs.Bound.{Bound}
use Rattle.lot_plan.specs.Readings.{bin_of}
use Rattle.site_meaning.specs.Part.{Part, rows_for, part_of, dies_in}
use Rattle.site_meaning.specs.Records.{Sound, AreInOrder, touchdown, records, cuts_of}
use Rattle.site_meaning.specs.Alike.{AreCodesAlike}
use Rattle.site_meaning.proofs.AlikeLemmas.{records_alike}
use Rattle.site_meaning.proofs.TouchdownLemmas.{uncut_is_touchdown}
use Rattle.floor_core.specs.Book.{at_site, empty_site}
use Rattle.tester_run.specs.Work.{AreRecords}
use Rattle.datalog.specs.DatalogText.{final_verdict, site_text, numbered, bins_of, totals_text, lot_text}
use Rattle.tool_inputs.specs.Inputs.{Inputs, AreInputs, bound_of}
use Rattle.lot_laws.specs.Uncut.{uncut_sites, uncut_text}
use Rattle.lot_laws.specs.Alone.{lines_of, IsOneProgram, AreOneNets, SayTheSame, AreUncut}
use Rattle.lot_laws.proofs.SiteLemmas.{one_code, parts_alike, code_is, site_texts, sound_own}

-- ---- a site

module _ (files others : Files) (program plan program' plan' : List ℕ) (inputs inputs' : Inputs)
    (are : AreInputs (Some files) program plan inputs) (are' : AreInputs (Some others) program' plan' inputs') (site : ℕ)
    (says : SayTheSame files others program program' inputs inputs' site) where
  -- equal cuts give equal records
  pub same_records : (entries entries' : List Record) → AreRecords (part_of (bound_of inputs) site) entries
      → AreRecords (part_of (bound_of inputs') site) entries' → cuts_of entries ≡ cuts_of entries' → entries ≡ entries'
  same_records entries entries' a b cuts =
      a.whole ∙ ap (records (part_of (bound_of inputs) site)) cuts
      ∙ records_alike (part_of (bound_of inputs) site) (part_of (bound_of inputs') site)
      (parts_alike files others program plan program' plan' inputs inputs' are are' site says) (cuts_of entries')
      ∙ sym b.whole

  -- and equal records equal lines
  pub same_lines : (entries entries' : List Record) → AreRecords (part_of (bound_of inputs) site) entries → entries ≡ entries'
      → lines_of inputs site entries ≡ lines_of inputs' site entries'
  same_lines entries entries' a equal =
      site_texts inputs.code inputs'.code (code_is files others program plan program' plan' inputs inputs' are are' site says)
      (bound_of inputs) (bound_of inputs') site says.rows entries (sound_own (part_of (bound_of inputs) site) entries a.each)
      ∙ ap (lines_of inputs' site) equal

-- ---- without cuts

-- the records of a site from this die on
uncut_from : (part : Part) (die : ℕ) (entries : List Record) → AllByRecursion (Sound part) entries → AreInOrder die entries → AreUncut entries
    → entries ≡ map (touchdown part []) (range_with_len die (length entries))
uncut_from part die [] sound order none = refl
uncut_from part die (entry ∷ entries) sound order none =
    ap (λ (e : Record). e ∷ entries) (uncut_is_touchdown part entry sound.0 none.0 ∙ ap (touchdown part []) order.0)
    ∙ ap (λ (l : List Record). touchdown part [] die ∷ l) (uncut_from part (die + 1) entries sound.1 order.1 none.1)

pub uncut_records : (part : Part) (entries : List Record) → AreRecords part entries → AreUncut entries → entries ≡ records part []
uncut_records part entries are none =
    uncut_from part 0 entries are.each are.order none ∙ ap (λ (n : ℕ). map (touchdown part []) (range_with_len 0 n)) are.all

-- lists that have the same at each place
pub same_places : {X : Type 0} (none : X) (xs ys : List X) → length xs ≡ length ys
    → ((k : ℕ) → k < length xs → get_or xs k none ≡ get_or ys k none) → xs ≡ ys
same_places none [] [] size each = refl
same_places none [] (y ∷ ys) size each = absurd (omega (arith, size))
same_places none (x ∷ xs) [] size each = absurd (omega (arith, size))
same_places {X} none (x ∷ xs) (y ∷ ys) size each =
    ap (λ (z : X). z ∷ xs) (each 0 (omega arith))
    ∙ ap (λ (l : List X). y ∷ l) (same_places none xs ys (omega (arith, size)) (λ k within. each (suc k) (omega (arith, within))))

-- the records at a place of a book
book_at : (book : List SiteRecords) (site : ℕ) → site < length book → get_or (records_of book) site [] ≡ (at_site book site).records
book_at book site within = get_or-map (λ (s : SiteRecords). s.records) book site (empty_site 0) [] within

-- numbered sites, of plans with the same rows
numbered_texts : (code other : Program) (plan plan' : Bound) → AreCodesAlike code other → plan.rows ≡ plan'.rows → (from : ℕ)
    → (sites : List (List Record))
    → ((k : ℕ) → k < length sites → AllByRecursion (λ (entry : Record). entry.site ≡ from + k) (get_or sites k []))
    → numbered (site_text code plan) from sites ≡ numbered (site_text other plan') from sites
numbered_texts code other plan plan' alike rows from [] own = refl
numbered_texts code other plan plan' alike rows from (entries ∷ sites) own =
    ap (λ (l : List ℕ). l ++ numbered (site_text code plan) (from + 1) sites)
    (site_texts code other alike plan plan' from (ap (rows_for from) rows) entries
    (subst (λ (n : ℕ). AllByRecursion (λ (entry : Record). entry.site ≡ n) entries) (omega arith) (own 0 (omega arith))))
    ∙ ap (λ (l : List ℕ). site_text other plan' from entries ++ l)
    (numbered_texts code other plan plan' alike rows (from + 1) sites
    (λ k within. subst (λ (n : ℕ). AllByRecursion (λ (entry : Record). entry.site ≡ n) (get_or sites k [])) (omega arith)
    (own (suc k) (omega (arith, within)))))

-- ---- the records of a plan without cuts

-- those of a part are of its site
planned_own : (part : Part) (dies : List ℕ)
    → AllByRecursion (λ (entry : Record). entry.site ≡ part.site) (map (touchdown part []) dies)
planned_own part [] = tt
planned_own part (die ∷ dies) = (refl, planned_own part dies)

module _ (plan : Bound) where
  -- those of a site
  abbrev at_number : ℕ → List Record
  at_number site = records (part_of plan site) []

  -- each site has its own
  sites_long : length (uncut_sites plan) ≡ sites_of plan.rows
  sites_long = length-map-range_with_len at_number 0 (sites_of plan.rows)

  sites_at : (site : ℕ) → site < sites_of plan.rows → get_or (uncut_sites plan) site [] ≡ at_number site
  sites_at site within = get_or-map-range_with_len at_number 0 (sites_of plan.rows) site site [] within (omega arith)

  -- and they are of it
  sites_own : (k : ℕ) → k < length (uncut_sites plan)
      → AllByRecursion (λ (entry : Record). entry.site ≡ 0 + k) (get_or (uncut_sites plan) k [])
  sites_own k within =
      subst (λ (l : List Record). AllByRecursion (λ (entry : Record). entry.site ≡ 0 + k) l)
      (sym (sites_at k (omega (arith, within, sites_long))))
      (subst (λ (n : ℕ). AllByRecursion (λ (entry : Record). entry.site ≡ n) (at_number k)) (omega arith)
      (planned_own (part_of plan k) (range_with_len 0 (dies_in (part_of plan k)))))

  module _ (book : List SiteRecords) (all : length book ≡ sites_of plan.rows)
      (each : (site : ℕ) → site < sites_of plan.rows → AreRecords (part_of plan site) (at_site book site).records)
      (none : (site : ℕ) → AreUncut (at_site book site).records) where
    -- a book without cuts has them
    uncut_book : records_of book ≡ uncut_sites plan
    uncut_book =
        same_places [] (records_of book) (uncut_sites plan)
        (length-map book (λ (s : SiteRecords). s.records) ∙ all ∙ sym sites_long)
        (λ k within.
        let here : k < length book = omega (arith, within, length-map book (λ (s : SiteRecords). s.records)) in
        let there : k < sites_of plan.rows = omega (arith, here, all) in
        book_at book k here ∙ uncut_records (part_of plan k) (at_site book k).records (each k there) (none k) ∙ sym (sites_at k there))

    -- so its text is theirs
    pub uncut_lot : lot_text plan.program plan (records_of book) ≡ uncut_text plan
    uncut_lot = ap (lot_text plan.program plan) uncut_book

-- ---- files of the same bytes

module _ (files others : Files) (program plan program' plan' : List ℕ) (inputs inputs' : Inputs)
    (are : AreInputs (Some files) program plan inputs) (are' : AreInputs (Some others) program' plan' inputs')
    (one : IsOneProgram files others program program') (planned : file_of files plan ≡ file_of others plan')
    (nets : (site : ℕ) → AreOneNets files others inputs.rows site) where
  pub rows_are : inputs.rows ≡ inputs'.rows
  rows_are =
      let bytes : are'.rows.bytes ≡ are.rows.bytes = same_Some are'.rows.bytes are.rows.bytes (sym are'.rows.file.are ∙ sym planned ∙ are.rows.file.are) in
      one_plan are.rows.bytes inputs.rows inputs'.rows are.rows.plan (subst (λ (x : List ℕ). IsPlan x inputs'.rows) bytes are'.rows.plan)

  pub says : (site : ℕ) → SayTheSame files others program program' inputs inputs' site
  says site = record { one_program = one; rows = ap (rows_for site) rows_are; nets = nets site }

  -- sites record alike without cuts
  sites_alike : (sites : List ℕ)
      → map (at_number (bound_of inputs)) sites ≡ map (at_number (bound_of inputs')) sites
  sites_alike [] = refl
  sites_alike (site ∷ sites) =
      ap (λ (l : List (List Record)). at_number (bound_of inputs) site ∷ l) (sites_alike sites)
      ∙ ap (λ (l : List Record). l ∷ map (at_number (bound_of inputs')) sites)
      (records_alike (part_of (bound_of inputs) site) (part_of (bound_of inputs') site)
      (parts_alike files others program plan program' plan' inputs inputs' are are' site (says site)) [])

  all_alike : uncut_sites (bound_of inputs) ≡ uncut_sites (bound_of inputs')
  all_alike =
      sites_alike (range_with_len 0 (sites_of inputs.rows))
      ∙ ap (λ (rows : List Row). map (at_number (bound_of inputs')) (range_with_len 0 (sites_of rows))) rows_are

  -- and their text is one
  pub one_uncut : uncut_text (bound_of inputs) ≡ uncut_text (bound_of inputs')
  one_uncut =
      ap (λ (l : List ℕ). l ++ totals_text (bins_of (bound_of inputs) (uncut_sites (bound_of inputs))))
      (numbered_texts inputs.code inputs'.code (bound_of inputs) (bound_of inputs')
      (one_code files others program program' inputs.code inputs'.code one are.code are'.code) rows_are 0
      (uncut_sites (bound_of inputs)) (sites_own (bound_of inputs)))
      ∙ ap (λ (rows : List Row). numbered (site_text inputs'.code (bound_of inputs')) 0 (uncut_sites (bound_of inputs))
      ++ totals_text (flat_map (map (λ (e : Record). bin_of rows (final_verdict e.trials))) (uncut_sites (bound_of inputs)))) rows_are
      ∙ ap (λ (sites : List (List Record)). lot_text inputs'.code (bound_of inputs') sites) all_alike

  -- so is that of books without cuts
  pub same_text : (book book' : List SiteRecords) → length book ≡ sites_of inputs.rows → length book' ≡ sites_of inputs'.rows
      → ((site : ℕ) → site < sites_of inputs.rows → AreRecords (part_of (bound_of inputs) site) (at_site book site).records)
      → ((site : ℕ) → site < sites_of inputs'.rows → AreRecords (part_of (bound_of inputs') site) (at_site book' site).records)
      → ((site : ℕ) → AreUncut (at_site book site).records) → ((site : ℕ) → AreUncut (at_site book' site).records)
      → lot_text inputs.code (bound_of inputs) (records_of book) ≡ lot_text inputs'.code (bound_of inputs') (records_of book')
  same_text book book' all all' each each' none none' =
      uncut_lot (bound_of inputs) book all each none ∙ one_uncut ∙ sym (uncut_lot (bound_of inputs') book' all' each' none')
