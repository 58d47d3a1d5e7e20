-- The laws of what a lot prints of a site.
use Rattle.std.proofs.Common.{◌≡◌, ℕ, zero, suc, ◌+◌, ◌<◌, List, [], ◌∷◌, ◌++◌, length, map, get_or, sym, ap, ◌∙◌, arith, append_assoc}
use Rattle.std.specs.List.{flat_map}
use Rattle.std.proofs.lemmas.List.{get_or-map, length-map}
use Rattle.tester_types.specs.Records.{SiteRecords, records_of}
use Rattle.tester_types.specs.declared.record.Record.{Record}
use Rattle.die_sim.specs.Socket.{Told}
use Rattle.site_meaning.specs.Part.{part_of}
use Rattle.floor_core.specs.Book.{empty_site}
use Rattle.tester_run.specs.Work.{AreRecords}
use Rattle.datalog.specs.DatalogText.{die_bin, record_text, site_text, numbered, bins_of, totals_text}
use Rattle.tool_inputs.specs.Inputs.{bound_of}
use Rattle.lot_laws.proofs.SiteLemmas.{sound_own}
use Rattle.lot_laws.proofs.LotLemmas.{same_records, same_lines, same_text}
use Rattle.lot_laws.proofs.SumLemmas.{text_is_sums}
use Rattle.lot_laws.proofs.OtherSite.{moved_code, moved_records, dies_lines, dies_bins}
use Rattle.stil_tool.specs.Alone.{LotRun, said, sites_in, records_at, lines_at, HasLines, AloneLines, OneText, OtherSite, TextIsSites}
use Rattle.stil_tool.proofs.RunLemmas.{some_item}

-- one of texts that are numbered
numbered_has : {X : Type 0} (text : ℕ → X → List ℕ) (from : ℕ) (xs : List X) (k : ℕ) (none : X) → k < length xs
    → HasLines (numbered text from xs) (text (from + k) (get_or xs k none))
numbered_has text from [] k none within = absurd (omega (arith, within))
numbered_has {X} text from (x ∷ xs) zero none within = record {
  front = [];
  back = numbered text (from + 1) xs;
  is = ap (λ (n : ℕ). text n x ++ numbered text (from + 1) xs) (omega arith);
}
numbered_has {X} text from (x ∷ xs) (suc k) none within =
    let later = numbered_has text (from + 1) xs k none (omega (arith, within)) in
    record {
      front = text from x ++ later.front;
      back = later.back;
      is = ap (λ (l : List ℕ). text from x ++ l) later.is
          ∙ sym (append_assoc (text from x) later.front (text (from + 1 + k) (get_or xs k none) ++ later.back))
          ∙ ap (λ (n : ℕ). (text from x ++ later.front) ++ (text n (get_or xs k none) ++ later.back)) (omega arith);
    }

module _ {S : Type 0} (tells : S → Told) where
  -- the whole list of a site
  pub all_at : (run : LotRun tells) (site : ℕ) → site < sites_in run → AreRecords (part_of (bound_of (said run)) site) (records_at run site)
  all_at run site within =
      (run.is.lot.is.records site (some_item run.old.sockets (omega (arith, within, run.is.enough))) within).records_are

  -- its lines stand in the text
  has_lines : (run : LotRun tells) (site : ℕ) → site < sites_in run → HasLines run.text (lines_at run site)
  has_lines run site within =
      let book = run.is.lot.book in
      let text = site_text (said run).code (bound_of (said run)) in
      let here : site < length (records_of book) =
      omega (arith, within, run.is.lot.is.all, length-map book (λ (s : SiteRecords). s.records)) in
      let found = numbered_has text 0 (records_of book) site [] here in
      let there : get_or (records_of book) site [] ≡ records_at run site =
      get_or-map (λ (s : SiteRecords). s.records) book site (empty_site 0) [] (omega (arith, within, run.is.lot.is.all)) in
      record {
        front = found.front;
        back = found.back ++ totals_text (bins_of (bound_of (said run)) (records_of book));
        is = run.is.lot.written
            ∙ ap (λ (l : List ℕ). l ++ totals_text (bins_of (bound_of (said run)) (records_of book))) found.is
            ∙ append_assoc found.front (text (0 + site) (get_or (records_of book) site []) ++ found.back)
            (totals_text (bins_of (bound_of (said run)) (records_of book)))
            ∙ ap (λ (l : List ℕ). found.front ++ l) (append_assoc (text (0 + site) (get_or (records_of book) site [])) found.back
            (totals_text (bins_of (bound_of (said run)) (records_of book))))
            ∙ ap (λ (l : List Record). found.front ++ (text (0 + site) l ++ (found.back
            ++ totals_text (bins_of (bound_of (said run)) (records_of book))))) there
            ∙ ap (λ (n : ℕ). found.front ++ (text n (records_at run site) ++ (found.back
            ++ totals_text (bins_of (bound_of (said run)) (records_of book))))) (omega arith);
      }

  pub alone_lines : AloneLines tells
  alone_lines run other site within within' says cuts =
      let equal = same_records run.files other.files run.program run.plan other.program other.plan (said run) (said other) run.is.are other.is.are
      site says (records_at run site) (records_at other site) (all_at run site within) (all_at other site within') cuts in (
        same_lines run.files other.files run.program run.plan other.program other.plan (said run) (said other) run.is.are other.is.are
            site says (records_at run site) (records_at other site) (all_at run site within) equal,
        has_lines run site within,
        has_lines other site within',
      )

  pub one_text : OneText tells
  one_text run other one planned nets none none' =
      run.is.lot.written
      ∙ same_text run.files other.files run.program run.plan other.program other.plan (said run) (said other) run.is.are other.is.are
      one planned nets run.is.lot.book other.is.lot.book run.is.lot.is.all other.is.lot.is.all (all_at run) (all_at other) none none'
      ∙ sym other.is.lot.written

  pub other_site : OtherSite tells
  other_site run other site place within within' says cuts =
      let equal = moved_records run.files other.files run.program run.plan other.program other.plan (said run) (said other) run.is.are other.is.are
      site place says (records_at run site) (records_at other place) (all_at run site within) (all_at other place within') cuts in
      let codes = moved_code run.files other.files run.program run.plan other.program other.plan (said run) (said other) run.is.are other.is.are
      site place says in
      let own = sound_own (part_of (bound_of (said run)) site) (records_at run site) (all_at run site within).each in (
        equal,
        ap (flat_map (record_text (said other).code (bound_of (said other)))) equal
            ∙ dies_lines (bound_of (said run)) (bound_of (said other)) site place says.rows (said run).code (said other).code codes
            (records_at run site) own,
        ap (map (die_bin (bound_of (said other)))) equal
            ∙ dies_bins (bound_of (said run)) (bound_of (said other)) site place says.rows (records_at run site),
      )

  pub text_is_sites : TextIsSites tells
  text_is_sites run = run.is.lot.written ∙ text_is_sums (said run).code (bound_of (said run)) (records_of run.is.lot.book)
