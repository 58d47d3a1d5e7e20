-- The merged text is a datalog of the whole plan, and without cuts the one: `merged_is_lot`, `merged_is_uncut_text`,
-- `merged_is_one_text`, `one_division`.
use Rattle.std.proofs.Common.{◌≡◌, ◌⊎◌, ℕ, ◌/◌, ◌%◌, true, false, List, length, Some, sym, ◌∙◌, subst, inl, inr}
use Rattle.std.specs.Prelude.{slice_get}
use Rattle.std.proofs.lemmas.Bool.{cases_lt, cases_Bool}
use Rattle.tester_types.specs.Outside.{Files}
use Rattle.die_sim.specs.Socket.{Told}
use Rattle.plan_rows.specs.Rows.{sites_of}
use Rattle.site_meaning.specs.Part.{part_of}
use Rattle.floor_core.specs.Book.{at_site}
use Rattle.tester_run.specs.Work.{AreRecords}
use Rattle.tool_inputs.specs.Inputs.{Inputs, bound_of}
use Rattle.lot_laws.specs.Alone.{AreUncut}
use Rattle.lot_laws.specs.Uncut.{uncut_text}
use Rattle.lot_laws.proofs.LotLemmas.{uncut_lot, one_uncut}
use Rattle.stil_tool.specs.Alone.{LotRun, said, records_at}
use Rattle.stil_tool.proofs.QuietLemmas.{text_uncut, all_uncut}
use Rattle.plan_parts.specs.Cut.{has_dies, rank_of}
use Rattle.log_parts.specs.Log.{DieLog}
use Rattle.log_parts.specs.Merged.{merged_text}
use Rattle.part_laws.specs.Runs.{AreRunsOfParts}
use Rattle.part_laws.specs.Laws.{AreLogsOf, MergedIsLot, MergedIsOneText}
use Rattle.part_laws.specs.Divided.{AreAllUncut, AreAllQuiet, MergedIsUncutText, MergedIsQuietText, OneDivision, OneQuietDivision}
use Rattle.part_laws.proofs.PartSite.{uncut_moved}
use Rattle.part_laws.proofs.WholeBook.{entries, entries_none, entries_some, run_for, book, book_long, book_at, book_past, all_records, written}
use Rattle.part_laws.proofs.WholeFloor.{is_book}

-- the merged text is a datalog of the whole plan
pub merged_is_lot : {S : Type 0} (tells : S → Told) → MergedIsLot tells
merged_is_lot tells files program plan inputs runs given logs are idle = record {
  book = book tells files program plan inputs runs given;
  is = is_book tells files program plan inputs runs given idle;
  written = written tells files program plan inputs runs given logs are;
}

module _ {S : Type 0} (tells : S → Told) (files : Files) (program plan : List ℕ) (inputs : Inputs) (runs : List (LotRun tells))
    (given : AreRunsOfParts tells files program plan inputs runs)
    (uncut : (part : ℕ) (run : LotRun tells) → slice_get runs part ≡ Some run → (site : ℕ) → AreUncut (records_at run site)) where
  -- the records of the book are as little cut as those of the parts
  entries_uncut : (site : ℕ) → AreUncut (entries tells files program plan inputs runs given site)
  entries_uncut site = by (cases_Bool (has_dies inputs.rows site))
    where
      by : (has_dies inputs.rows site ≡ true) ⊎ (has_dies inputs.rows site ≡ false)
          → AreUncut (entries tells files program plan inputs runs given site)
      by (inl has) =
          let found = run_for tells files program plan inputs runs given site in
          subst AreUncut (sym (entries_some tells files program plan inputs runs given site has found.0 found.1))
          (uncut_moved site (records_at found.0 (rank_of inputs.rows site / length runs))
          (uncut (rank_of inputs.rows site % length runs) found.0 found.1 (rank_of inputs.rows site / length runs)))
      by (inr none) = subst AreUncut (sym (entries_none tells files program plan inputs runs given site none)) tt

  -- nor are those of a site that the plan lacks
  book_uncut : (site : ℕ)
      → AreUncut (at_site (book tells files program plan inputs runs given) site).records
  book_uncut site = elim (cases_lt site (sites_of inputs.rows)) [
    | inl within ↦ subst AreUncut (sym (book_at tells files program plan inputs runs given site within)) (entries_uncut site)
    | inr past ↦ subst AreUncut (sym (book_past tells files program plan inputs runs given site past)) tt
  ]

  -- so the merged text is that of the bound plan without cuts
  pub merged_uncut : (logs : List (List (List DieLog))) → AreLogsOf inputs runs logs
      → merged_text inputs.rows logs ≡ uncut_text (bound_of inputs)
  merged_uncut logs are =
      written tells files program plan inputs runs given logs are
      ∙ uncut_lot (bound_of inputs) (book tells files program plan inputs runs given) (book_long tells files program plan inputs runs given)
      (λ site within. subst (AreRecords (part_of (bound_of inputs) site)) (sym (book_at tells files program plan inputs runs given site within))
      (all_records tells files program plan inputs runs given site)) book_uncut

module _ {S : Type 0} (tells : S → Told) where
  -- without cuts it is the text of the bound plan
  pub merged_is_uncut_text : MergedIsUncutText tells
  merged_is_uncut_text files program plan inputs runs given logs are uncut =
      merged_uncut tells files program plan inputs runs given uncut logs are

  -- and the one text of the whole plan
  pub merged_is_one_text : MergedIsOneText tells
  merged_is_one_text files program plan inputs runs given logs are uncut whole one planned nets none =
      text_uncut tells whole none
      ∙ sym (one_uncut files whole.files program plan whole.program whole.plan inputs (said whole) given.are whole.is.are one planned nets)
      ∙ sym (merged_uncut tells files program plan inputs runs given uncut logs are)

  -- so it is that of any division
  pub one_division : OneDivision tells
  one_division inputs inputs' runs runs' logs logs' two uncut uncut' =
      merged_uncut tells two.files two.program two.plan inputs runs two.are uncut logs two.say
      ∙ one_uncut two.files two.others two.program two.plan two.program' two.plan' inputs inputs' two.are.are two.are'.are two.one_program two.one_plan two.nets
      ∙ sym (merged_uncut tells two.others two.program' two.plan' inputs' runs' two.are' uncut' logs' two.say')

  -- ---- seen from outside

  -- quiet runs are uncut
  pub quiet_are_uncut : (runs : List (LotRun tells)) → AreAllQuiet runs → AreAllUncut runs
  quiet_are_uncut runs quiet part run got = all_uncut tells run (quiet part run got)

  pub merged_is_quiet_text : MergedIsQuietText tells
  merged_is_quiet_text files program plan inputs runs given logs are quiet =
      merged_is_uncut_text files program plan inputs runs given logs are (quiet_are_uncut runs quiet)

  pub one_quiet_division : OneQuietDivision tells
  one_quiet_division inputs inputs' runs runs' logs logs' two quiet quiet' =
      one_division inputs inputs' runs runs' logs logs' two (quiet_are_uncut runs quiet) (quiet_are_uncut runs' quiet')
