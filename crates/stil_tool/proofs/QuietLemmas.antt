-- Where no stop was said and no fault was counted, no try is cut, and what is printed is one: `quiet_is_uncut`,
-- `text_uncut`, `text_quiet`, `one_quiet_text`.
use Rattle.std.proofs.Common.{◌≡◌, ℕ, ◌+◌, ◌<◌, ◌≤◌, Bool, true, false, cond, List, [], ◌∷◌, ◌++◌, length, get_or, None, refl, ap, ◌∙◌, subst, sym, arith, inl, inr}
use Rattle.std.specs.Prelude.{count_by, ◌⊎◌, ◌^◌, ◌-◌}
use Rattle.std.specs.List.{AllByRecursion, filter_map, flat_map}
use Rattle.std.proofs.lemmas.Bool.{cases_lt}
use Rattle.std.proofs.lemmas.List.{get_or_past}
use Rattle.std.proofs.lemmas.List.Sums.{sum_by-cons}
use Rattle.std.proofs.lemmas.Option.{none-some}
use Rattle.tester_types.specs.Records.{SiteRecords}
use Rattle.tester_types.specs.declared.record.By.TheVariants as by
use Rattle.tester_types.specs.declared.record.Record.{Record}
use Rattle.tester_types.specs.declared.record.Trial.{Trial}
use Rattle.tester_types.specs.declared.record.Verdict.{Verdict}
use Rattle.tester_types.specs.declared.record.Verdict.TheVariants as verdict
use Rattle.die_sim.specs.Socket.{Told}
use Rattle.plan_rows.specs.Rows.{dies_at}
use Rattle.lot_plan.specs.Bound.{Bound}
use Rattle.site_meaning.specs.Trials.{uncut, cut_of, cut_of_verdict}
use Rattle.site_meaning.specs.Polls.{live_number, live_numbers}
use Rattle.site_meaning.proofs.PartLemmas.{dies_in-part_of}
use Rattle.site_meaning.proofs.TellLemmas.{cons_none, no_climb}
use Rattle.floor_core.specs.Book.{empty_site}
use Rattle.tester_run.specs.Work.{is_contact, contacts_of, contacts_in}
use Rattle.tester_run.specs.Lot.{AreOfSite, said_since}
use Rattle.tool_inputs.specs.Inputs.{bound_of}
use Rattle.lot_laws.specs.Alone.{AreUncut}
use Rattle.lot_laws.proofs.LotLemmas.{uncut_lot}
use Rattle.stil_tool.specs.Alone.{LotRun, said, sites_in, records_at}
use Rattle.stil_tool.specs.Quiet.{IsQuiet, QuietIsUncut, UncutText, QuietText, OneQuietText}
use Rattle.stil_tool.proofs.RunLemmas.{some_item}
use Rattle.stil_tool.proofs.AloneLemmas.{all_at, one_text}

-- ---- no live stop, and no contact

-- a verdict that tells neither cuts nothing
verdict_uncut : (v : Verdict) → live_number v ≡ None → is_contact v ≡ false → cut_of_verdict v ≡ uncut
verdict_uncut verdict.Pass live contact = refl
verdict_uncut (verdict.Fail exec) live contact = refl
verdict_uncut (verdict.Stopped batch by.Plan) live contact = refl
verdict_uncut (verdict.Stopped batch (by.Desk n)) live contact = absurd (none-some n (sym live))
verdict_uncut (verdict.Contact at) live contact = absurd (let no : true ≡ false = contact in cc)

-- a count to which one may have been added is 0
none_counted : (b : Bool) (more : ℕ) → cond {A = ℕ} b 1 0 + more ≡ 0 → (b ≡ false) × (more ≡ 0)
none_counted false more e = (refl, omega (arith, e))
none_counted true more e = absurd (omega (arith, e))

-- so with tries
tries_uncut : (trials : List Trial) → filter_map (λ (t : Trial). live_number t.verdict) trials ≡ []
    → count_by (λ (t : Trial). is_contact t.verdict) trials ≡ 0 → AllByRecursion (λ (t : Trial). cut_of t ≡ uncut) trials
tries_uncut [] lives contacts = tt
tries_uncut (t ∷ trials) lives contacts =
    let live = cons_none (live_number t.verdict) (filter_map (λ (u : Trial). live_number u.verdict) trials) lives in
    let contact = none_counted (is_contact t.verdict) (count_by (λ (u : Trial). is_contact u.verdict) trials)
    (sym (sum_by-cons (λ (u : Trial). cond {A = ℕ} (is_contact u.verdict) 1 0) t trials) ∙ contacts) in
    (verdict_uncut t.verdict live.0 contact.0, tries_uncut trials live.1 contact.1)

-- two lists that are empty together
both_empty : (a b : List ℕ) → a ++ b ≡ [] → (a ≡ []) × (b ≡ [])
both_empty [] b e = (refl, e)
both_empty (x ∷ a) b e = absurd (let no : x ∷ (a ++ b) ≡ [] = e in cc)

-- and with records
records_uncut : (entries : List Record) → flat_map live_numbers entries ≡ [] → contacts_in entries ≡ 0 → AreUncut entries
unfolding live_numbers
records_uncut [] lives contacts = tt
records_uncut (e ∷ entries) lives contacts =
    let live = both_empty (live_numbers e) (flat_map live_numbers entries) lives in
    let sums : contacts_of e + contacts_in entries ≡ 0 = sym (sum_by-cons contacts_of e entries) ∙ contacts in (
      tries_uncut e.trials live.0 (omega (arith, sums)),
      records_uncut entries live.1 (omega (arith, sums)),
    )

-- ---- a site

-- no stop was said, and the count neither was full nor rose
site_uncut : (plan : Bound) (site stops : ℕ) (told told' : Told) (entries : List Record) → stops ≤ 0
    → ((told.count < 2 ^ 64 - 1 → told.count < told'.count) → ⊥) → AreOfSite plan site stops told told' entries
    → AreUncut entries
site_uncut plan site stops told told' entries few quiet is =
    records_uncut entries
    (no_climb 0 is.last (flat_map live_numbers entries) is.rise (omega (arith, is.within, few)))
    (no_more (cases_lt told.count told'.count))
  where
    no_more : (told.count < told'.count) ⊎ (told'.count ≤ told.count) → contacts_in entries ≡ 0
    no_more (inl rose) = absurd (quiet (λ _. rose))
    no_more (inr same) = by (cases_lt told.count (2 ^ 64 - 1))
      where
        by : (told.count < 2 ^ 64 - 1) ⊎ (2 ^ 64 - 1 ≤ told.count) → contacts_in entries ≡ 0
        by (inl room) = omega (arith, room, same, is.contacts)
        by (inr full) = absurd (quiet (λ room. absurd (omega (arith, room, full))))

-- a list without items has none that is cut
empty_uncut : (entries : List Record) → length entries ≤ 0 → AreUncut entries
empty_uncut [] none = tt
empty_uncut (e ∷ entries) none = absurd (omega (arith, none))

-- ---- a run

module _ {S : Type 0} (tells : S → Told) where
  -- past the last site there are no records
  past_none : (run : LotRun tells) (site : ℕ) → sites_in run ≤ site → AreUncut (records_at run site)
  past_none run site past =
      subst (λ (l : List Record). AreUncut l)
      (sym (ap (λ (s : SiteRecords). s.records) (get_or_past run.is.lot.book site (empty_site 0) (omega (arith, past, run.is.lot.is.all))))) tt

  -- where it is quiet no try is cut
  pub quiet_is_uncut : QuietIsUncut tells
  quiet_is_uncut run site quiet = elim (cases_lt site (sites_in run)) [
    | inl within ↦
        let socket : S = some_item run.old.sockets (omega (arith, within, run.is.enough)) in
        site_uncut (bound_of (said run)) site (said_since run.old.stops run.new.stops site)
        (tells (get_or run.old.sockets site socket)) (tells (get_or run.new.sockets site socket)) (records_at run site)
        (omega (arith, quiet.stops)) (quiet.faults socket) (run.is.lot.is.records site socket within)
    | inr past ↦ past_none run site past
  ]

  -- nor at a site without dies
  no_die_uncut : (run : LotRun tells) (site : ℕ) → length (dies_at site (said run).rows) ≤ 0 → AreUncut (records_at run site)
  no_die_uncut run site none = elim (cases_lt site (sites_in run)) [
    | inl within ↦ empty_uncut (records_at run site)
        (omega (arith, none, (all_at tells run site within).all, dies_in-part_of (bound_of (said run)) site))
    | inr past ↦ past_none run site past
  ]

  -- so none of a quiet run is
  pub all_uncut : (run : LotRun tells) → IsQuiet run → (site : ℕ) → AreUncut (records_at run site)
  all_uncut run quiet site = elim (cases_lt 0 (length (dies_at site (said run).rows))) [
    | inl some ↦ quiet_is_uncut run site (quiet site some)
    | inr none ↦ no_die_uncut run site none
  ]

  -- without cuts the text is that of the bound plan
  pub text_uncut : UncutText tells
  text_uncut run none =
      run.is.lot.written ∙ uncut_lot (bound_of (said run)) run.is.lot.book run.is.lot.is.all (all_at tells run) none

  pub text_quiet : QuietText tells
  text_quiet run quiet = text_uncut run (all_uncut run quiet)

  -- and one
  pub one_quiet_text : OneQuietText tells
  one_quiet_text run other one planned nets quiet quiet' =
      one_text tells run other one planned nets (all_uncut run quiet) (all_uncut other quiet')
