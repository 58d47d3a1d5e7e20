-- The floors of the parts as one: between them the book of the whole plan is one of the lot, `is_book`.
use Rattle.std.proofs.Common.{◌≡◌, ◌⊎◌, ℕ, ◌/◌, ◌%◌, ◌<◌, ◌≤◌, true, false, List, [], length, map, get_or, Some, refl, sym, ap, ◌∙◌, subst, arith, inl, inr}
use Rattle.std.specs.Prelude.{slice_get, nat_lt, ◌-◌}
use Rattle.std.proofs.lemmas.Bool.{cases_Bool, lt-ltb}
use Rattle.std.proofs.lemmas.List.{length-map, drop_all}
use Rattle.tester_types.specs.Outside.{Files}
use Rattle.tester_types.specs.declared.record.Record.{Record}
use Rattle.die_sim.specs.Socket.{Told}
use Rattle.plan_rows.specs.Rows.{dies_at, sites_of}
use Rattle.floor_core.specs.Book.{at_site}
use Rattle.tester_run.specs.Lot.{AreOfSite, AreOfLot, AreLeft, said_since}
use Rattle.tool_inputs.specs.Inputs.{Inputs, bound_of}
use Rattle.stil_tool.specs.Lot.{Floor, IsBook}
use Rattle.stil_tool.specs.Alone.{LotRun, said}
use Rattle.plan_parts.specs.Cut.{has_dies, rank_of}
use Rattle.part_laws.specs.Runs.{no_floor, stops_for, joined, AreRunsOfParts}
use Rattle.part_laws.proofs.Joined.{got_at, all_sockets, idle_at, own_socket, own_stops}
use Rattle.part_laws.proofs.PartSite.{low, some_dies, own_records, of_site}
use Rattle.part_laws.proofs.SiteBack.{site_none}
use Rattle.lot_plan.specs.Bound.{Bound}
use Rattle.part_laws.proofs.WholeBook.{entries, entries_none, entries_some, run_for, book, book_long, book_at, no_dies}

-- ---- a site

-- what is so of a site with sockets, stops and records that are equal to these
so_too : {S : Type 0} (tells : S → Told) (bound : Bound) (site said said' : ℕ) (s s' t t' : S)
    (entries entries' : List Record)
    → said ≡ said' → s ≡ s' → t ≡ t' → entries ≡ entries'
    → AreOfSite bound site said (tells s) (tells t) entries
    → AreOfSite bound site said' (tells s') (tells t') entries'
so_too {S} tells bound site said said' s s' t t' entries entries' a b c d is =
    subst (λ (n : ℕ). AreOfSite bound site n (tells s') (tells t') entries') a
    (subst (λ (x : S). AreOfSite bound site said (tells x) (tells t') entries') b
    (subst (λ (x : S). AreOfSite bound site said (tells s) (tells x) entries') c
    (subst (λ (l : List Record). AreOfSite bound site said (tells s) (tells t) l) d is)))

module _ {S : Type 0} (tells : S → Told) (files : Files) (program plan : List ℕ) (inputs : Inputs) (runs : List (LotRun tells))
    (given : AreRunsOfParts tells files program plan inputs runs) (idle : S) where
  -- the parts' floors before and now, and the one of all
  abbrev olds : List (Floor S)
  olds = map (λ (run : LotRun tells). run.old) runs

  abbrev news : List (Floor S)
  news = map (λ (run : LotRun tells). run.new) runs

  abbrev before : Floor S
  before = joined idle olds inputs.rows

  abbrev after : Floor S
  after = joined idle news inputs.rows

  module _ (site : ℕ) (has : has_dies inputs.rows site ≡ true) (run : LotRun tells)
      (got : slice_get runs (rank_of inputs.rows site % length runs) ≡ Some run) where
    -- its number in its part
    abbrev place : ℕ
    place = rank_of inputs.rows site / length runs

    -- its part's floor, before and now
    old_floor : get_or olds (rank_of inputs.rows site % length runs) no_floor ≡ run.old
    old_floor = got_at (λ (r : LotRun tells). r.old) runs (rank_of inputs.rows site % length runs) run no_floor got

    new_floor : get_or news (rank_of inputs.rows site % length runs) no_floor ≡ run.new
    new_floor = got_at (λ (r : LotRun tells). r.new) runs (rank_of inputs.rows site % length runs) run no_floor got

    -- there are as many floors as runs
    old_long : length olds ≡ length runs
    old_long = length-map runs (λ (r : LotRun tells). r.old)

    new_long : length news ≡ length runs
    new_long = length-map runs (λ (r : LotRun tells). r.new)

    -- its socket, before and now
    old_socket : (socket : S) → site < sites_of inputs.rows
        → get_or before.sockets site socket ≡ get_or run.old.sockets place idle
    old_socket socket within = own_socket idle olds inputs.rows site has run.old (length runs) old_long old_floor socket within

    new_socket : (socket : S) → site < sites_of inputs.rows
        → get_or after.sockets site socket ≡ get_or run.new.sockets place idle
    new_socket socket within = own_socket idle news inputs.rows site has run.new (length runs) new_long new_floor socket within

    -- the stops that were said for it
    said_there : said_since run.old.stops run.new.stops place
        ≡ said_since before.stops after.stops site
    said_there =
        ap (λ (n : ℕ). run.new.stops place - n) (sym (own_stops idle olds inputs.rows site has run.old (length runs) old_long old_floor))
        ∙ ap (λ (n : ℕ). n - stops_for olds inputs.rows site)
        (sym (own_stops idle news inputs.rows site has run.new (length runs) new_long new_floor))

  -- ---- all sites

  -- each site's whole list
  of_lot : AreOfLot tells (bound_of inputs) (said_since before.stops after.stops)
      before.sockets after.sockets
      (book tells files program plan inputs runs given)
  of_lot site socket within = by (cases_Bool (has_dies inputs.rows site))
    where
      by : (has_dies inputs.rows site ≡ true) ⊎ (has_dies inputs.rows site ≡ false)
          → AreOfSite (bound_of inputs) site (said_since before.stops after.stops site)
          (tells (get_or before.sockets site socket))
          (tells (get_or after.sockets site socket)) (at_site (book tells files program plan inputs runs given) site).records
      by (inl has) =
          let found = run_for tells files program plan inputs runs given site in
          let place : ℕ = rank_of inputs.rows site / length runs in
          so_too tells (bound_of inputs) site (said_since found.0.old.stops found.0.new.stops place) (said_since before.stops after.stops site)
          (get_or found.0.old.sockets place idle) (get_or before.sockets site socket)
          (get_or found.0.new.sockets place idle) (get_or after.sockets site socket)
          (own_records tells files program plan inputs runs given site has found.0 found.1)
          (at_site (book tells files program plan inputs runs given) site).records
          (said_there site has found.0 found.1) (sym (old_socket site has found.0 found.1 socket within))
          (sym (new_socket site has found.0 found.1 socket within))
          (sym (book_at tells files program plan inputs runs given site within
          ∙ entries_some tells files program plan inputs runs given site has found.0 found.1))
          (of_site tells files program plan inputs runs given site has found.0 found.1 idle)
      by (inr none) =
          so_too tells (bound_of inputs) site (said_since before.stops after.stops site) (said_since before.stops after.stops site)
          idle (get_or before.sockets site socket) idle (get_or after.sockets site socket)
          [] (at_site (book tells files program plan inputs runs given) site).records
          refl (sym (idle_at idle olds inputs.rows site socket within none)) (sym (idle_at idle news inputs.rows site socket within none))
          (sym (book_at tells files program plan inputs runs given site within ∙ entries_none tells files program plan inputs runs given site none))
          (site_none (bound_of inputs) site (said_since before.stops after.stops site) (tells idle)
          (no_dies tells files program plan inputs runs given site none))

  -- no count of faults fell
  counts : (site : ℕ) (socket : S) → site < length before.sockets
      → (tells (get_or before.sockets site socket)).count ≤ (tells (get_or after.sockets site socket)).count
  counts site socket there = by (cases_Bool (has_dies inputs.rows site))
    where
      within : site < sites_of inputs.rows
      within = omega (arith, there, all_sockets idle olds inputs.rows)

      by : (has_dies inputs.rows site ≡ true) ⊎ (has_dies inputs.rows site ≡ false)
          → (tells (get_or before.sockets site socket)).count ≤ (tells (get_or after.sockets site socket)).count
      by (inl has) =
          let found = run_for tells files program plan inputs runs given site in
          let run : LotRun tells = found.0 in
          let place : ℕ = rank_of inputs.rows site / length runs in
          let low_there = low tells files program plan inputs runs given site has found.0 found.1 in
          let own = found.0.is.lot.is.left.count place idle (omega (arith, low_there, found.0.is.enough)) in
          omega (
            arith,
            own,
            ap (λ (s : S). (tells s).count) (old_socket site has found.0 found.1 socket within),
            ap (λ (s : S). (tells s).count) (new_socket site has found.0 found.1 socket within),
          )
      by (inr none) =
          omega (
            arith,
            ap (λ (s : S). (tells s).count) (idle_at idle olds inputs.rows site socket within none),
            ap (λ (s : S). (tells s).count) (idle_at idle news inputs.rows site socket within none),
          )

  -- what is left of the sockets
  left : AreLeft tells (bound_of inputs) before.sockets after.sockets
  left = record {
    all = all_sockets idle news inputs.rows ∙ sym (all_sockets idle olds inputs.rows);
    beyond = drop_all (sites_of inputs.rows) after.sockets (omega (arith, all_sockets idle news inputs.rows))
        ∙ sym (drop_all (sites_of inputs.rows) before.sockets (omega (arith, all_sockets idle olds inputs.rows)));
    idle = λ site socket there none.
        let within : site < sites_of inputs.rows = omega (arith, there, all_sockets idle olds inputs.rows) in
        idle_at idle news inputs.rows site socket within (ap (nat_lt 0) none)
        ∙ sym (idle_at idle olds inputs.rows site socket within (ap (nat_lt 0) none));
    unloaded = λ site socket within some.
        let has : has_dies inputs.rows site ≡ true = lt-ltb 0 (length (dies_at site inputs.rows)) some in
        let found = run_for tells files program plan inputs runs given site in
        ap (λ (s : S). (tells s).loaded) (new_socket site has found.0 found.1 socket within)
        ∙ found.0.is.lot.is.left.unloaded (rank_of inputs.rows site / length runs) idle
        (low tells files program plan inputs runs given site has found.0 found.1)
        (some_dies tells files program plan inputs runs given site has found.0 found.1);
    count = counts;
  }

  -- the book is one of the lot between these floors
  pub is_book : IsBook tells (bound_of inputs)
      before after (book tells files program plan inputs runs given)
  is_book = record { asked = refl; all = book_long tells files program plan inputs runs given; records = of_lot; left = left }
