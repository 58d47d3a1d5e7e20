-- What all sites leave, of what their jobs left.
use Rattle.std.proofs.Common.{◌≡◌, ℕ, zero, suc, ◌+◌, ◌-◌, ◌<◌, ◌≤◌, None, List, [], ◌∷◌, ◌++◌, All, Bool, false, length, take, drop, get_or, slice_index, slice_index_or, inl, inr, refl, sym, ap, ◌∙◌, subst, arith}
use Rattle.std.specs.List.{list_any}
use Rattle.std.proofs.Math.Seq.{take-append_seam, drop-append_seam}
use Rattle.std.proofs.lemmas.Bool.{or_parts, cases_lt}
use Rattle.std.proofs.lemmas.List.{get_or-map, get_or_append_left, get_or-append_right, length-append, length-map}
use Rattle.std.proofs.lemmas.List.Elements.{All-map}
use Rattle.std.proofs.lemmas.List.FromFn.{get_or-map-range_with_len, length-map-range_with_len}
use Rattle.tester_types.specs.Records.{SiteRecords}
use Rattle.atomic_table.specs.Seated.{TableId}
use Rattle.pattern_mem.specs.Memory.{Memory}
use Rattle.die_sim.specs.Socket.{Told}
use Rattle.plan_rows.specs.Rows.{sites_of, dies_at}
use Rattle.lot_plan.specs.Bound.{Bound}
use Rattle.floor_core.specs.Book.{at_site}
use Rattle.lot_book.specs.Shares.{BookFacts, ShareFacts, new_share, new_shares}
use Rattle.stop_board.specs.Seats.{SiteFacts, new_seat, new_seats}
use Rattle.tester_run.specs.Jobs.{IsNew, IsDone, shares_of, seats_of, sockets_of, AreNew, AreDone}
use Rattle.tester_run.specs.declared.jobs.Job.{Job}
use Rattle.tester_run.specs.Lot.{AreOfSite, AreOfLot, AreLeft}

-- none of a list passes a test that none of it passes
not_any : {X : Type 0} (test : X → Bool) (xs : List X) (k : ℕ) (d : X) → list_any test xs ≡ false → k < length xs
    → test (get_or xs k d) ≡ false
not_any test [] k d none inside = absurd (omega (arith, inside))
not_any test (x ∷ xs) zero d none inside = (or_parts (test x) (list_any test xs) none).0
not_any test (x ∷ xs) (suc k) d none inside = not_any test xs k d (or_parts (test x) (list_any test xs) none).1 (omega (arith, inside))

-- new shares are as many as the sites
pub new_are : (book : BookFacts) (sites : ℕ) (shares : List ShareFacts) → shares ≡ new_shares book sites → length shares ≡ sites
new_are book sites shares new = ap (λ (l : List ShareFacts). length l) new ∙ length-map-range_with_len (new_share book) 0 sites

-- ---- what a job has

abbrev its_share : {S : Type 0} → Job S → ShareFacts
its_share j = j.share

abbrev its_seat : {S : Type 0} → Job S → SiteFacts
its_seat j = j.seat

abbrev its_socket : {S : Type 0} → Job S → S
its_socket j = j.socket

abbrev pub has_failed : {S : Type 0} → Job S → Bool
has_failed j = j.failed

-- ---- each job is that of its site

-- there is a job for each site
jobs_are : {S : Type 0} (book : BookFacts) (sites : ℕ) (jobs : List (Job S)) → shares_of jobs ≡ new_shares book sites → length jobs ≡ sites
jobs_are book sites jobs shares = sym (length-map jobs its_share) ∙ new_are book sites (shares_of jobs) shares

-- the share of each is new
share_at : {S : Type 0} (book : BookFacts) (sites : ℕ) (jobs : List (Job S)) (k : ℕ) (d : Job S) → shares_of jobs ≡ new_shares book sites
    → k < length jobs → (get_or jobs k d).share ≡ new_share book k
share_at book sites jobs k d shares inside =
    let within : k < sites = let many = jobs_are book sites jobs shares in omega (arith, many, inside) in
    sym (get_or-map its_share jobs k d d.share inside) ∙ ap (λ (l : List ShareFacts). get_or l k d.share) shares
    ∙ get_or-map-range_with_len (new_share book) 0 sites k k d.share within (omega arith)

-- and so is its seat
seat_at : {S : Type 0} (board : TableId) (sites : ℕ) (jobs : List (Job S)) (k : ℕ) (d : Job S) → seats_of jobs ≡ new_seats board sites
    → k < length jobs → (get_or jobs k d).seat ≡ new_seat board k
seat_at board sites jobs k d seats inside =
    let many : length jobs ≡ sites =
    sym (length-map jobs its_seat) ∙ ap (λ (l : List SiteFacts). length l) seats ∙ length-map-range_with_len (new_seat board) 0 sites in
    sym (get_or-map its_seat jobs k d d.seat inside) ∙ ap (λ (l : List SiteFacts). get_or l k d.seat) seats
    ∙ get_or-map-range_with_len (new_seat board) 0 sites k k d.seat (omega (arith, many, inside)) (omega arith)

-- each is new, with a seat of the board
pub is_new : {S : Type 0} (mem : Memory) (plan : Bound) (book : BookFacts) (board : TableId) (jobs : List (Job S))
    → AreNew mem plan book board jobs → (k : ℕ) (d : Job S) → k < length jobs
    → IsNew mem plan book (get_or jobs k d).share (get_or jobs k d).seat (get_or jobs k d).pass
    × ((get_or jobs k d).seat.board ≡ board)
is_new mem plan book board jobs new k d inside =
    let shared = share_at book (sites_of plan.rows) jobs k d new.shares inside in
    let seated = seat_at board (sites_of plan.rows) jobs k d new.seats inside in
    let site = ap (λ (s : ShareFacts). s.site) shared in
    let its_board = ap (λ (s : SiteFacts). s.board) seated in
    let many = jobs_are book (sites_of plan.rows) jobs new.shares in (
      record {
        share_is = shared ∙ ap (new_share book) (sym site);
        seat_is = seated ∙ ap (λ (b : TableId). new_seat b k) (sym its_board)
            ∙ ap (new_seat (get_or jobs k d).seat.board) (sym site);
        pass_is = new.passes k d inside;
        planned = omega (arith, site, many, inside);
      },
      its_board,
    )

-- what was closed behind them: the book and the board, of stops that the desk said
pub record AreClosed {S : Type 0} (done : List (Job S)) (asked : List ℕ) (said : ℕ → ℕ) (state : List SiteRecords)
    : Type 0 where
  pub none_failed : list_any has_failed done ≡ false
  pub records : All (λ (s : ShareFacts). (at_site state s.site).records ≡ s.records) (shares_of done)
  pub seen : All (λ (s : SiteFacts). s.seen ≤ slice_index asked s.site) (seats_of done)
  pub said_so : (site : ℕ) → slice_index asked site ≤ said site

module _ {S : Type 0} (told : S → Told) where
  -- ---- they are done

  -- jobs that are lent as a slice come back done
  pub jobs_done : (mem : Memory) (plan : Bound) (book : BookFacts) (board : TableId) (jobs lent done : List (Job S)) (many : ℕ)
      → AreNew mem plan book board jobs → lent ≡ jobs → length lent ≡ many → length done ≡ length lent
      → ((k : ℕ) (d : Job S) → k < length lent
      → IsDone told plan (get_or lent k d).socket (get_or done k d).socket (get_or lent k d).share (get_or done k d).share
      (get_or lent k d).seat (get_or done k d).seat (get_or done k d).failed)
      → AreDone told plan book board jobs (take many (done ++ drop (length done) jobs))
  jobs_done mem plan book board jobs lent done many new same whole all each =
      let back : take many (done ++ drop (length done) jobs) ≡ done =
      ap (λ (n : ℕ). take n (done ++ drop (length done) jobs)) (sym whole ∙ sym all)
      ∙ take-append_seam done (drop (length done) jobs) in
      subst (AreDone told plan book board jobs) (sym back)
      (subst (λ (l : List (Job S)). AreDone told plan book board l done) same
      (record {
        shares = ap (λ (l : List (Job S)). shares_of l) same ∙ new.shares;
        seats = ap (λ (l : List (Job S)). seats_of l) same ∙ new.seats;
        all = all;
        each = each;
      }))

  -- ---- they come back to the book and the board

  -- there is one for each site still
  pub done_are : (plan : Bound) (book : BookFacts) (board : TableId) (jobs done : List (Job S)) → AreDone told plan book board jobs done
      → length done ≡ sites_of plan.rows
  done_are plan book board jobs done a = a.all ∙ jobs_are book (sites_of plan.rows) jobs a.shares

  -- their shares are of the book
  pub shares_of_book : (plan : Bound) (book : BookFacts) (board : TableId) (jobs done : List (Job S)) → AreDone told plan book board jobs done
      → All (λ (s : ShareFacts). s.book ≡ book) (shares_of done)
  shares_of_book plan book board jobs done a =
      All-map (λ (s : ShareFacts). s.book ≡ book) its_share done
      (λ k d there. let same = a.all in let inside : k < length jobs = omega (arith, same, there) in
      ap (λ (s : ShareFacts). s.book) (a.each k d inside).share_is
      ∙ ap (λ (s : ShareFacts). s.book) (share_at book (sites_of plan.rows) jobs k d a.shares inside))

  -- their seats are of the board
  pub seats_of_board : (plan : Bound) (book : BookFacts) (board : TableId) (jobs done : List (Job S)) → AreDone told plan book board jobs done
      → All (λ (s : SiteFacts). s.board ≡ board) (seats_of done)
  seats_of_board plan book board jobs done a =
      All-map (λ (s : SiteFacts). s.board ≡ board) its_seat done
      (λ k d there. let same = a.all in let inside : k < length jobs = omega (arith, same, there) in
      ap (λ (s : SiteFacts). s.board) (a.each k d inside).seat_is
      ∙ ap (λ (s : SiteFacts). s.board) (seat_at board (sites_of plan.rows) jobs k d a.seats inside))

  -- ---- the records of each site

  -- a site's records are its whole list
  site_is_done : (plan : Bound) (book : BookFacts) (board : TableId) (jobs done : List (Job S)) (asked : List ℕ) (said : ℕ → ℕ)
      (state : List SiteRecords) (site : ℕ) (d : Job S) → AreDone told plan book board jobs done → AreClosed done asked said state
      → site < length jobs
      → AreOfSite plan site (said site) (told (get_or jobs site d).socket) (told (get_or done site d).socket)
      (at_site state site).records
  site_is_done plan book board jobs done asked said state site d a closed inside =
      let there : site < length done = let same = a.all in omega (arith, same, inside) in
      let each = a.each site d inside in
      let own : (get_or jobs site d).share.site ≡ site =
      ap (λ (s : ShareFacts). s.site) (share_at book (sites_of plan.rows) jobs site d a.shares inside) in
      let work = each.work (not_any has_failed done site d closed.none_failed there) in
      let left = (get_or done site d).share in
      let seat_left = (get_or done site d).seat in
      let site_left : left.site ≡ site = ap (λ (s : ShareFacts). s.site) each.share_is ∙ own in
      let seat_site : seat_left.site ≡ site =
      ap (λ (s : SiteFacts). s.site) each.seat_is
      ∙ ap (λ (s : SiteFacts). s.site) (seat_at board (sites_of plan.rows) jobs site d a.seats inside) in
      let shared : get_or (shares_of done) site left ≡ left = get_or-map its_share done site d left there in
      let seated : get_or (seats_of done) site seat_left ≡ seat_left = get_or-map its_seat done site d seat_left there in
      let records : (at_site state site).records ≡ left.records =
      subst (λ (n : ℕ). (at_site state n).records ≡ left.records) site_left
      (subst (λ (s : ShareFacts). (at_site state s.site).records ≡ s.records) shared
      (closed.records site left (let long = length-map done its_share in omega (arith, long, there)))) in
      let seen : seat_left.seen ≤ slice_index asked site =
      subst (λ (n : ℕ). seat_left.seen ≤ slice_index asked n) seat_site
      (subst (λ (s : SiteFacts). s.seen ≤ slice_index asked s.site) seated
      (closed.seen site seat_left (let long = length-map done its_seat in omega (arith, long, there)))) in
      let before = told (get_or jobs site d).socket in
      let now = told (get_or done site d).socket in
      subst (AreOfSite plan site (said site) before now) (sym records)
      (subst (λ (n : ℕ). AreOfSite plan n (said site) before now left.records) own
      (record {
        records_are = work.records_are;
        last = work.lives.last;
        rise = work.lives.rise;
        within = let least = work.lives.within in let most = closed.said_so site in omega (arith, least, seen, most);
        contacts = work.contacts;
        taped = work.taped;
      }))

  -- ---- the sockets

  -- there is a job where there are some
  a_job : (jobs : List (Job S)) → 0 < length jobs → Job S
  a_job [] some = absurd (omega (arith, some))
  a_job (j ∷ js) some = j

  -- what is behind the jobs' sockets
  behind : (jobs : List (Job S)) (rest sockets : List S) (sites : ℕ) → length jobs ≡ sites → sockets ≡ sockets_of jobs ++ rest
      → drop sites sockets ≡ rest
  behind jobs rest sockets sites many are =
      ap (λ (n : ℕ). drop n sockets) (sym many ∙ sym (length-map jobs its_socket)) ∙ ap (drop (length (sockets_of jobs))) are
      ∙ drop-append_seam (sockets_of jobs) rest

  -- what is so of each job's socket before and now is so of all, if it is where nothing was done
  each_socket : (P : ℕ → S → S → Type 0) (jobs done : List (Job S)) (before now rest : List S) → length done ≡ length jobs
      → before ≡ sockets_of jobs ++ rest → now ≡ sockets_of done ++ rest
      → ((k : ℕ) (d : Job S) → k < length jobs → P k (get_or jobs k d).socket (get_or done k d).socket)
      → ((k : ℕ) (s : S) → length jobs ≤ k → P k s s) → (site : ℕ) (s : S)
      → P site (slice_index_or before site s) (slice_index_or now site s)
  each_socket P jobs done before now rest all old new own other site s = elim (cases_lt site (length jobs)) [
    | inl inside ↦
        let there : site < length done = omega (arith, all, inside) in
        let d = a_job jobs (omega (arith, inside)) in
        let was : slice_index_or before site s ≡ (get_or jobs site d).socket =
        ap (λ (l : List S). get_or l site s) old
        ∙ get_or_append_left (sockets_of jobs) rest s site (let long = length-map jobs its_socket in omega (arith, long, inside))
        ∙ get_or-map its_socket jobs site d s inside in
        let is : slice_index_or now site s ≡ (get_or done site d).socket =
        ap (λ (l : List S). get_or l site s) new
        ∙ get_or_append_left (sockets_of done) rest s site (let long = length-map done its_socket in omega (arith, long, there))
        ∙ get_or-map its_socket done site d s there in
        subst (λ (x : S). P site x (slice_index_or now site s)) (sym was)
        (subst (λ (x : S). P site (get_or jobs site d).socket x) (sym is) (own site d inside))
    | inr beyond ↦
        let was : slice_index_or before site s ≡ get_or rest (site - length jobs) s =
        ap (λ (l : List S). get_or l site s) old
        ∙ get_or-append_right (sockets_of jobs) rest (length jobs) site s (length-map jobs its_socket) beyond in
        let is : slice_index_or now site s ≡ get_or rest (site - length jobs) s =
        ap (λ (l : List S). get_or l site s) new
        ∙ get_or-append_right (sockets_of done) rest (length jobs) site s (length-map done its_socket ∙ all) beyond in
        subst (λ (x : S). P site x (slice_index_or now site s)) (sym was)
        (subst (λ (x : S). P site (get_or rest (site - length jobs) s) x) (sym is)
        (other site (get_or rest (site - length jobs) s) beyond))
  ]

  -- all sites' records are theirs, with the sockets in their order
  pub all_are_done : (plan : Bound) (book : BookFacts) (board : TableId) (jobs done : List (Job S)) (asked : List ℕ) (said : ℕ → ℕ)
      (state : List SiteRecords) (before now rest : List S) → AreDone told plan book board jobs done → AreClosed done asked said state
      → before ≡ sockets_of jobs ++ rest → now ≡ sockets_of done ++ rest → AreOfLot told plan said before now state
  all_are_done plan book board jobs done asked said state before now rest a closed old new site s within =
      each_socket
      (λ (n : ℕ) (x y : S). n < sites_of plan.rows
      → AreOfSite plan n (said n) (told x) (told y) (at_site state n).records)
      jobs done before now rest a.all old new
      (λ k d inside planned. site_is_done plan book board jobs done asked said state k d a closed inside)
      (λ k x beyond planned.
      absurd (let many = jobs_are book (sites_of plan.rows) jobs a.shares in omega (arith, many, beyond, planned)))
      site s within

  -- the sockets are in their order, and where nothing was done as they were
  pub are_left : (plan : Bound) (book : BookFacts) (board : TableId) (jobs done : List (Job S)) (before now rest : List S)
      → AreDone told plan book board jobs done → before ≡ sockets_of jobs ++ rest → now ≡ sockets_of done ++ rest
      → AreLeft told plan before now
  are_left plan book board jobs done before now rest a old new =
      let many = jobs_are book (sites_of plan.rows) jobs a.shares in
      record {
        all = ap (λ (l : List S). length l) new ∙ length-append (sockets_of done) rest
            ∙ ap (λ (n : ℕ). n + length rest) (length-map done its_socket ∙ a.all ∙ sym (length-map jobs its_socket))
            ∙ sym (length-append (sockets_of jobs) rest) ∙ ap (λ (l : List S). length l) (sym old);
        beyond = behind done rest now (sites_of plan.rows) (a.all ∙ many) new
            ∙ sym (behind jobs rest before (sites_of plan.rows) many old);
        idle = λ site s inside none.
            each_socket (λ (n : ℕ) (x y : S). length (dies_at n plan.rows) ≡ 0 → y ≡ x) jobs done before now rest a.all old new
            (λ k d own empty. (a.each k d own).idle
            (ap (λ (t : ShareFacts). length (dies_at t.site plan.rows)) (share_at book (sites_of plan.rows) jobs k d a.shares own) ∙ empty))
            (λ k x beyond empty. refl) site s none;
        unloaded = λ site s within some.
            each_socket
            (λ (n : ℕ) (x y : S). n < sites_of plan.rows → 0 < length (dies_at n plan.rows) → (told y).loaded ≡ None)
            jobs done before now rest a.all old new
            (λ k d own planned die. (a.each k d own).unloaded
            (subst (λ (n : ℕ). 0 < length (dies_at n plan.rows))
            (sym (ap (λ (t : ShareFacts). t.site) (share_at book (sites_of plan.rows) jobs k d a.shares own))) die))
            (λ k x beyond planned die. absurd (omega (arith, many, beyond, planned))) site s within some;
        count = λ site s inside.
            each_socket (λ (n : ℕ) (x y : S). (told x).count ≤ (told y).count) jobs done before now rest a.all old new
            (λ k d own. (a.each k d own).count) (λ k x beyond. omega arith) site s;
      }
