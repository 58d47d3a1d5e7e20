-- The work of sites as jobs that go to threads and come back.
use Rattle.std.specs.Prelude.{◌≡◌, ℕ, ◌<◌, ◌≤◌, Bool, true, false, Option, Some, None, List, All, length, map, slice_index_or}
use Rattle.atomic_table.specs.Seated.{TableId}
use Rattle.pattern_mem.specs.Memory.{Memory}
use Rattle.die_sim.specs.Socket.{Told}
use Rattle.plan_rows.specs.Rows.{sites_of, dies_at}
use Rattle.lot_plan.specs.Bound.{Bound}
use Rattle.site_meaning.specs.Part.{part_of}
use Rattle.lot_book.specs.Shares.{BookFacts, ShareFacts, new_share, new_shares}
use Rattle.stop_board.specs.Seats.{SiteFacts, new_seat, new_seats}
use Rattle.tester_run.specs.Work.{IsWork}
use Rattle.tester_run.specs.declared.jobs.Job.{Job}

-- a job of a site of the plan that wasn't begun: its share, its seat and its pass are new
pub record IsNew (mem : Memory) (plan : Bound) (book : BookFacts) (share : ShareFacts) (seat : SiteFacts)
    (pass : Option Memory) : Type 0 where
  pub share_is : share ≡ new_share book share.site
  pub seat_is : seat ≡ new_seat seat.board share.site
  pub pass_is : pass ≡ Some mem
  pub planned : share.site < sites_of plan.rows

-- a seat that has finished, of what it was before
abbrev pub finished_as : SiteFacts → SiteFacts → SiteFacts
finished_as before now = record before { seen = now.seen; polls = now.polls; finished = true }

-- a job that is done, of its socket, its share and its seat before and now, and whether memory ran out: then the site's
-- work is done, else the share has some of its records. The socket of a site without dies is as it was, and in any
-- other no die is left
pub record IsDone {S : Type 0} (told : S → Told) (plan : Bound) (socket socket' : S) (share share' : ShareFacts)
    (seat seat' : SiteFacts) (failed : Bool) : Type 0 where
  pub share_is : share' ≡ record share { records = share'.records }
  pub seat_is : seat' ≡ finished_as seat seat'
  pub work : failed ≡ false
      → IsWork (part_of plan share.site) seat seat' (told socket) (told socket') share'.records
  pub idle : length (dies_at share.site plan.rows) ≡ 0 → socket' ≡ socket
  pub unloaded : 0 < length (dies_at share.site plan.rows) → (told socket').loaded ≡ None
  pub count : (told socket).count ≤ (told socket').count

-- the shares of these jobs
abbrev pub shares_of : {S : Type 0} → List (Job S) → List ShareFacts
shares_of jobs = map (λ j. j.share) jobs

-- their seats
abbrev pub seats_of : {S : Type 0} → List (Job S) → List SiteFacts
seats_of jobs = map (λ j. j.seat) jobs

-- their sockets
abbrev pub sockets_of : {S : Type 0} → List (Job S) → List S
sockets_of jobs = map (λ j. j.socket) jobs

-- new jobs, one for each site of a plan in order
pub record AreNew {S : Type 0} (mem : Memory) (plan : Bound) (book : BookFacts) (board : TableId) (jobs : List (Job S))
    : Type 0 where
  pub shares : shares_of jobs ≡ new_shares book (sites_of plan.rows)
  pub seats : seats_of jobs ≡ new_seats board (sites_of plan.rows)
  pub passes : All (λ j. j.pass ≡ Some mem) jobs

-- such jobs, and what they are once each is done
pub record AreDone {S : Type 0} (told : S → Told) (plan : Bound) (book : BookFacts) (board : TableId)
    (jobs done : List (Job S)) : Type 0 where
  pub shares : shares_of jobs ≡ new_shares book (sites_of plan.rows)
  pub seats : seats_of jobs ≡ new_seats board (sites_of plan.rows)
  pub all : length done ≡ length jobs
  pub each : (k : ℕ) (d : Job S) → k < length jobs → IsDone told plan
      (slice_index_or jobs k d).socket (slice_index_or done k d).socket
      (slice_index_or jobs k d).share (slice_index_or done k d).share
      (slice_index_or jobs k d).seat (slice_index_or done k d).seat (slice_index_or done k d).failed
