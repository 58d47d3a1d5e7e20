-- What `lot` answers, and why.
use Rattle.std.specs.Prelude.{◌≡◌, ℕ, ◌<◌, ◌≤◌, Bool, true, List, [], ◌∷◌, length, min, codes, Option, None}
use Rattle.text_bytes.specs.Limits.{most_sites}
use Rattle.tester_types.specs.Outside.{Files}
use Rattle.tester_types.specs.Records.{SiteRecords, records_of}
use Rattle.plan_rows.specs.Rows.{sites_of}
use Rattle.lot_plan.specs.Bound.{Bound}
use Rattle.lot_plan.specs.Refusal.{refusal}
use Rattle.die_sim.specs.Socket.{Told}
use Rattle.tester_run.specs.Lot.{AreOfLot, AreLeft, said_since}
use Rattle.datalog.specs.DatalogText.{lot_text}
use Rattle.tool_inputs.specs.declared.status.Status.{Status}
use Rattle.tool_inputs.specs.declared.status.Status.TheVariants.{Done, OutOfMemory}
use Rattle.tool_inputs.specs.declared.refusal.Refusal.{Refusal}
use Rattle.tool_inputs.specs.declared.refusal.Refusal.TheVariants.{TooFewSockets}
use Rattle.tool_inputs.specs.Endings.{memory_line}
use Rattle.tool_inputs.specs.Refusals.{status_of, line_of}
use Rattle.tool_inputs.specs.Inputs.{AreRefused, Inputs, AreInputs, bound_of}

-- the words `lot PROGRAM PLAN`
abbrev pub AreLot : List (List ℕ) → List ℕ → List ℕ → Type 0
AreLot words program plan = words ≡ codes "lot" ∷ program ∷ plan ∷ []

-- how many of so many sockets a lot can have
abbrev pub usable : ℕ → ℕ
usable sockets = min sockets most_sites

-- why a lot isn't run: what it reads is refused, or there are fewer sockets than sites
pub data IsRefused (told : Option Files) (before now sockets : ℕ) (program plan : List ℕ) (r : Refusal) : Type 0 where
  of_inputs : AreRefused told before now program plan r → IsRefused told before now sockets program plan r
  few_sockets : (inputs : Inputs) → AreInputs told program plan inputs → refusal (bound_of inputs) ≡ None
      → usable sockets < sites_of inputs.rows → r ≡ TooFewSockets (sites_of inputs.rows) (usable sockets)
      → IsRefused told before now sockets program plan r

-- a tester's sockets, how many stops its desk has said for each site, and whether the desk was asked
pub record Floor (S : Type 0) : Type 0 where
  pub sockets : List S
  pub stops : ℕ → ℕ
  pub asked : Bool

-- A book of the lot of a bound plan that was run between these floors: it has at each site the site's whole list, a
-- sound record of each planned die, in order, as the plan makes it with the cuts that the records tell. Each site's
-- live stops rise from above 0 and are no more than the desk said for it here; contact was lost no more often than its
-- socket's count of faults rose by.
pub record IsBook {S : Type 0} (tells : S → Told) (bound : Bound) (old new : Floor S) (book : List SiteRecords)
    : Type 0 where
  pub asked : new.asked ≡ true
  pub all : length book ≡ sites_of bound.rows
  pub records : AreOfLot tells bound (said_since old.stops new.stops) old.sockets new.sockets book
  pub left : AreLeft tells bound old.sockets new.sockets

-- the text is the datalog of such a book
pub record IsLot {S : Type 0} (tells : S → Told) (bound : Bound) (old new : Floor S) (text : List ℕ) : Type 0 where
  pub book : List SiteRecords
  pub is : IsBook tells bound old new book
  pub written : text ≡ lot_text bound.program bound (records_of book)

-- the lot of what the files say was run
pub record IsRun {S : Type 0} (tells : S → Told) (told : Option Files) (program plan : List ℕ) (old new : Floor S)
    (text : List ℕ) : Type 0 where
  pub inputs : Inputs
  pub are : AreInputs told program plan inputs
  pub accepted : refusal (bound_of inputs) ≡ None
  pub enough : sites_of inputs.rows ≤ usable (length old.sockets)
  pub lot : IsLot tells (bound_of inputs) old new text

-- a refusal, with its status and its line
pub record IsRefusal (told : Option Files) (before now sockets : ℕ) (program plan : List ℕ) (status : Status)
    (text : List ℕ) : Type 0 where
  pub refused : Refusal
  pub cause : IsRefused told before now sockets program plan refused
  pub answer : status ≡ status_of refused
  pub line : text ≡ line_of refused

-- what must be so for a status of a bound lot, with what is written then
abbrev pub RunWants : {S : Type 0} → (S → Told) → Bound → Floor S → Floor S → Status → List ℕ → Type 0
RunWants tells bound old new Done text = IsLot tells bound old new text
RunWants tells bound old new OutOfMemory text = text ≡ memory_line
RunWants tells bound old new _ text = ⊥

-- What must be so for a status of `lot`, with what is written then. A lot that is refused, but for want of memory,
-- leaves its floor as it was.
pub data LotWants {S : Type 0} (tells : S → Told) (told : Option Files) (before now : ℕ) (old new : Floor S)
    (program plan : List ℕ) (status : Status) (text : List ℕ) : Type 0 where
  is_run : status ≡ Done → IsRun tells told program plan old new text
      → LotWants tells told before now old new program plan status text
  is_refused : IsRefusal told before now (length old.sockets) program plan status text
      → ((status ≡ OutOfMemory → ⊥) → new ≡ old) → LotWants tells told before now old new program plan status text
