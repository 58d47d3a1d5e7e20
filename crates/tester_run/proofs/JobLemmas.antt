-- Jobs of sites: those that have nothing to do are done.
use Rattle.std.proofs.Common.{◌≡◌, ◌≤◌, List, [], ◌∷◌, ◌++◌, All, map, slice_index_or, ◌<◌, Bool, true, length, Option, refl, sym, ap, ◌∙◌, subst, arith}
use Rattle.std.specs.List.{remove}
use Rattle.std.proofs.lemmas.List.{map-append, append_assoc}
use Rattle.std.proofs.lemmas.List.Elements.{All-drop}
use Rattle.pattern_mem.specs.Memory.{Memory}
use Rattle.die_sim.specs.Socket.{Told}
use Rattle.plan_rows.specs.Rows.{dies_at}
use Rattle.lot_plan.specs.Bound.{Bound}
use Rattle.site_meaning.specs.Part.{part_of, dies_in}
use Rattle.site_meaning.specs.Polls.{first_seat, with_word}
use Rattle.site_meaning.proofs.PartLemmas.{dies_in-part_of}
use Rattle.lot_book.specs.Shares.{BookFacts, ShareFacts}
use Rattle.stop_board.specs.Seats.{SiteFacts}
use Rattle.tester_run.specs.Work.{IsWork}
use Rattle.tester_run.specs.Jobs.{IsNew, IsDone, finished_as}
use Rattle.tester_run.proofs.TurnLemmas.{work_begins, work_is_done}

-- a seat that has finished
abbrev pub finished : SiteFacts → SiteFacts
finished seat = record seat { finished = true }

-- a site without dies has nothing to do
pub idle_is_done : {S : Type 0} (told : S → Told) (mem : Memory) (plan : Bound) (book : BookFacts) (socket : S) (share : ShareFacts)
    (seat left : SiteFacts) (pass : Option Memory) (failed : Bool) → IsNew mem plan book share seat pass
    → length (dies_at share.site plan.rows) ≡ 0 → left ≡ finished seat
    → IsDone told plan socket socket share share seat left failed
idle_is_done told mem plan book socket share seat left pass failed new none is =
    let part = part_of plan share.site in
    let it = told socket in
    let empty : share.records ≡ [] = ap (λ (s : ShareFacts). s.records) new.share_is in
    let over : dies_in part ≤ 0 = let dies = dies_in-part_of plan share.site in omega (arith, dies, none) in
    let work = work_is_done part seat it (with_word first_seat seat.seen) seat it [] (work_begins part seat it) over in
    let worked : IsWork part seat (finished seat) it it [] =
    record { records_are = work.records_are; lives = work.lives; contacts = work.contacts; polls = work.polls; taped = work.taped } in
    record {
      share_is = refl;
      seat_is = subst (λ (s : SiteFacts). s ≡ finished_as seat s) (sym is) refl;
      work = λ _. subst (λ (s : SiteFacts). IsWork part seat s it it share.records) (sym is)
          (subst (IsWork part seat (finished seat) it it) (sym empty) worked);
      idle = λ _. refl;
      unloaded = λ some. absurd (omega (arith, none, some));
      count = omega arith;
    }

-- ---- jobs are made one after another

-- the first of what is left goes into the next job
pub moves : {J X : Type 0} (f : J → X) (jobs more : List J) (left rest all : List X) (job : J) (x : X) → map f jobs ++ left ≡ all
    → 0 < length left → x ≡ slice_index_or left 0 x → rest ≡ remove left 0 → more ≡ jobs ++ job ∷ [] → f job ≡ x
    → map f more ++ rest ≡ all
moves f jobs more [] rest all job x so_far some first removed pushed is = absurd (omega (arith, some))
moves f jobs more (y ∷ ys) rest all job x so_far some first removed pushed is =
    ap (λ l. map f l ++ rest) pushed ∙ ap (λ l. map f (jobs ++ job ∷ []) ++ l) removed
    ∙ ap (λ l. l ++ ys) (map-append f jobs (job ∷ [])) ∙ append_assoc (map f jobs) (f job ∷ []) ys
    ∙ ap (λ z. map f jobs ++ z ∷ ys) (is ∙ first) ∙ so_far

-- what is so of each is so of each of the rest
pub All-rest : {X : Type 0} (P : X → Type 0) (left rest : List X) → rest ≡ remove left 0 → All P left → All P rest
All-rest P left rest removed each = subst (All P) (sym removed) (All-drop P 1 left each)

-- and of the first
pub all_first : {X : Type 0} (P : X → Type 0) (left : List X) (x : X) → 0 < length left → x ≡ slice_index_or left 0 x → All P left → P x
all_first P left x some first each = subst P (sym first) (each 0 x some)
