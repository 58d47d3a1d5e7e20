-- 64 dies go from executive to executive, up to where each has a fail.
use Rattle.std.proofs.Common.{◌≡◌, ℕ, suc, ◌+◌, ◌-◌, ◌*◌, ◌<◌, ◌≤◌, Bool, true, false, eqb, List, [], ◌∷◌, ◌++◌, length, get_or, map, take, drop, Option, Some, None, refl, sym, ap, ◌∙◌, subst, arith}
use Rattle.std.specs.Prelude.{is_none}
use Rattle.std.specs.Int.{bit_at}
use Rattle.std.specs.List.{range_with_len}
use Rattle.std.specs.Option.{option_or}
use Rattle.std.proofs.lemmas.Bool.{eqb-true, false≢true}
use Rattle.std.proofs.lemmas.List.{take-append-drop, take_all, get_or-map, length-map, ext_get_or}
use Rattle.std.proofs.lemmas.Nat.Bits.{bit_at-zero}
use Rattle.tester_types.specs.declared.cycle.Cycle.{Cycle}
use Rattle.tester_types.specs.declared.record.Fail.{Fail}
use Rattle.packed_code.specs.Program.{Program}
use Rattle.packed_code.specs.Cycles.{cycles_of}
use Rattle.die_sim.specs.Die.{Device, Image, device_of}
use Rattle.die_sim.specs.declared.image.StuckAt.{StuckAt}
use Rattle.site_meaning.specs.Playing.{Stand, Going, starting}
use Rattle.site_meaning.specs.Trials.{played, after_cycles, fails_in, execs_of}
use Rattle.die_words.specs.Lane.{bit}
use Rattle.cycle_run.specs.declared.setup.Setup.{Setup}
use Rattle.cycle_run.specs.Setup.{code_in}
use Rattle.cycle_run.specs.Play.{PlaysUpTo}
use Rattle.cycle_run.proofs.PlayLemmas.{all_ran}
use Rattle.word_run.specs.declared.player.WordPlayer.{WordPlayer}
use Rattle.word_run.specs.First.{first_fail, first_from, first_on, with_fault}
use Rattle.word_run.specs.Player.{stand_with, device_with, found_in, StandsIn, CanPlay, PlaysLanes, IsBefore, StartsSo}
use Rattle.word_run.specs.PlayerLaws.{or-assoc, fails-append, ready_less}
use Rattle.word_run.specs.Run.{execs_left, comes_to, FindsAll, PlaysExec, RunsExec, IsLeft, RunsAll}

-- ---- executives from one on

pub execs-next : (code : Program) (exec : ℕ) → exec < length code.execs
    → execs_left code exec ≡ cycles_of code exec ∷ execs_left code (exec + 1)
execs-next code exec within =
    let e : length code.execs - exec ≡ suc (length code.execs - (exec + 1)) = omega (arith, within) in
    ap (λ (n : ℕ). map (cycles_of code) (range_with_len exec n)) e

pub execs-none : (code : Program) (exec : ℕ) → length code.execs ≤ exec → execs_left code exec ≡ []
execs-none code exec past =
    let e : length code.execs - exec ≡ 0 = omega (arith, past) in
    ap (λ (n : ℕ). map (cycles_of code) (range_with_len exec n)) e

pub first_from-none : (stand : Stand) (exec : ℕ) (going : Going) → first_from stand exec going [] ≡ None
unfolding first_from
first_from-none stand exec going = refl

pub first_from-next : (stand : Stand) (exec : ℕ) (going : Going) (cycles : List Cycle) (later : List (List Cycle))
    → first_from stand exec going (cycles ∷ later)
    ≡ option_or (first_fail (fails_in (played stand exec going cycles)))
    (first_from stand (exec + 1) (after_cycles stand going cycles) later)
unfolding first_from
first_from-next stand exec going cycles later = refl

-- ---- an executive

-- the first fail of a front of the cycles is that of all, whatever follows
found-front : (before : Option ℕ) (front rest : List Fail) (later now : Option ℕ) → now ≡ option_or before (first_fail front)
    → is_none now ≡ false → now ≡ option_or before (option_or (first_fail (front ++ rest)) later)
found-front (Some x) front rest later now is some = is
found-front None [] rest later now is some = absurd (let e = ap is_none is in cc (e, some))
found-front None (fail ∷ front) rest later now is some = is

module _ (setup : Setup) (exec most count : ℕ) (coming : List Cycle) (old new : WordPlayer) (within : exec < length (code_in setup).execs)
    (are : coming ≡ cycles_of (code_in setup) exec) (all : most ≡ length (cycles_of (code_in setup) exec))
    (few : most ≤ 281474976710656) (before : IsBefore setup exec old)
    (plays : PlaysUpTo (PlaysLanes setup exec) (λ (player : WordPlayer) (enough : Bool). enough ≡ eqb player.alive 0) coming most count old new)
    (goes : (more : ℕ) → CanPlay setup (more + most) old → CanPlay setup more new) where
  abbrev xs : List Cycle
  xs = cycles_of (code_in setup) exec

  played_front : PlaysLanes setup exec (take count xs) old new
  played_front = subst (λ (l : List Cycle). PlaysLanes setup exec (take count l) old new) are plays.played

  -- no lane is alive
  finds_all : eqb new.alive 0 ≡ true → FindsAll setup exec old new
  finds_all none = record {
    count = played_front.count;
    lanes = λ lane device going later low here stands.
        let stand = stand_with setup device in
        let p = played_front.lanes lane device going low here stands in
        let dead : bit_at new.alive lane ≡ 0 = ap (λ (n : ℕ). bit_at n lane) (eqb-true new.alive 0 none) ∙ bit_at-zero lane in
        let front = fails_in (played stand exec going (take count xs)) in
        let rest = fails_in (played stand exec (after_cycles stand going (take count xs)) (drop count xs)) in
        let split : front ++ rest ≡ fails_in (played stand exec going xs) =
        sym (fails-append stand exec going (take count xs) (drop count xs))
        ∙ ap (λ (l : List Cycle). fails_in (played stand exec going l)) (take-append-drop count xs) in
        let next = first_from stand (exec + 1) (after_cycles stand going xs) later in
        found-front (found_in old lane) front rest next (found_in new lane) p.found (some_there (found_in new lane) (sym p.stands.alive ∙ dead))
        ∙ ap (λ (l : List Fail). option_or (found_in old lane) (option_or (first_fail l) next)) split
        ∙ ap (option_or (found_in old lane)) (sym (first_from-next stand exec going xs later));
  }
    where
      some_there : (o : Option ℕ) → bit (is_none o) ≡ 0 → is_none o ≡ false
      some_there None e = absurd (omega (arith, e))
      some_there (Some x) e = refl

  -- all cycles are played
  plays_all : eqb new.alive 0 ≡ false → PlaysExec setup exec old new
  plays_all some =
      let ran : count ≡ most =
      all_ran (PlaysLanes setup exec) (λ (player : WordPlayer) (enough : Bool). enough ≡ eqb player.alive 0) coming most count old new plays
      (λ e. false≢true (sym some ∙ sym e)) in
      let left = 281474976710656 * (length (code_in setup).execs - (exec + 1)) in
      record {
        plays = subst (λ (l : List Cycle). PlaysLanes setup exec l old new) (take_all count xs (omega (arith, ran, all))) played_front;
        before = goes left (ready_less setup (left + most) (281474976710656 * (length (code_in setup).execs - exec)) old
            (omega (arith, within, few)) before);
      }

  runs_so : (all_found : Bool) → eqb new.alive 0 ≡ all_found → RunsExec setup exec old new all_found
  runs_so true is = finds_all is
  runs_so false is = plays_all is

  pub runs_exec : RunsExec setup exec old new (eqb new.alive 0)
  runs_exec = runs_so (eqb new.alive 0) refl

-- ---- from executive to executive

pub left_first : (setup : Setup) (old : WordPlayer) (lane : ℕ) (device : Device) (going : Going) → StandsIn old lane device going
    → IsLeft setup 0 old old lane device going
left_first setup old lane device going stands = record { now = going; stands = stands; rest = refl }

module _ (setup : Setup) (exec lane : ℕ) (first old new : WordPlayer) (device : Device) (going : Going)
    (within : exec < length (code_in setup).execs) (low : lane < 64) (here : lane < length old.firsts.items)
    (left : IsLeft setup exec first old lane device going) where
  abbrev ys : List Cycle
  ys = cycles_of (code_in setup) exec

  abbrev later : List (List Cycle)
  later = execs_left (code_in setup) (exec + 1)

  -- behind an executive the next one follows
  pub left_next : PlaysExec setup exec old new → IsLeft setup (exec + 1) first new lane device going
  left_next e =
      let stand = stand_with setup device in
      let p = e.plays.lanes lane device left.now low here left.stands in
      let next = after_cycles stand left.now ys in
      let own = first_fail (fails_in (played stand exec left.now ys)) in
      let behind = first_from stand (exec + 1) next later in
      record {
        now = next;
        stands = p.stands;
        rest = left.rest
            ∙ ap (λ (l : List (List Cycle)). comes_to setup old lane device left.now exec l) (execs-next (code_in setup) exec within)
            ∙ ap (option_or (found_in old lane)) (first_from-next stand exec left.now ys later)
            ∙ sym (or-assoc (found_in old lane) own behind)
            ∙ ap (λ (o : Option ℕ). option_or o behind) (sym p.found);
      }

  -- or all are found
  pub ends_here : FindsAll setup exec old new
      → found_in new lane ≡ comes_to setup first lane device going 0 (execs_left (code_in setup) 0)
  ends_here f =
      f.lanes lane device left.now later low here left.stands
      ∙ sym (left.rest
      ∙ ap (λ (l : List (List Cycle)). comes_to setup old lane device left.now exec l) (execs-next (code_in setup) exec within))

-- behind the last executive
pub ends_behind : (setup : Setup) (exec lane : ℕ) (first now : WordPlayer) (device : Device) (going : Going)
    → length (code_in setup).execs ≤ exec → IsLeft setup exec first now lane device going
    → found_in now lane ≡ comes_to setup first lane device going 0 (execs_left (code_in setup) 0)
ends_behind setup exec lane first now device going past left =
    sym (left.rest
    ∙ ap (λ (l : List (List Cycle)). comes_to setup now lane device left.now exec l) (execs-none (code_in setup) exec past)
    ∙ ap (option_or (found_in now lane)) (first_from-none (stand_with setup device) exec left.now)
    ∙ or-none (found_in now lane))
  where
    or-none : (o : Option ℕ) → option_or o None ≡ o
    or-none None = refl
    or-none (Some x) = refl

-- ---- a run

-- before the first executive
begins : (image : Image) (setup : Setup)
    → first_from (stand_with setup (device_of image)) 0 (starting (device_of image)) (execs_left (code_in setup) 0)
    ≡ first_on (code_in setup) setup.skews.now image
unfolding first_on execs_of
begins image setup =
    let all : length (code_in setup).execs - 0 ≡ length (code_in setup).execs = omega arith in
    ap (λ (n : ℕ). first_from (stand_with setup (device_of image)) 0 (starting (device_of image))
    (map (cycles_of (code_in setup)) (range_with_len 0 n))) all

-- what is found is the first failing cycle of each fault
pub firsts_are : (setup : Setup) (faults : List StuckAt) (old new : WordPlayer) → length faults ≤ 64 → StartsSo setup faults old
    → RunsAll setup old new
    → new.firsts.items ≡ map (λ fault. first_on (code_in setup) setup.skews.now (with_fault setup.image.now fault)) faults
firsts_are setup faults old new few starts runs =
    ext_get_or None new.firsts.items (map first faults)
    (runs.count ∙ starts.count ∙ sym (length-map faults first))
    (λ k within. each k (omega (arith, within, runs.count, starts.count)))
  where
    first : StuckAt → Option ℕ
    first fault = first_on (code_in setup) setup.skews.now (with_fault setup.image.now fault)

    no_fault : StuckAt
    no_fault = record { net = 0; value = false }

    each : (k : ℕ) → k < length faults → get_or new.firsts.items k None ≡ get_or (map first faults) k None
    each k within =
        let fault = get_or faults k no_fault in
        let device = device_with setup fault in
        let ran = runs.lanes k device (starting device) (omega (arith, within, few)) (omega (arith, within, starts.count))
        (starts.lanes k no_fault within) in
        ran
        ∙ ap (λ (o : Option ℕ). option_or o (first_from (stand_with setup device) 0 (starting device) (execs_left (code_in setup) 0))) (starts.none k)
        ∙ begins (with_fault setup.image.now fault) setup
        ∙ sym (get_or-map first faults k no_fault None within)
