-- Checker, drives and socket go through moments, or stop at one of them.
use Rattle.std.proofs.Common.{◌≡◌, ◌≢◌, ℕ, ◌+◌, ◌<◌, ◌≤◌, Bool, true, false, List, [], ◌∷◌, ◌++◌, length, get_or, take, drop, map, Option, Some, refl, sym, ap, ◌∙◌, subst, arith, inl, inr, zero-add}
use Rattle.std.specs.Prelude.{nat_lt}
use Rattle.std.specs.List.{list_any, range_with_len}
use Rattle.std.proofs.lemmas.Bool.{cases_lt, and_parts, lt-ltb, or_left, or_right}
use Rattle.std.proofs.lemmas.List.{append-nil, append_assoc, get_or_past, map-append, take_more, take-append-drop}
use Rattle.text_bytes.proofs.ListLemmas.{drop-item}
use Rattle.std.proofs.lemmas.List.Folds.{list_any_at}
use Rattle.std.proofs.lemmas.List.Sums.{fold-append}
use Rattle.std.proofs.lemmas.List.FromFn.{get_or-map-range_with_len, get_or-range_with_len, length-map-range_with_len, length-range_with_len}
use Rattle.tester_types.specs.declared.level.Level.{Level}
use Rattle.tester_types.specs.declared.level.Level.TheVariants.{X}
use Rattle.tester_types.specs.declared.level.Drive.{Drive}
use Rattle.tester_types.specs.declared.record.Fail.{Fail}
use Rattle.tester_types.specs.declared.cycle.Moment.{Moment}
use Rattle.bench_net.specs.Circuit.{IsWhole}
use Rattle.die_sim.specs.Die.{Device, State, level_of}
use Rattle.die_sim.specs.Moment.{IsStep}
use Rattle.die_sim.specs.Socket.{Told, Calls, Moves, Shows}
use Rattle.die_sim.proofs.SteppedLemmas.{step_is_stepped, length-step}
use Rattle.strobe_check.specs.Entry.{Entry}
use Rattle.strobe_check.specs.Sensed.{is_sensed}
use Rattle.strobe_check.specs.Count.{HasCounted}
use Rattle.strobe_check.specs.History.{History, Held, HasSeen, SeesEntry}
use Rattle.strobe_check.specs.Agree.{AgreeBehind, JudgedAlike}
use Rattle.strobe_check.proofs.AgreeLemmas.{alike-push}
use Rattle.strobe_check.proofs.SensedLemmas.{is_sensed-watched}
use Rattle.site_meaning.specs.Playing.{Along, Whose, is_bound, bound_of, driven, priors_after, after_moment, after_moments, entry_of, entries_in, makes_call}
use Rattle.cycle_run.specs.declared.stop.Stop.{Stop}
use Rattle.cycle_run.specs.declared.stop.Stop.TheVariants as stop
use Rattle.cycle_run.specs.Tape.{call_at, call_of, calls_in, with_calls}
use Rattle.cycle_run.specs.Cycle.{Point, IsStateOf}
use Rattle.cycle_run.specs.Step.{along_at, IsReady, with_entries, GoesThrough, CallsBehind, StopsIn, Stops, AreLevels, WantsSome, IsCheckedBy, IsSettled}
use Rattle.cycle_run.specs.BatchLaws.{with-none, with-append}

-- ---- moments behind moments

-- what goes along behind moments and more moments
pub after_moments-append : (device : Device) (along : Along) (ones others : List Moment)
    → after_moments device along (ones ++ others) ≡ after_moments device (after_moments device along ones) others
unfolding after_moments
after_moments-append device along ones others = fold-append (after_moment device) along ones others

pub after_moments-one : (device : Device) (along : Along) (moment : Moment)
    → after_moments device along (moment ∷ []) ≡ after_moment device along moment
unfolding after_moments
after_moments-one device along moment = refl

pub after_moments-none : (device : Device) (along : Along) → after_moments device along [] ≡ along
unfolding after_moments
after_moments-none device along = refl

pub after_moments-next : (device : Device) (along : Along) (moment : Moment) (later : List Moment)
    → after_moments device along (moment ∷ later) ≡ after_moments device (after_moment device along moment) later
unfolding after_moments
after_moments-next device along moment later = refl

pub entries_in-append : (device : Device) (whose : Whose) (along : Along) (ones others : List Moment)
    → entries_in device whose along (ones ++ others)
    ≡ entries_in device whose along ones ++ entries_in device whose (after_moments device along ones) others
unfolding entries_in
entries_in-append device whose along [] others =
    ap (λ (a : Along). entries_in device whose a others) (sym (after_moments-none device along))
entries_in-append device whose along (moment ∷ ones) others =
    let next = after_moment device along moment in
    ap (λ (l : List Entry). entry_of device whose moment next.die ∷ l)
    (entries_in-append device whose next ones others
    ∙ ap (λ (a : Along). entries_in device whose next ones ++ entries_in device whose a others)
    (sym (after_moments-next device along moment ones)))

pub entries_in-one : (device : Device) (whose : Whose) (along : Along) (moment : Moment)
    → entries_in device whose along (moment ∷ []) ≡ entry_of device whose moment (after_moment device along moment).die ∷ []
unfolding entries_in
entries_in-one device whose along moment = refl

pub entries_in-none : (device : Device) (whose : Whose) (along : Along) → entries_in device whose along [] ≡ []
unfolding entries_in
entries_in-none device whose along = refl

pub entries_in-next : (device : Device) (whose : Whose) (along : Along) (moment : Moment) (later : List Moment)
    → entries_in device whose along (moment ∷ later)
    ≡ entry_of device whose moment (after_moment device along moment).die
    ∷ entries_in device whose (after_moment device along moment) later
unfolding entries_in
entries_in-next device whose along moment later = refl

pub calls_in-append : (device : Device) (along : Along) (ones others : List Moment)
    → calls_in device along (ones ++ others)
    ≡ calls_in device along ones ++ calls_in device (after_moments device along ones) others
unfolding calls_in
calls_in-append device along [] others = ap (λ (a : Along). calls_in device a others) (sym (after_moments-none device along))
calls_in-append device along (moment ∷ ones) others =
    let next = after_moment device along moment in
    ap (λ (l : Calls). call_of device along moment ++ l)
    (calls_in-append device next ones others
    ∙ ap (λ (a : Along). calls_in device next ones ++ calls_in device a others) (sym (after_moments-next device along moment ones)))
    ∙ sym (append_assoc (call_of device along moment) (calls_in device next ones)
    (calls_in device (after_moments device along (moment ∷ ones)) others))

pub calls_in-next : (device : Device) (along : Along) (moment : Moment) (later : List Moment)
    → calls_in device along (moment ∷ later) ≡ call_of device along moment ++ calls_in device (after_moment device along moment) later
unfolding calls_in
calls_in-next device along moment later = refl

pub calls_in-one : (device : Device) (along : Along) (moment : Moment)
    → calls_in device along (moment ∷ []) ≡ call_of device along moment
unfolding calls_in
calls_in-one device along moment = append-nil (call_of device along moment)

pub calls_in-none : (device : Device) (along : Along) → calls_in device along [] ≡ []
unfolding calls_in
calls_in-none device along = refl

-- ---- what the parts of a moment are asked

pub is_settled : (device : Device) (loaded : Option Device) (state : State) → loaded ≡ Some device → IsStateOf device state
    → IsSettled loaded state
is_settled device loaded state is of = subst (λ (o : Option Device). IsSettled o state) (sym is) of.settled

pub is_checked : (device : Device) (point : Point) (loaded : Option Device) → loaded ≡ point.told.loaded → IsReady device point
    → IsCheckedBy loaded point.held
is_checked device point loaded same ready =
    subst (λ (o : Option Device). IsCheckedBy o point.held) (sym (same ∙ ready.loaded))
    (record { history = ready.history; seen = ready.seen; bound = ready.bound })

-- the checker has no more signals than there are levels
pub checker_fits : (device : Device) (point : Point) (levels levels' : List Level) → IsReady device point
    → length levels ≡ length device.binds → length levels' ≡ length levels → length point.held.bound ≤ length levels'
checker_fits device point levels levels' ready all same =
    let long = length-map-range_with_len (is_bound device) 0 (length device.binds) in
    let bound = ap (λ (l : List Bool). length l) (ready.seen.bound ∙ ready.bound) in
    omega (arith, long, bound, all, same)

-- ---- a moment is judged

-- a history that is judged alike may stand for another
alike-seen : (bound : List Bool) (keep : ℕ) (closed : List Fail) (ones others : List Entry) (held : Held)
    → JudgedAlike bound ones others
    → HasSeen (record { bound = bound; keep = keep; closed = closed; entries = ones }) held
    → HasSeen (record { bound = bound; keep = keep; closed = closed; entries = others }) held
alike-seen bound keep closed ones others held alike seen = record {
  bound = seen.bound;
  windows = seen.windows ∙ alike.windows;
  count = subst (λ (l : List Fail). HasCounted keep (closed ++ l) held.count) alike.fails seen.count;
}

-- a signal that is sensed is one of the binding
sensed_below : (device : Device) (entries : List Entry) (moment : Moment) (signal : ℕ)
    → is_sensed (bound_of device) entries moment signal ≡ true → signal < length device.binds
sensed_below device entries moment signal is =
    elim (cases_lt signal (length device.binds)) [
      | inl l ↦ l
      | inr l ↦
          let bound = (and_parts (get_or (bound_of device) signal false) _ (sym (is_sensed-watched (bound_of device) entries moment signal) ∙ is)).0 in
          let long = length-map-range_with_len (is_bound device) 0 (length device.binds) in
          let past : length (bound_of device) ≤ signal = omega (arith, long) in
          absurd (let none = get_or_past (bound_of device) signal false past in cc (none, bound))
    ]

-- a moment as it is judged, with these levels
abbrev pub sensed_entry : Whose → Moment → List Level → Entry
sensed_entry whose moment levels =
    record { exec = whose.exec; cycle = whose.cycle; mark = whose.mark; moment = moment; levels = levels }

-- the levels that were sensed are those of the die, where they matter
agree-sensed : (device : Device) (history : History) (whose : Whose) (moment : Moment) (told : Told) (held : Held) (levels : List Level)
    → history.bound ≡ bound_of device → HasSeen history held → told.loaded ≡ Some device
    → AreLevels told held moment (length device.binds) levels
    → AgreeBehind (bound_of device) history.entries (sensed_entry whose moment levels) (entry_of device whose moment told.state)
agree-sensed device history whose moment told held levels bound seen loaded are signal is =
    let below = sensed_below device history.entries moment signal is in
    let sensed = subst (λ (l : List Bool). is_sensed l history.entries moment signal ≡ true) (sym bound) is in
    let shown = subst (λ (o : Option Device). Shows o told.state signal (get_or levels signal X)) loaded (are history seen signal below sensed) in
    shown ∙ sym (get_or-map-range_with_len (level_of device told.state) 0 (length device.binds) signal signal X below (zero-add signal))

-- a checker that has seen a moment with the levels that were sensed has seen it with those of the die
sees_moment : (device : Device) (whose : Whose) (moment : Moment) (told : Told) (old new : Held) (levels : List Level) (history : History)
    → history.bound ≡ bound_of device → HasSeen history old → told.loaded ≡ Some device
    → AreLevels told old moment (length device.binds) levels → SeesEntry (sensed_entry whose moment levels) old new
    → HasSeen (with_entries history (entry_of device whose moment told.state ∷ [])) new
sees_moment device whose moment told old new levels history bound seen loaded are sees =
    let one = sensed_entry whose moment levels in
    let other = entry_of device whose moment told.state in
    let ones = history.entries in
    let agree = agree-sensed device history whose moment told old levels bound seen loaded are in
    let alike : JudgedAlike (bound_of device) ones ones = record { fails = refl; windows = refl } in
    let pushed = alike-push (bound_of device) ones ones one other alike
    (record { exec = refl; cycle = refl; mark = refl; moment = refl }) agree in
    alike-seen history.bound history.keep history.closed (ones ++ one ∷ []) (ones ++ other ∷ []) new
    (subst (λ (l : List Bool). JudgedAlike l (ones ++ one ∷ []) (ones ++ other ∷ [])) (sym bound) pushed)
    (sees history seen)

-- the drive of a moment is a step of the die
steps : (device : Device) (loaded : Option Device) (old new : State) (drives drives' : List (ℕ × Drive)) → loaded ≡ Some device
    → drives ≡ drives' → Moves loaded old new drives → IsStep device old new drives'
steps device loaded old new drives drives' is are moves =
    subst (λ (l : List (ℕ × Drive)). IsStep device old new l) are
    (subst (λ (o : Option Device). Moves o old new drives) is moves)

-- ---- one moment

-- what the parts of a moment have done: it was driven, sensed, judged and remembered
pub record IsMade (device : Device) (whose : Whose) (moment : Moment) (drives : List (ℕ × Drive)) (levels : List Level) (count : ℕ)
    (old : Point) (between : Told) (new : Point) : Type 0 where
  pub ready : IsReady device old
  pub drives_are : drives ≡ driven device old.last moment
  pub moves : Moves old.told.loaded old.told.state between.state drives
  pub tape : between.tape ≡ with_calls old.told.tape (call_at moment.at drives)
  pub loaded : between.loaded ≡ old.told.loaded
  pub all : count ≡ length device.binds
  pub levels_are : AreLevels between old.held moment count levels
  pub state_then : new.told.state ≡ between.state
  pub loaded_then : new.told.loaded ≡ between.loaded
  pub tape_then : new.told.tape ≡ between.tape
  pub sees : SeesEntry (sensed_entry whose moment levels) old.held new.held
  pub remembers : new.last ≡ priors_after old.last moment

module _ (device : Device) (whole : IsWhole device.circuit) (whose : Whose) (moment : Moment) (drives : List (ℕ × Drive))
    (levels : List Level) (count : ℕ) (old : Point) (between : Told) (new : Point)
    (m : IsMade device whose moment drives levels count old between new) where
  its_step : IsStep device old.told.state between.state (driven device old.last moment)
  its_step = steps device old.told.loaded old.told.state between.state drives (driven device old.last moment) m.ready.loaded m.drives_are m.moves

  its_die : between.state ≡ (after_moment device (along_at old) moment).die
  its_die = (step_is_stepped device old.told.state between.state (driven device old.last moment) whole m.ready.state.size).0 its_step

  its_sight : (history : History) → history.bound ≡ bound_of device → HasSeen history old.held
      → HasSeen (with_entries history (entries_in device whose (along_at old) (moment ∷ []))) new.held
  its_sight history bound seen =
      let levels_are = subst (λ (n : ℕ). AreLevels between old.held moment n levels) m.all m.levels_are in
      let a = sees_moment device whose moment between old.held new.held levels history bound seen (m.loaded ∙ m.ready.loaded) levels_are m.sees in
      let b = subst (λ (s : State). HasSeen (with_entries history (entry_of device whose moment s ∷ [])) new.held) its_die a in
      subst (λ (l : List Entry). HasSeen (with_entries history l) new.held) (sym (entries_in-one device whose (along_at old) moment)) b

  -- they have gone through it
  pub goes_one : GoesThrough device whose (moment ∷ []) old new
  goes_one = record {
    die = m.state_then ∙ its_die ∙ ap (λ (a : Along). a.die) (sym (after_moments-one device (along_at old) moment));
    priors = m.remembers ∙ ap (λ (a : Along). a.priors) (sym (after_moments-one device (along_at old) moment));
    sees = its_sight;
    tape = m.tape_then ∙ m.tape
        ∙ ap (λ (l : List (ℕ × Drive)). with_calls old.told.tape (call_at moment.at l)) m.drives_are
        ∙ ap (with_calls old.told.tape) (sym (calls_in-one device (along_at old) moment));
  }

  -- and can go on
  pub ready_one : IsReady device new
  ready_one = record {
    loaded = m.loaded_then ∙ m.loaded ∙ m.ready.loaded;
    state = subst (λ (s : State). IsStateOf device s) (sym m.state_then)
        (record {
          size = length-step device old.told.state between.state (driven device old.last moment) its_step ∙ m.ready.state.size;
          settled = its_step.settled;
        });
    history = with_entries m.ready.history (entries_in device whose (along_at old) (moment ∷ []));
    seen = its_sight m.ready.history m.ready.bound m.ready.seen;
    bound = m.ready.bound;
  }

-- ---- or it stops

some-long : {X : Type 0} (xs : List X) → xs ≢ [] → nat_lt 0 (length xs) ≡ true
some-long [] some = absurd (some refl)
some-long (x ∷ xs) some = lt-ltb 0 (length (x ∷ xs)) (omega arith)

-- a moment that drives the die makes a call
drives_call : (device : Device) (along : Along) (entries : List Entry) (moment : Moment) → driven device along.priors moment ≢ []
    → makes_call device along entries moment ≡ true
drives_call device along entries moment some =
    or_left (nat_lt 0 (length (driven device along.priors moment)))
    (list_any (is_sensed (bound_of device) entries moment) (range_with_len 0 (length device.binds)))
    (some-long (driven device along.priors moment) some)

-- a number of a range passes a test
any_of_range : (test : ℕ → Bool) (count k : ℕ) → k < count → test k ≡ true → list_any test (range_with_len 0 count) ≡ true
any_of_range test count k below is =
    list_any_at test (range_with_len 0 count) k 0 (let long = length-range_with_len 0 count in omega (arith, long, below))
    (ap test (get_or-range_with_len 0 count k 0 below ∙ zero-add k) ∙ is)

-- and so does one at which a signal is sensed
senses_call : (device : Device) (along : Along) (entries : List Entry) (moment : Moment) (signal : ℕ)
    → is_sensed (bound_of device) entries moment signal ≡ true → makes_call device along entries moment ≡ true
senses_call device along entries moment signal is =
    let test = is_sensed (bound_of device) entries moment in
    or_right (nat_lt 0 (length (driven device along.priors moment))) (list_any test (range_with_len 0 (length device.binds)))
    (any_of_range test (length device.binds) signal (sensed_below device entries moment signal is) is)

-- behind no moments, a moment makes a call where it does so behind what was seen
call_first : (device : Device) (whose : Whose) (moment : Moment) (old : Point)
    → ((history : History) → history.bound ≡ bound_of device → HasSeen history old.held
    → makes_call device (along_at old) history.entries moment ≡ true)
    → CallsBehind device whose [] moment old
unfolding after_moments entries_in
call_first device whose moment old calls history bound seen =
    ap (λ (l : List Entry). makes_call device (along_at old) l moment) (append-nil history.entries) ∙ calls history bound seen

pub drive_calls : (device : Device) (whose : Whose) (moment : Moment) (old : Point) (drives : List (ℕ × Drive))
    → drives ≡ driven device old.last moment → drives ≢ [] → CallsBehind device whose [] moment old
drive_calls device whose moment old drives are some =
    call_first device whose moment old
    (λ history bound seen. drives_call device (along_at old) history.entries moment (λ none. some (are ∙ none)))

pub sense_calls : (device : Device) (whose : Whose) (moment : Moment) (old : Point) → WantsSome old.held moment
    → CallsBehind device whose [] moment old
sense_calls device whose moment old wants =
    call_first device whose moment old
    (λ history bound seen.
    let wanted = wants history seen in
    senses_call device (along_at old) history.entries moment wanted.0
    (subst (λ (l : List Bool). is_sensed l history.entries moment wanted.0 ≡ true) bound wanted.1))

-- the history without more entries
with-nothing : (device : Device) (whose : Whose) (old : Point) (history : History) (held : Held) → HasSeen history held
    → HasSeen (with_entries history (entries_in device whose (along_at old) [])) held
unfolding entries_in
with-nothing device whose old history held seen =
    subst (λ (l : List Entry). HasSeen (record history { entries = l }) held) (sym (append-nil history.entries)) seen

-- it stops before the drive of a moment
pub stops_before : (device : Device) (whose : Whose) (moment : Moment) (old new : Point) → new.held ≡ old.held
    → new.told.tape ≡ old.told.tape → CallsBehind device whose [] moment old
    → StopsIn device whose (moment ∷ []) old new moment.at
stops_before device whose moment old new same tape calls = record {
  done = [];
  moment = moment;
  later = [];
  split = refl;
  then = refl;
  calls = calls;
  sees = λ history bound seen.
      subst (λ (h : Held). HasSeen (with_entries history (entries_in device whose (along_at old) [])) h) (sym same)
      (with-nothing device whose old history old.held seen);
  tape = inl (tape ∙ sym (with-none old.told.tape) ∙ ap (with_calls old.told.tape) (sym (calls_in-none device (along_at old))));
}

-- or behind its drive
pub stops_behind : (device : Device) (whose : Whose) (moment : Moment) (old new : Point) (drives : List (ℕ × Drive))
    → new.held ≡ old.held
    → drives ≡ driven device old.last moment → new.told.tape ≡ with_calls old.told.tape (call_at moment.at drives)
    → CallsBehind device whose [] moment old → StopsIn device whose (moment ∷ []) old new moment.at
stops_behind device whose moment old new drives same are tape calls = record {
  done = [];
  moment = moment;
  later = [];
  split = refl;
  then = refl;
  calls = calls;
  sees = λ history bound seen.
      subst (λ (h : Held). HasSeen (with_entries history (entries_in device whose (along_at old) [])) h) (sym same)
      (with-nothing device whose old history old.held seen);
  tape = inr (tape ∙ ap (λ (l : List (ℕ × Drive)). with_calls old.told.tape (call_at moment.at l)) are
      ∙ ap (with_calls old.told.tape) (sym (calls_in-one device (along_at old) moment)));
}

-- ---- moments one after another

-- no moments leave all as it is
pub goes_nowhere : (device : Device) (whose : Whose) (old : Point) → GoesThrough device whose [] old old
unfolding after_moments
goes_nowhere device whose old = record {
  die = refl;
  priors = refl;
  sees = λ history bound seen. with-nothing device whose old history old.held seen;
  tape = sym (with-none old.told.tape) ∙ ap (with_calls old.told.tape) (sym (calls_in-none device (along_at old)));
}

-- what goes along behind moments
along_is : (device : Device) (whose : Whose) (moments : List Moment) (old new : Point) → GoesThrough device whose moments old new
    → along_at new ≡ after_moments device (along_at old) moments
along_is device whose moments old new goes = λ i. record { die = goes.die i; priors = goes.priors i }

module _ (device : Device) (whose : Whose) (ones : List Moment) (old mid new : Point)
    (first : GoesThrough device whose ones old mid) where
  -- the entries of moments, and of those behind them
  entries_both : (history : History) (others : List Moment)
      → with_entries (with_entries history (entries_in device whose (along_at old) ones)) (entries_in device whose (along_at mid) others)
      ≡ with_entries history (entries_in device whose (along_at old) (ones ++ others))
  entries_both history others =
      ap (λ (a : Along). with_entries (with_entries history (entries_in device whose (along_at old) ones)) (entries_in device whose a others))
      (along_is device whose ones old mid first)
      ∙ ap (λ (l : List Entry). record history { entries = l })
      (append_assoc history.entries (entries_in device whose (along_at old) ones)
      (entries_in device whose (after_moments device (along_at old) ones) others)
      ∙ ap (λ (l : List Entry). history.entries ++ l) (sym (entries_in-append device whose (along_at old) ones others)))

  -- their calls on a tape
  tape_both : (tape : Option Calls) (others : List Moment) → tape ≡ with_calls mid.told.tape (calls_in device (along_at mid) others)
      → tape ≡ with_calls old.told.tape (calls_in device (along_at old) (ones ++ others))
  tape_both tape others is =
      is
      ∙ ap (λ (t : Option Calls). with_calls t (calls_in device (along_at mid) others)) first.tape
      ∙ ap (λ (a : Along). with_calls (with_calls old.told.tape (calls_in device (along_at old) ones)) (calls_in device a others))
      (along_is device whose ones old mid first)
      ∙ with-append old.told.tape (calls_in device (along_at old) ones) (calls_in device (after_moments device (along_at old) ones) others)
      ∙ ap (with_calls old.told.tape) (sym (calls_in-append device (along_at old) ones others))

  -- what goes along behind both
  after_both : (others : List Moment)
      → after_moments device (along_at mid) others ≡ after_moments device (along_at old) (ones ++ others)
  after_both others =
      ap (λ (a : Along). after_moments device a others) (along_is device whose ones old mid first)
      ∙ sym (after_moments-append device (along_at old) ones others)

  pub goes-append : (others : List Moment) → GoesThrough device whose others mid new → GoesThrough device whose (ones ++ others) old new
  goes-append others then = record {
    die = then.die ∙ ap (λ (a : Along). a.die) (after_both others);
    priors = then.priors ∙ ap (λ (a : Along). a.priors) (after_both others);
    sees = λ history bound seen.
        subst (λ (h : History). HasSeen h new.held) (entries_both history others)
        (then.sees (with_entries history (entries_in device whose (along_at old) ones)) bound (first.sees history bound seen));
    tape = tape_both new.told.tape others then.tape;
  }

  -- a moment behind others of those behind them makes a call
  calls_both : (done : List Moment) (moment : Moment) → CallsBehind device whose done moment mid
      → CallsBehind device whose (ones ++ done) moment old
  calls_both done moment calls history bound seen =
      let more = calls (with_entries history (entries_in device whose (along_at old) ones)) bound (first.sees history bound seen) in
      subst (λ (l : List Entry). makes_call device (after_moments device (along_at old) (ones ++ done)) l moment ≡ true)
      (ap (λ (h : History). h.entries) (entries_both history done))
      (subst (λ (a : Along). makes_call device a
      ((history.entries ++ entries_in device whose (along_at old) ones) ++ entries_in device whose (along_at mid) done) moment ≡ true)
      (after_both done) more)

  stops_in-behind : (others rest : List Moment) (instant : ℕ) → StopsIn device whose others mid new instant
      → StopsIn device whose (ones ++ (others ++ rest)) old new instant
  stops_in-behind others rest instant l = record {
    done = ones ++ l.done;
    moment = l.moment;
    later = l.later ++ rest;
    split =
        ap (λ (xs : List Moment). ones ++ (xs ++ rest)) l.split
        ∙ ap (λ (xs : List Moment). ones ++ xs) (append_assoc l.done (l.moment ∷ l.later) rest)
        ∙ sym (append_assoc ones l.done (l.moment ∷ (l.later ++ rest)));
    then = l.then;
    calls = calls_both l.done l.moment l.calls;
    sees = λ history bound seen.
        subst (λ (h : History). HasSeen h new.held) (entries_both history l.done)
        (l.sees (with_entries history (entries_in device whose (along_at old) ones)) bound (first.sees history bound seen));
    tape = elim l.tape [
      | inl without ↦ inl (tape_both new.told.tape l.done without)
      | inr own ↦ inr (tape_both new.told.tape (l.done ++ l.moment ∷ []) own
          ∙ ap (λ (ms : List Moment). with_calls old.told.tape (calls_in device (along_at old) ms))
          (sym (append_assoc ones l.done (l.moment ∷ []))))
    ];
  }

  -- it stops among moments behind others
  pub stops-behind : (others rest : List Moment) (why : Stop) → Stops device whose others mid new why
      → Stops device whose (ones ++ (others ++ rest)) old new why
  stops-behind others rest stop.NoMemory stops = tt
  stops-behind others rest (stop.Contact instant) stops = stops_in-behind others rest instant stops

-- ---- one of many moments

-- one of many among them
pub map-split : {X Y : Type 0} (f : X → Y) (items : List X) (i : ℕ) (item : X) → i < length items → item ≡ get_or items i item
    → map f items ≡ map f (take i items) ++ ((f item ∷ []) ++ map f (drop (i + 1) items))
map-split {X} {Y} f items i item within is =
    ap (map f) (sym (take-append-drop i items)) ∙ map-append f (take i items) (drop i items)
    ∙ ap (λ (xs : List X). map f (take i items) ++ map f xs) (drop-item items i item within is)

pub map-more : {X Y : Type 0} (f : X → Y) (items : List X) (i : ℕ) (item : X) → i < length items → item ≡ get_or items i item
    → map f (take (i + 1) items) ≡ map f (take i items) ++ f item ∷ []
map-more {X} {Y} f items i item within is =
    ap (map f) (take_more items i item within ∙ ap (λ (x : X). take i items ++ x ∷ []) (sym is))
    ∙ map-append f (take i items) (item ∷ [])
