-- Cycles with the same moments are played alike but for their marks: `tried_beside`.
use Rattle.std.proofs.Common.{◌≡◌, ℕ, zero, suc, ◌+◌, ◌||◌, Bool, true, false, cond, List, [], ◌∷◌, ◌++◌, map, length, refl, sym, ap, ◌∙◌, ℤ}
use Rattle.std.specs.Prelude.{nat_lt}
use Rattle.std.specs.List.{list_any, range_with_len, flat_map}
use Rattle.std.proofs.lemmas.List.{length-map}
use Rattle.tester_types.specs.declared.cycle.Cycle.{Cycle}
use Rattle.tester_types.specs.declared.cycle.Moment.{Moment}
use Rattle.tester_types.specs.declared.record.Fail.{Fail}
use Rattle.packed_code.specs.Program.{Program}
use Rattle.packed_code.specs.Cycles.{period_of}
use Rattle.die_sim.specs.Die.{Device}
use Rattle.strobe_check.specs.Entry.{Entry}
use Rattle.strobe_check.specs.Fails.{fails}
use Rattle.strobe_check.specs.Sensed.{is_sensed}
use Rattle.site_meaning.specs.Playing.{Stand, Going, Along, Whose, PlayedMoment, PlayedCycle, along_of, driven, bound_of, after_moment, after_moments, entry_of, entries_in, moments_in, makes_call, played_moment, moments_played, played_cycle, after_cycle}
use Rattle.site_meaning.specs.Trials.{Batch, played, after_cycles, fails_in, has_fails, in_first, pieces, of_exec, tried}
use Rattle.flat_lots.specs.Unmarked.{unmarked}
use Rattle.flat_lots.proofs.MarkLemmas.{bare, maps_append, fails_bare, sensed_bare}

-- ---- without marks

abbrev pub unmarked_moment : PlayedMoment → PlayedMoment
unmarked_moment p = record p { earlier = map unmarked p.earlier }

abbrev pub unmarked_cycle : PlayedCycle → PlayedCycle
unmarked_cycle p = record { moments = map unmarked_moment p.moments; fails = map unmarked p.fails }

abbrev pub unmarked_batch : Batch → Batch
unmarked_batch b = record b { cycles = map unmarked_cycle b.cycles }

-- ---- the moments of a cycle

-- entries that differ in their marks alone have fails that do
fails_alike : (bound : List Bool) (es es' : List Entry) → map bare es ≡ map bare es' → map unmarked (fails bound es) ≡ map unmarked (fails bound es')
fails_alike bound es es' same = sym (fails_bare bound es) ∙ ap (fails bound) same ∙ fails_bare bound es'

any_alike : (p q : ℕ → Bool) → ((n : ℕ) → p n ≡ q n) → (ns : List ℕ) → list_any p ns ≡ list_any q ns
any_alike p q same [] = refl
any_alike p q same (n ∷ ns) = ap (λ (b : Bool). b || list_any p ns) (same n) ∙ ap (λ (b : Bool). q n || b) (any_alike p q same ns)

calls_alike : (die : Device) (along : Along) (m : Moment) (es es' : List Entry) → map bare es ≡ map bare es'
    → makes_call die along es m ≡ makes_call die along es' m
calls_alike die along m es es' same =
    ap (λ (b : Bool). nat_lt 0 (length (driven die along.priors m)) || b)
    (any_alike (is_sensed (bound_of die) es m) (is_sensed (bound_of die) es' m)
    (λ n. sym (sensed_bare (bound_of die) es m n) ∙ ap (λ (l : List Entry). is_sensed (bound_of die) l m n) same ∙ sensed_bare (bound_of die) es' m n)
    (range_with_len 0 (length die.binds)))

-- whose the moments of a cycle with this mark are
abbrev by_mark : ℕ → ℕ → ℕ → Whose
by_mark exec cycle mark = record { exec = exec; cycle = cycle; mark = mark }

entries_alike : (die : Device) (exec cycle mark other : ℕ) (along : Along) (ms : List Moment)
    → map bare (entries_in die (by_mark exec cycle mark) along ms) ≡ map bare (entries_in die (by_mark exec cycle other) along ms)
unfolding entries_in
entries_alike die exec cycle mark other along [] = refl
entries_alike die exec cycle mark other along (m ∷ ms) =
    ap (λ (l : List Entry). bare (entry_of die (by_mark exec cycle mark) m (after_moment die along m).die) ∷ l)
    (entries_alike die exec cycle mark other (after_moment die along m) ms)

push_alike : (es es' : List Entry) (e e' : Entry) → map bare es ≡ map bare es' → bare e ≡ bare e' → map bare (es ++ e ∷ []) ≡ map bare (es' ++ e' ∷ [])
push_alike es es' e e' same one =
    maps_append bare es (e ∷ []) ∙ ap (λ (l : List Entry). l ++ bare e ∷ []) same ∙ ap (λ (x : Entry). map bare es' ++ x ∷ []) one
    ∙ sym (maps_append bare es' (e' ∷ []))

moment_alike : (die : Device) (along : Along) (m : Moment) (es es' : List Entry) → map bare es ≡ map bare es'
    → unmarked_moment (played_moment die along es m) ≡ unmarked_moment (played_moment die along es' m)
moment_alike die along m es es' same = λ i. record {
  at = m.at;
  calls = calls_alike die along m es es' same i;
  earlier = fails_alike (bound_of die) es es' same i;
}

moments_alike : (die : Device) (exec cycle mark other : ℕ) (along : Along) (es es' : List Entry) (ms : List Moment) → map bare es ≡ map bare es'
    → map unmarked_moment (moments_played die (by_mark exec cycle mark) along es ms)
    ≡ map unmarked_moment (moments_played die (by_mark exec cycle other) along es' ms)
unfolding moments_played
moments_alike die exec cycle mark other along es es' [] same = refl
moments_alike die exec cycle mark other along es es' (m ∷ ms) same =
    let after = after_moment die along m in
    let one = entry_of die (by_mark exec cycle mark) m after.die in
    let two = entry_of die (by_mark exec cycle other) m after.die in
    ap (λ (p : PlayedMoment). p ∷ map unmarked_moment (moments_played die (by_mark exec cycle mark) after (es ++ one ∷ []) ms))
    (moment_alike die along m es es' same)
    ∙ ap (λ (l : List PlayedMoment). unmarked_moment (played_moment die along es' m) ∷ l)
    (moments_alike die exec cycle mark other after (es ++ one ∷ []) (es' ++ two ∷ []) ms (push_alike es es' one two same refl))

-- ---- cycles

module _ (code code' : Program) (skews : List ℤ) (die : Device) where
  abbrev pub stand : Stand
  stand = record { code = code; skews = skews; device = die }

  abbrev pub beside : Stand
  beside = record { code = code'; skews = skews; device = die }

  -- a cycle of one code beside one of the other: the same moments, and a period as long
  pub record IsBeside (c c' : Cycle) : Type 0 where
    pub moments : (time : ℕ) → moments_in stand time c ≡ moments_in beside time c'
    pub period : period_of code.tables c.table ≡ period_of code'.tables c'.table

  -- all of them, one by one
  abbrev pub AreBeside : List Cycle → List Cycle → Type 0
  AreBeside [] [] = Unit {0}
  AreBeside [] (c' ∷ cs') = ⊥
  AreBeside (c ∷ cs) [] = ⊥
  AreBeside (c ∷ cs) (c' ∷ cs') = IsBeside c c' × AreBeside cs cs'

  -- those of all executives
  abbrev pub ExecsBeside : List (List Cycle) → List (List Cycle) → Type 0
  ExecsBeside [] [] = Unit {0}
  ExecsBeside [] (cs' ∷ later') = ⊥
  ExecsBeside (cs ∷ later) [] = ⊥
  ExecsBeside (cs ∷ later) (cs' ∷ later') = AreBeside cs cs' × ExecsBeside later later'

  -- a cycle by its moments
  by_moments : ℕ → Going → ℕ → List Moment → PlayedCycle
  by_moments exec going mark ms = record {
    moments = moments_played die (by_mark exec going.number mark) (along_of going) [] ms;
    fails = fails (bound_of die) (entries_in die (by_mark exec going.number mark) (along_of going) ms);
  }

  marks_alike : (exec : ℕ) (going : Going) (mark other : ℕ) (ms : List Moment)
      → unmarked_cycle (by_moments exec going mark ms) ≡ unmarked_cycle (by_moments exec going other ms)
  unfolding by_moments
  marks_alike exec going mark other ms = λ i. record {
    moments = moments_alike die exec going.number mark other (along_of going) [] [] ms refl i;
    fails =
        fails_alike (bound_of die) (entries_in die (by_mark exec going.number mark) (along_of going) ms)
        (entries_in die (by_mark exec going.number other) (along_of going) ms)
        (entries_alike die exec going.number mark other (along_of going) ms) i;
  }

  cycle_beside : (exec : ℕ) (going : Going) (c c' : Cycle) → IsBeside c c'
      → unmarked_cycle (played_cycle stand exec going c) ≡ unmarked_cycle (played_cycle beside exec going c')
  unfolding by_moments
  cycle_beside exec going c c' is =
      ap (λ (ms : List Moment). unmarked_cycle (by_moments exec going c.mark ms)) (is.moments going.time)
      ∙ marks_alike exec going c.mark c'.mark (moments_in beside going.time c')

  after_beside : (going : Going) (c c' : Cycle) → IsBeside c c' → after_cycle stand going c ≡ after_cycle beside going c'
  after_beside going c c' is = λ i. record {
    die = (after_moments die (along_of going) (is.moments going.time i)).die;
    priors = (after_moments die (along_of going) (is.moments going.time i)).priors;
    time = going.time + is.period i;
    number = going.number + 1;
  }

  played_beside : (exec : ℕ) (going : Going) (cs cs' : List Cycle) → AreBeside cs cs'
      → map unmarked_cycle (played stand exec going cs) ≡ map unmarked_cycle (played beside exec going cs')
  unfolding played
  played_beside exec going [] [] are = refl
  played_beside exec going [] (c' ∷ cs') are = absurd are
  played_beside exec going (c ∷ cs) [] are = absurd are
  played_beside exec going (c ∷ cs) (c' ∷ cs') are =
      ap (λ (l : List PlayedCycle). unmarked_cycle (played_cycle stand exec going c) ∷ l) (played_beside exec (after_cycle stand going c) cs cs' are.1)
      ∙ ap (λ (g : Going). unmarked_cycle (played_cycle stand exec going c) ∷ map unmarked_cycle (played beside exec g cs')) (after_beside going c c' are.0)
      ∙ ap (λ (p : PlayedCycle). p ∷ map unmarked_cycle (played beside exec (after_cycle beside going c') cs')) (cycle_beside exec going c c' are.0)

  behind_beside : (going : Going) (cs cs' : List Cycle) → AreBeside cs cs' → after_cycles stand going cs ≡ after_cycles beside going cs'
  unfolding after_cycles
  behind_beside going [] [] are = refl
  behind_beside going [] (c' ∷ cs') are = absurd are
  behind_beside going (c ∷ cs) [] are = absurd are
  behind_beside going (c ∷ cs) (c' ∷ cs') are =
      behind_beside (after_cycle stand going c) cs cs' are.1 ∙ ap (λ (g : Going). after_cycles beside g cs') (after_beside going c c' are.0)

-- ---- batches

-- items without marks are cut alike
first_mapped : {X Y : Type 0} (f : X → Y) (x : X) (ps : List (List X)) → in_first (f x) (map (map f) ps) ≡ map (map f) (in_first x ps)
first_mapped f x [] = refl
first_mapped f x (p ∷ ps) = refl

pieces_mapped : {X Y : Type 0} (f : X → Y) (more left : ℕ) (xs : List X) → pieces more left (map f xs) ≡ map (map f) (pieces more left xs)
unfolding pieces
pieces_mapped f more left [] = refl
pieces_mapped f more zero (x ∷ xs) = ap (λ l. (f x ∷ []) ∷ l) (pieces_mapped f more more xs)
pieces_mapped f more (suc left) (x ∷ xs) =
    ap (in_first (f x)) (pieces_mapped f more left xs) ∙ first_mapped f x (pieces more left xs)

execs_mapped : (exec : ℕ) (parts : List (List PlayedCycle)) → of_exec exec (map (map unmarked_cycle) parts) ≡ map unmarked_batch (of_exec exec parts)
execs_mapped exec [] = refl
execs_mapped exec (p ∷ parts) = ap (λ (l : List Batch). record { exec = exec; cycles = map unmarked_cycle p } ∷ l) (execs_mapped exec parts)

pub fails_unmarked : (cs : List PlayedCycle) → fails_in (map unmarked_cycle cs) ≡ map unmarked (fails_in cs)
unfolding fails_in
fails_unmarked [] = refl
fails_unmarked (c ∷ cs) =
    ap (λ (l : List Fail). map unmarked c.fails ++ l) (fails_unmarked cs)
    ∙ sym (maps_append unmarked c.fails (flat_map (λ (cycle : PlayedCycle). cycle.fails) cs))

pub has_unmarked : (cs : List PlayedCycle) → has_fails (map unmarked_cycle cs) ≡ has_fails cs
has_unmarked cs = ap (λ (l : List Fail). nat_lt 0 (length l)) (fails_unmarked cs) ∙ ap (nat_lt 0) (length-map (fails_in cs) unmarked)

-- the batches of an executive and of those behind it, by its cycles
front : ℕ → ℕ → List PlayedCycle → List Batch → List Batch
front exec more l rest = of_exec exec (pieces more more l) ++ cond (has_fails l) [] rest

rest_mapped : (b : Bool) (rest : List Batch) → map unmarked_batch (cond b [] rest) ≡ cond b [] (map unmarked_batch rest)
rest_mapped true rest = refl
rest_mapped false rest = refl

front_mapped : (exec more : ℕ) (l : List PlayedCycle) (rest : List Batch)
    → map unmarked_batch (front exec more l rest) ≡ front exec more (map unmarked_cycle l) (map unmarked_batch rest)
unfolding front
front_mapped exec more l rest =
    maps_append unmarked_batch (of_exec exec (pieces more more l)) (cond (has_fails l) [] rest)
    ∙ ap (λ (bs : List Batch). bs ++ map unmarked_batch (cond (has_fails l) [] rest))
    (sym (execs_mapped exec (pieces more more l)) ∙ ap (of_exec exec) (sym (pieces_mapped unmarked_cycle more more l)))
    ∙ ap (λ (bs : List Batch). of_exec exec (pieces more more (map unmarked_cycle l)) ++ bs)
    (rest_mapped (has_fails l) rest ∙ ap (λ (b : Bool). cond b [] (map unmarked_batch rest)) (sym (has_unmarked l)))

module _ (code code' : Program) (skews : List ℤ) (die : Device) where
  abbrev one : Stand
  one = stand code code' skews die

  abbrev two : Stand
  two = beside code code' skews die

  pub tried_beside : (more exec : ℕ) (going : Going) (execs execs' : List (List Cycle)) → ExecsBeside code code' skews die execs execs'
      → map unmarked_batch (tried one more exec going execs) ≡ map unmarked_batch (tried two more exec going execs')
  unfolding tried front
  tried_beside more exec going [] [] are = refl
  tried_beside more exec going [] (cs' ∷ later') are = absurd are
  tried_beside more exec going (cs ∷ later) [] are = absurd are
  tried_beside more exec going (cs ∷ later) (cs' ∷ later') are =
      front_mapped exec more (played one exec going cs) (tried one more (exec + 1) (after_cycles one going cs) later)
      ∙ ap (front exec more (map unmarked_cycle (played one exec going cs)))
      (tried_beside more (exec + 1) (after_cycles one going cs) later later' are.1)
      ∙ ap (λ (g : Going). front exec more (map unmarked_cycle (played one exec going cs)) (map unmarked_batch (tried two more (exec + 1) g later')))
      (behind_beside code code' skews die going cs cs' are.0)
      ∙ ap (λ (l : List PlayedCycle). front exec more l (map unmarked_batch (tried two more (exec + 1) (after_cycles two going cs') later')))
      (played_beside code code' skews die exec going cs cs' are.0)
      ∙ sym (front_mapped exec more (played two exec going cs') (tried two more (exec + 1) (after_cycles two going cs') later'))
