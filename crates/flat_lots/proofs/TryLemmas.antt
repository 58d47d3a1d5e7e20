-- Codes with the same signals, whose cycles have the same moments, give records that differ in marks alone: `records_beside`.
use Rattle.std.proofs.Common.{◌≡◌, ℕ, ℤ, zero, suc, ◌+◌, ◌-◌, ◌^◌, ◌&&◌, Bool, true, false, cond, List, [], ◌∷◌, ◌++◌, map, length, take, min, Option, Some, None, refl, sym, ap, ◌∙◌}
use Rattle.std.specs.Prelude.{nat_lt, ◌==◌}
use Rattle.std.specs.List.{find, range_with_len, flat_map}
use Rattle.std.specs.Option.{option_map, option_map_or}
use Rattle.std.proofs.lemmas.List.{length-map}
use Rattle.tester_types.specs.declared.record.Fail.{Fail}
use Rattle.tester_types.specs.declared.record.By.TheVariants as by
use Rattle.tester_types.specs.declared.record.Verdict.{Verdict}
use Rattle.tester_types.specs.declared.record.Verdict.TheVariants as verdict
use Rattle.tester_types.specs.declared.record.Record.{Record}
use Rattle.tester_types.specs.declared.record.Trial.{Trial}
use Rattle.packed_code.specs.Program.{Program}
use Rattle.packed_code.specs.declared.parts.CodeSignal.{CodeSignal}
use Rattle.bench_net.specs.Circuit.{Circuit}
use Rattle.die_sim.specs.Die.{Device, fixed_of}
use Rattle.plan_rows.specs.declared.row.Row.{Row}
use Rattle.plan_rows.specs.Rows.{faults_at, skews_at}
use Rattle.lot_plan.specs.Needs.{needs_of, clock_of}
use Rattle.lot_plan.specs.Binds.{binds_of, list_of}
use Rattle.lot_plan.specs.Bound.{numbered, active_at}
use Rattle.lot_plan.specs.Skews.{skews_of}
use Rattle.site_meaning.specs.Playing.{Stand, PlayedMoment, PlayedCycle, starting}
use Rattle.site_meaning.specs.Part.{Part, lot_in, dies_in, skews_in, circuit_in, image_in, order_in}
use Rattle.site_meaning.specs.Trials.{Batch, Outcome, Cut, uncut, live, touch, Lost, fails_in, has_fails, cycles_in, ended, blamed, before_order, by_plan, comes_first, is_hit, behind_cycle, lost_at, reached, touched, with_cut, execs_of, more_in, batches_of, recorded, trial}
use Rattle.site_meaning.specs.Records.{TryCut, cut_at, is_fail, then_again, tries_from, touchdown, records}
use Rattle.site_meaning.proofs.AlikeLemmas.{batches_on}
use Rattle.flat_lots.specs.Unmarked.{unmarked, unmarked_trial, unmarked_record}
use Rattle.flat_lots.proofs.MarkLemmas.{maps_append}
use Rattle.flat_lots.proofs.PlayLemmas.{unmarked_moment, unmarked_cycle, unmarked_batch, ExecsBeside, fails_unmarked, has_unmarked, tried_beside}

abbrev unmarked_outcome : Outcome → Outcome
unmarked_outcome o = record o { fails = map unmarked o.fails }

-- ---- what comes of batches without marks

cycles_unmarked : (bs : List Batch) → cycles_in (map unmarked_batch bs) ≡ map unmarked_cycle (cycles_in bs)
unfolding cycles_in
cycles_unmarked [] = refl
cycles_unmarked (b ∷ bs) =
    ap (λ (l : List PlayedCycle). map unmarked_cycle b.cycles ++ l) (cycles_unmarked bs)
    ∙ sym (maps_append unmarked_cycle b.cycles (flat_map (λ (batch : Batch). batch.cycles) bs))

ended_unmarked : (bs : List Batch) (v : Verdict) → ended (map unmarked_batch bs) v ≡ unmarked_outcome (ended bs v)
ended_unmarked bs v =
    let cycles = cycles_unmarked bs in
    let count : length (cycles_in (map unmarked_batch bs)) ≡ length (cycles_in bs) =
    ap (λ (l : List PlayedCycle). length l) cycles ∙ length-map (cycles_in bs) unmarked_cycle in
    let fails : fails_in (cycles_in (map unmarked_batch bs)) ≡ map unmarked (fails_in (cycles_in bs)) =
    ap fails_in cycles ∙ fails_unmarked (cycles_in bs) in
    λ i. record { cycles = count i; fails = fails i; verdict = v }

blamed_unmarked : (bs : List Batch) → blamed (map unmarked_batch bs) ≡ blamed bs
unfolding blamed
blamed_unmarked [] = refl
blamed_unmarked (b ∷ bs) =
    ap (λ (t : Bool). option_map_or (λ (batch : Batch). verdict.Fail batch.exec)
    (cond t (Some (unmarked_batch b)) (find (λ (batch : Batch). has_fails batch.cycles) (map unmarked_batch bs))) verdict.Pass) (has_unmarked b.cycles)
    ∙ step (has_fails b.cycles) (blamed_unmarked bs)
  where
    step : (t : Bool) → blamed (map unmarked_batch bs) ≡ blamed bs
        → option_map_or (λ (batch : Batch). verdict.Fail batch.exec)
        (cond t (Some (unmarked_batch b)) (find (λ (batch : Batch). has_fails batch.cycles) (map unmarked_batch bs))) verdict.Pass
        ≡ option_map_or (λ (batch : Batch). verdict.Fail batch.exec)
        (cond t (Some b) (find (λ (batch : Batch). has_fails batch.cycles) bs)) verdict.Pass
    step true rest = refl
    step false rest = rest

all_unmarked : (bs : List Batch) → ended (map unmarked_batch bs) (blamed (map unmarked_batch bs)) ≡ unmarked_outcome (ended bs (blamed bs))
all_unmarked bs = ap (ended (map unmarked_batch bs)) (blamed_unmarked bs) ∙ ended_unmarked bs (blamed bs)

takes_unmarked : (n : ℕ) (bs : List Batch) → take n (map unmarked_batch bs) ≡ map unmarked_batch (take n bs)
takes_unmarked zero bs = refl
takes_unmarked (suc n) [] = refl
takes_unmarked (suc n) (b ∷ bs) = ap (λ (l : List Batch). unmarked_batch b ∷ l) (takes_unmarked n bs)

front_unmarked : (n : ℕ) (bs : List Batch) (v : Verdict) → ended (take n (map unmarked_batch bs)) v ≡ unmarked_outcome (ended (take n bs) v)
front_unmarked n bs v = ap (λ (l : List Batch). ended l v) (takes_unmarked n bs) ∙ ended_unmarked (take n bs) v

-- of either of two outcomes
either_unmarked : (b : Bool) (x y : Outcome) (x' y' : Outcome) → x' ≡ unmarked_outcome x → y' ≡ unmarked_outcome y
    → cond b x' y' ≡ unmarked_outcome (cond b x y)
either_unmarked true x y x' y' a c = a
either_unmarked false x y x' y' a c = c

plan_unmarked : (order : Option ℕ) (bs : List Batch) → by_plan order (map unmarked_batch bs) ≡ unmarked_outcome (by_plan order bs)
plan_unmarked None bs = all_unmarked bs
plan_unmarked (Some batch) bs =
    ap (λ (n : ℕ). cond (nat_lt batch n) (ended (take batch (map unmarked_batch bs)) (verdict.Stopped batch by.Plan))
    (ended (map unmarked_batch bs) (blamed (map unmarked_batch bs)))) (length-map bs unmarked_batch)
    ∙ either_unmarked (nat_lt batch (length bs)) (ended (take batch bs) (verdict.Stopped batch by.Plan)) (ended bs (blamed bs))
    (ended (take batch (map unmarked_batch bs)) (verdict.Stopped batch by.Plan)) (ended (map unmarked_batch bs) (blamed (map unmarked_batch bs)))
    (front_unmarked batch bs (verdict.Stopped batch by.Plan)) (all_unmarked bs)

-- ---- a contact

abbrev unmarked_lost : Lost → Lost
unmarked_lost l = record l { fails = map unmarked l.fails }

hit_unmarked : (at : ℕ) (ms : List PlayedMoment) → find (is_hit at) (map unmarked_moment ms) ≡ option_map unmarked_moment (find (is_hit at) ms)
hit_unmarked at [] = refl
hit_unmarked at (m ∷ ms) = step (is_hit at m) (hit_unmarked at ms)
  where
    step : (b : Bool) → find (is_hit at) (map unmarked_moment ms) ≡ option_map unmarked_moment (find (is_hit at) ms)
        → cond b (Some (unmarked_moment m)) (find (is_hit at) (map unmarked_moment ms))
        ≡ option_map unmarked_moment (cond b (Some m) (find (is_hit at) ms))
    step true rest = refl
    step false rest = rest

behind_unmarked : (c : PlayedCycle) (o : Option Lost)
    → behind_cycle (unmarked_cycle c) (option_map unmarked_lost o) ≡ option_map unmarked_lost (behind_cycle c o)
behind_unmarked c None = refl
behind_unmarked c (Some l) =
    ap (λ (fs : List Fail). Some (record { cycles = l.cycles + 1; fails = fs })) (sym (maps_append unmarked c.fails l.fails))

at_unmarked : (o : Option PlayedMoment) (later : Option Lost)
    → lost_at (option_map unmarked_moment o) (option_map unmarked_lost later) ≡ option_map unmarked_lost (lost_at o later)
at_unmarked None later = refl
at_unmarked (Some m) later = refl

reached_unmarked : (at : ℕ) (cs : List PlayedCycle) → reached at (map unmarked_cycle cs) ≡ option_map unmarked_lost (reached at cs)
unfolding reached
reached_unmarked at [] = refl
reached_unmarked at (c ∷ cs) =
    ap (λ (o : Option PlayedMoment). lost_at o (behind_cycle (unmarked_cycle c) (reached at (map unmarked_cycle cs)))) (hit_unmarked at c.moments)
    ∙ ap (λ (o : Option Lost). lost_at (option_map unmarked_moment (find (is_hit at) c.moments)) (behind_cycle (unmarked_cycle c) o))
    (reached_unmarked at cs)
    ∙ ap (lost_at (option_map unmarked_moment (find (is_hit at) c.moments))) (behind_unmarked c (reached at cs))
    ∙ at_unmarked (find (is_hit at) c.moments) (behind_cycle c (reached at cs))

order_unmarked : (order : Option ℕ) (bs : List Batch) → before_order order (map unmarked_batch bs) ≡ map unmarked_batch (before_order order bs)
order_unmarked None bs = refl
order_unmarked (Some batch) bs = takes_unmarked batch bs

touched_unmarked : (at : ℕ) (o : Option Lost) (x x' : Outcome) → x' ≡ unmarked_outcome x
    → option_map_or (touched at) (option_map unmarked_lost o) x' ≡ unmarked_outcome (option_map_or (touched at) o x)
touched_unmarked at None x x' same = same
touched_unmarked at (Some l) x x' same = refl

-- ---- a try

cut_unmarked : (order : Option ℕ) (bs : List Batch) (cut : Cut) → with_cut order (map unmarked_batch bs) cut ≡ unmarked_outcome (with_cut order bs cut)
cut_unmarked order bs uncut = plan_unmarked order bs
cut_unmarked order bs (live batch number) =
    ap (λ (n : ℕ). cond (nat_lt batch n && comes_first batch order) (ended (take batch (map unmarked_batch bs)) (verdict.Stopped batch (by.Desk number)))
    (by_plan order (map unmarked_batch bs))) (length-map bs unmarked_batch)
    ∙ either_unmarked (nat_lt batch (length bs) && comes_first batch order) (ended (take batch bs) (verdict.Stopped batch (by.Desk number)))
    (by_plan order bs) (ended (take batch (map unmarked_batch bs)) (verdict.Stopped batch (by.Desk number))) (by_plan order (map unmarked_batch bs))
    (front_unmarked batch bs (verdict.Stopped batch (by.Desk number))) (plan_unmarked order bs)
cut_unmarked order bs (touch at) =
    let none : Outcome = touched 0 (record { cycles = 0; fails = [] }) in
    let there = reached at (cycles_in (before_order order bs)) in
    let same : reached at (cycles_in (before_order order (map unmarked_batch bs))) ≡ option_map unmarked_lost there =
    ap (λ (l : List Batch). reached at (cycles_in l)) (order_unmarked order bs) ∙ ap (reached at) (cycles_unmarked (before_order order bs))
    ∙ reached_unmarked at (cycles_in (before_order order bs)) in
    either_unmarked (at == 0) none (option_map_or (touched at) there (by_plan order bs)) none
    (option_map_or (touched at) (reached at (cycles_in (before_order order (map unmarked_batch bs)))) (by_plan order (map unmarked_batch bs))) refl
    (ap (λ (o : Option Lost). option_map_or (touched at) o (by_plan order (map unmarked_batch bs))) same
    ∙ touched_unmarked at there (by_plan order bs) (by_plan order (map unmarked_batch bs)) (plan_unmarked order bs))

fails_taken : (n : ℕ) (fs : List Fail) → take n (map unmarked fs) ≡ map unmarked (take n fs)
fails_taken zero fs = refl
fails_taken (suc n) [] = refl
fails_taken (suc n) (f ∷ fs) = ap (λ (l : List Fail). unmarked f ∷ l) (fails_taken n fs)

recorded_unmarked : (keep number : ℕ) (o : Outcome) → recorded keep number (unmarked_outcome o) ≡ unmarked_trial (recorded keep number o)
recorded_unmarked keep number o = λ i. record {
  number = number;
  cycles = o.cycles;
  fails = min (length-map o.fails unmarked i) (2 ^ 64 - 1);
  kept = fails_taken keep o.fails i;
  verdict = o.verdict;
}

-- equal batches but for their marks give equal tries but for theirs
try_unmarked : (keep number : ℕ) (order : Option ℕ) (bs bs' : List Batch) (cut : Cut) → map unmarked_batch bs ≡ map unmarked_batch bs'
    → unmarked_trial (recorded keep number (with_cut order bs cut)) ≡ unmarked_trial (recorded keep number (with_cut order bs' cut))
try_unmarked keep number order bs bs' cut same =
    sym (recorded_unmarked keep number (with_cut order bs cut))
    ∙ ap (recorded keep number) (sym (cut_unmarked order bs cut) ∙ ap (λ (l : List Batch). with_cut order l cut) same ∙ cut_unmarked order bs' cut)
    ∙ recorded_unmarked keep number (with_cut order bs' cut)

-- a try, and more of them where it failed
again_mapped : (t : Trial) (l : List Trial) → map unmarked_trial (then_again t l) ≡ then_again (unmarked_trial t) (map unmarked_trial l)
again_mapped t l = ap (λ (r : List Trial). unmarked_trial t ∷ r) (step (is_fail t.verdict))
  where
    step : (b : Bool) → map unmarked_trial (cond b l []) ≡ cond b (map unmarked_trial l) []
    step true = refl
    step false = refl

again_unmarked : (t t' : Trial) (l l' : List Trial) → unmarked_trial t ≡ unmarked_trial t' → map unmarked_trial l ≡ map unmarked_trial l'
    → map unmarked_trial (then_again t l) ≡ map unmarked_trial (then_again t' l')
again_unmarked t t' l l' one more =
    again_mapped t l ∙ ap (λ (x : Trial). then_again x (map unmarked_trial l)) one ∙ ap (then_again (unmarked_trial t')) more ∙ sym (again_mapped t' l')

-- ---- a part

-- what a try runs on, by the rows, a code, its signals and a circuit
stand_by : List Row → ℕ → ℕ → ℕ → Program → List CodeSignal → Circuit → Stand
stand_by rows site die number code signals c = record {
  code = code;
  skews = skews_of signals (skews_at site rows);
  device = record {
    circuit = c;
    clock = clock_of rows signals;
    binds = list_of (binds_of c (needs_of rows signals));
    fixed = fixed_of (length c.net.names) (active_at number (map (numbered c) (faults_at site die rows)));
  };
}

-- the cycles of all executives have the same moments, whatever they run on
abbrev pub CodesBeside : Program → Program → Type 0
CodesBeside code other = (skews : List ℤ) (die : Device) → ExecsBeside code other skews die (execs_of code) (execs_of other)

on_beside : (rows : List Row) (site die number more : ℕ) (code other : Program) (c : Circuit) → code.signals ≡ other.signals → CodesBeside code other
    → map unmarked_batch (batches_on (stand_by rows site die number code code.signals c) more code)
    ≡ map unmarked_batch (batches_on (stand_by rows site die number other other.signals c) more other)
unfolding batches_on stand_by
on_beside rows site die number more code other c signals beside =
    let s = stand_by rows site die number code code.signals c in
    tried_beside code other s.skews s.device more 0 (starting s.device) (execs_of code) (execs_of other) (beside s.skews s.device)
    ∙ ap (λ (all : List CodeSignal). map unmarked_batch (batches_on (stand_by rows site die number other all c) more other)) signals

module _ (part : Part) (code : Program) (signals : part.code.signals ≡ code.signals) (beside : CodesBeside part.code code) where
  -- the same part with the other code
  abbrev pub other : Part
  other = record { site = part.site; code = code; rows = part.rows; circuits = part.circuits }

  batches_beside : (die number : ℕ) → map unmarked_batch (batches_of part die number) ≡ map unmarked_batch (batches_of other die number)
  unfolding batches_of batches_on stand_by skews_in image_in
  batches_beside die number = on_beside part.rows part.site die number (more_in part) part.code code (circuit_in part die) signals beside

  trial_beside : (die number : ℕ) (cut : Cut) → unmarked_trial (trial part die number cut) ≡ unmarked_trial (trial other die number cut)
  unfolding trial order_in
  trial_beside die number cut =
      try_unmarked (lot_in part).keep number (order_in part die number) (batches_of part die number) (batches_of other die number) cut
      (batches_beside die number)

  tries_beside : (cuts : List TryCut) (die number left : ℕ)
      → map unmarked_trial (tries_from part cuts die number left) ≡ map unmarked_trial (tries_from other cuts die number left)
  unfolding tries_from
  tries_beside cuts die number zero = refl
  tries_beside cuts die number (suc left) =
      again_unmarked (trial part die number (cut_at cuts die number)) (trial other die number (cut_at cuts die number))
      (tries_from part cuts die (number + 1) left) (tries_from other cuts die (number + 1) left)
      (trial_beside die number (cut_at cuts die number)) (tries_beside cuts die (number + 1) left)

  record_beside : (cuts : List TryCut) (die : ℕ) → unmarked_record (touchdown part cuts die) ≡ unmarked_record (touchdown other cuts die)
  record_beside cuts die = λ i. record { site = part.site; die = die; trials = tries_beside cuts die 1 (lot_in part).tries i }

  each_beside : (cuts : List TryCut) (from count : ℕ)
      → map unmarked_record (map (touchdown part cuts) (range_with_len from count))
      ≡ map unmarked_record (map (touchdown other cuts) (range_with_len from count))
  each_beside cuts from zero = refl
  each_beside cuts from (suc count) =
      ap (λ (l : List Record). unmarked_record (touchdown part cuts from) ∷ l) (each_beside cuts (from + 1) count)
      ∙ ap (λ (r : Record). r ∷ map unmarked_record (map (touchdown other cuts) (range_with_len (from + 1) count))) (record_beside cuts from)

  pub records_beside : (cuts : List TryCut) → map unmarked_record (records part cuts) ≡ map unmarked_record (records other cuts)
  records_beside cuts = each_beside cuts 0 (dies_in part)
