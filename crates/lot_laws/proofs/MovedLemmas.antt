-- A site under another number records the same, and prints the same of its dies.
use Rattle.std.proofs.Common.{◌≡◌, ℕ, zero, suc, ◌+◌, ℤ, Bool, cond, List, [], ◌∷◌, length, map, get_or, Option, Some, refl, ap, ◌∙◌, true, false}
use Rattle.std.specs.Prelude.{◌==◌, ◌-◌, pos}
use Rattle.std.specs.List.{find, range_with_len}
use Rattle.std.specs.Option.{option_map, option_map_or}
use Rattle.std.specs.Str.{bytes_eq}
use Rattle.std.proofs.lemmas.List.{length-map}
use Rattle.tester_types.specs.declared.record.Record.{Record}
use Rattle.tester_types.specs.declared.record.Trial.{Trial}
use Rattle.packed_code.specs.declared.parts.CodeSignal.{CodeSignal}
use Rattle.bench_net.specs.Circuit.{Circuit}
use Rattle.die_sim.specs.Die.{device_of}
use Rattle.plan_rows.specs.declared.row.DieRow.{DieRow}
use Rattle.plan_rows.specs.declared.row.FaultRow.{FaultRow}
use Rattle.plan_rows.specs.declared.row.SkewRow.{SkewRow}
use Rattle.plan_rows.specs.declared.row.StopRow.{StopRow}
use Rattle.plan_rows.specs.declared.row.LotRow.{LotRow}
use Rattle.plan_rows.specs.declared.row.BindRow.{BindRow}
use Rattle.plan_rows.specs.Rows.{each_of, as_clock, as_bind, dies_at, faults_at, stops_at, skews_at}
use Rattle.lot_plan.specs.declared.bound_die.DieFault.{DieFault}
use Rattle.lot_plan.specs.Bound.{numbered, loaded}
use Rattle.lot_plan.specs.Skews.{skew_by, skews_of}
use Rattle.site_meaning.proofs.PartLemmas.{bound_by}
use Rattle.site_meaning.specs.Playing.{Stand, starting}
use Rattle.site_meaning.specs.Part.{Part, lot_in, dies_in, order_in, skews_in, circuit_in, image_in, stand_for}
use Rattle.site_meaning.specs.Trials.{Cut, with_cut, recorded, trial, batches_of, tried, execs_of, more_in}
use Rattle.site_meaning.specs.Records.{TryCut, cut_at, then_again, tries_from, touchdown, records}
use Rattle.plan_parts.specs.Moved.{moved}
use Rattle.lot_laws.specs.Moved.{moved_record}
use Rattle.lot_laws.proofs.MovedRows.{AreOf, lots_moved, clocks_moved, binds_moved, dies_moved, faults_moved, stops_moved, skews_moved}

-- ---- what is found among changed rows

-- the order for a try
find_order : (place number : ℕ) (ss : List StopRow)
    → option_map (λ (s : StopRow). s.batch) (find (λ (s : StopRow). s.number == number) (map (λ (s : StopRow). record s { site = place }) ss))
    ≡ option_map (λ (s : StopRow). s.batch) (find (λ (s : StopRow). s.number == number) ss)
find_order place number [] = refl
find_order place number (s ∷ ss) = by (s.number == number) _ _ (find_order place number ss)
  where
    by : (b : Bool) (later later' : Option StopRow) → option_map (λ (s : StopRow). s.batch) later ≡ option_map (λ (s : StopRow). s.batch) later'
        → option_map (λ (s : StopRow). s.batch) (cond b (Some (record s { site = place })) later)
        ≡ option_map (λ (s : StopRow). s.batch) (cond b (Some s) later')
    by true later later' same = refl
    by false later later' same = same

-- the skew of a signal
find_skew : (place : ℕ) (name : List ℕ) (ks : List SkewRow) → skew_by (map (λ (k : SkewRow). record k { site = place }) ks) name ≡ skew_by ks name
find_skew place name [] = refl
find_skew place name (k ∷ ks) = by (bytes_eq name k.signal) _ _ (find_skew place name ks)
  where
    by : (b : Bool) (later later' : Option SkewRow)
        → option_map_or (λ (k : SkewRow). k.skew) later (pos 0) ≡ option_map_or (λ (k : SkewRow). k.skew) later' (pos 0)
        → option_map_or (λ (k : SkewRow). k.skew) (cond b (Some (record k { site = place })) later) (pos 0)
        ≡ option_map_or (λ (k : SkewRow). k.skew) (cond b (Some k) later') (pos 0)
    by true later later' same = refl
    by false later later' same = same

all_skews : (place : ℕ) (signals : List CodeSignal) (ks : List SkewRow)
    → skews_of signals (map (λ (k : SkewRow). record k { site = place }) ks) ≡ skews_of signals ks
all_skews place [] ks = refl
all_skews place (s ∷ signals) ks =
    ap (λ (z : ℤ). z ∷ skews_of signals (map (λ (k : SkewRow). record k { site = place }) ks)) (find_skew place s.name ks)
    ∙ ap (λ (l : List ℤ). skew_by ks s.name ∷ l) (all_skews place signals ks)

-- faults by the numbers of their nets
all_numbered : (place : ℕ) (c : Circuit) (fs : List FaultRow) → map (numbered c) (map (λ (f : FaultRow). record f { site = place }) fs) ≡ map (numbered c) fs
all_numbered place c [] = refl
all_numbered place c (f ∷ fs) = ap (λ (l : List DieFault). numbered c f ∷ l) (all_numbered place c fs)

-- ---- a part under another number

module _ (part : Part) (place : ℕ) (of_site : AreOf part.site part.rows) where
  abbrev pub there : Part
  there = record { site = place; code = part.code; rows = map (moved place) part.rows; circuits = part.circuits }

  pub lot_is : lot_in there ≡ lot_in part
  lot_is = ap (λ (l : List LotRow). get_or l 0 (record { batch = 0; tries = 0; keep = 0 })) (lots_moved place part.rows)

  pub dies_is : dies_in there ≡ dies_in part
  dies_is =
      ap (λ (l : List DieRow). length l) (dies_moved part.site place part.rows of_site)
      ∙ length-map (dies_at part.site part.rows) (λ (d : DieRow). record d { site = place })

  order_is : (die number : ℕ) → order_in there die number ≡ order_in part die number
  unfolding order_in
  order_is die number =
      ap (λ (l : List StopRow). option_map (λ (s : StopRow). s.batch) (find (λ (s : StopRow). s.number == number) l))
      (stops_moved part.site die place part.rows of_site)
      ∙ find_order place number (stops_at part.site die part.rows)

  skews_is : skews_in there ≡ skews_in part
  unfolding skews_in
  skews_is =
      ap (skews_of part.code.signals) (skews_moved part.site place part.rows of_site)
      ∙ all_skews place part.code.signals (skews_at part.site part.rows)

  image_is : (die number : ℕ) → image_in there die number ≡ image_in part die number
  unfolding image_in
  image_is die number =
      let c = circuit_in part die in
      ap (λ (l : List (List ℕ)). loaded c (bound_by part.code.signals c l (each_of as_bind (map (moved place) part.rows))) number
      (map (numbered c) (faults_at place die (map (moved place) part.rows)))) (clocks_moved place part.rows)
      ∙ ap (λ (l : List BindRow). loaded c (bound_by part.code.signals c (each_of as_clock part.rows) l) number
      (map (numbered c) (faults_at place die (map (moved place) part.rows)))) (binds_moved place part.rows)
      ∙ ap (λ (l : List DieFault). loaded c (bound_by part.code.signals c (each_of as_clock part.rows) (each_of as_bind part.rows)) number l)
      (ap (map (numbered c)) (faults_moved part.site die place part.rows of_site) ∙ all_numbered place c (faults_at part.site die part.rows))

  pub stand_is : (die number : ℕ) → stand_for there die number ≡ stand_for part die number
  stand_is die number = λ i. record { code = part.code; skews = skews_is i; device = device_of (image_is die number i) }

  pub trial_is : (die number : ℕ) (cut : Cut) → trial there die number cut ≡ trial part die number cut
  unfolding trial batches_of
  trial_is die number cut =
      ap (λ (l : LotRow). recorded l.keep number (with_cut (order_in there die number)
      (tried (stand_for there die number) (l.batch - 1) 0 (starting (stand_for there die number).device) (execs_of part.code)) cut)) lot_is
      ∙ ap (λ (o : Option ℕ). recorded (lot_in part).keep number (with_cut o
      (tried (stand_for there die number) (more_in part) 0 (starting (stand_for there die number).device) (execs_of part.code)) cut)) (order_is die number)
      ∙ ap (λ (s : Stand). recorded (lot_in part).keep number (with_cut (order_in part die number)
      (tried s (more_in part) 0 (starting s.device) (execs_of part.code)) cut)) (stand_is die number)

  tries_is : (cuts : List TryCut) (die number left : ℕ) → tries_from there cuts die number left ≡ tries_from part cuts die number left
  unfolding tries_from
  tries_is cuts die number zero = refl
  tries_is cuts die number (suc left) =
      ap (λ (l : List Trial). then_again (trial there die number (cut_at cuts die number)) l) (tries_is cuts die (number + 1) left)
      ∙ ap (λ (t : Trial). then_again t (tries_from part cuts die (number + 1) left)) (trial_is die number (cut_at cuts die number))

  touchdown_is : (cuts : List TryCut) (die : ℕ) → touchdown there cuts die ≡ moved_record place (touchdown part cuts die)
  touchdown_is cuts die =
      let tries : tries_from there cuts die 1 (lot_in there).tries ≡ tries_from part cuts die 1 (lot_in part).tries =
      ap (λ (l : LotRow). tries_from there cuts die 1 l.tries) lot_is ∙ tries_is cuts die 1 (lot_in part).tries in
      λ i. record { site = place; die = die; trials = tries i }

  each_is : (cuts : List TryCut) (dies : List ℕ) → map (touchdown there cuts) dies ≡ map (moved_record place) (map (touchdown part cuts) dies)
  each_is cuts [] = refl
  each_is cuts (die ∷ dies) =
      ap (λ (r : Record). r ∷ map (touchdown there cuts) dies) (touchdown_is cuts die)
      ∙ ap (λ (l : List Record). moved_record place (touchdown part cuts die) ∷ l) (each_is cuts dies)

  -- its records are those of the part under that number
  pub records_is : (cuts : List TryCut) → records there cuts ≡ map (moved_record place) (records part cuts)
  records_is cuts =
      ap (λ (n : ℕ). map (touchdown there cuts) (range_with_len 0 n)) dies_is ∙ each_is cuts (range_with_len 0 (dies_in part))
