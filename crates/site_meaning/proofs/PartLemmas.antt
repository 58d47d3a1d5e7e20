-- The part of a site says of the site what the plan says, and is that of the plan with the site's rows alone.
use Rattle.std.proofs.Common.{◌≡◌, ℕ, zero, suc, ◌+◌, ◌<◌, ◌≤◌, Bool, true, false, ◌||◌, cond, List, [], ◌∷◌, length, map, get_or, Some, refl, sym, ap, ◌∙◌, subst, arith}
use Rattle.std.specs.Prelude.{◌==◌, not, option_map, option_and_then}
use Rattle.std.specs.Option.{option_map_or}
use Rattle.std.specs.List.{AllByRecursion, find, list_any, position, position_or_len, range_with_len, fold, slice_get}
use Rattle.std.specs.Str.{bytes_eq}
use Rattle.std.specs.Cmp.Lexicographic.{bytes_decides}
use Rattle.std.proofs.lemmas.Bool.{false≢true, or_left, or_right}
use Rattle.std.proofs.lemmas.List.FromFn.{get_or-map-range_with_len}
use Rattle.text_bytes.specs.Texts.{added}
use Rattle.text_bytes.proofs.ListLemmas.{all_filter}
use Rattle.bench_net.specs.Circuit.{Circuit}
use Rattle.die_sim.specs.declared.image.Binding.{Binding}
use Rattle.packed_code.specs.Program.{Program}
use Rattle.packed_code.proofs.Lists.{all_at}
use Rattle.packed_code.specs.declared.parts.CodeSignal.{CodeSignal}
use Rattle.plan_rows.specs.declared.row.Row.{Row}
use Rattle.plan_rows.specs.declared.row.LotRow.{LotRow}
use Rattle.plan_rows.specs.declared.row.DieRow.{DieRow}
use Rattle.plan_rows.specs.declared.row.BindRow.{BindRow}
use Rattle.plan_rows.specs.declared.row.FaultRow.{FaultRow}
use Rattle.plan_rows.specs.declared.row.StopRow.{StopRow}
use Rattle.plan_rows.specs.Rows.{dies_of, dies_at, faults_at, files_of, lot_of, each_of, as_clock, as_bind}
use Rattle.lot_plan.specs.Needs.{PinNeed, role_of, is_clock_name, has_name}
use Rattle.lot_plan.specs.Binds.{binds_of, list_of}
use Rattle.lot_plan.specs.Bound.{Bound, no_circuit, die_at, circuit_of, binding_to, numbered, loaded, image_of, stop_of}
use Rattle.lot_plan.specs.Skews.{skews_of, site_skews}
use Rattle.lot_plan.proofs.NameLemmas.{any-with_file}
use Rattle.site_meaning.specs.Part.{Part, rows_for, circuits_for, part_of, circuit_for, only, lot_in, dies_in, skews_in, circuit_in, as_plan, image_in, order_in}
use Rattle.site_meaning.specs.Records.{TryCut, records}
use Rattle.site_meaning.proofs.RowLemmas.{lots-same, clocks-same, binds-same, dies-same, faults-same, stops-same, skews-same, rows_for-rows_for}

-- ---- what the part says

pub lot_in-part_of : (plan : Bound) (site : ℕ) → lot_in (part_of plan site) ≡ lot_of plan.rows
lot_in-part_of plan site =
    ap (λ (l : List LotRow). get_or l 0 (record { batch = 0; tries = 0; keep = 0 })) (lots-same site plan.rows)

pub dies_in-part_of : (plan : Bound) (site : ℕ) → dies_in (part_of plan site) ≡ length (dies_at site plan.rows)
dies_in-part_of plan site = ap length (dies-same site plan.rows)

pub skews_in-part_of : (plan : Bound) (site : ℕ) → skews_in (part_of plan site) ≡ site_skews plan site
unfolding skews_in
skews_in-part_of plan site = ap (skews_of plan.program.signals) (skews-same site plan.rows)

pub order_in-part_of : (plan : Bound) (site die number : ℕ)
    → order_in (part_of plan site) die number ≡ stop_of plan.rows site die number
unfolding order_in
order_in-part_of plan site die number =
    ap (λ (l : List StopRow). option_map (λ (s : StopRow). s.batch) (find (λ (s : StopRow). s.number == number) l))
    (stops-same site die plan.rows)

pub circuit_in-part_of : (plan : Bound) (site die : ℕ) → die < length (dies_at site plan.rows)
    → circuit_in (part_of plan site) die ≡ circuit_of plan site die
unfolding circuits_for
circuit_in-part_of plan site die planned =
    get_or-map-range_with_len (circuit_of plan site) 0 (length (dies_at site plan.rows)) die die no_circuit planned (omega arith)

-- what a signal needs, by the rows of the clock and the binds
abbrev pub need_by : List (List ℕ) → List BindRow → CodeSignal → PinNeed
need_by clocks binds s = record {
  name = s.name;
  role = role_of (is_clock_name (slice_get clocks 0) s.name) s.direction;
  net = option_map_or (λ (b : BindRow). b.net) (find (λ (b : BindRow). bytes_eq s.name b.signal) binds) (Some s.name);
}

-- how signals are bound to a circuit by these rows
abbrev pub bound_by : List CodeSignal → Circuit → List (List ℕ) → List BindRow → Binding
bound_by signals c clocks binds = record {
  clock = option_and_then (λ (name : List ℕ). position (has_name name) signals) (slice_get clocks 0);
  nets = list_of (binds_of c (map (need_by clocks binds) signals));
}

binding_to-part_of : (plan : Bound) (site : ℕ) (c : Circuit)
    → binding_to (as_plan (part_of plan site)) c ≡ binding_to plan c
binding_to-part_of plan site c =
    ap (λ (clocks : List (List ℕ)). bound_by plan.program.signals c clocks (each_of as_bind (rows_for site plan.rows)))
    (clocks-same site plan.rows)
    ∙ ap (λ (binds : List BindRow). bound_by plan.program.signals c (each_of as_clock plan.rows) binds)
    (binds-same site plan.rows)

pub image_in-part_of : (plan : Bound) (site die number : ℕ) → die < length (dies_at site plan.rows)
    → image_in (part_of plan site) die number ≡ image_of plan site die number
unfolding image_in
image_in-part_of plan site die number planned =
    ap (λ (c : Circuit). loaded c (binding_to (as_plan part) c) number (map (numbered c) (faults_at site die (rows_for site plan.rows))))
    (circuit_in-part_of plan site die planned)
    ∙ ap (λ (b : Binding). loaded circuit b number (map (numbered circuit) (faults_at site die (rows_for site plan.rows))))
    (binding_to-part_of plan site circuit)
    ∙ ap (λ (l : List FaultRow). loaded circuit (binding_to plan circuit) number (map (numbered circuit) l))
    (faults-same site die plan.rows)
  where
    part : Part
    part = part_of plan site

    circuit : Circuit
    circuit = circuit_of plan site die

-- ---- the plan with the site's rows alone

-- a file that is named stands where its circuit is
step-file : (g : List ℕ → Circuit) (here : Bool) (k n : List ℕ) (ks : List (List ℕ)) (place : ℕ) → (here ≡ true → n ≡ k)
    → (here ≡ false → get_or (map g ks) place no_circuit ≡ g n)
    → get_or (map g (k ∷ ks)) (cond (not here) (1 + place) 0) no_circuit ≡ g n
step-file g true k n ks place same later = ap g (sym (same refl))
step-file g false k n ks place same later =
    let next : 1 + place ≡ suc place = omega arith in
    ap (λ (i : ℕ). get_or (map g (k ∷ ks)) i no_circuit) next ∙ later refl

file_found : (g : List ℕ → Circuit) (n : List ℕ) (ks : List (List ℕ)) → list_any (bytes_eq n) ks ≡ true
    → get_or (map g ks) (position_or_len (bytes_eq n) ks) no_circuit ≡ g n
file_found g n [] there = absurd (false≢true there)
file_found g n (k ∷ ks) there =
    step-file g (bytes_eq n k) k n ks (position_or_len (bytes_eq n) ks) (bytes_decides n k).0
    (λ apart. file_found g n ks (sym (ap (λ (b : Bool). b || list_any (bytes_eq n) ks) apart) ∙ there))

-- the files that dies name
abbrev named : List (List ℕ) → List DieRow → List (List ℕ)
named files dies = fold (λ names d. added names d.file) files dies

still_there : (dies : List DieRow) (files : List (List ℕ)) (n : List ℕ) → list_any (bytes_eq n) files ≡ true
    → list_any (bytes_eq n) (named files dies) ≡ true
still_there [] files n there = there
still_there (d ∷ dies) files n there =
    still_there dies (added files d.file) n
    (any-with_file files d.file n ∙ or_left (list_any (bytes_eq n) files) (bytes_eq n d.file) there)

all_there : (dies : List DieRow) (files : List (List ℕ))
    → AllByRecursion (λ (d : DieRow). list_any (bytes_eq d.file) (named files dies) ≡ true) dies
all_there [] files = tt
all_there (d ∷ dies) files = (
  still_there dies (added files d.file) d.file
      (any-with_file files d.file d.file
      ∙ or_right (list_any (bytes_eq d.file) files) (bytes_eq d.file d.file) ((bytes_decides d.file d.file).1 refl)),
  all_there dies (added files d.file),
)

-- no die
abbrev no_die : DieRow
no_die = record { site = 0; name = []; file = [] }

-- the file of a die of a site is named
die_named : (site die : ℕ) (rows : List Row) → die < length (dies_at site rows)
    → list_any (bytes_eq (die_at rows site die).file) (files_of rows) ≡ true
die_named site die rows planned =
    all_at (λ (d : DieRow). list_any (bytes_eq d.file) (files_of rows) ≡ true) (dies_at site rows) die no_die
    (all_filter (λ (d : DieRow). list_any (bytes_eq d.file) (files_of rows) ≡ true) (λ (d : DieRow). d.site == site) (dies_of rows)
    (all_there (dies_of rows) [])) planned

-- a die of the site has its circuit
circuit_of-only : (plan : Bound) (site die : ℕ) → die < length (dies_at site plan.rows)
    → circuit_of (only site plan) site die ≡ circuit_of plan site die
circuit_of-only plan site die planned =
    file_found (circuit_for plan) (die_at rows site die).file (files_of rows)
    (die_named site die rows (subst (λ (l : List DieRow). die < length l) (sym same) planned))
    ∙ ap (λ (l : List DieRow). circuit_for plan (get_or l die no_die).file) same
  where
    rows : List Row
    rows = rows_for site plan.rows

    same : dies_at site rows ≡ dies_at site plan.rows
    same = dies-same site plan.rows

-- two functions that agree on so many numbers
map-agree : {X : Type 0} (f g : ℕ → X) (from count : ℕ) → ((n : ℕ) → from ≤ n → n < from + count → f n ≡ g n)
    → map f (range_with_len from count) ≡ map g (range_with_len from count)
map-agree f g from zero same = refl
map-agree {X} f g from (suc count) same =
    ap (λ (x : X). x ∷ map f (range_with_len (from + 1) count)) (same from (omega arith) (omega arith))
    ∙ ap (λ (l : List X). g from ∷ l)
    (map-agree f g (from + 1) count (λ n low high. same n (omega (arith, low)) (omega (arith, high))))

circuits_for-only : (plan : Bound) (site : ℕ) → circuits_for (only site plan) site ≡ circuits_for plan site
unfolding circuits_for
circuits_for-only plan site =
    ap (λ (l : List DieRow). map (circuit_of (only site plan) site) (range_with_len 0 (length l))) (dies-same site plan.rows)
    ∙ map-agree (circuit_of (only site plan) site) (circuit_of plan site) 0 (length (dies_at site plan.rows))
    (λ n low high. circuit_of-only plan site n (omega (arith, high)))

pub part_of-only : (plan : Bound) (site : ℕ) → part_of (only site plan) site ≡ part_of plan site
part_of-only plan site =
    let with_rows : List Row → Part =
    λ l. record { site = site; code = plan.program; rows = l; circuits = circuits_for (only site plan) site } in
    let with_circuits : List Circuit → Part =
    λ l. record { site = site; code = plan.program; rows = rows_for site plan.rows; circuits = l } in
    ap with_rows (rows_for-rows_for site plan.rows) ∙ ap with_circuits (circuits_for-only plan site)

-- plans that agree in what concerns a site give it one part
pub same_part : (plan other : Bound) (site : ℕ) → plan.program ≡ other.program
    → rows_for site plan.rows ≡ rows_for site other.rows → circuits_for plan site ≡ circuits_for other site
    → part_of plan site ≡ part_of other site
same_part plan other site programs rows circuits =
    let of_program : Program → Part =
    λ x. record { site = site; code = x; rows = rows_for site plan.rows; circuits = circuits_for plan site } in
    let of_rows : List Row → Part =
    λ x. record { site = site; code = other.program; rows = x; circuits = circuits_for plan site } in
    let of_circuits : List Circuit → Part =
    λ x. record { site = site; code = other.program; rows = rows_for site other.rows; circuits = x } in
    ap of_program programs ∙ ap of_rows rows ∙ ap of_circuits circuits

pub same_records : (plan other : Bound) (site : ℕ) (cuts : List TryCut) → plan.program ≡ other.program
    → rows_for site plan.rows ≡ rows_for site other.rows → circuits_for plan site ≡ circuits_for other site
    → records (part_of plan site) cuts ≡ records (part_of other site) cuts
same_records plan other site cuts programs rows circuits =
    ap (λ (p : Part). records p cuts) (same_part plan other site programs rows circuits)
