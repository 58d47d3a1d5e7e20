-- The skews of a plan: the signals that its rows move at each site, and whether they keep every event inside its cycle.
use Rattle.std.specs.Prelude.{ℕ, ◌==◌, ℤ, pos, Bool, not, ◌||◌, if◌then◌else◌, Option, Some, None, List, map}
use Rattle.std.specs.List.{find, list_all, position}
use Rattle.std.specs.Option.{option_map_or}
use Rattle.std.specs.Str.{bytes_eq}
use Rattle.tester_types.specs.declared.wave.Wave.{Wave}
use Rattle.tester_types.specs.declared.wave.Table.{Table}
use Rattle.packed_code.specs.declared.parts.CodeSignal.{CodeSignal}
use Rattle.edge_gen.specs.Signals.{stay_inside}
use Rattle.plan_rows.specs.declared.fault.PlanFault.{PlanFault}
use Rattle.plan_rows.specs.declared.fault.PlanFault.TheVariants.{UnknownName, SkewOutside}
use Rattle.plan_rows.specs.declared.row.SkewRow.{SkewRow}
use Rattle.plan_rows.specs.Rows.{skews_at}
use Rattle.lot_plan.specs.Needs.{has_name}
use Rattle.lot_plan.specs.Bound.{Bound, signals_of}

-- ---- what a skew may be

-- whether a wave, if it is of this signal, stays inside a cycle of this period where a skew moves it
abbrev pub wave_stays : ℕ → ℤ → ℕ → Wave → Bool
wave_stays signal skew period wave = not (wave.signal == signal) || stay_inside period skew wave.events

-- whether each wave of the signal does, in each table
abbrev pub waves_stay : List Table → ℕ → ℤ → Bool
waves_stay tables signal skew = list_all (λ table. list_all (wave_stays signal skew table.period) table.waves) tables

-- no fault of a skew's row where its signal, if it is there, stays inside its cycles
abbrev pub skew_fault : List Table → ℕ → SkewRow → Option ℕ → Option PlanFault
skew_fault tables number row signal =
    option_map_or (λ s. if waves_stay tables s row.skew then None else Some (SkewOutside number)) signal
    (Some (UnknownName number))

-- the fault of the skew's row of this number, if it has one
abbrev pub skew_refusal : List CodeSignal → List Table → ℕ → SkewRow → Option PlanFault
skew_refusal signals tables number row = skew_fault tables number row (position (has_name row.signal) signals)

-- ---- the skews of a site

-- the skew of a signal by the rows of a site: 0 where it has none
abbrev pub skew_by : List SkewRow → List ℕ → ℤ
skew_by rows name = option_map_or (λ row. row.skew) (find (λ row. bytes_eq name row.signal) rows) (pos 0)

-- the skews of the signals, in declared order
abbrev pub skews_of : List CodeSignal → List SkewRow → List ℤ
skews_of signals rows = map (λ signal. skew_by rows signal.name) signals

-- those of the signals at a site of a bound plan, in femtoseconds
abbrev pub site_skews : Bound → ℕ → List ℤ
site_skews b site = skews_of (signals_of b) (skews_at site b.rows)
