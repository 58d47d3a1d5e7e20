-- The lot of a bound plan where neither a live stop nor a lost contact cuts a try: what it records, and its text.
-- Orders of the plan may stop tries there.
use Rattle.std.specs.Prelude.{ℕ, List, [], map}
use Rattle.std.specs.List.{range_with_len}
use Rattle.tester_types.specs.declared.record.Record.{Record}
use Rattle.plan_rows.specs.Rows.{sites_of}
use Rattle.lot_plan.specs.Bound.{Bound}
use Rattle.site_meaning.specs.Part.{part_of}
use Rattle.site_meaning.specs.Records.{records}
use Rattle.datalog.specs.DatalogText.{lot_text}

-- the records of each site, as the plan makes them without cuts
abbrev pub uncut_sites : Bound → List (List Record)
uncut_sites plan = map (λ (site : ℕ). records (part_of plan site) []) (range_with_len 0 (sites_of plan.rows))

-- the text of the lot with these records
abbrev pub uncut_text : Bound → List ℕ
uncut_text plan = lot_text plan.program plan (uncut_sites plan)
