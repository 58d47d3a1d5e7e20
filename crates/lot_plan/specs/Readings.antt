-- What a bound plan says of the whole lot: its first die, and the bins of its verdicts.
use Rattle.std.specs.Prelude.{ℕ, ◌==◌, Bool, true, false, Option, List, slice_get}
use Rattle.std.specs.List.{find}
use Rattle.std.specs.Option.{option_map, option_map_or}
use Rattle.tester_types.specs.declared.record.Verdict.{Verdict}
use Rattle.tester_types.specs.declared.record.Verdict.TheVariants as verdict
use Rattle.plan_rows.specs.declared.row.Row.{Row}
use Rattle.plan_rows.specs.declared.row.Ending.{Ending}
use Rattle.plan_rows.specs.declared.row.Ending.TheVariants as ending
use Rattle.plan_rows.specs.Rows.{each_of, as_bin, dies_of}

-- the site of the first die row, and the number there of its die, which is the site's first
abbrev pub first_of : List Row → Option (ℕ × ℕ)
first_of rows = option_map (λ d. (d.site, 0)) (slice_get (dies_of rows) 0)

-- whether a verdict is of this ending
abbrev pub ends_so : Verdict → Ending → Bool
ends_so verdict.Pass ending.Pass = true
ends_so verdict.Pass (ending.Fail exec) = false
ends_so verdict.Pass ending.Stopped = false
ends_so verdict.Pass ending.Contact = false
ends_so (verdict.Fail exec) ending.Pass = false
ends_so (verdict.Fail exec) (ending.Fail of) = of == exec
ends_so (verdict.Fail exec) ending.Stopped = false
ends_so (verdict.Fail exec) ending.Contact = false
ends_so (verdict.Stopped batch by) ending.Pass = false
ends_so (verdict.Stopped batch by) (ending.Fail of) = false
ends_so (verdict.Stopped batch by) ending.Stopped = true
ends_so (verdict.Stopped batch by) ending.Contact = false
ends_so (verdict.Contact at) ending.Pass = false
ends_so (verdict.Contact at) (ending.Fail of) = false
ends_so (verdict.Contact at) ending.Stopped = false
ends_so (verdict.Contact at) ending.Contact = true

-- the bin of a verdict where no row gives one
abbrev pub usual_bin : Verdict → ℕ
usual_bin verdict.Pass = 1
usual_bin (verdict.Fail exec) = 2
usual_bin (verdict.Stopped batch by) = 3
usual_bin (verdict.Contact at) = 4

-- the bin of a verdict
abbrev pub bin_of : List Row → Verdict → ℕ
bin_of rows v = option_map_or (λ b. b.bin) (find (λ b. ends_so v b.ending) (each_of as_bin rows)) (usual_bin v)
