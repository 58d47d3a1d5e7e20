-- The bin of a verdict is 1 to 99.
use Rattle.std.proofs.Common.{ℕ, ◌≤◌, Bool, true, false, cond, Option, Some, List, [], ◌∷◌, arith}
use Rattle.std.specs.Prelude.{All}
use Rattle.std.specs.List.{find}
use Rattle.std.specs.Option.{option_map_or}
use Rattle.std.proofs.lemmas.List.Elements.{All-head, All-tail}
use Rattle.tester_types.specs.declared.record.Verdict.{Verdict}
use Rattle.tester_types.specs.declared.record.Verdict.TheVariants as verdict
use Rattle.plan_rows.specs.declared.row.Row.{Row}
use Rattle.plan_rows.specs.declared.row.BinRow.{BinRow}
use Rattle.plan_rows.specs.Rows.{AreKept, each_of, as_bin}
use Rattle.lot_plan.specs.Readings.{ends_so, usual_bin, bin_of}

-- a bin's number
abbrev pub IsBin : ℕ → Type 0
IsBin bin = (1 ≤ bin) × (bin ≤ 99)

-- the bin where no row gives one
usual_bin-within : (v : Verdict) → IsBin (usual_bin v)
usual_bin-within verdict.Pass = (omega arith, omega arith)
usual_bin-within (verdict.Fail exec) = (omega arith, omega arith)
usual_bin-within (verdict.Stopped batch by) = (omega arith, omega arith)
usual_bin-within (verdict.Contact at) = (omega arith, omega arith)

-- the bin of the first of rows that passes, else another
found-within : (p : BinRow → Bool) (bins : List BinRow) (usual : ℕ) → All (λ b. IsBin b.bin) bins → IsBin usual
    → IsBin (option_map_or (λ b. b.bin) (find p bins) usual)
found-within p [] usual all is = is
found-within p (b ∷ bins) usual all is =
    by (p b) (All-head (λ (x : BinRow). IsBin x.bin) b bins all)
    (found-within p bins usual (All-tail (λ (x : BinRow). IsBin x.bin) b bins all) is)
  where
    by : (t : Bool) → IsBin b.bin → IsBin (option_map_or (λ x. x.bin) (find p bins) usual)
        → IsBin (option_map_or (λ (x : BinRow). x.bin) (cond {A = Option BinRow} t (Some b) (find p bins)) usual)
    by true here rest = here
    by false here rest = rest

-- the bin of a verdict
pub bin_of-within : (rows : List Row) (v : Verdict) → AreKept rows → IsBin (bin_of rows v)
bin_of-within rows v kept = found-within (λ b. ends_so v b.ending) (each_of as_bin rows) (usual_bin v) kept.bins (usual_bin-within v)
