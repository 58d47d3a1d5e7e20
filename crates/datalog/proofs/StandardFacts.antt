-- Known texts: what the definitions make of small records.
use Rattle.std.proofs.Common.{◌≡◌, ℕ, List, [], ◌∷◌, ◌++◌, refl}
use Rattle.std.specs.Prelude.{codes}
use Rattle.std.specs.Fmt.{digits}
use Rattle.tester_types.specs.declared.level.Level.TheVariants as level
use Rattle.tester_types.specs.declared.record.By.TheVariants as by
use Rattle.tester_types.specs.declared.record.Fail.{Fail}
use Rattle.tester_types.specs.declared.record.Record.{Record}
use Rattle.tester_types.specs.declared.record.Trial.{Trial}
use Rattle.tester_types.specs.declared.record.Verdict.{Verdict}
use Rattle.tester_types.specs.declared.record.Verdict.TheVariants as verdict
use Rattle.tester_types.specs.declared.wave.Look.TheVariants as look
use Rattle.tester_types.specs.declared.signal.Direction.TheVariants as direction
use Rattle.packed_code.specs.Program.{Program}
use Rattle.plan_rows.specs.declared.row.Row.{Row}
use Rattle.plan_rows.specs.declared.row.Row.TheVariants as row
use Rattle.plan_rows.specs.declared.row.Ending.TheVariants as ending
use Rattle.lot_plan.specs.Bound.{Bound}
use Rattle.datalog.specs.DatalogText.{fail_line, verdict_line, record_text, totals_text, lot_text}

-- an input A, an output Y, and an output SO that is the scan-out of a chain of the cells f5, f6 and f7
abbrev program : Program
program = record {
  signals =
      record { name = codes "A"; direction = direction.In } ∷ record { name = codes "Y"; direction = direction.Out }
      ∷ record { name = codes "SO"; direction = direction.Out } ∷ [];
  tables = [];
  rows = [];
  execs = record {
    name = [];
    chains = record { name = codes "c1"; out = 2; length = 3; cells = codes "f5" ∷ codes "f6" ∷ codes "f7" ∷ [] } ∷ [];
    instrs = [];
  } ∷ [];
}

abbrev die : ℕ → List ℕ → Row
die site name = row.Die (record { site = site; name = name; file = codes "inv.bench" })

-- a die d0 at site 0, and a die "e 1" at site 2, where a lost contact has bin 7
abbrev plan : Bound
plan = record {
  rows =
      row.Lot (record { batch = 256; tries = 2; keep = 8 }) ∷ die 0 (codes "d0") ∷ die 2 (codes "e 1")
      ∷ row.Bin (record { ending = ending.Contact; bin = 7 }) ∷ [];
  program = program;
  circuits = [];
}

-- at Y, or at SO under a mark, a high was wanted and a 0 was seen
abbrev fail_at : ℕ → ℕ → Fail
fail_at signal mark = record { exec = 0; cycle = 0; at = 40000000; signal = signal; want = look.High; seen = level.Zero; mark = mark }

abbrev tried : ℕ → List Fail → Verdict → Trial
tried number kept how = record { number = number; cycles = 2; fails = 1; kept = kept; verdict = how }

abbrev record_of : ℕ → List Trial → Record
record_of site trials = record { site = site; die = 0; trials = trials }

-- an output of a stuck die
stuck : fail_line program (fail_at 1 0) ≡ codes "fail 0 40000000 Y H 0\n"
unfolding digits
stuck = refl

-- a mark says nothing of a signal that isn't a scan-out
no_chain : fail_line program (fail_at 1 2) ≡ codes "fail 0 40000000 Y H 0\n"
unfolding digits
no_chain = refl

-- the last cell comes out first, and the first cell last
last_cell : fail_line program (fail_at 2 1) ≡ codes "fail 0 40000000 SO H 0 c1 f7\n"
unfolding digits
last_cell = refl

middle_cell : fail_line program (fail_at 2 2) ≡ codes "fail 0 40000000 SO H 0 c1 f6\n"
unfolding digits
middle_cell = refl

first_cell : fail_line program (fail_at 2 3) ≡ codes "fail 0 40000000 SO H 0 c1 f5\n"
unfolding digits
first_cell = refl

-- behind the cells there is none, nor without a mark
behind : fail_line program (fail_at 2 4) ≡ codes "fail 0 40000000 SO H 0\n"
unfolding digits
behind = refl

no_mark : fail_line program (fail_at 2 0) ≡ codes "fail 0 40000000 SO H 0\n"
unfolding digits
no_mark = refl

-- how tries end
passes : verdict_line verdict.Pass ≡ codes "verdict pass\n"
passes = refl

stopped : verdict_line (verdict.Stopped 2 by.Plan) ≡ codes "verdict stopped 2 plan\n"
unfolding digits
stopped = refl

told_to : verdict_line (verdict.Stopped 0 (by.Desk 1)) ≡ codes "verdict stopped 0 desk 1\n"
unfolding digits
told_to = refl

lost : verdict_line (verdict.Contact 40000000) ≡ codes "verdict contact 40000000\n"
unfolding digits
lost = refl

-- a die with one try
one_try : record_text program plan (record_of 0 (tried 1 (fail_at 1 0 ∷ []) (verdict.Fail 0) ∷ []))
    ≡ codes "die d0\ntry 1 cycles 2 fails 1\nfail 0 40000000 Y H 0\nverdict fail 0\nbin 2\n"
unfolding digits
one_try = refl

-- its last try decides its bin
two_tries : record_text program plan (record_of 0 (tried 1 [] (verdict.Fail 0) ∷ tried 2 [] verdict.Pass ∷ []))
    ≡ codes "die d0\ntry 1 cycles 2 fails 1\nverdict fail 0\ntry 2 cycles 2 fails 1\nverdict pass\nbin 1\n"
unfolding digits
two_tries = refl

-- totals rise by their bins, and each die is counted once
three_dies : totals_text (2 ∷ 1 ∷ 2 ∷ []) ≡ codes "total 1 1\ntotal 2 2\n"
unfolding digits totals_text
three_dies = refl

-- a site without records says nothing, and a bin row has its bin
two_sites : lot_text program plan ((record_of 0 (tried 1 [] (verdict.Fail 0) ∷ tried 2 [] verdict.Pass ∷ []) ∷ []) ∷ [] ∷
    (record_of 2 (tried 1 [] (verdict.Contact 0) ∷ []) ∷ []) ∷ [])
    ≡ codes "site 0\ndie d0\ntry 1 cycles 2 fails 1\nverdict fail 0\ntry 2 cycles 2 fails 1\nverdict pass\nbin 1\n"
    ++ codes "site 2\ndie \"e 1\"\ntry 1 cycles 2 fails 1\nverdict contact 0\nbin 7\ntotal 1 1\ntotal 7 1\n"
unfolding digits totals_text
two_sites = refl
