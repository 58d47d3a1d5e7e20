-- What gates give by a table over pairs of levels; no public clause cites it.
use Rattle.std.specs.Prelude.{ℕ, List, [], ◌∷◌, count_by}
use Rattle.tester_types.specs.declared.level.Level.{Level}
use Rattle.tester_types.specs.declared.level.Level.TheVariants.{Zero, One}
use Rattle.bench_net.specs.declared.gate.GateKind.{GateKind}
use Rattle.bench_net.specs.declared.gate.GateKind.TheVariants as kind
use Rattle.die_sim.specs.declared.table.TheConstants.{TABLE}
use Rattle.die_sim.specs.declared.table.Row.{Row}
use Rattle.die_sim.specs.declared.table.Row.TheVariants.{And, Nand, Or, Nor, Xor, Xnor, Low, High}
use Rattle.bench_net.specs.Gates.{is_zero, is_one, negated, and_of, or_of, xor_of}

-- the table: for each row, each first and each second level what the row gives
abbrev pub entries : List Level
entries = TABLE.now

-- what a row gives for so many levels, of which so many are 0 and so many 1
abbrev pub gives : Row → ℕ → ℕ → ℕ → Level
gives And zero_count one_count all = and_of zero_count one_count all
gives Nand zero_count one_count all = negated (and_of zero_count one_count all)
gives Or zero_count one_count all = or_of zero_count one_count all
gives Nor zero_count one_count all = negated (or_of zero_count one_count all)
gives Xor zero_count one_count all = xor_of zero_count one_count all
gives Xnor zero_count one_count all = negated (xor_of zero_count one_count all)
gives Low zero_count one_count all = Zero
gives High zero_count one_count all = One

-- what a row gives for two levels
abbrev pub pair_of : Row → Level → Level → Level
pair_of row first second = gives row (count_by is_zero (first ∷ second ∷ [])) (count_by is_one (first ∷ second ∷ [])) 2

-- the row without its negation
abbrev pub base_of : Row → Row
base_of And = And
base_of Nand = And
base_of Or = Or
base_of Nor = Or
base_of Xor = Xor
base_of Xnor = Xor
base_of Low = Low
base_of High = High

-- what the row without its negation gives for no level
abbrev pub unit_of : Row → Level
unit_of And = One
unit_of Nand = One
unit_of Or = Zero
unit_of Nor = Zero
unit_of Xor = Zero
unit_of Xnor = Zero
unit_of Low = Zero
unit_of High = One

-- the row of a gate: BUF is an AND and NOT a NAND of one pin
abbrev pub row_of : GateKind → Row
row_of kind.And = And
row_of kind.Nand = Nand
row_of kind.Or = Or
row_of kind.Nor = Nor
row_of kind.Xor = Xor
row_of kind.Xnor = Xnor
row_of kind.Not = Nand
row_of kind.Buf = And

-- the row that gives for one level twice what a row gives for it once
abbrev pub single_row : Row → Row
single_row And = And
single_row Nand = Nand
single_row Or = Or
single_row Nor = Nor
single_row Xor = And
single_row Xnor = Nand
single_row Low = Low
single_row High = High
