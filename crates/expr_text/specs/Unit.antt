-- The units of time.
use Rattle.std.specs.Prelude.{ℤ, pos}
use Rattle.expr_text.specs.declared.unit.Unit.{Unit}
use Rattle.expr_text.specs.declared.unit.Unit.TheVariants.{Plain, Seconds, Milliseconds, Microseconds, Nanoseconds, Picoseconds, Femtoseconds}

-- the unit in femtoseconds; a plain number counts as it stands
abbrev pub femtoseconds_of : Unit → ℤ
femtoseconds_of Plain = pos 1
femtoseconds_of Seconds = pos 1000000000000000
femtoseconds_of Milliseconds = pos 1000000000000
femtoseconds_of Microseconds = pos 1000000000
femtoseconds_of Nanoseconds = pos 1000000
femtoseconds_of Picoseconds = pos 1000
femtoseconds_of Femtoseconds = pos 1
