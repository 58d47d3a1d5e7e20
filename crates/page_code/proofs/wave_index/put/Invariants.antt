use Rattle.std.proofs.Common.{take}
use Rattle.page_code.specs.Index.{ArePut}
use Rattle.page_code.proofs.wave_index.put.Given as goal

-- the marks of the waves up to here have the value
abbrev pub invariant-loop-wave : goal.invariant-loop-wave
invariant-loop-wave l = ArePut (take l.wave-index l.waves) l.value l.fn.marks.items l.marks.items
