-- Pattern memories and passes as clauses see them: which table their pool stands in, their code, and the pool's frames.
use Rattle.std.specs.Prelude.{ℕ}
use Rattle.atomic_table.specs.Seated.{TableId}
use Rattle.packed_code.specs.Program.{Program}
use Rattle.pattern_mem.specs.declared.view.Basis.{Basis}

-- a pattern memory: the identity of its pool's table, its code, and how many decoded pages the pool has room for
pub record Memory : Type 0 where
  pub table : TableId
  pub code : Program
  pub frames : ℕ

-- a memory whose pool is made of these
abbrev pub memory_of : TableId → Basis → Memory
memory_of table basis = record { table = table; code = basis.code; frames = basis.frames }

-- what the pool of a memory is made of
abbrev pub basis_in : Memory → Basis
basis_in memory = record { code = memory.code; frames = memory.frames }
