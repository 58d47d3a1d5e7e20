-- What is so of the tables of every executive.
use Rattle.std.specs.Prelude.{◌≡◌, length, sum_by}
use Rattle.stil_ast.specs.Faults.ExecutiveFaults.{exec_waves}
use Rattle.stil_ast.specs.Meaning.Executive.{table_list}
use Rattle.stil_ast.specs.declared.blocks.Blocks.{Blocks}
use Rattle.stil_ast.specs.declared.executive.ExecDecl.{ExecDecl}
use Rattle.tester_types.specs.declared.wave.Table.{Table}
use Rattle.time_expr.specs.TimesOf.{times_of}

-- an executive's tables have as many waves as the language counts
abbrev pub WavesAreCounted : Type 0
WavesAreCounted =
    (blocks : Blocks) (e : ExecDecl)
    → sum_by (λ (t : Table). length t.waves) (table_list times_of blocks e) ≡ exec_waves blocks e
