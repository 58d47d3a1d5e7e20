-- What the tables of an executive are made from.
use Rattle.std.specs.Prelude.{◌≡◌}
use Rattle.stil_ast.specs.Meaning.Times.{time_at}
use Rattle.stil_ast.specs.Faults.TableFaults.{Timed}
use Rattle.stil_ast.specs.Faults.ExecutiveFaults.{timed_of}
use Rattle.stil_ast.specs.declared.name.Quoted.{Quoted}
use Rattle.expr_text.specs.Ratio.{Ratio}
use Rattle.time_expr.specs.TimesOf.{times_of}
use Rattle.time_expr.specs.TimeIn.{in_line}
use Rattle.wave_tables.specs.declared.scope.Scope.{Scope}
use Rattle.wave_tables.specs.declared.times.ReadTime.{ReadTime}

-- what the tables are judged with
abbrev pub timed : Scope → Timed Ratio
timed s = timed_of times_of s.blocks.now s.exec.now

-- a text has this time, or a fault of this kind, in its own line
pub record IsTimeOf (t : Timed Ratio) (q : Quoted) (read : ReadTime) : Type 0 where
  pub time : time_at t.times t.vars t.place q ≡ in_line t.place q.line read.time
  pub line : read.line ≡ q.line
