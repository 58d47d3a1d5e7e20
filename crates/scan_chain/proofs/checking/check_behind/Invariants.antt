use Rattle.std.proofs.Common.{◌≡◌, [], take, drop}
use Rattle.text_bytes.specs.Texts.{behind}
use Rattle.stil_ast.specs.Meaning.Signals.{Names}
use Rattle.scan_chain.specs.Working.{faults_behind}
use Rattle.signal_groups.specs.Table.{table_of}
use Rattle.scan_chain.proofs.checking.check_behind.Given as goal

abbrev pub invariant-loop-place : goal.invariant-loop-place
invariant-loop-place l =
    (names : Names) → l.signals ≡ table_of names
    → faults_behind names l.block (behind (take l.place l.decls)) (behind (drop l.place l.decls))
    ≡ faults_behind names l.block [] (behind l.decls)
