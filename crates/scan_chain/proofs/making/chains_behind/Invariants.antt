use Rattle.std.proofs.Common.{◌≡◌, drop}
use Rattle.text_bytes.specs.Texts.{behind}
use Rattle.stil_ast.specs.Meaning.Signals.{Names}
use Rattle.signal_groups.specs.Table.{table_of}
use Rattle.scan_chain.specs.Held.{chains_in}
use Rattle.scan_chain.specs.Working.{distinct_behind, chains_behind}
use Rattle.scan_chain.proofs.CellLemmas.{declared_chains}
use Rattle.scan_chain.proofs.making.chains_behind.Given as goal

abbrev pub invariant-loop-decl : goal.invariant-loop-decl
invariant-loop-decl l =
    (names : Names) → l.signals ≡ table_of names
    → distinct_behind (chains_in l.chains.items) (declared_chains names (behind (drop l.decl-index l.decls)))
    ≡ chains_behind names (behind l.decls)
