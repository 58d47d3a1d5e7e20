use Rattle.std.proofs.Common.{◌≡◌, ◌++◌, drop}
use Rattle.text_bytes.specs.Texts.{behind}
use Rattle.scan_chain.proofs.found.add_block.Given as goal

abbrev pub invariant-loop-decl : goal.invariant-loop-decl
invariant-loop-decl l =
    behind l.found.items ++ drop l.decl-index l.decl-items ≡ behind l.fn.found.items ++ l.fn.block.chains
