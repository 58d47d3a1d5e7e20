use Rattle.std.proofs.Common.{◌≡◌, ◌++◌, drop}
use Rattle.text_bytes.specs.Texts.{behind}
use Rattle.stil_ast.specs.Meaning.Chains.{chains_named}
use Rattle.scan_chain.proofs.found.chains_named.Given as goal

abbrev pub invariant-loop-block : goal.invariant-loop-block
invariant-loop-block l =
    behind l.found.items ++ chains_named (drop l.block-index l.scans) l.name ≡ chains_named l.scans l.name
