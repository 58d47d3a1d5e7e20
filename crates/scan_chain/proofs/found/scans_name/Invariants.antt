use Rattle.std.proofs.Common.{◌≡◌, drop}
use Rattle.stil_ast.specs.Meaning.Bursts.{scans_name}
use Rattle.scan_chain.proofs.found.scans_name.Given as goal

abbrev pub invariant-loop-item : goal.invariant-loop-item
invariant-loop-item l =
    scans_name (drop l.item-index l.items) ≡ scans_name l.items
