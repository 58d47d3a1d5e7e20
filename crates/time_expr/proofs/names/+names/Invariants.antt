use Rattle.std.proofs.Common.{◌≡◌, ◌++◌, drop}
use Rattle.text_bytes.specs.Texts.{behind}
use Rattle.time_expr.specs.Names.{link_names, operand_names}
use Rattle.time_expr.proofs.names.+names.Given as goal

abbrev pub invariant-add_link_names-loop-link : goal.invariant-add_link_names-loop-link
invariant-add_link_names-loop-link l =
    behind l.names.items ++ link_names (drop l.link-index l.links) ≡ behind l.fn.names.items ++ link_names l.links

abbrev pub invariant-add_operand_names-loop-operand : goal.invariant-add_operand_names-loop-operand
invariant-add_operand_names-loop-operand l =
    behind l.names.items ++ operand_names (drop l.operand-index l.operands)
    ≡ behind l.fn.names.items ++ operand_names l.operands
