use Rattle.std.proofs.Common.{sym, subst, ◌∙◌}
use Rattle.std.specs.Str.{IsUtf8}
use Rattle.text_bytes.proofs.ByteLemmas.{IsUtf8-printing}
use Rattle.tool_inputs.proofs.inputs.name_of.Goals as goal

pub unreachable-requires : goal.unreachable-requires
unreachable-requires c =
    (c.in_default.ensures.cases).0 (subst IsUtf8 (sym c.as_slice.ensures) (IsUtf8-printing c.args.file.now c.requires))

pub returns : goal.returns
returns c = c.in-Ok.ensures.cases.0 ∙ c.as_slice.ensures
