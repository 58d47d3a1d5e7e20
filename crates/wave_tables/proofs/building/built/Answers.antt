use Rattle.std.proofs.Common.{length, ap, arith}
use Rattle.stil_ast.specs.Data.Texts.{name_or_none}
use Rattle.wave_tables.proofs.CharacterLemmas.{named_with_characters}
use Rattle.wave_tables.proofs.BuiltLemmas.{built_at}
use Rattle.wave_tables.proofs.building.built.Goals as goal

pub built_for-requires-clause-with_characters : goal.built_for-requires-clause-with_characters
built_for-requires-clause-with_characters c =
    named_with_characters c.args.blocks.now.timings (name_or_none c.index-as_slice-exec.result.timing)
    c.requires.text.each_timing

pub returns : goal.returns
returns c = λ e at.
    built_at c.args.blocks.now c.args.before c.built_for.result c.args.exec c.index-as_slice-exec.result e
    c.as_slice.result.now c.as_slice.ensures (omega (arith, ap length c.as_slice.ensures)) c.index-as_slice-exec.is at c.built_for.ensures
