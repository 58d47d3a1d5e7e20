use Rattle.std.proofs.lemmas.Result.{err_from_is_err_and}
use Rattle.stil_program.specs.Program.{IsCompiledText}
use Rattle.stil_program.specs.declared.text.CompiledText.{CompiledText}
use Rattle.stil_program.proofs.AnswerLemmas.{by_front, by_blocks}
use Rattle.stil_program.proofs.coding.compiled_from.Goals as goal

pub returns-in_err-blocks : goal.returns-in_err-blocks
returns-in_err-blocks c =
    let p = err_from_is_err_and c.from_residual.result c.from_residual.ensures.1 in
    rw (p.1, p.2)
    (by_front c.args.bytes.now (λ (t : CompiledText). IsCompiledText c.args.bytes.now t.code t.lines.items) _
    c.in_err-blocks.ensures.fault)

pub returns : goal.returns
returns c =
    by_blocks c.args.bytes.now c.in_ok-blocks.blocks c.compiled_of.result c.in_ok-blocks.ensures.found c.compiled_of.ensures
