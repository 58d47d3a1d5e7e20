use Rattle.stil_program.specs.Program.{IsCompiledText}
use Rattle.stil_program.specs.declared.text.CompiledText.{CompiledText}
use Rattle.stil_program.proofs.AnswerLemmas.{is_found, only_short, is_fault, is_refused, not_compiled}
use Rattle.stil_program.proofs.coding.compiled.Goals as goal

pub returns-clause-found : goal.returns-clause-found
returns-clause-found c =
    is_found c.args.bytes.now (λ (t : CompiledText). IsCompiledText c.args.bytes.now t.code t.lines.items) c.compiled_from.result
    c.compiled_from.ensures

pub returns-clause-fine : goal.returns-clause-fine
returns-clause-fine c =
    only_short c.args.bytes.now (λ (t : CompiledText). IsCompiledText c.args.bytes.now t.code t.lines.items) c.compiled_from.result
    c.compiled_from.ensures

pub returns-clause-fault : goal.returns-clause-fault
returns-clause-fault c =
    is_fault c.args.bytes.now (λ (t : CompiledText). IsCompiledText c.args.bytes.now t.code t.lines.items) c.compiled_from.result
    c.compiled_from.ensures

pub returns-clause-refused : goal.returns-clause-refused
returns-clause-refused c =
    is_refused c.args.bytes.now (λ (t : CompiledText). IsCompiledText c.args.bytes.now t.code t.lines.items)
    (λ t f is first. not_compiled c.args.bytes.now t.code t.lines.items f is first) c.compiled_from.result c.compiled_from.ensures
