use Rattle.std.specs.Prelude.{codes}
use Rattle.flat_parts.specs.FlatText.{title, exec_parts}
use Rattle.flat_stil.proofs.SheetLemmas.{three_pieces}
use Rattle.flat_stil.proofs.patterns.put_exec.Goals as goal

pub returns : goal.returns
returns c =
    three_pieces c.args.sheet.now c.put_parts.new.self c.put_title.new.sheet c.put_exec_parts.new.sheet (codes "PatternExec") (title c.args.name.now)
    (exec_parts c.args.exec) c.put_parts.ensures c.put_title.ensures c.put_exec_parts.ensures
