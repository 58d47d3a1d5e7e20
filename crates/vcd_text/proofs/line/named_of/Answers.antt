use Rattle.std.proofs.Common.{◌++◌}
use Rattle.std.specs.Prelude.{codes}
use Rattle.vcd_text.specs.Dump.{id_of}
use Rattle.vcd_text.proofs.line.named_of.Goals as goal

pub returns-in-None-clause-none : goal.returns-in-None-clause-none
returns-in-None-clause-none c signal name fits is =
    c.in-None.ensures.none (id_of signal ++ (codes " " ++ (name ++ codes " $end"))) is
