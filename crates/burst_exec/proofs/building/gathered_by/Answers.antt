use Rattle.std.proofs.Common.{◌≡◌, List, Some, sym, ap, ◌∙◌, subst}
use Rattle.signal_groups.specs.Table.{table_of}
use Rattle.stil_ast.specs.Meaning.ExecutiveData.{Executive}
use Rattle.stil_ast.specs.Meaning.Signals.{names_of}
use Rattle.stil_ast.specs.declared.blocks.Blocks.{Blocks}
use Rattle.burst_exec.specs.Gathered.{IsGathering, text_fault}
use Rattle.burst_exec.proofs.GatherLemmas.{starts}
use Rattle.burst_exec.proofs.building.gathered_by.Goals as goal

pub take_all-requires-clause-outs : goal.take_all-requires-clause-outs
take_all-requires-clause-outs c =
    c.as_slice.ensures.value
    ∙ c.in_ok-outs.ensures (names_of c.in_ok-names.names)
    (c.requires.signals ∙ ap (λ (b : Blocks). table_of (names_of b)) (sym c.in_ok-names.ensures))

pub take_all-requires-clause-none : goal.take_all-requires-clause-none
take_all-requires-clause-none c =
    subst (λ (all : List Executive). IsGathering c.in_ok-names.names 0 c.new-progress.result all) (sym c.new-execs.ensures.items)
    (starts c.in_ok-names.names c.new-progress.result c.new-progress.ensures.no_waves c.new-progress.ensures.nothing_walked)

pub take_all-requires-clause-carried : goal.take_all-requires-clause-carried
take_all-requires-clause-carried c = c.new-progress.ensures.carried c.in_ok-names.names

pub returns : goal.returns
returns c = λ first same.
    subst (λ (b : Blocks). text_fault b ≡ Some first) c.in_ok-names.ensures (c.in-Err.ensures first same)
