use Rattle.stil_ast.specs.Faults.ExecutiveFaults.{fifth_fault}
use Rattle.time_expr.specs.TimesOf.{times_of}
use Rattle.answers.specs.Answers.{IsFourOf}
use Rattle.answers.proofs.FourLemmas.{four_of}
use Rattle.burst_exec.specs.Executives.{AreAllOf}
use Rattle.burst_exec.proofs.GatherLemmas.{of_text, is_exec_fault}
use Rattle.burst_exec.proofs.building.executives.Goals as goal

-- the four clauses
four : (c : goal.After-gathered) → IsFourOf (fifth_fault times_of c.args.blocks.now) (AreAllOf c.args.blocks.now) c.gathered.result
four c = four_of _ _ c.gathered.result (of_text c.args.blocks.now c.gathered.result c.gathered.ensures)

pub returns-clause-found : goal.returns-clause-found
returns-clause-found c = (four c).found

pub returns-clause-only : goal.returns-clause-only
returns-clause-only c = (four c).only

pub returns-clause-fault : goal.returns-clause-fault
returns-clause-fault c =
    is_exec_fault c.args.blocks.now c.gathered.result (of_text c.args.blocks.now c.gathered.result c.gathered.ensures)

pub returns-clause-refused : goal.returns-clause-refused
returns-clause-refused c = (four c).refused
