use Rattle.grade_parts.proofs.NameLemmas.{net_names_are}
use Rattle.grade_parts.proofs.PartLemmas.{parts_are_taken}
use Rattle.grade_parts.proofs.laws.parts_are_taken.Goals as goal

pub returns-clause-parts : goal.returns-clause-parts
returns-clause-parts c = parts_are_taken

pub returns-clause-names : goal.returns-clause-names
returns-clause-names c = net_names_are
