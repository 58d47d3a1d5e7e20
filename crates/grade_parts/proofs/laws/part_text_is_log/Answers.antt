use Rattle.grade_parts.proofs.PrintedLemmas.{text_is_said}
use Rattle.grade_parts.proofs.NameLemmas.{net_names_plain}
use Rattle.grade_parts.proofs.laws.part_text_is_log.Goals as goal

pub returns-clause-log : goal.returns-clause-log
returns-clause-log c = λ names grade plain. text_is_said names grade plain

pub returns-clause-names : goal.returns-clause-names
returns-clause-names c = λ bytes net is. net_names_plain bytes net is
