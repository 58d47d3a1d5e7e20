use Rattle.datalog.proofs.PrintableLemmas.{printable_alone, printable_book}
use Rattle.datalog.proofs.laws.sound_is_printable.Goals as goal

pub returns-clause-alone : goal.returns-clause-alone
returns-clause-alone c = printable_alone

pub returns-clause-book : goal.returns-clause-book
returns-clause-book c = printable_book
