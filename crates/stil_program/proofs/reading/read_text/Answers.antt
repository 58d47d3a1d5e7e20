use Rattle.stil_program.proofs.FrontLemmas.{read_once, refused_text}
use Rattle.stil_program.proofs.FrontAnswers.{are_of_one_text, found_text, fault_text}
use Rattle.stil_program.proofs.reading.read_text.Goals as goal

pub returns-clause-text : goal.returns-clause-text
returns-clause-text c = are_of_one_text c.args.bytes.now c.read_bytes.result c.requires c.read_bytes.ensures

pub returns-clause-found : goal.returns-clause-found
returns-clause-found c = found_text c.args.bytes.now c.read_bytes.result c.read_bytes.ensures

pub returns-clause-only : goal.returns-clause-only
returns-clause-only c = λ blocks is. read_once c.args.bytes.now c.read_bytes.result blocks c.read_bytes.ensures is

pub returns-clause-fault : goal.returns-clause-fault
returns-clause-fault c = fault_text c.args.bytes.now c.read_bytes.result c.read_bytes.ensures

pub returns-clause-refused : goal.returns-clause-refused
returns-clause-refused c = λ fault is. refused_text c.args.bytes.now c.read_bytes.result fault c.read_bytes.ensures is
