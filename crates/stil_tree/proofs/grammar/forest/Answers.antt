use Rattle.stil_tree.proofs.Forests.{found, only, fault, refused}
use Rattle.stil_tree.proofs.grammar.forest.Goals as goal

pub returns-clause-found : goal.returns-clause-found
returns-clause-found c = found c.args.tokens.now c.forest_of.result c.forest_of.ensures

pub returns-clause-only : goal.returns-clause-only
returns-clause-only c = only c.args.tokens.now c.forest_of.result c.forest_of.ensures

pub returns-clause-fault : goal.returns-clause-fault
returns-clause-fault c = fault c.args.tokens.now c.forest_of.result c.forest_of.ensures

pub returns-clause-refused : goal.returns-clause-refused
returns-clause-refused c = refused c.args.tokens.now c.forest_of.result c.forest_of.ensures
