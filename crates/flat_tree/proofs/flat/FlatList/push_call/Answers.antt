use Rattle.std.proofs.Common.{◌≡◌, sym, ◌∙◌, subst, OnOk}
use Rattle.stil_ast.specs.Meaning.Flat.{Flat}
use Rattle.stil_ast.specs.Meaning.Flattening.{joined}
use Rattle.flat_tree.proofs.KeptLemmas.{loops_left}
use Rattle.flat_tree.proofs.flat.FlatList.push_call.Goals as goal

pub returns-clause-made : goal.returns-clause-made
returns-clause-made c =
    subst (λ (f : Flat). OnOk c.append.result (c.append.new.self ≡ joined c.args.self.now f))
    (loops_left c.args.body c.in_ok-loops.loops (sym c.has_vector.ensures ∙ c.if-has_vector.false) c.in_ok-loops.ensures)
    c.append.ensures.made
