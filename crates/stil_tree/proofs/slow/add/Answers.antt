use Rattle.stil_tree.proofs.Slowly.{join-push}
use Rattle.stil_tree.proofs.slow.add.Goals as goal

pub returns-in_ok-push : goal.returns-in_ok-push
returns-in_ok-push c = λ more. rw c.in-Some.is (join-push c.args.stmts.now.items c.push.new.self.items c.in-Some.stmt more c.in_ok-push.ensures.items)
