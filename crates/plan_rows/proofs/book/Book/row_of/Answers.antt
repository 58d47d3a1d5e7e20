use Rattle.plan_rows.proofs.book.Book.row_of.Goals as goal

pub returns-in-Bind : goal.returns-in-Bind
returns-in-Bind c = rw c.in-Bind.is (c.bind_row.ensures c.args.place)
