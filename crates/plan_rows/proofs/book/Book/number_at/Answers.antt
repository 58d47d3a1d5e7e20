use Rattle.std.proofs.Common.{◌<◌, ◌≤◌, length, arith, ap, ◌∙◌, position}
use Rattle.std.specs.Str.{bytes_eq}
use Rattle.plan_rows.specs.Rows.{dies_of}
use Rattle.plan_rows.proofs.RowLemmas.{number_small}
use Rattle.plan_rows.proofs.book.Book.number_at.Goals as goal

pub overflow_cast-result : goal.overflow_cast-result
overflow_cast-result c =
    let t = c.requires.book.tally in
    let few : length (dies_of c.args.self.now.rows.items) ≤ 4096 = omega (arith, t.dies, t.few) in
    let small : c.in_ok-number.number < 4096 = number_small c.args.self.now.rows.items c.args.site c.args.name.now c.in_ok-number.number few
    (c.in_ok-number.ensures ∙ ap (position (bytes_eq c.args.name.now)) (t.names c.args.site (omega arith))) in
    omega arith
