use Rattle.std.proofs.Common.{◌∙◌, List, ℕ, refl}
use Rattle.std.specs.Borrow.{Bor}
use Rattle.std.proofs.lemmas.Result.{err_from_is_err_and}
use Rattle.std.specs.Str.{bytes_eq}
use Rattle.indexmap.proofs.CallerLemmas.{insert_entry-new}
use Rattle.time_expr.specs.Choosing.{variable_in}
use Rattle.time_expr.proofs.IndexLemmas.{nothing-kept, index-grows, index-apart, index-refused}
use Rattle.time_expr.proofs.stop.index_of.Goals as goal

pub returns-in_err-check_next : goal.returns-in_err-check_next
returns-in_err-check_next c =
    let p = err_from_is_err_and c.from_residual.result c.from_residual.ensures.1 in
    rw (p.1, p.2)
    (index-refused c.args.picked.now c.loop-place.place c.index-picked-place.result
    (variable_in c.loop-place.index c.index-picked-place.result.name.now) _
    c.loop-place-test.true c.index-picked-place.is (c.loop-place.invariant.kept c.index-picked-place.result.name.now)
    c.loop-place.invariant.apart c.in_err-check_next.ensures)

pub loop-place-preserved : goal.loop-place-preserved
loop-place-preserved c =
    let x = c.index-picked-place.result in
    record {
      kept = index-grows c.args.picked.now c.loop-place.place x c.loop-place.index c.insert.new.self _ _
          c.loop-place-test.true c.index-picked-place.is refl refl
          (c.in_ok-insert.ensures.entries
          ∙ insert_entry-new (λ (p q : Bor (List ℕ)). bytes_eq p.now q.now) c.loop-place.index x.name _
          (nothing-kept c.loop-place.index x.name.now c.in_ok-check_next.ensures.0))
          c.loop-place.invariant.kept;
      apart = index-apart c.args.picked.now c.loop-place.place x (variable_in c.loop-place.index x.name.now)
          c.loop-place-test.true c.index-picked-place.is (c.loop-place.invariant.kept x.name.now)
          c.loop-place.invariant.apart c.in_ok-check_next.ensures.1;
    }
