use Rattle.std.proofs.Common.{◌≡◌, ◌++◌, ◌∷◌, ◌∙◌, refl, sym, ap, subst, arith, length, [], ℕ, Ok, set}
use Rattle.std.proofs.lemmas.Result.{err_from_is_err_and}
use Rattle.std.proofs.lemmas.List.{length-set}
use Rattle.page_code.specs.Fields.{Fails, items_at}
use Rattle.page_code.specs.Reading.{change_from, change_at}
use Rattle.page_code.proofs.ItemsLemmas.{goes_on, is_done, changed_stops}
use Rattle.page_code.proofs.ChangesLemmas.{less_none, least_push, with_more}
use Rattle.page_code.proofs.read_rows.changed.Goals as goal

pub loop-init : goal.loop-init
loop-init c = record {
  made = ([], ap (λ (n : ℕ). items_at (change_at c.args.signals c.args.last.now) n [] c.args.bytes.now) (less_none c.args.count), c.in_ok-row.ensures.items, refl);
  size = ap length c.in_ok-row.ensures.items ∙ c.requires;
}

pub returns-in_err-signal-clause-read : goal.returns-in_err-signal-clause-read
returns-in_err-signal-clause-read c =
    let p = err_from_is_err_and c.from_residual-in_err-signal.result c.from_residual-in_err-signal.ensures.1 in
    let made = c.loop.invariant.made in
    rw (p.1, p.2)
    (changed_stops c.in_err-signal.field-0.0 c.args.signals c.args.last.now made.0 c.args.count c.loop.counter c.loop.rest.now c.args.bytes.now
    c.loop-test.true
    (subst (λ (n : ℕ). Fails c.in_err-signal.field-0.0 (change_from n c.args.signals c.args.last.now c.loop.rest.now)) made.3 c.in_err-signal.ensures.read)
    made.1)

pub loop-preserved : goal.loop-preserved
loop-preserved c =
    let made = c.loop.invariant.made in
    let item : ℕ × ℕ = (c.in_ok-signal.signal, c.in_ok-signal.character) in
    let one = change_at c.args.signals c.args.last.now in
    let read = subst (λ (n : ℕ). change_from n c.args.signals c.args.last.now c.loop.rest.now ≡ Ok (item, c.in_ok-signal.after.now))
    made.3 c.in_ok-signal.ensures.read in
    record {
      made = (
        made.0 ++ item ∷ [],
        goes_on one made.0 c.args.count c.loop.counter c.loop.rest.now item c.in_ok-signal.after.now
            (items_at one c.args.count [] c.args.bytes.now) c.loop-test.true read made.1,
        ap (λ xs. set xs c.in_ok-signal.signal c.in_ok-signal.character) made.2 ∙ sym (with_more c.args.last.now made.0 item),
        omega (arith, least_push made.0 item),
      );
      size = length-set c.loop.row.items c.in_ok-signal.signal c.in_ok-signal.character ∙ c.loop.invariant.size;
    }

pub returns-clause-read : goal.returns-clause-read
returns-clause-read c =
    let made = c.loop.invariant.made in
    let one = change_at c.args.signals c.args.last.now in
    let done = is_done one made.0 c.args.count c.loop.counter c.loop.rest.now
    (items_at one c.args.count [] c.args.bytes.now) c.loop-test.false made.1 in
    rw done (ap (λ row. Ok (row, c.loop.rest.now)) (sym made.2))
