use Rattle.std.proofs.Common.{◌≡◌, ◌+◌, ◌∷◌, [], List, ℕ, Ok, eqb, ap, subst, sym, ◌∙◌, arith, length}
use Rattle.std.proofs.lemmas.Result.{err_from_is_err_and}
use Rattle.std.proofs.lemmas.List.{length-append}
use Rattle.packed_code.specs.declared.instr.Instr.{Instr}
use Rattle.page_code.specs.Fields.{Fails, items_at}
use Rattle.page_code.specs.Reading.{instr_at, instr_with}
use Rattle.page_code.proofs.ItemsLemmas.{goes_on, stops, is_done}
use Rattle.page_code.proofs.NestLemmas.{read_goes_on, read_is_whole}
use Rattle.packed_code.specs.Whole.{IsWhole}
use Rattle.page_code.proofs.read_instrs.instrs.Goals as goal

pub returns-in_err-last-clause-read : goal.returns-in_err-last-clause-read
returns-in_err-last-clause-read c =
    let p = err_from_is_err_and c.from_residual-in_err-last.result c.from_residual-in_err-last.ensures.1 in
    let one = instr_at c.args.tables.now c.args.rows.now c.args.count in
    rw (p.1, p.2)
    (stops c.in_err-last.field-0.0 one c.loop-place.instrs.items c.args.count c.loop-place.place c.loop-place.rest.now
    (items_at one c.args.count [] c.args.bytes.now) c.loop-place-test.true
    (subst (λ (n : ℕ). Fails c.in_err-last.field-0.0 (instr_with c.args.tables.now c.args.rows.now (eqb (n + 1) c.args.count) c.loop-place.instrs.items c.loop-place.rest.now))
    (sym c.loop-place.invariant.size) c.in_err-last.ensures.read)
    c.loop-place.invariant.so_far)

pub loop-place-preserved : goal.loop-place-preserved
loop-place-preserved c =
    let one = instr_at c.args.tables.now c.args.rows.now c.args.count in
    let before = c.loop-place.instrs.items in
    let read = c.in_ok-last.ensures.read in
    let here = subst (λ (n : ℕ). instr_with c.args.tables.now c.args.rows.now (eqb (n + 1) c.args.count) before c.loop-place.rest.now ≡ Ok (c.in_ok-last.last, c.in_ok-last.after.now))
    (sym c.loop-place.invariant.size) read.0 in
    record {
      so_far = rw read.1
          (goes_on one before c.args.count c.loop-place.place c.loop-place.rest.now c.in_ok-last.last c.in_ok-last.after.now
          (items_at one c.args.count [] c.args.bytes.now) c.loop-place-test.true here c.loop-place.invariant.so_far);
      accepted = c.instr.ensures.accepted;
      size = ap length read.1 ∙ length-append before (c.in_ok-last.last ∷ []) ∙ omega (arith, c.loop-place.invariant.size);
      whole = λ end some.
          read_is_whole c.args.tables.now c.args.rows.now c.loop-place.place c.args.count before c.instr.new.instrs.items c.loop-place.nest
          c.loop-place.rest.now c.in_ok-last.after.now c.in_ok-last.last (c.loop-place.invariant.nest c.loop-place-test.true) read.0 read.1 end;
      nest = λ below.
          read_goes_on c.args.tables.now c.args.rows.now c.loop-place.place c.args.count before c.instr.new.instrs.items c.loop-place.nest
          c.after-nest.result c.loop-place.rest.now c.in_ok-last.after.now c.in_ok-last.last (c.loop-place.invariant.nest c.loop-place-test.true)
          c.in_ok-last.ensures.narrow read.0 read.1 c.after-nest.ensures below;
    }

pub returns-clause-read : goal.returns-clause-read
returns-clause-read c =
    let one = instr_at c.args.tables.now c.args.rows.now c.args.count in
    is_done one c.loop-place.instrs.items c.args.count c.loop-place.place c.loop-place.rest.now
    (items_at one c.args.count [] c.args.bytes.now) c.loop-place-test.false c.loop-place.invariant.so_far
    ∙ ap (λ (items : List Instr). Ok (items, c.loop-place.rest.now)) (sym c.from_vec.ensures)

pub returns-clause-whole : goal.returns-clause-whole
returns-clause-whole c = λ some.
    let end : c.loop-place.place ≡ c.args.count = omega arith in
    subst IsWhole (sym c.from_vec.ensures) (c.loop-place.invariant.whole end (omega arith))
