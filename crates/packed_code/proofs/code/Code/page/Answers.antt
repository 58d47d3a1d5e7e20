use Rattle.std.proofs.Common.{refl, ap, subst, arith, ◌∙◌, length}
use Rattle.packed_code.specs.Program.{Program}
use Rattle.packed_code.specs.Conditions.{IsProgram}
use Rattle.packed_code.proofs.PageLemmas.{few_instrs_at, counted_more, page_here}
use Rattle.packed_code.proofs.code.Code.page.Goals as goal

pub filled_pages-pages-requires : goal.filled_pages-pages-requires
filled_pages-pages-requires c =
    let execs = c.as_slice-exec-items.ensures ∙ ap (λ (p : Program). p.execs) c.self.view_is in
    let few = few_instrs_at c.args.self.now c.as_slice-exec-items.result.now c.loop-exec.exec-index c.exec-item.result
    (subst IsProgram c.self.view_is c.self.invariant) execs (omega (arith, ap length execs)) c.exec-item.is in
    omega (arith, few, ap length c.instrs.ensures)

pub returns-then-left-pages : goal.returns-then-left-pages
returns-then-left-pages c =
    let execs = c.as_slice-exec-items.ensures ∙ ap (λ (p : Program). p.execs) c.self.view_is in
    page_here c.args.self.now c.as_slice-exec-items.result.now c.loop-exec.exec-index c.loop-exec.left c.args.page c.filled_pages-pages.result
    c.exec-item.result c.instrs.result.now c.instrs-then-left-pages.result.now c.piece.result.now execs (omega (arith, ap length execs))
    c.exec-item.is c.instrs.ensures c.instrs-then-left-pages.ensures c.filled_pages-pages.ensures.exact c.if-left-pages.true
    c.loop-exec.invariant c.piece.ensures

pub loop-exec-preserved : goal.loop-exec-preserved
loop-exec-preserved c =
    let items = c.as_slice-exec-items.result.now in
    let more = counted_more items items c.loop-exec.exec-index _ c.filled_pages-pages.result
    c.exec-item.result c.instrs.result.now refl (omega arith) c.exec-item.is c.instrs.ensures
    c.filled_pages-pages.ensures.exact refl in
    omega (arith, more, c.loop-exec.invariant, c.if-left-pages.false)
