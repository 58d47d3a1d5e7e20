use Rattle.std.proofs.Common.{ap, subst, arith, ◌∙◌, length}
use Rattle.packed_code.specs.Program.{Program}
use Rattle.packed_code.specs.Conditions.{IsProgram}
use Rattle.packed_code.proofs.PageLemmas.{few_instrs_at, counted_more}
use Rattle.packed_code.proofs.code.Code.pages_before.Goals as goal

pub filled_pages-pages-requires : goal.filled_pages-pages-requires
filled_pages-pages-requires c =
    let execs = c.as_slice.ensures ∙ ap (λ (p : Program). p.execs) c.self.view_is in
    let few = few_instrs_at c.args.self.now c.as_slice.result.now c.loop-number.number c.index-as_slice-number.result
    (subst IsProgram c.self.view_is c.self.invariant) execs (omega arith) c.index-as_slice-number.is in
    omega (arith, few, ap length c.instrs.ensures)

pub loop-number-preserved : goal.loop-number-preserved
loop-number-preserved c =
    let execs = c.as_slice.ensures ∙ ap (λ (p : Program). p.execs) c.self.view_is in
    record {
      exact = counted_more c.args.self.now.execs c.as_slice.result.now c.loop-number.number c.loop-number.pages c.filled_pages-pages.result
          c.index-as_slice-number.result c.instrs.result.now execs (omega arith) c.index-as_slice-number.is c.instrs.ensures
          c.filled_pages-pages.ensures.exact c.loop-number.invariant.exact;
      few = omega (arith, c.loop-number.invariant.few, c.filled_pages-pages.ensures.few);
    }
