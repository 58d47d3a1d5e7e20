use Rattle.std.proofs.Common.{refl, arith, inl, inr}
use Rattle.stil_tool.specs.Tester.TesterWants.{of_lot, of_drill, of_grade, of_other}
use Rattle.stil_tool.proofs.FineDrillLemmas.{drill_wants, drill_completes}
use Rattle.stil_tool.proofs.FineLotLemmas.{lot_completes}
use Rattle.stil_tool.proofs.GradeLemmas.{grade_completes}
use Rattle.stil_tool.proofs.top_call.tester.Goals as goal

pub returns-in-Lot-clause-answers : goal.returns-in-Lot-clause-answers
returns-in-Lot-clause-answers g c =
    let a = c.lot.ensures.answers in
    record {
      status = a.status;
      text = a.text;
      wanted = of_lot c.in-Lot.program.now c.in-Lot.plan.now c.in-Lot.ensures a.wanted;
      ends = a.ends;
    }

pub returns-in-Lot-clause-complete_lot : goal.returns-in-Lot-clause-complete_lot
returns-in-Lot-clause-complete_lot g c = λ fine. lot_completes _ _ _ _ _ _ _ _ _ _ _ _ (returns-in-Lot-clause-answers g c) fine

pub prove-unreachable-requires : goal.prove-unreachable-requires
prove-unreachable-requires g c = omega (arith, c.in-Drill.ensures.few, c.if-prove.true)

pub returns-in-Drill-clause-answers : goal.returns-in-Drill-clause-answers
returns-in-Drill-clause-answers g c =
    let a = c.drill.ensures in
    record {
      status = a.status;
      text = a.text;
      wanted = of_drill c.in-Drill.number c.in-Drill.ensures
          (drill_wants _ c.in-Drill.number _ _ a.status a.text c.in-Drill.ensures.some c.in-Drill.ensures.few a.wanted);
      ends = a.ends;
    }

pub returns-in-Offline-clause-answers : goal.returns-in-Offline-clause-answers
returns-in-Offline-clause-answers g c =
    let a = c.offline.ensures.answers in
    record {
      status = a.status;
      text = a.text;
      wanted = of_other c.in-Offline.ensures a.wanted;
      ends = a.ends;
    }

pub returns-in-Grade-clause-answers : goal.returns-in-Grade-clause-answers
returns-in-Grade-clause-answers g c =
    let a = c.grade.ensures.answers in
    record {
      status = a.status;
      text = a.text;
      wanted = of_grade c.in-Grade.program.now c.in-Grade.plan.now c.in-Grade.ensures a.wanted refl;
      ends = a.ends;
    }

pub returns-in-Grade-clause-complete_grade : goal.returns-in-Grade-clause-complete_grade
returns-in-Grade-clause-complete_grade g c =
    λ fine. grade_completes _ _ _ _ _ _ _ _ _ _ _ _ (returns-in-Grade-clause-answers g c) fine

pub returns-in-Offline-clause-complete_grade : goal.returns-in-Offline-clause-complete_grade
returns-in-Offline-clause-complete_grade g c =
    λ fine. absurd (c.in-Offline.ensures (inr (inr (fine.program, fine.plan, fine.are))))

pub returns-in-Drill-clause-complete_drill : goal.returns-in-Drill-clause-complete_drill
returns-in-Drill-clause-complete_drill g c = λ fine. drill_completes _ _ _ _ _ _ _ _ _ _ _ _ (returns-in-Drill-clause-answers g c) fine

pub returns-in-Lot-clause-complete_drill : goal.returns-in-Lot-clause-complete_drill
returns-in-Lot-clause-complete_drill g c = λ fine. drill_completes _ _ _ _ _ _ _ _ _ _ _ _ (returns-in-Lot-clause-answers g c) fine

pub returns-in-Grade-clause-complete_drill : goal.returns-in-Grade-clause-complete_drill
returns-in-Grade-clause-complete_drill g c =
    λ fine. drill_completes _ _ _ _ _ _ _ _ _ _ _ _ (returns-in-Grade-clause-answers g c) fine

pub returns-in-Offline-clause-complete_drill : goal.returns-in-Offline-clause-complete_drill
returns-in-Offline-clause-complete_drill g c = λ fine. absurd (c.in-Offline.ensures (inr (inl (fine.number, fine.are))))
