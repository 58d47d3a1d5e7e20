use Rattle.std.proofs.Common.{rules, ◌≡◌, ◌∙◌, ◌++◌, ◌∷◌, [], length, List, sym, ap, append_assoc, arith}
use Rattle.std.proofs.lemmas.List.Elements.{All-head, All-tail, All-same}
use Rattle.stil_ast.specs.Faults.CodeFaults.{compile_faults}
use Rattle.stil_ast.specs.Meaning.ExecutiveData.{Executive, tables_of}
use Rattle.cycle_comp.specs.Working.{IsFit}
use Rattle.cycle_comp.proofs.BuildLemmas.{faults_none}
use Rattle.cycle_comp.proofs.StepLemmas.{tables-front}
use Rattle.cycle_comp.proofs.compiling.build_each.Goals as goal

pub add_exec-requires-clause-few : goal.add_exec-requires-clause-few
add_exec-requires-clause-few c =
    let inv = c.loop-exec.invariant in
    omega (
      arith,
      ap length inv.built.tables,
      ap (λ (es : List Executive). length (tables_of es)) inv.all,
      tables-front c.loop-exec.yielded c.loop-exec.exec-iterator.rest.items,
      c.requires.few,
    )

pub add_exec-requires-clause-fit : goal.add_exec-requires-clause-fit
add_exec-requires-clause-fit c =
    All-head IsFit _ _
    (All-same IsFit (c.in-Some.exec ∷ c.next.new.self.rest.items) _ (sym c.in-Some.ensures.steps.0) c.loop-exec.invariant.fit)

pub loop-exec-preserved : goal.loop-exec-preserved
loop-exec-preserved c =
    let inv = c.loop-exec.invariant in
    let before = c.loop-exec.yielded in
    let e = c.in-Some.exec in
    let rest = c.next.new.self.rest.items in
    let was : c.loop-exec.exec-iterator.rest.items ≡ e ∷ rest = c.in-Some.ensures.steps.0 in
    let added = c.in-Ok.ensures before inv.built in
    record {
      can_go = search rules;
      ends = search rules;
      built = added.1;
      faults =
          inv.faults
          ∙ (ap (compile_faults c.args.signals before) was ∙ faults_none c.args.signals before rest e added.0);
      all =
          inv.all
          ∙ (ap (λ (es : List Executive). before ++ es) was ∙ sym (append_assoc before (e ∷ []) rest));
      fit = All-tail IsFit e rest (All-same IsFit (e ∷ rest) _ (sym was) inv.fit);
    }
