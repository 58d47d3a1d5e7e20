use Rattle.std.proofs.Common.{ap, sym, ◌∙◌}
use Rattle.std.proofs.lemmas.List.{map-append}
use Rattle.bench_net.specs.Step.{front_step}
use Rattle.bench_net.proofs.LineLemmas.{Parsing-goes_on, Parsing-is_done, Parsing-stops, front-shorter}
use Rattle.bench_net.proofs.line.parts.Goals as goal

pub returns-in-Ends : goal.returns-in-Ends
returns-in-Ends c =
    record {
      parts = Parsing-is_done _ _ _ (ap front_step (sym c.skip_gap.ensures)
          ∙ sym c.in-Ends.ensures) c.loop-parts.invariant;
    }

pub returns-in-Bad : goal.returns-in-Bad
returns-in-Bad c =
    record {
      parts = Parsing-stops _ _ _ (ap front_step (sym c.skip_gap.ensures)
          ∙ sym c.in-Bad.ensures) c.loop-parts.invariant;
    }

pub loop-parts-smaller : goal.loop-parts-smaller
loop-parts-smaller c = front-shorter _ _ _ (ap front_step (sym c.skip_gap.ensures)
    ∙ sym c.in-Begins.ensures)

pub loop-parts-preserved : goal.loop-parts-preserved
loop-parts-preserved c =
    rw (c.in_ok-push-in-Begins.ensures.items, map-append)
    (Parsing-goes_on _ _ _ _ _ (ap front_step (sym c.skip_gap.ensures)
    ∙ sym c.in-Begins.ensures) c.loop-parts.invariant)
