use Rattle.std.proofs.Common.{◌≡◌, drop, []}
use Rattle.std.specs.Prelude.{fold}
use Rattle.text_bytes.specs.Texts.{behind, added}
use Rattle.bench_net.specs.Views.{texts}
use Rattle.lot_plan.proofs.names.files_of.Given as goal

abbrev pub invariant-loop-die : goal.invariant-loop-die
invariant-loop-die l = fold (λ named d. added named d.file) (texts l.files.keys) (behind (drop l.die-index l.dies))
    ≡ fold (λ named d. added named d.file) [] (behind l.dies)
