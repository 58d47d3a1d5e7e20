use Rattle.std.proofs.Common.{◌≡◌, ℕ, ◌<◌, List, length, map, get_or, ap, ◌∙◌, subst, arith}
use Rattle.std.specs.Arc.{arc_value}
use Rattle.std.proofs.lemmas.Result.{err_from_is_err_and}
use Rattle.plan_rows.specs.Rows.{files_of}
use Rattle.tool_inputs.proofs.NetLemmas.{next_read, next_refused}
use Rattle.tool_inputs.proofs.inputs.read_nets.Goals as goal

pub returns-in_err-add_net-clause-reads : goal.returns-in_err-add_net-clause-reads
returns-in_err-add_net-clause-reads g c =
    let p = err_from_is_err_and c.from_residual.result c.from_residual.ensures.1 in
    let told = g.F.Shelf.told in
    let faults = g.F.Shelf.faults in
    let files = files_of c.args.plan.now in
    let same = c.as_slice-files.ensures ∙ c.files.ensures.files in
    let within : c.loop-file.file-index < length files =
    omega (arith, c.loop-file-test.true, ap (λ (l : List (List ℕ)). length l) same) in
    rw (p.1, p.2)
    (next_refused (told c.args.shelf.now) (told c.loop-file.shelf) (faults c.args.shelf.now) (faults c.loop-file.shelf)
    (faults c.add_net.new.shelf) files c.loop-file.file-index (map arc_value c.loop-file.nets.items) c.file-item.result
    c.in_err-add_net.field-0.0 within
    (subst (λ (l : List (List ℕ)). c.file-item.result ≡ get_or l c.loop-file.file-index c.file-item.result) same c.file-item.is)
    c.loop-file.invariant.kept c.loop-file.invariant.counts c.in_err-add_net.ensures.loads.counts c.loop-file.invariant.read c.in_err-add_net.ensures.reads)

pub loop-file-preserved : goal.loop-file-preserved
loop-file-preserved g c =
    let told = g.F.Shelf.told in
    let files = files_of c.args.plan.now in
    let same = c.as_slice-files.ensures ∙ c.files.ensures.files in
    let within : c.loop-file.file-index < length files =
    omega (arith, c.loop-file-test.true, ap (λ (l : List (List ℕ)). length l) same) in
    record {
      read = next_read (told c.args.shelf.now) (told c.loop-file.shelf) files c.loop-file.file-index
          (map arc_value c.loop-file.nets.items) (map arc_value c.add_net.new.nets.items) c.file-item.result within
          (subst (λ (l : List (List ℕ)). c.file-item.result ≡ get_or l c.loop-file.file-index c.file-item.result) same c.file-item.is)
          c.loop-file.invariant.kept c.loop-file.invariant.read c.in_ok-add_net.ensures.reads;
      kept = c.in_ok-add_net.ensures.loads.kept ∙ c.loop-file.invariant.kept;
      counts = omega (arith, c.loop-file.invariant.counts, c.in_ok-add_net.ensures.loads.counts);
    }
