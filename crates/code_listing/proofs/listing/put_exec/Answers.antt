use Rattle.std.specs.List.{flat_map}
use Rattle.std.proofs.lemmas.Result.{err_from_is_err_and}
use Rattle.tester_types.proofs.OutsideLemmas.{front_more}
use Rattle.code_listing.specs.Listing.{listed_exec}
use Rattle.code_listing.specs.Room.{text_of}
use Rattle.code_listing.specs.Text.{exec_line}
use Rattle.code_listing.proofs.LineLemmas.{lists_last}
use Rattle.code_listing.proofs.ListingLemmas.{exec_lines}
use Rattle.code_listing.proofs.listing.put_exec.Goals as goal

pub returns-in_err-put_exec_line-clause-lists : goal.returns-in_err-put_exec_line-clause-lists
returns-in_err-put_exec_line-clause-lists g c =
    let p = err_from_is_err_and c.from_residual.result c.from_residual.ensures.1 in
    let e = listed_exec c.args.code.now c.args.exec in
    rw (p.1, p.2) (front_more _ _ (exec_line e) (flat_map (text_of c.args.form c.args.code.now) e.cycles) c.in_err-put_exec_line.ensures.puts)

pub returns-clause-lists : goal.returns-clause-lists
returns-clause-lists g c =
    let e = listed_exec c.args.code.now c.args.exec in
    lists_last (g.K.Sink.told c.args.sink.now) (g.K.Sink.told c.put_exec_line.new.sink) _ (exec_line e)
    (flat_map (text_of c.args.form c.args.code.now) e.cycles) _ (exec_lines e) c.in_ok-put_exec_line.ensures.puts c.put_exec_cycles.ensures.lists
