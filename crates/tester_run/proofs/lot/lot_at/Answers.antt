use Rattle.std.proofs.Common.{ℕ, List, length, sym, ap, ◌∙◌, arith}
use Rattle.std.specs.List.{list_any}
use Rattle.std.proofs.lemmas.List.FromFn.{length-map-range_with_len}
use Rattle.plan_rows.specs.Rows.{sites_of, dies_at}
use Rattle.stop_board.specs.Seats.{new_seats}
use Rattle.tester_run.specs.Lot.{said_since}
use Rattle.tester_run.proofs.LotLemmas.{has_failed, new_are, done_are, shares_of_book, seats_of_board, all_are_done, are_left}
use Rattle.tester_run.proofs.lot.lot_at.Goals as goal

pub make_jobs-requires-clause-sockets : goal.make_jobs-requires-clause-sockets
make_jobs-requires-clause-sockets g c =
    let shares = new_are c.in_ok-book.book (sites_of c.args.plan.now.rows) c.into_vec.result.items
    (c.into_vec.ensures ∙ c.in_ok-book.ensures.shares) in
    omega (arith, shares, c.requires.sockets)

pub make_jobs-requires-clause-enough : goal.make_jobs-requires-clause-enough
make_jobs-requires-clause-enough g c =
    let shares = new_are c.in_ok-book.book (sites_of c.args.plan.now.rows) c.into_vec.result.items
    (c.into_vec.ensures ∙ c.in_ok-book.ensures.shares) in
    let passes = ap (λ l. length l) c.into_vec-3.ensures in
    omega (arith, shares, passes, c.requires.enough)

pub do_jobs-requires-clause-new : goal.do_jobs-requires-clause-new
do_jobs-requires-clause-new g c κs within = record {
  shares = c.in_ok-jobs.ensures.shares ∙ c.into_vec.ensures ∙ c.in_ok-book.ensures.shares;
  seats = c.in_ok-jobs.ensures.seats ∙ c.into_vec-2.ensures ∙ c.in_ok-board.ensures.seats
      ∙ ap (new_seats c.in_ok-board.board) c.sites-sites.ensures.count;
  passes = c.in_ok-jobs.ensures.passes;
}

pub close-requires-clause-shares : goal.close-requires-clause-shares
close-requires-clause-shares g c =
    shares_of_book g.K.Socket.told c.args.plan.now c.in_ok-book.book c.in_ok-board.board c.in_ok-jobs.jobs.items
    c.do_jobs.new.jobs.items c.do_jobs.ensures.done

pub close-requires-clause-sites : goal.close-requires-clause-sites
close-requires-clause-sites g c =
    done_are g.K.Socket.told c.args.plan.now c.in_ok-book.book c.in_ok-board.board c.in_ok-jobs.jobs.items
    c.do_jobs.new.jobs.items c.do_jobs.ensures.done ∙ sym c.sites-sites.ensures.count ∙ sym c.do_jobs.ensures.sites

pub close-requires-clause-seats : goal.close-requires-clause-seats
close-requires-clause-seats g c =
    seats_of_board g.K.Socket.told c.args.plan.now c.in_ok-book.book c.in_ok-board.board c.in_ok-jobs.jobs.items
    c.do_jobs.new.jobs.items c.do_jobs.ensures.done

pub returns-clause-all : goal.returns-clause-all
returns-clause-all g c =
    let rows = c.args.plan.now.rows in
    c.in_ok-state.ensures.all ∙ ap (λ (l : List ℕ). length l) c.in_ok-book.ensures.places
    ∙ length-map-range_with_len (λ (site : ℕ). length (dies_at site rows)) 0 (sites_of rows)

pub returns-clause-records : goal.returns-clause-records
returns-clause-records g c =
    all_are_done g.K.Socket.told c.args.plan.now c.in_ok-book.book c.in_ok-board.board c.in_ok-jobs.jobs.items
    c.do_jobs.new.jobs.items c.do_jobs.new.asker.asked
    (said_since (g.D.Desk.stops c.args.desk.now) (g.D.Desk.stops c.do_jobs.new.desk)) c.in_ok-state.state c.args.sockets.now.items
    c.close.new.sockets.items c.make_jobs.new.sockets.items c.do_jobs.ensures.done
    (record {
      none_failed = ap (list_any has_failed) (sym c.deref.ensures.value) ∙ sym c.any_failed-failed.ensures ∙ c.if-failed.false;
      records = c.in_ok-state.ensures.records;
      seen = c.in_ok-state.ensures.seen;
      said_so = λ site. let most = c.do_jobs.ensures.most site in omega (arith, most);
    })
    (sym c.in_ok-jobs.ensures.sockets) c.in_ok-state.ensures.sockets

pub returns-clause-sockets : goal.returns-clause-sockets
returns-clause-sockets g c =
    are_left g.K.Socket.told c.args.plan.now c.in_ok-book.book c.in_ok-board.board c.in_ok-jobs.jobs.items
    c.do_jobs.new.jobs.items c.args.sockets.now.items c.close.new.sockets.items c.make_jobs.new.sockets.items
    c.do_jobs.ensures.done (sym c.in_ok-jobs.ensures.sockets) c.in_ok-state.ensures.sockets
