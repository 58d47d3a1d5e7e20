use Rattle.std.proofs.Common.{◌≡◌, ◌+◌, ◌≤◌, ℕ, slice_index}
use Rattle.tester_run.proofs.asking.ask_all.Given as goal

-- no more stops were passed on than the desk said
abbrev pub invariant-loop : goal.invariant-loop
invariant-loop g l = record {
  board : l.seat.board ≡ l.initial.seat.board;
  sites : l.seat.sites ≡ l.initial.seat.sites;
  counts : l.seat.asked ≡ l.asked;
  most : (site : ℕ) → slice_index l.seat.asked site + g.D.Desk.stops l.fn.desk site ≤ g.D.Desk.stops l.desk site;
}
