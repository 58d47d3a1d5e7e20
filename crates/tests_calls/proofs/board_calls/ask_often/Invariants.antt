use Rattle.std.proofs.Common.{◌≡◌, ◌≤◌, length, slice_index}
use Rattle.text_bytes.specs.Limits.{most_sites}
use Rattle.tests_calls.proofs.board_calls.ask_often.Given as goal

abbrev pub invariant-loop : goal.invariant-loop
invariant-loop l = record {
  board : l.desk.board ≡ l.initial.desk.board;
  sites : l.desk.sites ≡ l.initial.desk.sites;
  each_site : length l.desk.asked ≡ most_sites;
  few : slice_index l.desk.asked 0 ≤ l.counter;
}
