use Rattle.std.proofs.Common.{◌≡◌, length, take}
use Rattle.std.specs.Slots.{slots_items}
use Rattle.text_bytes.specs.Limits.{most_sites}
use Rattle.stop_board.proofs.board.first_words.Given as goal

abbrev pub invariant-loop-site : goal.invariant-loop-site
invariant-loop-site l = record {
  each_site : length l.words ≡ most_sites;
  same : take l.site l.words ≡ take l.site (slots_items l.closed.words);
}
