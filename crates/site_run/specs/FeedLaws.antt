-- A feed stays the same.
use Rattle.std.proofs.Common.{refl, ◌∙◌}
use Rattle.site_run.specs.declared.feed.CursorFeed.{CursorFeed}
use Rattle.site_run.specs.Feed.{IsSameFeed}

pub same_itself : {R : Type 0} (feed : CursorFeed R) → IsSameFeed feed feed
same_itself feed = record { pass = refl; cursor = refl; memory = refl }

pub same_on : {R : Type 0} (x y z : CursorFeed R) → IsSameFeed x y → IsSameFeed y z → IsSameFeed x z
same_on x y z first then = record {
  pass = then.pass ∙ first.pass;
  cursor = then.cursor ∙ first.cursor;
  memory = then.memory ∙ first.memory;
}
