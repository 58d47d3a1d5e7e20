-- A cursor that gives its cycles as a feed.
use Rattle.std.specs.Prelude.{◌≡◌}
use Rattle.packed_code.specs.Program.{Program}
use Rattle.pattern_mem.specs.Cursor.{IsCursorOf}
use Rattle.site_run.specs.declared.feed.CursorFeed.{CursorFeed}

-- it was begun over this code, in its memory, for which the pass is
pub record CanGive {R : Type 0} (code : Program) (feed : CursorFeed R) : Type 0 where
  pub of : IsCursorOf code feed.cursor.now
  pub pass : feed.pass.now ≡ feed.mem.now
  pub mem : feed.mem.now.code ≡ code

-- it is the same feed, and its pass is for the same memory
pub record IsSameFeed {R : Type 0} (old new : CursorFeed R) : Type 0 where
  pub pass : new.pass.ghost_name ≡ old.pass.ghost_name
  pub cursor : new.cursor.ghost_name ≡ old.cursor.ghost_name
  pub memory : new.pass.now ≡ old.pass.now
