use Rattle.std.proofs.Common.{rules}
use Rattle.pattern_mem.proofs.PageLemmas.{small_entry}
use Rattle.pattern_mem.proofs.pool.PoolState.show.Goals as goal

pub show-requires : goal.show-requires
show-requires c = small_entry c.args.self.now.code c.args.page c.args.self.now.entries _ _ (search rules) c.requires c.as_slice.ensures
