use Rattle.std.proofs.Common.{◌≡◌, drop}
use Rattle.pat_read.specs.Data.{behind, data_from, data_of}
use Rattle.pat_read.proofs.data.take_data.Given as goal

-- what was read, and the rest, are the whole
abbrev pub invariant-loop-token : goal.invariant-loop-token
invariant-loop-token l = behind l.items (data_from l.bytes l.awaited (drop l.token-index l.tokens)) ≡ data_of l.bytes l.tokens
