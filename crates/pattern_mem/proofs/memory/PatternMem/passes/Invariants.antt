use Rattle.std.proofs.Common.{◌≡◌, [], replicate}
use Rattle.pattern_mem.specs.Memory.{basis_in}
use Rattle.pattern_mem.specs.Rule.{opener_view}
use Rattle.pattern_mem.specs.declared.view.View.TheVariants.{Opener}
use Rattle.pattern_mem.proofs.memory.PatternMem.passes.Given as goal

abbrev pub invariant-loop : goal.invariant-loop
invariant-loop l = record {
  memory : l.opener.table_id ≡ l.self.table;
  opener : l.opener.me ≡ (Opener (opener_view l.counter (basis_in l.self)), []);
  made : l.passes.items ≡ replicate l.counter l.self;
}
