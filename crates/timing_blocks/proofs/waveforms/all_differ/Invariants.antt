use Rattle.std.proofs.Common.{◌≡◌, drop, nat_eq}
use Rattle.stil_ast.specs.Data.Forms.{all_differ}
use Rattle.timing_blocks.proofs.waveforms.all_differ.Given as goal

-- those before stand once
abbrev pub invariant-loop-place : goal.invariant-loop-place
invariant-loop-place l = all_differ nat_eq (drop l.place l.characters) ≡ all_differ nat_eq l.characters
