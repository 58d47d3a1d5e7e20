use Rattle.std.proofs.Common.{◌≡◌, ◌-◌, length}
use Rattle.std.specs.List.{find, range_with_len}
use Rattle.site_meaning.specs.Polls.{has_cycles, next_exec}
use Rattle.site_run.proofs.run.next_exec.Given as goal

-- none of the executives so far has a cycle
abbrev pub invariant-loop-exec : goal.invariant-loop-exec
invariant-loop-exec l =
    find (has_cycles l.code) (range_with_len l.exec (length l.code.execs - l.exec)) ≡ next_exec l.code l.fn.from
