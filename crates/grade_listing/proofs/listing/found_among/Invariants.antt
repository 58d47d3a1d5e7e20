use Rattle.std.proofs.Common.{◌≡◌, take}
use Rattle.std.specs.Prelude.{count_by}
use Rattle.grade_listing.specs.GradeText.{is_found}
use Rattle.grade_listing.proofs.listing.found_among.Given as goal

abbrev pub invariant-loop-graded : goal.invariant-loop-graded
invariant-loop-graded l = l.found ≡ count_by is_found (take l.graded-index l.faults)
