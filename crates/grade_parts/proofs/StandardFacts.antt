-- Known facts, computed from the definitions: the texts of small grades, and of two parts of one.
use Rattle.std.proofs.Common.{◌≡◌, ℕ, Bool, true, false, List, [], ◌∷◌, ◌++◌, refl}
use Rattle.std.specs.Prelude.{codes}
use Rattle.std.specs.Fmt.{digits}
use Rattle.text_bytes.specs.Bytes.{is_digit}
use Rattle.grade_parts.specs.Log.{GradeLog, Stuck, Tells, ends_none, log_text, IsLog}
use Rattle.grade_parts.specs.Turns.{open_net, comes_next}
use Rattle.grade_parts.specs.Merged.{merged_text}
use Rattle.grade_parts.specs.Held.{lines_of}
use Rattle.grade_parts.proofs.SaidLemmas.{told_fault}

-- the last word of a line says whether a fault is found
none_ends : ends_none (codes "fault a 0 none") ≡ true
none_ends = refl

cycle_ends : ends_none (codes "fault a 0 12") ≡ false
cycle_ends = refl

name_ends : ends_none (codes "fault none 0 1") ≡ false
name_ends = refl

-- what a line tells of
tells_none : Tells (codes "fault a 0 none") (record { net = codes "a"; value = false })
unfolding is_digit
tells_none = record { one = refl; is_net = refl; cycle = codes "none"; is_cycle = refl; is = refl }

tells_cycle : Tells (codes "fault a 1 12") (record { net = codes "a"; value = true })
unfolding is_digit
tells_cycle = record { one = refl; is_net = refl; cycle = codes "12"; is_cycle = refl; is = refl }

-- a line without a net tells of none
tells_of_none : (stuck : Stuck) → Tells (codes "fault 0 none") stuck → ⊥
tells_of_none stuck tells =
    told_fault (codes "fault 0 none") (codes "fault 0") (codes "none") (codes "fault") (codes "0")
    (record { one = refl; is = refl }) (record { one = refl; is = refl }) no_blank stuck tells
  where
    no_blank : (net : List ℕ) → codes "fault" ≡ codes "fault " ++ net → ⊥
    no_blank net e = cc

-- two nets, of which the first is told of whole
abbrev fault_of : List ℕ → Bool → Stuck
fault_of net value = record { net = net; value = value }

-- behind a net at 0 that net at 1 comes next, and no other
one_comes_next : comes_next (open_net (fault_of (codes "a") false ∷ [])) (fault_of (codes "a") false ∷ []) (fault_of (codes "a") true) ≡ true
one_comes_next = refl

other_waits : comes_next (open_net (fault_of (codes "a") false ∷ [])) (fault_of (codes "a") false ∷ []) (fault_of (codes "b") false) ≡ false
other_waits = refl

-- behind both of a net another one comes next, and that net doesn't come again
abbrev both_of_a : List Stuck
both_of_a = fault_of (codes "a") false ∷ fault_of (codes "a") true ∷ []

next_net : comes_next (open_net both_of_a) both_of_a (fault_of (codes "b") false) ≡ true
next_net = refl

no_net_twice : comes_next (open_net both_of_a) both_of_a (fault_of (codes "a") false) ≡ false
no_net_twice = refl

-- the first part of a grade of two nets
abbrev first_part : GradeLog
first_part = record { good = codes "good none"; faults = codes "fault a 0 1" ∷ codes "fault a 1 none" ∷ [] }

-- the second
abbrev second_part : GradeLog
second_part = record { good = codes "good none"; faults = codes "fault b 0 none" ∷ codes "fault b 1 0" ∷ [] }

first_text : log_text first_part ≡ codes "good none\nfault a 0 1\nfault a 1 none\nfaults 2 found 1\n"
unfolding log_text digits
first_text = refl

-- the text is that of the part
first_read : IsLog (codes "good none\nfault a 0 1\nfault a 1 none\nfaults 2 found 1\n") first_part
unfolding log_text digits is_digit
first_read = record {
  are = record {
    good = refl;
    faults = (
      (
        record { net = codes "a"; value = false },
        record { one = refl; is_net = refl; cycle = codes "1"; is_cycle = refl; is = refl },
      ),
      (
        (
          record { net = codes "a"; value = true },
          record { one = refl; is_net = refl; cycle = codes "none"; is_cycle = refl; is = refl },
        ),
        tt,
      ),
    );
  };
  is = refl;
}

-- a part without a fault
empty_text : log_text (record { good = codes "good 7"; faults = [] }) ≡ codes "good 7\nfaults 0 found 0\n"
unfolding log_text digits
empty_text = refl

-- both parts are one grade
both_text : merged_text first_part (second_part ∷ [])
    ≡ codes "good none\nfault a 0 1\nfault a 1 none\nfault b 0 none\nfault b 1 0\nfaults 4 found 2\n"
unfolding log_text digits
both_text = refl

-- the lines of a text
two_lines : lines_of (codes "fault a 0 1\nfault a 1 none\n") ≡ first_part.faults
two_lines = refl
