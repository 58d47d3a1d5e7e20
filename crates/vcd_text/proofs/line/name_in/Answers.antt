use Rattle.std.proofs.Common.{◌≡◌, ◌&&◌, true, length, sym, ap, ◌∙◌}
use Rattle.std.specs.Prelude.{codes, nat_le}
use Rattle.std.proofs.lemmas.Bool.{and_from, le-leb}
use Rattle.std.proofs.lemmas.List.{append_cancel_right}
use Rattle.text_bytes.specs.Limits.{longest_name}
use Rattle.vcd_text.specs.Dump.{is_plain}
use Rattle.vcd_text.proofs.line.name_in.Goals as goal

pub returns-else-is_short_plain-clause-none : goal.returns-else-is_short_plain-clause-none
returns-else-is_short_plain-clause-none c name plain short is =
    let found = c.in-Some.name.now in
    let same : found ≡ name = append_cancel_right found name (codes " $end") (sym c.in-Some.ensures.found ∙ is) in
    let fits : (is_plain found && nat_le (length found) longest_name) ≡ true =
    ap (λ n. is_plain n && nat_le (length n) longest_name) same ∙ and_from _ _ plain (le-leb (length name) longest_name short) in
    absurd cc
