use Rattle.std.proofs.Common.{◌≡◌, ℕ, List, subst, ◌≤◌, ◌+◌, ◌-◌, ◌++◌, length, ap, sym, ◌∙◌, arith}
use Rattle.std.specs.List.{flat_map, range_with_len}
use Rattle.text_bytes.specs.Limits.{most_bytes}
use Rattle.drill_fine.specs.Texts.{net_head, register_line, net_text}
use Rattle.drill_fine.proofs.NumberedLines.{goes_on}
use Rattle.drill_fine.proofs.TextLemmas.{length-net_text}
use Rattle.stil_tool.proofs.drill_netlist.net_text.Goals as goal
use Rattle.stil_tool.proofs.drill_netlist.net_text.Goals.{After-loop-register}

pub loop-register-preserved : goal.loop-register-preserved
loop-register-preserved c =
    let k = c.loop-register.register in
    let head = net_head c.args.number in
    let before = c.loop-register.invariant.text in
    let on = goes_on register_line head _ 2 (k - 2) (k + 1 - 2) k (omega arith) (omega arith) before in
    record { text = c.in_ok-put_register.ensures ∙ on; within = omega arith }

-- the text is the whole
whole : (c : After-loop-register) → c.loop-register.text.items ≡ net_text c.args.number
unfolding net_text
whole c =
    let all : c.loop-register.register - 2 ≡ c.args.number - 1 = omega arith in
    c.loop-register.invariant.text
    ∙ ap (λ (n : ℕ). net_head c.args.number ++ flat_map register_line (range_with_len 2 n)) all

pub returns-clause-text : goal.returns-clause-text
returns-clause-text c = whole c

pub returns-clause-few : goal.returns-clause-few
returns-clause-few c =
    subst (λ (l : List ℕ). length l ≤ most_bytes) (sym (whole c)) (length-net_text c.args.number (omega arith))
