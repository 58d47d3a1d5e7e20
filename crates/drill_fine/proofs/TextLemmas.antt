-- How long the texts are at most.
use Rattle.std.proofs.Common.{ℕ, ◌-◌, ◌<◌, ◌≤◌, length, arith, length-append}
use Rattle.std.specs.Prelude.{decimal}
use Rattle.std.proofs.lemmas.Fmt.{length-decimal-le}
use Rattle.text_bytes.specs.Limits.{most_bytes}
use Rattle.drill_fine.specs.Texts.{vectors, vector_line, stil_head, stil_tail, stil_text, register_line, net_head, net_text}
use Rattle.drill_fine.proofs.NumberedLines.{length-lines}

-- a vector's line
length-vector_line : (n i : ℕ) → length (vector_line n i) ≤ 64
unfolding vector_line
length-vector_line n i = grind (arith, length-append)

-- a number that is below 1000
length-decimal : (n : ℕ) → n < 1000 → length (decimal n) ≤ 3
length-decimal n below = length-decimal-le 3 n (omega arith) below (omega arith)

-- a register's line
length-register_line : (k : ℕ) → k < 1000 → length (register_line k) ≤ 64
unfolding register_line
length-register_line k below =
    let own = length-decimal k below in
    let before = length-decimal (k - 1) (omega arith) in
    grind (arith, length-append, own, before)

-- the pattern
pub length-stil_text : (n : ℕ) → n < 256 → length (stil_text n) ≤ most_bytes
unfolding stil_text stil_head stil_tail
length-stil_text n below =
    let lines = length-lines (vector_line n) 0 (vectors n) (λ k _. length-vector_line n k) in
    grind (arith, length-append, lines)

-- the netlist
pub length-net_text : (n : ℕ) → n < 256 → length (net_text n) ≤ most_bytes
unfolding net_text net_head
length-net_text n below =
    let lines = length-lines register_line 2 (n - 1) (λ k small. length-register_line k (omega arith)) in
    let own = length-decimal n (omega arith) in
    grind (arith, length-append, lines, own)
