use Rattle.std.proofs.Common.{◌≡◌, ℕ, Bool, false, List, Option, Some, None, sym, ◌∙◌}
use Rattle.std.specs.Prelude.{IfNone, nat_eq}
use Rattle.std.specs.Cmp.Lexicographic.{pointwise, bytes_decides}
use Rattle.vcd_text.specs.Dump.{Line, timescale, scope, named, upscope, definitions, at, change, spelled}
use Rattle.vcd_text.specs.Standing.{FitsLine, IsHeadLine}
use Rattle.vcd_text.proofs.line.head_line_of.Goals as goal

-- texts that were compared and differ
differ : (text word literal : List ℕ) (same : Bool) → same ≡ pointwise nat_eq text word → same ≡ false → word ≡ literal
    → text ≡ literal → ⊥
differ text word literal same was no_same is equal =
    let yes_same = (bytes_decides text word).1 (equal ∙ sym is) in absurd cc

-- no line of the head is the text
none_of : (text : List ℕ)
    → (text ≡ spelled timescale → ⊥) → (text ≡ spelled scope → ⊥) → (text ≡ spelled upscope → ⊥) → (text ≡ spelled definitions → ⊥)
    → ((signal : ℕ) (name : List ℕ) → FitsLine (named signal name) → text ≡ spelled (named signal name) → ⊥)
    → (line : Line) → FitsLine line → IsHeadLine line → text ≡ spelled line → ⊥
none_of text a b c d e timescale fits head is = a is
none_of text a b c d e scope fits head is = b is
none_of text a b c d e (named signal name) fits head is = e signal name fits is
none_of text a b c d e upscope fits head is = c is
none_of text a b c d e definitions fits head is = d is
none_of text a b c d e (at instant) fits head is = head
none_of text a b c d e (change signal drive) fits head is = head

if_none : {X P Q : Type 0} (r : Option X) → (P → Q) → IfNone r P → IfNone r Q
if_none None f p = f p
if_none (Some x) f p = tt

pub returns-else-eq-4-clause-none : goal.returns-else-eq-4-clause-none
returns-else-eq-4-clause-none c =
    let text = c.args.text.now in
    if_none c.named_of.result
    (none_of text
    (differ text c.as_slice.result.now (spelled timescale) c.eq.result c.eq.ensures c.if-eq.false c.as_slice.ensures)
    (differ text c.as_slice-else-eq.result.now (spelled scope) c.eq-else-eq.result c.eq-else-eq.ensures c.if-eq-2.false c.as_slice-else-eq.ensures)
    (differ text c.as_slice-else-eq-2.result.now (spelled upscope) c.eq-else-eq-2.result c.eq-else-eq-2.ensures c.if-eq-3.false c.as_slice-else-eq-2.ensures)
    (differ text c.as_slice-else-eq-3.result.now (spelled definitions) c.eq-else-eq-3.result c.eq-else-eq-3.ensures c.if-eq-4.false c.as_slice-else-eq-3.ensures))
    c.named_of.ensures.none
