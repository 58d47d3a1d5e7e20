use Rattle.std.proofs.Common.{sym, ◌∙◌}
use Rattle.std.proofs.lemmas.List.{take_rest}
use Rattle.stil_lex.specs.SlowFaults.{open_annotation_test}
use Rattle.stil_lex.proofs.slow_faults.is_open_annotation.Goals as goal

pub returns : goal.returns
unfolding open_annotation_test
returns c =
    let opens = sym c.opens_annotation.ensures.test ∙ c.if-not-opens_annotation.false in
    let mark = simp take_rest at c.mark_len-mark.ensures.len in
    let unclosed = simp take_rest at c.is_unclosed.ensures in
    rw opens (rw mark at unclosed)
