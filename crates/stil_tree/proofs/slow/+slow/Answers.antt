use Rattle.std.proofs.Common.{refl, arith, ◌∙◌, sym, ◌<◌, length}
use Rattle.std.proofs.lemmas.Bool.{false≢true}
use Rattle.std.proofs.lemmas.List.{take_rest}
use Rattle.stil_tree.proofs.Slowly.{starts, goes_on, is_done, plain-first, block-first}
use Rattle.stil_tree.proofs.SlowlyBack.{no_delimiter, block_behind}
use Rattle.stil_tree.proofs.slow.+slow.Goals as goal

pub level-returns-clause-some : goal.level-returns-clause-some
level-returns-clause-some t c = rw c.from_vec.ensures (is_done c.args.depth c.args.at c.loop-read.read _ c.args.tokens.now c.loop-read.invariant (omega arith))

pub statement-returns-then-is_sign-clause-some : goal.statement-returns-then-is_sign-clause-some
statement-returns-then-is_sign-clause-some t c =
    let short : c.head_len-count.result < length c.args.tokens.now = omega arith in
    plain-first c.args.depth c.args.at c.head_len-count.result c.args.tokens.now _ c.plain_statement.result c.head_len-count.ensures.len short
    (sym c.is_sign.ensures ∙ c.if-is_sign.true) c.plain_statement.ensures

pub statement-returns-clause-some : goal.statement-returns-clause-some
statement-returns-clause-some t c =
    let short : c.head_len-count.result < length c.args.tokens.now = omega arith in
    let is_open = sym c.is_sign-2.ensures ∙ c.if-not-is_sign.false in
    let is_close = rw take_rest at (sym c.is_sign-3.ensures ∙ c.if-not-is_sign-2.false) in
    let within = rw take_rest at c.block_len-len.ensures.within in
    let not_all = rw take_rest at c.if-len-rest.false in
    let ends = rw take_rest at c.block_len-len.ensures.end in
    let body = rw (c.in-Some.is, take_rest) at c.in_ok-body.ensures.some in
    block-first c.args.depth c.args.at c.head_len-count.result c.block_len-len.result c.args.tokens.now _ _ _ c.in-Some.body c.head_len-count.ensures.len short
    is_open (omega arith) (omega arith) is_close ends body refl

pub level-returns-in_default-clause-none : goal.level-returns-in_default-clause-none
level-returns-in_default-clause-none t c = λ found p.
    let rest = c.loop-read.invariant.goes found p in
    let none = rw (c.in_default.is, take_rest) at c.in_ok-stmt.ensures.none in
    none rest.0 rest.1

pub statement-returns-then-count-tokens-clause-none : goal.statement-returns-then-count-tokens-clause-none
statement-returns-then-count-tokens-clause-none t c = λ found p.
    no_delimiter c.args.depth c.args.at found c.args.tokens.now p c.requires.some (sym c.head_len-count.ensures.len ∙ omega arith)

pub statement-returns-then-not-is_sign-clause-none : goal.statement-returns-then-not-is_sign-clause-none
statement-returns-then-not-is_sign-clause-none t c = λ found p.
    let short : c.head_len-count.result < length c.args.tokens.now = omega arith in
    let b = block_behind c.args.depth c.args.at c.head_len-count.result found c.args.tokens.now _ p c.head_len-count.ensures.len short (sym c.is_sign.ensures ∙ c.if-is_sign.false) in
    false≢true (sym c.if-not-is_sign.true ∙ (c.is_sign-2.ensures ∙ b.0))

pub statement-returns-then-depth-eq16-clause-none : goal.statement-returns-then-depth-eq16-clause-none
statement-returns-then-depth-eq16-clause-none t c = λ found p.
    let short : c.head_len-count.result < length c.args.tokens.now = omega arith in
    let b = block_behind c.args.depth c.args.at c.head_len-count.result found c.args.tokens.now _ p c.head_len-count.ensures.len short (sym c.is_sign.ensures ∙ c.if-is_sign.false) in
    omega (arith, b.1.few)

pub statement-returns-then-len-rest-clause-none : goal.statement-returns-then-len-rest-clause-none
statement-returns-then-len-rest-clause-none t c = λ found p.
    let short : c.head_len-count.result < length c.args.tokens.now = omega arith in
    let b = block_behind c.args.depth c.args.at c.head_len-count.result found c.args.tokens.now _ p c.head_len-count.ensures.len short (sym c.is_sign.ensures ∙ c.if-is_sign.false) in
    let ends = rw take_rest at c.block_len-len.ensures.end in
    let all = rw take_rest at c.if-len-rest.true in
    omega (arith, b.1.short, ends, all)

pub statement-returns-then-not-is_sign-2-clause-none : goal.statement-returns-then-not-is_sign-2-clause-none
statement-returns-then-not-is_sign-2-clause-none t c = λ found p.
    let short : c.head_len-count.result < length c.args.tokens.now = omega arith in
    let b = block_behind c.args.depth c.args.at c.head_len-count.result found c.args.tokens.now _ p c.head_len-count.ensures.len short (sym c.is_sign.ensures ∙ c.if-is_sign.false) in
    let ends = rw take_rest at c.block_len-len.ensures.end in
    let closes = rw (take_rest, ends) at c.is_sign-3.ensures in
    false≢true (sym c.if-not-is_sign-2.true ∙ (closes ∙ b.1.closes _))

pub statement-returns-in_default-clause-none : goal.statement-returns-in_default-clause-none
statement-returns-in_default-clause-none t c = λ found p.
    let short : c.head_len-count.result < length c.args.tokens.now = omega arith in
    let b = block_behind c.args.depth c.args.at c.head_len-count.result found c.args.tokens.now _ p c.head_len-count.ensures.len short (sym c.is_sign.ensures ∙ c.if-is_sign.false) in
    let ends = rw take_rest at c.block_len-len.ensures.end in
    let none = rw (c.in_default.is, take_rest, ends) at c.in_ok-body.ensures.none in
    none b.1.body b.1.inside

pub level-loop-read-init : goal.level-loop-read-init
level-loop-read-init t c = rw c.new-stmts.ensures.items (starts c.args.depth c.args.at c.args.tokens.now)

pub level-loop-read-preserved : goal.level-loop-read-preserved
level-loop-read-preserved t c =
    let first = rw (c.in-Some.is, take_rest) at c.in_ok-stmt.ensures.some in
    goes_on c.args.depth c.args.at c.loop-read.read c.in-Some.field-0.len _ _ c.in-Some.field-0.stmt c.args.tokens.now c.loop-read.invariant first c.in_ok-add.ensures
