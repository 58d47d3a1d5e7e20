use Rattle.std.proofs.Common.{◌≡◌, ◌+◌, length, arith, sym, subst, ◌∙◌, ℕ}
use Rattle.std.proofs.lemmas.Bool.{false≢true}
use Rattle.stil_tree.proofs.SlowBlocks.{IsLast, last-end, last-on, last-done}
use Rattle.stil_tree.proofs.slow.block_start.Goals as goal
use Rattle.stil_tree.proofs.slow.block_start.Goals.{then-ends_at, else-ends_at}

pub loop-index-preserved : goal.loop-index-preserved
loop-index-preserved c =
    elim c.if-ends_at.branch [
      | then-ends_at w ↦
          subst (IsLast c.args.tokens.now (c.loop-index.index + 1)) (sym w.start-is)
          (last-end c.args.tokens.now c.loop-index.index c.loop-index.start (c.ends_at.ensures.ends w.if-ends_at.true))
      | else-ends_at w ↦
          subst (IsLast c.args.tokens.now (c.loop-index.index + 1)) (sym w.start-is)
          (last-on c.args.tokens.now c.loop-index.index c.loop-index.start c.loop-index.invariant (λ e. false≢true (sym w.if-ends_at.false ∙ c.ends_at.ensures.all e)))
    ]

pub returns : goal.returns
returns c =
    let all : c.loop-index.index ≡ length c.args.tokens.now = omega arith in
    last-done c.args.tokens.now c.loop-index.start (subst (λ (n : ℕ). IsLast c.args.tokens.now n c.loop-index.start) all c.loop-index.invariant)
