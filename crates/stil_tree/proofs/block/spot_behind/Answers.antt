use Rattle.std.proofs.Common.{◌∙◌, sym}
use Rattle.std.proofs.lemmas.Bool.{false≢true}
use Rattle.stil_tree.proofs.Spots.{spot-open, spot-close, spot-inner, spot-other}
use Rattle.stil_tree.proofs.block.spot_behind.Goals as goal
use Rattle.stil_tree.proofs.block.spot_behind.Goals.{then-braces-eq1, else-braces-eq1, else-is_sign-3-via-then-is_sign-3+else-braces-eq0, else-is_sign-3-via-else-is_sign-3}

pub returns-then-is_sign-clause-spot : goal.returns-then-is_sign-clause-spot
returns-then-is_sign-clause-spot c = λ read long s.
    spot-open read c.args.token.now c.args.spot.start c.args.spot.braces (sym c.is_sign.ensures ∙ c.if-is_sign.true) s

pub returns-after-braces-eq1-clause-spot : goal.returns-after-braces-eq1-clause-spot
returns-after-braces-eq1-clause-spot c = λ read long s.
    let t = c.args.token.now in
    let is = sym c.is_sign-else-is_sign.ensures ∙ c.if-is_sign-2.true in
    elim c.if-braces-eq1.branch [
      | then-braces-eq1 w ↦
          rw (w.start-is, c.saturating_sub.ensures, sym long) (spot-close read t c.args.spot.start c.args.spot.braces is w.if-braces-eq1.true s)
      | else-braces-eq1 w ↦
          rw (w.start-is, c.saturating_sub.ensures) (spot-inner read t c.args.spot.start c.args.spot.braces is w.if-braces-eq1.false s)
    ]

pub returns-else-is_sign-3-clause-spot : goal.returns-else-is_sign-3-clause-spot
returns-else-is_sign-3-clause-spot c = λ read long s.
    let n_open = sym c.is_sign.ensures ∙ c.if-is_sign.false in
    let n_close = sym c.is_sign-else-is_sign.ensures ∙ c.if-is_sign-2.false in
    spot-other read c.args.token.now c.args.spot.start c.args.spot.braces n_open n_close
    (elim c.else-is_sign-3.branch [
      | else-is_sign-3-via-then-is_sign-3+else-braces-eq0 w ↦ λ _ none. w.if-braces-eq0.false none
      | else-is_sign-3-via-else-is_sign-3 w ↦ λ ends _. false≢true (sym w.if-is_sign-3.false ∙ c.is_sign-else-is_sign-2.ensures ∙ ends)
    ]) s
