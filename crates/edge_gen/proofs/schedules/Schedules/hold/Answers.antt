use Rattle.std.proofs.Common.{◌∙◌, ap, sym, subst}
use Rattle.std.proofs.lemmas.Bool.{false≢true}
use Rattle.text_bytes.proofs.OptionLemmas.{on_err}
use Rattle.lru.specs.LruCache.{lru_cache, put_entries}
use Rattle.edge_gen.specs.Moments.{moments_of}
use Rattle.edge_gen.specs.Held.{is_pair, is_held, HoldsOnly}
use Rattle.edge_gen.proofs.HeldLemmas.{promoted-asked, promoted-none, put-asked}
use Rattle.edge_gen.proofs.schedules.Schedules.hold.Goals as goal

pub returns-then-promote-clause-asked : goal.returns-then-promote-clause-asked
returns-then-promote-clause-asked c =
    let held = c.self.inside.cache in
    let moments = moments_of c.args.table.now c.args.row.now c.args.skews.now 0 in
    let only = subst (λ h. HoldsOnly h c.args.pair moments) (sym c.self.view_is) c.requires.held in
    let is = sym c.promote.ensures.value ∙ c.if-promote.true in
    rw (c.promote.ensures.entries, ← c.self.view_is) (promoted-asked held c.args.pair moments is only)

pub returns-in_err-moments-clause-failed : goal.returns-in_err-moments-clause-failed
returns-in_err-moments-clause-failed c =
    let is = sym c.promote.ensures.value ∙ c.if-promote.false in
    let same = c.promote.ensures.entries ∙ promoted-none c.self.inside.cache c.args.pair is ∙ c.self.view_is in
    on_err c.from_residual.result same

pub returns-in_err-put-clause-failed : goal.returns-in_err-put-clause-failed
returns-in_err-put-clause-failed c =
    let is = sym c.promote.ensures.value ∙ c.if-promote.false in
    let same = c.promote.ensures.entries ∙ promoted-none c.self.inside.cache c.args.pair is ∙ c.self.view_is in
    on_err c.from_residual-in_err-put.result (c.in_err-put.ensures.err ∙ same)

pub returns-clause-asked : goal.returns-clause-asked
returns-clause-asked c =
    let held = c.self.inside.cache in
    let moments = moments_of c.args.table.now c.args.row.now c.args.skews.now 0 in
    let is = sym c.promote.ensures.value ∙ c.if-promote.false in
    let same = c.promote.ensures.entries ∙ promoted-none held c.args.pair is in
    let made = c.in_ok-moments.ensures in
    rw (← c.self.view_is) (
    c.in_ok-put.ensures.entries ∙ ap (λ h. lru_cache (put_entries is_pair h c.args.pair c.in_ok-moments.moments) h.cap) same
    ∙ ap (λ m. lru_cache (put_entries is_pair held c.args.pair m) held.cap) made
    ∙ put-asked held c.args.pair moments is
    )

pub returns-in_err-moments-clause-free : goal.returns-in_err-moments-clause-free
returns-in_err-moments-clause-free c = λ held.
    let is = sym c.promote.ensures.value ∙ c.if-promote.false in
    absurd (false≢true (sym is ∙ ap (is_held c.args.pair) c.self.view_is ∙ held))

pub returns-in_err-put-clause-free : goal.returns-in_err-put-clause-free
returns-in_err-put-clause-free c = λ held.
    let is = sym c.promote.ensures.value ∙ c.if-promote.false in
    absurd (false≢true (sym is ∙ ap (is_held c.args.pair) c.self.view_is ∙ held))
