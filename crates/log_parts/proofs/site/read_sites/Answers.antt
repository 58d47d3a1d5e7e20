use Rattle.std.proofs.Common.{ℕ, ◌+◌, List, [], ◌∷◌, Bor, Vec, take, sym, ap, subst, ◌∙◌}
use Rattle.std.specs.declared.alloc.Global.{Global}
use Rattle.std.proofs.lemmas.Result.{err_from_is_err_and}
use Rattle.part_lines.specs.Reading.{FaultFrom}
use Rattle.log_parts.specs.Slices.{lent, lent_sites}
use Rattle.log_parts.specs.Step.{AreOneLine, IsRest, SiteIsRead, SitesAreRead}
use Rattle.log_parts.proofs.ReadSiteLemmas.{sites_more, sites_stop, no_sites_read, one_line_each_at, lent_more}
use Rattle.log_parts.proofs.site.read_sites.Goals as goal

pub read_site-requires : goal.read_site-requires
read_site-requires c =
    let site = c.index-names-number in
    subst (λ (names : List (Bor (List ℕ))). AreOneLine (lent names))
    (ap (λ (v : Vec (Bor (List ℕ)) Global). v.items) (sym site.is) ∙ sym c.as_slice.ensures.value)
    (one_line_each_at c.args.names.now c.loop-number.number site.result c.loop-number-test.true c.requires)

pub loop-number-init : goal.loop-number-init
loop-number-init c = rw c.new-texts.ensures.items (no_sites_read c.args.lines.now c.args.bins.now.items)

pub loop-number-preserved : goal.loop-number-preserved
loop-number-preserved c =
    let site = c.index-names-number in
    let i = c.loop-number.number in
    let found = subst (λ (names : List (Bor (List ℕ))). SiteIsRead i (lent names) c.loop-number.lines c.read_site.new.lines c.loop-number.bins.items c.read_site.new.bins.items c.in_ok-text.text.now)
    (c.as_slice.ensures.value ∙ ap (λ (v : Vec (Bor (List ℕ)) Global). v.items) site.is) c.in_ok-text.ensures in
    subst (λ (texts : List (List ℕ)). SitesAreRead (lent_sites (take (i + 1) c.args.names.now)) c.args.lines.now c.read_site.new.lines c.args.bins.now.items c.read_site.new.bins.items texts)
    (sym (ap lent c.in_ok-push.ensures.items ∙ lent_more c.loop-number.texts.items c.in_ok-text.text))
    (sites_more c.args.names.now i site.result c.args.lines.now c.loop-number.lines c.read_site.new.lines c.args.bins.now.items c.loop-number.bins.items
    c.read_site.new.bins.items (lent c.loop-number.texts.items) c.in_ok-text.text.now c.loop-number-test.true c.loop-number.invariant found)

pub returns-in_err-text : goal.returns-in_err-text
returns-in_err-text c =
    let p = err_from_is_err_and c.from_residual.result c.from_residual.ensures.1 in
    let site = c.index-names-number in
    let i = c.loop-number.number in
    let stops = subst (λ (names : List (Bor (List ℕ))). (later : List (List (List ℕ))) (before : List ℕ) → FaultFrom (IsRest [] i (lent names ∷ later) before) c.loop-number.lines c.in_err-text.field-0.0)
    (c.as_slice.ensures.value ∙ ap (λ (v : Vec (Bor (List ℕ)) Global). v.items) site.is) c.in_err-text.ensures in
    rw (p.1, p.2)
    (sites_stop c.args.names.now i site.result c.args.lines.now c.loop-number.lines c.args.bins.now.items c.loop-number.bins.items
    (lent c.loop-number.texts.items) c.in_err-text.field-0.0 c.loop-number-test.true c.loop-number.invariant stops)
