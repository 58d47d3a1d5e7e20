use Rattle.std.proofs.Common.{ap, ◌∙◌, ◌-◌, length}
use Rattle.std.proofs.lemmas.Result.{err_from_is_err_and}
use Rattle.log_parts.specs.Slices.{lent}
use Rattle.log_parts.proofs.ReadSiteLemmas.{site_stops, site_dies_stop, site_read}
use Rattle.log_parts.proofs.site.read_site.Goals as goal

pub returns-in_err-expect_site : goal.returns-in_err-expect_site
returns-in_err-expect_site c =
    let p = err_from_is_err_and c.from_residual.result c.from_residual.ensures.1 in
    rw (p.1, p.2)
    (site_stops c.args.number (lent c.args.names.now) c.args.lines.now c.in_err-expect_site.field-0.0 c.in_err-expect_site.ensures.0
    c.in_err-expect_site.ensures.1)

pub returns-in_err-read_dies : goal.returns-in_err-read_dies
returns-in_err-read_dies c =
    let p = err_from_is_err_and c.from_residual-in_err-read_dies.result c.from_residual-in_err-read_dies.ensures.1 in
    rw (p.1, p.2)
    (site_dies_stop c.args.number (lent c.args.names.now) c.args.lines.now c.expect_site.new.lines c.in_err-read_dies.field-0.0
    c.in_ok-expect_site.ensures c.in_err-read_dies.ensures)

pub returns : goal.returns
returns c =
    site_read c.args.number (lent c.args.names.now) c.args.lines.now c.expect_site.new.lines c.read_dies.new.lines c.args.bins.now.items
    c.read_dies.new.bins.items c.left-left.result.now (c.place.result - c.place-start.result) c.in_ok-expect_site.ensures
    c.in_ok-read_dies.ensures c.left-left.ensures
    (ap (λ n. n - c.place-start.result) c.place.ensures ∙ ap (λ n. length c.read_dies.new.lines.front - n) c.place-start.ensures)
