use Rattle.std.proofs.Common.{ℕ, List, subst}
use Rattle.std.proofs.lemmas.Result.{err_from_is_err_and}
use Rattle.datalog.specs.DatalogText.{totals_text}
use Rattle.part_lines.specs.Reading.{HasRead, FaultFrom}
use Rattle.log_parts.specs.Slices.{lent, lent_sites}
use Rattle.log_parts.specs.Step.{IsText, SitesAreRead}
use Rattle.log_parts.proofs.ReadSiteLemmas.{log_sites_stop, log_totals_stop, log_end_stop, log_read}
use Rattle.log_parts.proofs.part.read_part.Goals as goal

pub returns-in_err-texts : goal.returns-in_err-texts
returns-in_err-texts c =
    let p = err_from_is_err_and c.from_residual.result c.from_residual.ensures.1 in
    rw (p.1, p.2)
    (log_sites_stop (lent_sites c.args.names.now) c.args.text.now c.new-lines.result c.in_err-texts.field-0.0 c.new-lines.ensures.front
    c.new-lines.ensures.rest c.in_err-texts.ensures)

pub returns-in_err-read_totals : goal.returns-in_err-read_totals
returns-in_err-read_totals c =
    let p = err_from_is_err_and c.from_residual-in_err-read_totals.result c.from_residual-in_err-read_totals.ensures.1 in
    let names = lent_sites c.args.names.now in
    let bins = c.read_sites.new.bins.items in
    let texts = lent c.in_ok-texts.texts.items in
    let sites = subst (λ (olds : List ℕ). SitesAreRead names c.new-lines.result c.read_sites.new.lines olds bins texts) c.new-bins.ensures.items
    c.in_ok-texts.ensures in
    let stops = subst (λ (bs : List ℕ). FaultFrom (IsText (totals_text bs)) c.read_sites.new.lines c.in_err-read_totals.field-0.0) c.as_slice.ensures.value
    c.in_err-read_totals.ensures in
    rw (p.1, p.2)
    (log_totals_stop names c.args.text.now bins texts c.new-lines.result c.read_sites.new.lines c.in_err-read_totals.field-0.0
    c.new-lines.ensures.front c.new-lines.ensures.rest sites stops)

pub returns-in_err-read_end : goal.returns-in_err-read_end
returns-in_err-read_end c =
    let p = err_from_is_err_and c.from_residual-in_err-read_end.result c.from_residual-in_err-read_end.ensures.1 in
    let names = lent_sites c.args.names.now in
    let bins = c.read_sites.new.bins.items in
    let texts = lent c.in_ok-texts.texts.items in
    let sites = subst (λ (olds : List ℕ). SitesAreRead names c.new-lines.result c.read_sites.new.lines olds bins texts) c.new-bins.ensures.items
    c.in_ok-texts.ensures in
    let totals = subst (λ (bs : List ℕ). HasRead c.read_sites.new.lines c.read_totals.new.lines (totals_text bs)) c.as_slice.ensures.value
    c.in_ok-read_totals.ensures in
    rw (p.1, p.2)
    (log_end_stop names c.args.text.now bins texts c.new-lines.result c.read_sites.new.lines c.read_totals.new.lines c.in_err-read_end.field-0.0
    c.new-lines.ensures.front c.new-lines.ensures.rest sites totals c.in_err-read_end.ensures)

pub returns : goal.returns
returns c =
    let names = lent_sites c.args.names.now in
    let bins = c.read_sites.new.bins.items in
    let texts = lent c.in_ok-texts.texts.items in
    let sites = subst (λ (olds : List ℕ). SitesAreRead names c.new-lines.result c.read_sites.new.lines olds bins texts) c.new-bins.ensures.items
    c.in_ok-texts.ensures in
    let totals = subst (λ (bs : List ℕ). HasRead c.read_sites.new.lines c.read_totals.new.lines (totals_text bs)) c.as_slice.ensures.value
    c.in_ok-read_totals.ensures in
    log_read names c.args.text.now bins texts c.new-lines.result c.read_sites.new.lines c.read_totals.new.lines c.new-lines.ensures.rest sites totals
    c.in_ok-read_end.ensures
