use Rattle.std.proofs.Common.{◌∙◌, List, ℕ, Option, ap, sym, subst, length}
use Rattle.tester_types.specs.Outside.{gained, GainsFront}
use Rattle.tester_types.proofs.OutsideLemmas.{front_behind, gained_both}
use Rattle.std.proofs.lemmas.Result.{err_from_is_err_and}
use Rattle.code_listing.specs.Listing.{listing_of, cycles_in, time_of}
use Rattle.code_listing.specs.Room.{text_of}
use Rattle.code_listing.specs.Text.{execs_text, end_line}
use Rattle.code_listing.proofs.LineLemmas.{lists_more}
use Rattle.code_listing.proofs.ListingLemmas.{length-listing, time-short}
use Rattle.code_listing.proofs.listing.put_listing.Goals as goal

pub put_execs-requires-clause-time : goal.put_execs-requires-clause-time
put_execs-requires-clause-time g c = time-short c.args.code.now c.signals-conditions.ensures.conditions c.requires.few

pub returns-in_err-time-clause-lists : goal.returns-in_err-time-clause-lists
returns-in_err-time-clause-lists g c =
    let code = c.args.code.now in
    let all = listing_of code in
    let p = err_from_is_err_and c.from_residual.result c.from_residual.ensures.1 in
    rw (p.1, p.2)
    (lists_more ℕ (Unit {0}) (g.K.Sink.told c.args.sink.now) _ (execs_text (text_of c.args.form code) all) (end_line (length (cycles_in all)) (time_of (cycles_in all)))
    _ c.in_err-time.ensures.lists)

pub returns-in_err-put_end-clause-lists : goal.returns-in_err-put_end-clause-lists
returns-in_err-put_end-clause-lists g c =
    let code = c.args.code.now in
    let all = listing_of code in
    let p = err_from_is_err_and c.from_residual-in_err-put_end.result c.from_residual-in_err-put_end.ensures.1 in
    let last : GainsFront (g.K.Sink.told c.put_execs.new.sink) (end_line (length (cycles_in all)) (time_of (cycles_in all))) (g.K.Sink.told c.put_end.new.sink) =
    subst (λ (t : ℕ). GainsFront (g.K.Sink.told c.put_execs.new.sink) (end_line (length (cycles_in all)) t) (g.K.Sink.told c.put_end.new.sink)) c.in_ok-time.ensures.time
    (subst (λ (n : ℕ). GainsFront (g.K.Sink.told c.put_execs.new.sink) (end_line n c.in_ok-time.time) (g.K.Sink.told c.put_end.new.sink))
    (c.cycle_total.ensures.exact ∙ sym (length-listing code)) c.in_err-put_end.ensures.puts) in
    rw (p.1, p.2)
    (front_behind (g.K.Sink.told c.args.sink.now) _ (execs_text (text_of c.args.form code) all) (end_line (length (cycles_in all)) (time_of (cycles_in all)))
    (subst (λ (was : Option (List ℕ)). GainsFront was (end_line (length (cycles_in all)) (time_of (cycles_in all))) (g.K.Sink.told c.put_end.new.sink))
    c.in_ok-time.ensures.lists last))

pub returns-clause-lists : goal.returns-clause-lists
returns-clause-lists g c =
    let code = c.args.code.now in
    let all = listing_of code in
    gained_both (g.K.Sink.told c.args.sink.now) (g.K.Sink.told c.put_execs.new.sink) (g.K.Sink.told c.put_end.new.sink)
    (execs_text (text_of c.args.form code) all) (end_line (length (cycles_in all)) (time_of (cycles_in all))) c.in_ok-time.ensures.lists
    (c.in_ok-put_end.ensures.puts
    ∙ ap (λ (n : ℕ). gained (g.K.Sink.told c.put_execs.new.sink) (end_line n c.in_ok-time.time)) (c.cycle_total.ensures.exact ∙ sym (length-listing code))
    ∙ ap (λ (t : ℕ). gained (g.K.Sink.told c.put_execs.new.sink) (end_line (length (cycles_in all)) t)) c.in_ok-time.ensures.time)
