use Rattle.std.proofs.lemmas.Result.{err_from_is_err_and}
use Rattle.pat_read.specs.Data.{data_of}
use Rattle.pat_read.proofs.DataLemmas.{data_goes_on, data_stops}
use Rattle.pat_read.proofs.data.take_data.Goals as goal

pub loop-token-preserved : goal.loop-token-preserved
loop-token-preserved c =
    data_goes_on c.loop-token.items c.take_token.new.items c.args.bytes.now c.loop-token.awaited c.in_ok-awaited.awaited c.args.tokens.now
    c.loop-token.token-index _ (data_of c.args.bytes.now c.args.tokens.now) c.loop-token-test.true c.in_ok-awaited.ensures c.loop-token.invariant

pub returns-in_err-awaited : goal.returns-in_err-awaited
returns-in_err-awaited c =
    let p = err_from_is_err_and c.from_residual.result c.from_residual.ensures.1 in
    rw (p.1, p.2)
    (data_stops {Z = Unit {0}} (λ _. c.take_token.new.items) (λ next. (c.take_token.new.items, next)) c.loop-token.items c.args.bytes.now c.loop-token.awaited c.args.tokens.now
    c.loop-token.token-index _ (data_of c.args.bytes.now c.args.tokens.now) c.in_err-awaited.field-0.0 c.loop-token-test.true c.in_err-awaited.ensures c.loop-token.invariant)
