use Rattle.std.proofs.Common.{arith, rules}
use Rattle.std.proofs.lemmas.Result.{err_from_is_err_and}
use Rattle.tester_types.proofs.OutsideLemmas.{front_more, puts_last}
use Rattle.page_code.proofs.write_fields.ThenSpelled.put.Goals as goal

pub returns-in_err-put : goal.returns-in_err-put
returns-in_err-put g c =
    let p = err_from_is_err_and c.from_residual.result c.from_residual.ensures.1 in
    record {
      puts = rw p.1
          (front_more (g.K.Sink.told c.args.sink.now) (g.K.Sink.told c.put.new.sink) (g.A.Spelled.spelling c.args.self.now.first)
          (g.B.Spelled.spelling c.args.self.now.second) c.in_err-put.ensures.puts);
      count = omega arith;
      cause = search rules;
    }

pub returns : goal.returns
returns g c = record {
  puts = puts_last (g.K.Sink.told c.args.sink.now) (g.K.Sink.told c.put.new.sink) (g.K.Sink.told c.put-2.new.sink)
      (g.A.Spelled.spelling c.args.self.now.first) (g.B.Spelled.spelling c.args.self.now.second) c.put-2.result
      c.in_ok-put.ensures.puts c.put-2.ensures.puts;
  count = omega arith;
  cause = search rules;
}
