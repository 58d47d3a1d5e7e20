use Rattle.std.proofs.Common.{List, ℕ, subst, arith, rules}
use Rattle.std.proofs.lemmas.Result.{err_from_is_err_and}
use Rattle.std.specs.List.{flat_map}
use Rattle.tester_types.specs.Outside.{GainsFront, Puts}
use Rattle.tester_types.proofs.OutsideLemmas.{front_more, puts_last}
use Rattle.datalog.specs.DatalogText.{site_line, record_text}
use Rattle.datalog.proofs.LotLemmas.{site-some}
use Rattle.datalog.proofs.lot.put_site.Goals as goal

pub returns-in_err-put_numbered : goal.returns-in_err-put_numbered
returns-in_err-put_numbered g c =
    let p = err_from_is_err_and c.from_residual.result c.from_residual.ensures.1 in
    let told = g.K.Sink.told c.args.sink.now in
    let now = g.K.Sink.told c.put_numbered.new.sink in
    record {
      puts = rw p.1
          (subst (λ (all : List ℕ). GainsFront told all now)
          (site-some c.args.code.now c.args.plan.now c.args.number c.args.entries.now c.is_empty.result c.is_empty.ensures c.if-is_empty.false)
          (front_more told now (site_line c.args.number) (flat_map (record_text c.args.code.now c.args.plan.now) c.args.entries.now)
          c.in_err-put_numbered.ensures.puts));
      count = omega arith;
      cause = search rules;
    }

pub returns : goal.returns
returns g c =
    let told = g.K.Sink.told c.args.sink.now in
    let now = g.K.Sink.told c.put_records.new.sink in
    record {
      puts = subst (λ (all : List ℕ). Puts told all c.put_records.result now)
          (site-some c.args.code.now c.args.plan.now c.args.number c.args.entries.now c.is_empty.result c.is_empty.ensures c.if-is_empty.false)
          (puts_last told (g.K.Sink.told c.put_numbered.new.sink) now (site_line c.args.number)
          (flat_map (record_text c.args.code.now c.args.plan.now) c.args.entries.now) c.put_records.result
          c.in_ok-put_numbered.ensures.puts c.put_records.ensures.puts);
      count = omega arith;
      cause = search rules;
    }
