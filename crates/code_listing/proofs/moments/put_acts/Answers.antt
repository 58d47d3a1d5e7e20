use Rattle.std.proofs.Common.{List, ℕ, subst, arith, rules}
use Rattle.std.proofs.lemmas.Result.{err_from_is_err_and}
use Rattle.std.specs.Prelude.{codes}
use Rattle.std.specs.List.{flat_map}
use Rattle.tester_types.specs.declared.wave.Look.{Look}
use Rattle.tester_types.specs.declared.wave.Push.{Push}
use Rattle.tester_types.specs.Outside.{GainsFront}
use Rattle.tester_types.proofs.OutsideLemmas.{first_stops, second_stops, third_ends}
use Rattle.code_listing.specs.Text.{names_of, push_words, look_words}
use Rattle.code_listing.proofs.moments.put_acts.Goals as goal

pub returns-in_err-put_pushes : goal.returns-in_err-put_pushes
returns-in_err-put_pushes g c =
    let p = err_from_is_err_and c.from_residual.result c.from_residual.ensures.1 in
    let names = names_of c.args.code.now in
    let moment = c.args.moment.now in
    record {
      puts = rw p.1
          (first_stops _ _ (flat_map (push_words names) moment.drives) (flat_map (look_words names) moment.looks) (codes "\n")
          (subst (λ (ds : List (ℕ × Push)). GainsFront (g.K.Sink.told c.args.sink.now) (flat_map (push_words names) ds) (g.K.Sink.told c.put_pushes.new.sink))
          c.as_slice.ensures c.in_err-put_pushes.ensures.puts));
      count = omega arith;
      cause = search rules;
    }

pub returns-in_err-put_looks : goal.returns-in_err-put_looks
returns-in_err-put_looks g c =
    let p = err_from_is_err_and c.from_residual-in_err-put_looks.result c.from_residual-in_err-put_looks.ensures.1 in
    let names = names_of c.args.code.now in
    let moment = c.args.moment.now in
    record {
      puts = rw p.1
          (second_stops _ (g.K.Sink.told c.put_pushes.new.sink) _
          (flat_map (push_words names) moment.drives) (flat_map (look_words names) moment.looks) (codes "\n")
          (rw (← c.as_slice.ensures) c.in_ok-put_pushes.ensures.puts)
          (subst (λ (ls : List (ℕ × Look)). GainsFront (g.K.Sink.told c.put_pushes.new.sink) (flat_map (look_words names) ls) (g.K.Sink.told c.put_looks.new.sink))
          c.as_slice-2.ensures c.in_err-put_looks.ensures.puts));
      count = omega arith;
      cause = search rules;
    }

pub returns : goal.returns
returns g c =
    let names = names_of c.args.code.now in
    let moment = c.args.moment.now in
    record {
      puts = third_ends (g.K.Sink.told c.args.sink.now) (g.K.Sink.told c.put_pushes.new.sink) (g.K.Sink.told c.put_looks.new.sink) _
          (flat_map (push_words names) moment.drives) (flat_map (look_words names) moment.looks) (codes "\n") _
          (rw (← c.as_slice.ensures) c.in_ok-put_pushes.ensures.puts) (rw (← c.as_slice-2.ensures) c.in_ok-put_looks.ensures.puts) c.put_all.ensures.puts;
      count = omega arith;
      cause = search rules;
    }
