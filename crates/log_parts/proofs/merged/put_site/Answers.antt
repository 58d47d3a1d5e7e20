use Rattle.std.proofs.Common.{◌<◌, ◌%◌, ◌/◌, ◌++◌, ℕ, List, [], length, get_or, ap, subst, ◌∙◌, arith, rules}
use Rattle.std.proofs.lemmas.List.{get_or_default}
use Rattle.tester_types.specs.Outside.{Puts}
use Rattle.datalog.specs.DatalogText.{site_line}
use Rattle.log_parts.specs.Slices.{SlicedLog}
use Rattle.log_parts.specs.Merged.{no_log}
use Rattle.log_parts.proofs.merged.put_site.Goals as goal

pub returns : goal.returns
returns g c =
    let logs = c.args.logs.now in
    let part : ℕ = c.args.rank % length logs in
    let within : part < length logs = omega arith in
    let log = c.index-logs-part in
    record {
      puts = subst (λ (t : List ℕ). Puts (g.K.Sink.told c.args.sink.now) (site_line c.args.site ++ t) c.put_text.result (g.K.Sink.told c.put_text.new.sink))
          (c.text-text.ensures ∙ ap (λ (l : SlicedLog). get_or l.texts (c.args.rank / length logs) []) (log.is ∙ get_or_default logs part log.result no_log within))
          c.put_text.ensures.puts;
      count = omega arith;
      cause = search rules;
    }
