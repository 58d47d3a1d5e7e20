use Rattle.std.proofs.Common.{ℕ, ◌∙◌, ap, subst}
use Rattle.stil_ast.specs.Faults.ExecutiveFaults.{timed_of}
use Rattle.stil_ast.specs.Faults.TableFaults.{tables_fault}
use Rattle.stil_ast.specs.Meaning.Tables.{tables_named}
use Rattle.time_expr.specs.TimesOf.{times_of}
use Rattle.wave_tables.specs.Check.{IsAt}
use Rattle.wave_tables.proofs.building.built_for.Goals as goal

pub invariant_of-scope : goal.invariant_of-scope
invariant_of-scope c = record {
  in_order = c.in_ok-tables.ensures ∙ ap (λ l. tables_named l c.timing_name.result.now) c.as_slice.ensures
      ∙ ap (tables_named c.args.blocks.now.timings) c.timing_name.ensures;
  all_signals = c.requires.signals;
  with_characters = c.requires.with_characters;
  all_vars = c.requires.vars;
}

pub returns : goal.returns
returns c =
    let t = timed_of times_of c.args.blocks.now c.args.exec.now in
    c.refusal_of.ensures (tables_fault t c.args.before)
    (subst (λ (n : ℕ). IsAt t.place (tables_fault t n) c.in-Err.trouble) c.from.ensures c.in-Err.ensures)
