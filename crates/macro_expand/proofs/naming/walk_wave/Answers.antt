use Rattle.std.proofs.Common.{ℕ, refl, ap, sym, ◌∙◌, map}
use Rattle.std.proofs.lemmas.List.{length-map}
use Rattle.stil_ast.specs.Data.Texts.{same, has_name}
use Rattle.stil_ast.specs.Faults.AssignmentFaults.{fine, fault_on}
use Rattle.stil_ast.specs.Meaning.Flat.{table}
use Rattle.stil_ast.specs.declared.fault.StilKind.TheVariants.{UnknownName}
use Rattle.tester_types.specs.declared.wave.Table.{Table}
use Rattle.macro_expand.specs.Scopes.{scope_in}
use Rattle.macro_expand.specs.Standings.{standing_in}
use Rattle.macro_expand.specs.Walks.{walked, then_kept}
use Rattle.macro_expand.proofs.FlatLemmas.{puts_table}
use Rattle.macro_expand.proofs.NamingLemmas.{found_nowhere, found_somewhere}
use Rattle.macro_expand.proofs.PlaceLemmas.{ruled_out, not_ruled_out}
use Rattle.macro_expand.proofs.naming.walk_wave.Goals as goal

pub returns-then-number-len : goal.returns-then-number-len
returns-then-number-len c = λ names.
    let sc = scope_in names c.args.scope.now in
    let tables = c.args.scope.now.tables.now in
    let name = λ (t : Table). t.name in
    rw c.trouble.ensures
    (ruled_out (has_name sc.tables c.args.name.now) (fault_on sc (standing_in sc c.args.s.now) c.args.line UnknownName) fine (walked c.args.walk.now)
    (found_nowhere (same c.args.name.now) (map name tables)
    (sym c.table_number-number.ensures ∙ c.if-number-len.true ∙ c.len.ensures ∙ sym (length-map tables name))))

pub returns : goal.returns
returns c = λ names.
    let sc = scope_in names c.args.scope.now in
    let tables = c.args.scope.now.tables.now in
    let name = λ (t : Table). t.name in
    let before = c.args.walk.now.out in record {
      checked =
          not_ruled_out (has_name sc.tables c.args.name.now) (fault_on sc (standing_in sc c.args.s.now) c.args.line UnknownName) fine (walked c.args.walk.now)
          (found_somewhere (same c.args.name.now) (map name tables)
          (λ none. c.if-number-len.false (c.table_number-number.ensures ∙ none ∙ length-map tables name ∙ sym c.len.ensures)));
      out = λ rest.
          puts_table before c.push_table.new.self c.table_number-number.result rest c.in_ok-push_table.ensures.made
          ∙ ap (λ (n : ℕ). then_kept before (table n rest)) c.table_number-number.ensures;
      args = refl;
    }
