-- What the names in a pattern are looked up in is what the language says.
use Rattle.std.proofs.Common.{◌≡◌, ℕ, ◌+◌, List, [], ◌∷◌, refl, ap, ◌∙◌, subst, map, inl, inr, ◌⊎◌, Some}
use Rattle.std.specs.Prelude.{Result, Ok, Err, IfOk, IfErr}
use Rattle.std.specs.List.{enumerate_from}
use Rattle.signal_groups.specs.Table.{table_of}
use Rattle.stil_ast.specs.Data.Places.{of_pattern, Titles}
use Rattle.stil_ast.specs.Faults.AssignmentFaults.{fine, refused}
use Rattle.stil_ast.specs.Faults.ExecutiveFaults.{checked_fault}
use Rattle.stil_ast.specs.Faults.PatternFaults.{check_pattern}
use Rattle.stil_ast.specs.Meaning.Bursts.{Played}
use Rattle.stil_ast.specs.Meaning.Chains.{scan_outs}
use Rattle.stil_ast.specs.Meaning.Executive.{exec_tables, exec_value, timing_place, chain_list, scope_of, titles_of}
use Rattle.stil_ast.specs.Meaning.ExecutiveData.{IsSameFlat}
use Rattle.stil_ast.specs.Meaning.Flat.{Flat}
use Rattle.stil_ast.specs.Meaning.Flattening.{flat_of}
use Rattle.stil_ast.specs.Meaning.Resolved.{Scope, bodies_named, resolved, setting_of, outs_of}
use Rattle.stil_ast.specs.Meaning.Signals.{names_of}
use Rattle.stil_ast.specs.Meaning.Tables.{made_table}
use Rattle.stil_ast.specs.declared.blocks.Blocks.{Blocks}
use Rattle.stil_ast.specs.declared.blocks.BodyDef.{BodyDef}
use Rattle.stil_ast.specs.declared.executive.ExecDecl.{ExecDecl}
use Rattle.stil_ast.specs.Data.Refusal.{StilRefusal}
use Rattle.answers.specs.declared.short.Short.TheVariants as refusal
use Rattle.stil_ast.specs.declared.timing.TableDecl.{TableDecl}
use Rattle.tester_types.specs.declared.wave.Table.{Table}
use Rattle.time_expr.specs.TimesOf.{times_of}
use Rattle.macro_expand.specs.Expanding.{Expands, IsPatternFault}
use Rattle.macro_expand.specs.Scopes.{titles_in}
use Rattle.macro_expand.specs.declared.scope.PatternScope.{PatternScope}
use Rattle.answers.specs.Answers.{Finds}
use Rattle.burst_exec.specs.Patterns.{IsScope, pattern_fault, IsExpanded}
use Rattle.burst_exec.specs.Staged.{tables_of}

-- tables keep their names
names_made : (blocks : Blocks) (e : ExecDecl) (k : ℕ) (tables : List TableDecl)
    → map (λ (t : Table). t.name)
    (map (made_table times_of (exec_value times_of blocks e) (names_of blocks) (timing_place e) (exec_tables blocks e)) (enumerate_from k tables))
    ≡ map (λ (t : TableDecl). t.name) tables
names_made blocks e k [] = refl
names_made blocks e k (d ∷ tables) = ap (λ (names : List (List ℕ)). d.name ∷ names) (names_made blocks e (k + 1) tables)

tables_named : (blocks : Blocks) (e : ExecDecl)
    → map (λ (t : Table). t.name) (tables_of blocks e) ≡ map (λ (t : TableDecl). t.name) (exec_tables blocks e)
unfolding tables_of
tables_named blocks e = names_made blocks e 0 (exec_tables blocks e)

module _ (blocks : Blocks) (e : ExecDecl) (p : Played) where
  same_scope : (tables more : List (List ℕ)) (macros other : List BodyDef) (procedures others : List BodyDef) (titles called : Titles)
      → tables ≡ more → macros ≡ other → procedures ≡ others → titles ≡ called
      → ◌≡◌ {A = Scope} (record { names = names_of blocks; tables = tables; macros = macros; procedures = procedures; titles = titles })
      (record { names = names_of blocks; tables = more; macros = other; procedures = others; titles = called })
  same_scope tables more macros other procedures others titles called a b c d = rw a (rw b (rw c (rw d refl)))

  pub is_scope : (scope : PatternScope) → scope.signals.now ≡ table_of (names_of blocks)
      → scope.outs.now ≡ outs_of (names_of blocks) → scope.tables.now ≡ tables_of blocks e
      → scope.scan_outs.now ≡ scan_outs (names_of blocks) (chain_list blocks e)
      → scope.macros.now ≡ bodies_named blocks.macros p.macros
      → scope.procedures.now ≡ bodies_named blocks.procedures p.procedures
      → titles_in scope.titles ≡ titles_of p → IsScope blocks e p scope
  is_scope scope signals outs tables ends macros procedures titles = record {
    named = record { signals = signals; outs = outs };
    is =
        same_scope (map (λ (t : Table). t.name) scope.tables.now) (map (λ (t : TableDecl). t.name) (exec_tables blocks e))
        scope.macros.now (bodies_named blocks.macros p.macros) scope.procedures.now (bodies_named blocks.procedures p.procedures)
        (titles_in scope.titles) (titles_of p)
        (ap (map (λ (t : Table). t.name)) tables ∙ tables_named blocks e) macros procedures titles;
    ends_are = ends;
  }

  -- the tree of a pattern in a scope
  abbrev tree_under : Scope → List ℕ → Flat
  tree_under scope ends = flat_of (setting_of scope ends) (resolved scope of_pattern p.pattern.body)

  expanded : (scope : PatternScope) (before after : ℕ) (flat : Flat) → IsScope blocks e p scope
      → Expands (names_of blocks) scope p.pattern.body before flat after → IsExpanded blocks e p before flat after
  expanded scope before after flat is h = record {
    left = h.left;
    checked = subst (λ (s : Scope). check_pattern s p.pattern.body before ≡ fine h.left) is.is h.checked;
    counted = h.counted;
    same =
        subst (λ (ends : List ℕ). IsSameFlat flat (tree_under (scope_of blocks e p) ends)) is.ends_are
        (subst (λ (s : Scope). IsSameFlat flat (tree_under s scope.scan_outs.now)) is.is h.tree.same);
  }

  pub expanded_found : (scope : PatternScope) (before after : ℕ) (r : Result Flat StilRefusal) → IsScope blocks e p scope
      → IfOk r (λ flat. Expands (names_of blocks) scope p.pattern.body before flat after)
      → IfErr r (λ r. (r ≡ refusal.NoMemory) ⊎ IsPatternFault (names_of blocks) scope p.pattern.body before r)
      → Finds (pattern_fault blocks e p before) (λ flat. IsExpanded blocks e p before flat after) r
  unfolding pattern_fault
  expanded_found scope before after (Ok flat) is found fault =
      let h = expanded scope before after flat is found in
      (ap checked_fault h.checked, h)
  expanded_found scope before after (Err r) is found (inl m) = λ f same. cc
  expanded_found scope before after (Err r) is found (inr h) =
      let first = subst (λ (s : Scope). check_pattern s p.pattern.body before ≡ refused h.fault) is.is h.first in
      λ f same. let is = h.is in let fault : h.fault ≡ f = cc in ap checked_fault first ∙ ap (λ x. Some x) fault
