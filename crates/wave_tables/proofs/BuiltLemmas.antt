-- What is answered for an executive, by its place.
use Rattle.std.proofs.Common.{◌≡◌, ℕ, ◌<◌, length, get_or, ap, subst, List, Some, sym, ◌∙◌}
use Rattle.std.proofs.lemmas.Option.{slice_get-get_or, same_Some}
use Rattle.std.specs.Prelude.{slice_get, Result}
use Rattle.stil_ast.specs.Faults.ExecutiveFaults.{timed_of}
use Rattle.stil_ast.specs.Faults.TableFaults.{tables_fault}
use Rattle.stil_ast.specs.Meaning.Executive.{table_list}
use Rattle.stil_ast.specs.declared.blocks.Blocks.{Blocks}
use Rattle.stil_ast.specs.declared.executive.ExecDecl.{ExecDecl}
use Rattle.stil_ast.specs.Data.Refusal.{StilRefusal}
use Rattle.answers.specs.Answers.{Finds}
use Rattle.tester_types.specs.declared.wave.Table.{Table}
use Rattle.time_expr.specs.TimesOf.{times_of}

-- the answer for the executive at a place is that for what is found there
pub built_at : (blocks : Blocks) (before : ℕ) (r : Result (List Table) StilRefusal) (exec : ℕ) (d e : ExecDecl)
    (list : List ExecDecl)
    → list ≡ blocks.executives → exec < length list → d ≡ get_or list exec d → slice_get blocks.executives exec ≡ Some e
    → Finds (tables_fault (timed_of times_of blocks d) before) (λ set. set ≡ table_list times_of blocks d) r
    → Finds (tables_fault (timed_of times_of blocks e) before) (λ set. set ≡ table_list times_of blocks e) r
built_at blocks before r exec d e list are within is at built =
    let here : Some d ≡ Some e =
    ap Some is ∙ sym (slice_get-get_or list exec d within) ∙ ap (λ (l : List ExecDecl). slice_get l exec) are ∙ at in
    subst (λ (x : ExecDecl). Finds (tables_fault (timed_of times_of blocks x) before) (λ set. set ≡ table_list times_of blocks x) r)
    (same_Some d e here) built
