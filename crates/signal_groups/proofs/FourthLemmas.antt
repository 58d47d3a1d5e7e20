-- The answer on a text, from that on its declarations and that on the texts of its groups.
use Rattle.std.proofs.Common.{◌≡◌, List, [], Option, Some, None, ap, ◌∙◌, inl, inr, ◌⊎◌}
use Rattle.std.specs.Prelude.{Result, Ok, Err, IfErr}
use Rattle.answers.specs.Answers.{Blames, Finds, IsFourOf}
use Rattle.answers.specs.declared.short.Short.TheVariants as refusal
use Rattle.answers.proofs.FourLemmas.{four_of}
use Rattle.stil_ast.specs.Faults.Found.{or_else, first_in}
use Rattle.stil_ast.specs.Faults.SignalFaults.{signals_fault, groups_fault, group_fault, fourth_fault}
use Rattle.stil_ast.specs.Meaning.Signals.{Group, Names, names_of}
use Rattle.stil_ast.specs.declared.blocks.Blocks.{Blocks}
use Rattle.stil_ast.specs.declared.fault.StilFault.{StilFault}
use Rattle.stil_ast.specs.Data.Refusal.{StilRefusal}
use Rattle.stil_ast.proofs.FoundLemmas.{or_else-both}
use Rattle.signal_groups.specs.Table.{Table, table_of}
use Rattle.signal_groups.specs.Fault.{IsFourth}
use Rattle.signal_groups.specs.Settled.{IsBegun, Completes}

module _ (blocks : Blocks) where
  abbrev names : Names
  names = names_of blocks

  -- the first fault of the declarations
  abbrev declared_fault : Option StilFault
  declared_fault = or_else (signals_fault [] names.signals) (groups_fault [] names.groups)

  abbrev texts_fault : Option StilFault
  texts_fault = first_in (group_fault names) names.groups

  -- it comes before that of the texts
  first_then : (o : Option StilFault) → declared_fault ≡ o → fourth_fault blocks ≡ or_else o texts_fault
  first_then o e =
      or_else-both (signals_fault [] names.signals) (groups_fault [] names.groups) texts_fault ∙ ap (λ x. or_else x texts_fault) e

  abbrev Found : Result Table StilRefusal → Type 0
  Found result = Finds (fourth_fault blocks) (λ table. table ≡ table_of names) result

  -- the texts of groups decide where the declarations have no fault
  pub fourth-completed : (groups : List Group) (table : Table) (result : Result Table StilRefusal) → declared_fault ≡ None
      → IsBegun names groups table → ((names : Names) → IsBegun names groups table → Completes names result) → Found result
  fourth-completed groups table (Ok t) none begun h =
      let c = h names begun in (first_then None none ∙ c.0, c.1)
  fourth-completed groups table (Err e) none begun h = λ f is. first_then None none ∙ h names begun f is

  -- the declarations decide where they have a fault
  pub fourth-refused : (e : StilRefusal) → Blames declared_fault e → Blames (fourth_fault blocks) e
  fourth-refused e h = λ f is. first_then (Some f) (h f is)

  -- in four clauses
  pub fourth-four : (result : Result Table StilRefusal) → Found result
      → IsFourOf (fourth_fault blocks) (λ (table : Table). table ≡ table_of names) result
  fourth-four result h = four_of (fourth_fault blocks) (λ (table : Table). table ≡ table_of names) result h

  -- an error is the first fault
  pub fourth-is : (result : Result Table StilRefusal)
      → IfErr result (λ e. (e ≡ refusal.NoMemory) ⊎ ((f : StilFault) × (e ≡ refusal.Fault f) × (fourth_fault blocks ≡ Some f)))
      → IfErr result (λ e. (e ≡ refusal.NoMemory) ⊎ IsFourth blocks e)
  fourth-is (Ok t) h = tt
  fourth-is (Err e) (inl none) = inl none
  fourth-is (Err e) (inr h) = inr (record { fault = h.0; is = h.1; first = h.2 })
