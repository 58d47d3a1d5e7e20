-- A text has one first fault, or none; and that of blocks is found pass by pass.
use Rattle.std.proofs.Common.{◌≡◌, ◌⊎◌, ℕ, List, Option, Some, None, Result, Ok, Err, sym, ap, ◌∙◌, inl, inr}
use Rattle.std.specs.Prelude.{IfOk, IfErr}
use Rattle.stil_ast.specs.Faults.CodeFaults.{sixth_fault}
use Rattle.stil_ast.specs.Faults.ExecutiveFaults.{fifth_fault}
use Rattle.stil_ast.specs.Faults.Found.{or_else, IsRefusal}
use Rattle.stil_ast.specs.Faults.FrontFaults.{fault_of_front}
use Rattle.stil_ast.specs.Faults.SignalFaults.{fourth_fault}
use Rattle.stil_ast.specs.Meaning.ExecutiveData.{Executive}
use Rattle.stil_ast.specs.Meaning.Signals.{names_of}
use Rattle.stil_ast.specs.declared.blocks.Blocks.{Blocks}
use Rattle.stil_ast.specs.declared.fault.StilFault.{StilFault}
use Rattle.stil_ast.specs.Data.Refusal.{StilRefusal}
use Rattle.answers.specs.declared.short.Short.TheVariants as refusal
use Rattle.signal_groups.specs.Fault.{IsFourth}
use Rattle.packed_code.specs.Program.{Program}
use Rattle.stil_program.proofs.FrontLemmas.{one_front}
use Rattle.time_expr.specs.TimesOf.{times_of}
use Rattle.burst_exec.specs.Executives.{AreAllOf, IsExecFault}
use Rattle.answers.specs.Answers.{Finds}
use Rattle.cycle_comp.specs.Compiled.{IsCodeOf, code_fault}
use Rattle.stil_program.specs.Program.{IsTextFault, IsBlocksCode}
use Rattle.stil_program.specs.Working.{first_fault}
use Rattle.stil_program.proofs.ExecLemmas.{code_fault_is}

pub one_text_fault : (bytes : List ℕ) (fault other : Option StilFault) → IsTextFault bytes fault → IsTextFault bytes other
    → fault ≡ other
one_text_fault bytes fault other p q = p.2 ∙ (ap (fault_of_front times_of) (one_front bytes p.0 q.0 p.1 q.1) ∙ sym q.2)

module _ (blocks : Blocks) where
  -- a fault of signals and groups
  pub by_fourth : (r : StilRefusal) → (r ≡ refusal.NoMemory) ⊎ IsFourth blocks r → IsRefusal (first_fault blocks) r
  unfolding first_fault
  by_fourth r (inl short) = λ f is. cc
  by_fourth r (inr h) = λ f is.
      let same : h.fault ≡ f = let e = h.is in cc in
      ap (λ (o : Option StilFault). or_else o (or_else (fifth_fault times_of blocks) (sixth_fault times_of blocks))) h.first
      ∙ ap Some same

  -- a fault of executives
  pub by_fifth : (r : StilRefusal) → fourth_fault blocks ≡ None → (r ≡ refusal.NoMemory) ⊎ IsExecFault blocks r
      → IsRefusal (first_fault blocks) r
  unfolding first_fault
  by_fifth r none (inl short) = λ f is. cc
  by_fifth r none (inr h) = λ f is.
      let same : h.fault ≡ f = let e = h.is in cc in
      ap (λ (o : Option StilFault). or_else o (or_else (fifth_fault times_of blocks) (sixth_fault times_of blocks))) none
      ∙ (ap (λ (o : Option StilFault). or_else o (sixth_fault times_of blocks)) h.first ∙ ap Some same)

  -- that of what they are compiled to
  sixth_is : (xs : List Executive) → fourth_fault blocks ≡ None → fifth_fault times_of blocks ≡ None → AreAllOf blocks xs
      → first_fault blocks ≡ code_fault (names_of blocks) xs
  unfolding first_fault
  sixth_is xs none also are =
      ap (λ (o : Option StilFault). or_else o (or_else (fifth_fault times_of blocks) (sixth_fault times_of blocks))) none
      ∙ (ap (λ (o : Option StilFault). or_else o (sixth_fault times_of blocks)) also ∙ sym (code_fault_is blocks xs are))

  pub by_sixth : (r : Result Program StilRefusal) (xs : List Executive)
      → fourth_fault blocks ≡ None → fifth_fault times_of blocks ≡ None → AreAllOf blocks xs
      → IfOk r (λ code. (code_fault (names_of blocks) xs ≡ None) × IsCodeOf (names_of blocks) xs code)
      → IfErr r (IsRefusal (code_fault (names_of blocks) xs)) → Finds (first_fault blocks) (IsBlocksCode blocks) r
  by_sixth (Ok code) xs none also are found fault =
      (sixth_is xs none also are ∙ found.0, record { executives = xs; are = are; code_is = found.1 })
  by_sixth (Err r) xs none also are found fault = λ f is. sixth_is xs none also are ∙ fault f is
