-- What is answered of a text, from what its passes answer.
use Rattle.std.proofs.Common.{◌≡◌, ◌⊎◌, ℕ, List, map, Some, None, Result, Ok, Err, MatchResult, refl, sym, ap, subst, ◌∙◌, inl, inr}
use Rattle.std.specs.Prelude.{IfOk, IfErr}
use Rattle.stil_ast.specs.Faults.FrontFaults.{refused_by, read_as}
use Rattle.stil_ast.specs.declared.blocks.Blocks.{Blocks}
use Rattle.stil_ast.specs.declared.executive.ExecDecl.{ExecDecl}
use Rattle.stil_ast.specs.declared.fault.StilFault.{StilFault}
use Rattle.stil_ast.specs.Data.Refusal.{StilRefusal}
use Rattle.answers.specs.declared.short.Short.TheVariants as refusal
use Rattle.stil_ast.proofs.FoundLemmas.{not_both, one_fault}
use Rattle.packed_code.specs.Program.{Program}
use Rattle.stil_program.specs.Front.{IsFront, IsRefusedFor}
use Rattle.answers.specs.Answers.{Finds}
use Rattle.stil_program.specs.Program.{IsTextFault, IsTextOf, IsBlocksCode, IsProgramOf, IsCompiledText, IsRefusal}
use Rattle.stil_program.specs.Working.{first_fault, IsCompiledOf, Answers}
use Rattle.stil_program.specs.declared.text.CompiledText.{CompiledText}
use Rattle.stil_program.proofs.FaultLemmas.{one_text_fault}

module _ {A : Type 0} (bytes : List ℕ) (Wanted : A → Type 0) where
  -- a text whose reading refuses it
  pub by_front : (r : StilRefusal) → (r ≡ refusal.NoMemory) ⊎ IsRefusedFor bytes r → Answers bytes Wanted (Err r)
  by_front refusal.NoMemory h = tt
  by_front (refusal.Fault f) (inl none) = cc
  by_front (refusal.Fault f) (inr h) = (refused_by f, h, refl)

-- the code of blocks without a fault, with lines
pub with_lines : (blocks : Blocks) (r : Result CompiledText StilRefusal) (code : Program) (execs : List ExecDecl)
    → first_fault blocks ≡ None → IsBlocksCode blocks code → execs ≡ blocks.executives
    → MatchResult r (λ c. (c.code ≡ code) × (c.lines.items ≡ map (λ (e : ExecDecl). e.line) execs))
    (λ e. e ≡ refusal.NoMemory) → Finds (first_fault blocks) (IsCompiledOf blocks) r
with_lines blocks (Ok c) code execs none is same found = (
  none,
  record {
    compiled = subst (λ (p : Program). IsBlocksCode blocks p) (sym found.0) is;
    lines_are = found.1 ∙ ap (λ (es : List ExecDecl). map (λ (e : ExecDecl). e.line) es) same;
  },
)
with_lines blocks (Err r) code execs none is same short = λ f at. let memory : r ≡ refusal.NoMemory = short in cc

-- what is answered of a text's blocks is answered of the text
pub by_blocks : (bytes : List ℕ) (blocks : Blocks) (r : Result CompiledText StilRefusal) → IsFront bytes (read_as blocks)
    → Finds (first_fault blocks) (IsCompiledOf blocks) r
    → Answers bytes (λ (c : CompiledText). IsCompiledText bytes c.code c.lines.items) r
unfolding first_fault
by_blocks bytes blocks (Ok c) read h = record {
  blocks = blocks;
  text = record { read = read; fine = h.0 };
  compiled = h.1.compiled;
  lines_are = h.1.lines_are;
}
by_blocks bytes blocks (Err refusal.NoMemory) read h = tt
by_blocks bytes blocks (Err (refusal.Fault f)) read h = (read_as blocks, read, sym (h f refl))

-- such a text has none
pub no_fault : (bytes : List ℕ) (blocks : Blocks) → IsTextOf bytes blocks → IsTextFault bytes None
no_fault bytes blocks is = (read_as blocks, is.read, sym is.fine)

pub not_compiled : (bytes : List ℕ) (code : Program) (lines : List ℕ) (fault : StilFault) → IsCompiledText bytes code lines
    → IsTextFault bytes (Some fault) → ⊥
not_compiled bytes code lines fault is first =
    not_both (Some fault) fault (one_text_fault bytes (Some fault) None first (no_fault bytes is.blocks is.text)) refl

-- the code alone
pub program_is : (bytes : List ℕ) (code : Program) (lines : List ℕ) → IsCompiledText bytes code lines → IsProgramOf bytes code
program_is bytes code lines is = record { blocks = is.blocks; text = is.text; compiled = is.compiled }

-- ---- the four clauses, from one fact

module _ {A : Type 0} (bytes : List ℕ) (Wanted : A → Type 0) where
  pub is_found : (r : Result A StilRefusal) → Answers bytes Wanted r → IfOk r Wanted
  is_found (Ok x) h = h
  is_found (Err r) h = tt

  pub only_short : (r : Result A StilRefusal) → Answers bytes Wanted r → IsTextFault bytes None
      → IfErr r (λ e. e ≡ refusal.NoMemory)
  only_short (Ok x) h none = tt
  only_short (Err refusal.NoMemory) h none = refl
  only_short (Err (refusal.Fault f)) h none = absurd (not_both (Some f) f (one_text_fault bytes (Some f) None h none) refl)

  pub is_fault : (r : Result A StilRefusal) → Answers bytes Wanted r
      → IfErr r (λ e. (e ≡ refusal.NoMemory) ⊎ IsRefusal bytes e)
  is_fault (Ok x) h = tt
  is_fault (Err refusal.NoMemory) h = inl refl
  is_fault (Err (refusal.Fault f)) h = inr (record { fault = f; is = refl; first = h })

  pub is_refused : ((x : A) (f : StilFault) → Wanted x → IsTextFault bytes (Some f) → ⊥) → (r : Result A StilRefusal)
      → Answers bytes Wanted r → (f : StilFault) → IsTextFault bytes (Some f)
      → MatchResult r (λ _. ⊥) (λ e. (e ≡ refusal.NoMemory) ⊎ (e ≡ refusal.Fault f))
  is_refused never (Ok x) h f first = never x f h first
  is_refused never (Err refusal.NoMemory) h f first = inl refl
  is_refused never (Err (refusal.Fault g)) h f first =
      inr (ap (λ x. refusal.Fault x) (one_fault g f (one_text_fault bytes (Some g) (Some f) h first)))
