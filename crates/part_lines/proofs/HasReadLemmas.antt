-- What was read piece by piece, and the faults of what stands behind it.
use Rattle.std.proofs.Common.{◌≡◌, ℕ, ◌+◌, true, List, [], ◌++◌, refl, sym, ap, subst, ◌∙◌, arith, append_assoc}
use Rattle.std.proofs.lemmas.List.{append-nil}
use Rattle.text_bytes.specs.Texts.{AreLines}
use Rattle.part_lines.specs.Lines.{is_one_line, lines_in}
use Rattle.part_lines.specs.LineFault.{IsLineFault}
use Rattle.part_lines.specs.Reading.{Reading, IsNext, GoesOn, HasRead, FaultFrom}
use Rattle.part_lines.specs.declared.fault.LineFault.{LineFault}
use Rattle.part_lines.specs.declared.fault.LineFault.TheVariants.{NoMemory, Line}
use Rattle.part_lines.proofs.LineLemmas.{lines_in-append, ended_is_more, one_reading}
use Rattle.part_lines.proofs.FaultLemmas.{fault_behind}

-- nothing was read
pub read_none : (at : Reading) → HasRead at at []
read_none at = record { rest = refl; front = sym (append-nil at.front) }

-- one piece behind another
pub read_more : (before between now : Reading) (a b : List ℕ) → HasRead before between a → HasRead between now b →
    HasRead before now (a ++ b)
read_more before between now a b first second = record {
  rest = first.rest ∙ ap (λ t. a ++ t) second.rest ∙ sym (append_assoc a b now.rest);
  front = second.front ∙ ap (λ t. t ++ b) first.front ∙ append_assoc before.front a b;
}

-- the same bytes, by another name
pub read_as : (before now : Reading) (a b : List ℕ) → a ≡ b → HasRead before now a → HasRead before now b
read_as before now a b same read = subst (λ (t : List ℕ). HasRead before now t) same read

-- a fault of what stands behind lines that were read is one of what stood before them
pub fault_from_behind : (Whole Rest : List ℕ → Type 0) (before now : Reading) (text : List ℕ) (e : LineFault) → AreLines text →
    HasRead before now text → GoesOn Whole Rest text → FaultFrom Rest now e → FaultFrom Whole before e
fault_from_behind Whole Rest before now text NoMemory lines read goes fault = tt
fault_from_behind Whole Rest before now text (Line line) lines read goes fault = record {
  number = lines_in text + fault.number;
  is = fault.is ∙ ap (λ t. lines_in t + fault.number) read.front
      ∙ (let sum = lines_in-append before.front text in omega arith);
  fault = subst (λ (t : List ℕ). IsLineFault Whole t (lines_in text + fault.number)) (sym read.rest)
      (fault_behind Whole Rest text now.rest fault.number lines goes fault.fault);
}

-- the fault of what is left stands in the next line
pub fault_here : (Whole : List ℕ → Type 0) (at : Reading) (e : LineFault) → e ≡ Line (lines_in at.front + 1) →
    IsLineFault Whole at.rest 1 → FaultFrom Whole at e
fault_here Whole at e is fault =
    let there : FaultFrom Whole at (Line (lines_in at.front + 1)) = record { number = 1; is = refl; fault = fault } in
    subst (λ (f : LineFault). FaultFrom Whole at f) (sym is) there

-- a text in which no line ends has no next line
pub none_is_next : (text line : List ℕ) → is_one_line text ≡ true → IsNext text line → ⊥
none_is_next text line one next = ended_is_more line next.later (ap is_one_line (sym next.is) ∙ one)

-- the next line is one
pub one_next : (text line other : List ℕ) → IsNext text line → IsNext text other → line ≡ other
one_next text line other first second =
    (one_reading line other first.later second.later first.one second.one (sym first.is ∙ second.is)).0
