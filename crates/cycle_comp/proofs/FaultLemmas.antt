-- Vectors that can run, and the first one that can't.
use Rattle.std.proofs.Common.{◌≡◌, ℕ, zero, suc, List, [], ◌∷◌, ◌++◌, Some, None, refl, sym, ap, ◌∙◌, append_assoc}
use Rattle.text_bytes.proofs.ListLemmas.{all_append}
use Rattle.tester_types.specs.declared.wave.Table.{Table}
use Rattle.stil_ast.specs.Meaning.Running.{Made}
use Rattle.stil_ast.specs.declared.fault.StilKind.{StilKind}
use Rattle.cycle_comp.specs.Writing.{often, fault_kind, AreFine, IsFirst, IsStopped, Trouble}
use Rattle.answers.specs.declared.short.Short.TheVariants.{NoMemory, Fault}

pub fine-append : (tables : List Table) (made more : List Made) → AreFine tables made → AreFine tables more
    → AreFine tables (made ++ more)
fine-append tables made more p q = all_append (λ (m : Made). fault_kind tables m ≡ None) made more p q

pub fine-often : (tables : List Table) (n : ℕ) (made : List Made) → AreFine tables made → AreFine tables (often n made)
unfolding often
fine-often tables zero made p = tt
fine-often tables (suc n) made p = fine-append tables made (often n made) p (fine-often tables n made p)

-- a vector alone that can't run is the first
pub first-alone : (tables : List Table) (m : Made) (kind : StilKind) → fault_kind tables m ≡ Some kind
    → IsFirst tables (m ∷ []) m.place kind
first-alone tables m kind e =
    record { before = []; at = m; after = []; whole = refl; fine = tt; kind_is = e; place_is = refl }

-- behind vectors that can run
pub stopped-behind : (tables : List Table) (before made : List Made) (t : Trouble) → AreFine tables before
    → IsStopped tables made t → IsStopped tables (before ++ made) t
stopped-behind tables before made NoMemory p s = tt
stopped-behind tables before made (Fault at) p s = record {
  before = before ++ s.before;
  at = s.at;
  after = s.after;
  whole = ap (λ (xs : List Made). before ++ xs) s.whole ∙ sym (append_assoc before s.before (s.at ∷ s.after));
  fine = fine-append tables before s.before p s.fine;
  kind_is = s.kind_is;
  place_is = s.place_is;
}

-- before any vectors
pub stopped-before : (tables : List Table) (made after : List Made) (t : Trouble)
    → IsStopped tables made t → IsStopped tables (made ++ after) t
stopped-before tables made after NoMemory s = tt
stopped-before tables made after (Fault at) s = record {
  before = s.before;
  at = s.at;
  after = s.after ++ after;
  whole = ap (λ (xs : List Made). xs ++ after) s.whole ∙ append_assoc s.before (s.at ∷ s.after) after;
  fine = s.fine;
  kind_is = s.kind_is;
  place_is = s.place_is;
}
