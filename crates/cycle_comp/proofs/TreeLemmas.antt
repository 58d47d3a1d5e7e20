-- Flat trees with the names of their blocks, and their first fault.
use Rattle.std.proofs.Common.{◌≡◌, ℕ, zero, suc, ◌+◌, ◌<◌, Bool, true, false, cond, List, [], ◌∷◌, ◌++◌, length, take, get_or, Option, Some, None, refl, sym, ap, ◌∙◌, arith}
use Rattle.std.specs.Prelude.{slice_get}
use Rattle.std.proofs.lemmas.List.Sums.{sum_by-cons}
use Rattle.tester_types.specs.declared.wave.Table.{Table}
use Rattle.stil_ast.specs.Meaning.State.{State, start_of}
use Rattle.stil_ast.specs.Data.Places.{Titles, Origin}
use Rattle.stil_ast.specs.Meaning.Running.{Made, behind, outside}
use Rattle.stil_ast.specs.Meaning.Flat.{Flat, done, flat_run, measure}
use Rattle.stil_ast.specs.Meaning.ExecutiveData.{Tree, tree_run, trees_run, measure_in}
use Rattle.stil_ast.specs.Faults.Found.{fault_in, unless, or_else, first_in}
use Rattle.stil_ast.specs.Faults.CodeFaults.{have_waves, made_fault, vector_fault, trees_fault}
use Rattle.stil_ast.specs.declared.fault.StilFault.{StilFault}
use Rattle.stil_ast.specs.declared.fault.StilKind.{StilKind}
use Rattle.stil_ast.specs.declared.fault.StilKind.TheVariants.{NoTable, NoWave}
use Rattle.cycle_comp.specs.Written.{flats_of, IsFirstFault}
use Rattle.cycle_comp.specs.Writing.{kind_under, fault_kind, AreFine, IsFirst, flats_run, flats_measure, IsFirstIn}
use Rattle.cycle_comp.specs.declared.fault.VectorFault.{VectorFault}

pub trees_flats : (trees : List Tree) (s : State) → trees_run trees s ≡ flats_run (flats_of trees) s
trees_flats [] s = refl
trees_flats (t ∷ trees) s = let r = tree_run t s in ap (behind r.made) (trees_flats trees r.here)

pub measure_flats : (trees : List Tree) → measure_in trees ≡ flats_measure (flats_of trees)
measure_flats [] = refl
measure_flats (t ∷ trees) =
    sum_by-cons (λ (t : Tree). measure t.flat) t trees
    ∙ (ap (λ (n : ℕ). measure t.flat + n) (measure_flats trees) ∙ sym (sum_by-cons measure t.flat (flats_of trees)))

-- ---- a vector

kind-some : (tables : List Table) (titles : Titles) (m : Made) (table : Option ℕ) (kind : StilKind)
    → kind_under tables m table ≡ Some kind → made_fault tables titles m table ≡ Some (fault_in titles m.place kind)
kind-some tables titles m None kind e = let same : NoTable ≡ kind = cc in ap (λ (k : StilKind). Some (fault_in titles m.place k)) same
kind-some tables titles m (Some table) kind e = some_unless (have_waves (slice_get tables table) 0 m.vector.characters) e
  where
    some_unless : (b : Bool) → cond b None (Some NoWave) ≡ Some kind
        → unless b (fault_in titles m.place NoWave) None ≡ Some (fault_in titles m.place kind)
    some_unless true e = absurd cc
    some_unless false e = let same : NoWave ≡ kind = cc in ap (λ (k : StilKind). Some (fault_in titles m.place k)) same

kind-none : (tables : List Table) (titles : Titles) (m : Made) (table : Option ℕ)
    → kind_under tables m table ≡ None → made_fault tables titles m table ≡ None
kind-none tables titles m None e = absurd cc
kind-none tables titles m (Some table) e = none_unless (have_waves (slice_get tables table) 0 m.vector.characters) e
  where
    none_unless : (b : Bool) → cond b None (Some NoWave) ≡ None → unless b (fault_in titles m.place NoWave) None ≡ None
    none_unless true e = refl
    none_unless false e = absurd cc

-- ---- vectors one after another

fine_none : (tables : List Table) (titles : Titles) (made : List Made) → AreFine tables made
    → first_in (vector_fault tables titles) made ≡ None
fine_none tables titles [] fine = refl
fine_none tables titles (m ∷ made) fine =
    ap (λ (o : Option StilFault). or_else o (first_in (vector_fault tables titles) made)) (kind-none tables titles m m.vector.table fine.0)
    ∙ fine_none tables titles made fine.1

fine_first : (tables : List Table) (titles : Titles) (before : List Made) (m : Made) (after : List Made) (kind : StilKind)
    → AreFine tables before → fault_kind tables m ≡ Some kind
    → first_in (vector_fault tables titles) (before ++ m ∷ after) ≡ Some (fault_in titles m.place kind)
fine_first tables titles [] m after kind fine e =
    ap (λ (o : Option StilFault). or_else o (first_in (vector_fault tables titles) after)) (kind-some tables titles m m.vector.table kind e)
fine_first tables titles (n ∷ before) m after kind fine e =
    ap (λ (o : Option StilFault). or_else o (first_in (vector_fault tables titles) (before ++ m ∷ after))) (kind-none tables titles n n.vector.table fine.0)
    ∙ fine_first tables titles before m after kind fine.1 e

first_some : (tables : List Table) (titles : Titles) (made : List Made) (place : Origin) (kind : StilKind)
    → IsFirst tables made place kind → first_in (vector_fault tables titles) made ≡ Some (fault_in titles place kind)
first_some tables titles made place kind f =
    ap (first_in (vector_fault tables titles)) f.whole
    ∙ (fine_first tables titles f.before f.at f.after kind f.fine f.kind_is
    ∙ ap (λ (p : Origin). Some (fault_in titles p kind)) f.place_is)

-- ---- trees one after another

fine_parts : (tables : List Table) (made more : List Made) → AreFine tables (made ++ more)
    → AreFine tables made × AreFine tables more
fine_parts tables [] more fine = (tt, fine)
fine_parts tables (m ∷ made) more fine =
    let rest = fine_parts tables made more fine.1 in ((fine.0, rest.0), rest.1)

pub fine_trees : (tables : List Table) (trees : List Tree) (s : State)
    → AreFine tables (flats_run (flats_of trees) s).made → trees_fault tables trees s ≡ None
fine_trees tables [] s fine = refl
fine_trees tables (t ∷ trees) s fine =
    let r = tree_run t s in
    let parts = fine_parts tables r.made (flats_run (flats_of trees) r.here).made fine in
    ap (λ (o : Option StilFault). or_else o (trees_fault tables trees r.here)) (fine_none tables t.titles r.made parts.0)
    ∙ fine_trees tables trees r.here parts.1

-- the first vector that can't run, of the tree of a number
abbrev FirstAt : List Table → ℕ → List Flat → State → Origin → StilKind → Type 0
FirstAt tables number flats s place kind =
    let before = flats_run (take number flats) s in
    IsFirst tables (flat_run (get_or flats number done) (outside before.here).held before.here).made place kind

first_at : (tables : List Table) (number : ℕ) (trees : List Tree) (s : State) (place : Origin) (kind : StilKind)
    → number < length (flats_of trees) → AreFine tables (flats_run (take number (flats_of trees)) s).made
    → FirstAt tables number (flats_of trees) s place kind
    → (t : Tree) × (slice_get trees number ≡ Some t) × (trees_fault tables trees s ≡ Some (fault_in t.titles place kind))
first_at tables number [] s place kind there fine f = absurd (omega arith)
first_at tables zero (t ∷ trees) s place kind there fine f =
    let r = tree_run t s in (
      t,
      refl,
      ap (λ (o : Option StilFault). or_else o (trees_fault tables trees r.here)) (first_some tables t.titles r.made place kind f),
    )
first_at tables (suc number) (t ∷ trees) s place kind there fine f =
    let r = tree_run t s in
    let parts = fine_parts tables r.made (flats_run (take number (flats_of trees)) r.here).made fine in
    let rest = first_at tables number trees r.here place kind (omega arith) parts.1 f in (
      rest.0,
      rest.1,
      ap (λ (o : Option StilFault). or_else o (trees_fault tables trees r.here)) (fine_none tables t.titles r.made parts.0)
          ∙ rest.2,
    )

pub first_fault : (tables : List Table) (signals : ℕ) (trees : List Tree) (x : VectorFault)
    → IsFirstIn tables (flats_of trees) (start_of signals) x → IsFirstFault tables signals trees x
first_fault tables signals trees x f =
    let found = first_at tables x.tree trees (start_of signals) x.place x.kind f.there f.fine f.first in
    record {
      fault = fault_in found.0.titles x.place x.kind;
      first = found.2;
      told = record { tree = found.0; at = found.1; told = refl };
    }
