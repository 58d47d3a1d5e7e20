-- The instructions of trees, or how their fault is told.
use Rattle.std.proofs.Common.{◌≡◌, ℕ, suc, List, [], ◌∷◌, ◌++◌, map, length, Some, None, ◌≤◌, refl, sym, ap, subst, ◌∙◌, length-append, arith}
use Rattle.std.proofs.lemmas.List.{length-map}
use Rattle.text_bytes.specs.Limits.{deepest_loops}
use Rattle.tester_types.specs.declared.wave.Table.{Table}
use Rattle.stil_ast.specs.Meaning.State.{Vector, start_of}
use Rattle.stil_ast.specs.Meaning.Running.{Made, Ran}
use Rattle.stil_ast.specs.Meaning.State as state
use Rattle.stil_ast.specs.Meaning.Flat.{Flat}
use Rattle.stil_ast.specs.Meaning.ExecutiveData.{Tree, measure_in, least_in, distinct_rows}
use Rattle.stil_ast.specs.Faults.CodeFaults.{trees_fault}
use Rattle.stil_ast.specs.declared.fault.StilFault.{StilFault}
use Rattle.packed_code.specs.declared.instr.Entry.{Entry}
use Rattle.packed_code.specs.declared.instr.Instr.{Instr}
use Rattle.packed_code.specs.declared.instr.Instr.TheVariants.{Done}
use Rattle.packed_code.proofs.CountLemmas.{cycle_count-length}
use Rattle.cycle_comp.specs.Entries.{AreEntries}
use Rattle.cycle_comp.specs.Depth.{depth_in, NestWithin}
use Rattle.cycle_comp.specs.Written.{flats_of, made_in, HasEachOnce, IsWritten, IsTold, IsFaulty, IsRefusal}
use Rattle.cycle_comp.specs.Writing.{row_in, flats_run, flats_measure, Wrote, AreStopped, WriteError}
use Rattle.cycle_comp.specs.Passes.{entry_in, flats_written, IsExact}
use Rattle.answers.specs.declared.short.Short.TheVariants.{NoMemory, Fault}
use Rattle.cycle_comp.proofs.BodyLemmas.{puts-nothing, puts_means}
use Rattle.cycle_comp.proofs.StandLemmas.{stands-nothing, stands_whole}
use Rattle.cycle_comp.proofs.NumberLemmas.{distinct_rows-once, goes_on-here}
use Rattle.cycle_comp.proofs.LeastLemmas.{trees-least}
use Rattle.cycle_comp.proofs.DepthLemmas.{trees-nest}
use Rattle.cycle_comp.proofs.TreeLemmas.{trees_flats, measure_flats, fine_trees, first_fault}

-- as many entries as vectors
entries-length : (first : ℕ) (rows : List (List ℕ)) (vectors : List Vector) (entries : List Entry)
    → AreEntries first rows vectors entries → length entries ≡ length vectors
entries-length first rows [] [] are = refl
entries-length first rows [] (e ∷ entries) are = absurd are
entries-length first rows (v ∷ vectors) [] are = absurd are
entries-length first rows (v ∷ vectors) (e ∷ entries) are = ap suc (entries-length first rows vectors entries are.1)

-- they are few, and nest no deeper than the trees
record AreLean (signals : ℕ) (trees : List Tree) (code : List Instr) : Type 0 where
  few : length code ≤ least_in trees (start_of signals)
  nest : NestWithin (depth_in trees) 0 (code ++ Done ∷ [])

-- where no row stands twice they are so
code-lean : (first signals : ℕ) (trees : List Tree) (flats : List Flat) (code : List Instr) (made : List Made)
    (before after : List (List ℕ)) → flats_of trees ≡ flats → after ≡ distinct_rows before (map row_in made)
    → IsExact first (λ entry old. flats_written entry flats (start_of signals) old) [] code after
    → HasEachOnce before → AreLean signals trees code
code-lean first signals trees flats code made before after same grows exact once =
    let s = start_of signals in
    let each = subst (λ (rows : List (List ℕ)). HasEachOnce rows) (sym grows)
    (distinct_rows-once before (map row_in made) once) in
    let e = entry_in first after in
    let is = exact after (goes_on-here after each)
    ∙ ap (λ (fs : List Flat). flats_written e fs s []) (sym same) in
    record {
      few = omega (arith, ap length is, trees-least e trees s []);
      nest = subst (λ (instrs : List Instr). NestWithin (depth_in trees) 0 (instrs ++ Done ∷ [])) (sym is) (trees-nest e trees s);
    }

abbrev vectors_in : ℕ → List Tree → List Vector
vectors_in signals trees = map (λ (m : Made). m.vector) (made_in signals trees)

-- what was written, with its Done
written : (tables : List Table) (first signals : ℕ) (trees : List Tree) (code : List Instr) (before after : List (List ℕ))
    → Wrote tables first (made_in signals trees) (measure_in trees) [] code before after
    → (HasEachOnce before → AreLean signals trees code)
    → IsWritten first signals trees (code ++ Done ∷ []) before after
written tables first signals trees code before after w lean =
    let means = puts_means code w.entries (w.puts [] puts-nothing) in
    let long = length-append code (Done ∷ []) in
    let many = cycle_count-length (code ++ Done ∷ []) in
    let same = ap length means in
    let each = entries-length first after (vectors_in signals trees) w.entries w.are in
    let all = length-map (made_in signals trees) (λ (m : Made). m.vector) in
    record {
      entries = subst (λ (es : List Entry). AreEntries first after (vectors_in signals trees) es) (sym means) w.are;
      distinct = w.rows;
      size = omega (arith, w.short, long);
      least = λ once. omega (arith, (lean once).few, long);
      nest = λ once. (lean once).nest;
      whole =
          λ small few. record {
            rest = stands_whole code (w.stands deepest_loops (omega (arith, small)) few (stands-nothing deepest_loops));
            cycles = omega (arith, few, many, same, each, all);
          };
    }

pub wrote_trees : (tables : List Table) (first signals : ℕ) (trees : List Tree) (flats : List Flat) (code : List Instr)
    (before after : List (List ℕ)) → flats_of trees ≡ flats
    → Wrote tables first (flats_run flats (start_of signals)).made (flats_measure flats) [] code before after
    → IsExact first (λ entry old. flats_written entry flats (start_of signals) old) [] code after
    → (trees_fault tables trees (start_of signals) ≡ None) × IsWritten first signals trees (code ++ Done ∷ []) before after
wrote_trees tables first signals trees flats code before after e w exact =
    let s = start_of signals in
    let own = subst (λ (fs : List Flat). Wrote tables first (flats_run fs s).made (flats_measure fs) [] code before after) (sym e) w in
    let run = sym (trees_flats trees s) in (
      fine_trees tables trees s own.fine,
      written tables first signals trees code before after
          (subst (λ (size : ℕ). Wrote tables first (made_in signals trees) size [] code before after) (sym (measure_flats trees))
          (subst (λ (r : Ran state.State). Wrote tables first r.made (flats_measure (flats_of trees)) [] code before after) run own))
          (code-lean first signals trees flats code (flats_run flats s).made before after e w.rows exact),
    )

-- ---- errors

pub stopped_faulty : (tables : List Table) (signals : ℕ) (trees : List Tree) (flats : List Flat) (e : WriteError)
    → flats_of trees ≡ flats → AreStopped tables flats (start_of signals) e → IsFaulty tables signals trees e
stopped_faulty tables signals trees flats NoMemory same stop = tt
stopped_faulty tables signals trees flats (Fault x) same stop =
    first_fault tables signals trees x
    (subst (λ (fs : List Flat). AreStopped tables fs (start_of signals) (Fault x)) (sym same) stop)

pub faulty_refusal : (tables : List Table) (signals : ℕ) (trees : List Tree) (f : StilFault) (e : WriteError)
    → trees_fault tables trees (start_of signals) ≡ Some f → IsFaulty tables signals trees e → IsRefusal trees f e
faulty_refusal tables signals trees f NoMemory first bad = tt
faulty_refusal tables signals trees f (Fault x) first bad =
    let one = bad.first in
    let same : bad.fault ≡ f = cc in
    subst (λ (fault : StilFault). IsTold trees x fault) same bad.told

pub faulty_memory : (tables : List Table) (signals : ℕ) (trees : List Tree) (e : WriteError)
    → trees_fault tables trees (start_of signals) ≡ None → IsFaulty tables signals trees e → e ≡ NoMemory
faulty_memory tables signals trees NoMemory none bad = refl
faulty_memory tables signals trees (Fault x) none bad = let one = bad.first in absurd cc
