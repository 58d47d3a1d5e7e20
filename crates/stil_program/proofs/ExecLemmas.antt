-- Executives that are all those of a text: as many as it has, and the same ones as they are compiled.
use Rattle.std.proofs.Common.{◌≡◌, ℕ, suc, ◌+◌, ◌*◌, List, [], ◌∷◌, ◌++◌, Option, None, length, map, refl, sym, ap, ◌∙◌}
use Rattle.std.specs.Prelude.{sum_by, nat_le}
use Rattle.std.specs.List.{flat_map}
use Rattle.std.proofs.lemmas.List.{map-append}
use Rattle.std.proofs.lemmas.List.Sums.{sum_by-cons}
use Rattle.text_bytes.specs.Limits.{most_measure, most_cycles, most_row_characters}
use Rattle.tester_types.specs.declared.wave.Table.{Table}
use Rattle.stil_ast.specs.Data.Places.{Place}
use Rattle.stil_ast.specs.Faults.BurstFaults.{exec_place}
use Rattle.stil_ast.specs.Faults.CodeFaults.{trees_fault, compile_fault, compile_faults, sixth_fault}
use Rattle.stil_ast.specs.Faults.Found.{fault_at, unless, or_else}
use Rattle.stil_ast.specs.Meaning.Executive.{parts, tree_of, table_list, executive_of}
use Rattle.stil_ast.specs.Meaning.ExecutiveData.{Executive, vectors_of, measure_of, row_of, rows_of, distinct_rows, tables_of}
use Rattle.stil_ast.specs.Meaning.Running.{Ran, Made}
use Rattle.stil_ast.specs.Meaning.Signals.{names_of}
use Rattle.stil_ast.specs.Meaning.State.{State, Vector, start_of}
use Rattle.stil_ast.specs.declared.blocks.Blocks.{Blocks}
use Rattle.stil_ast.specs.declared.executive.ExecDecl.{ExecDecl}
use Rattle.stil_ast.specs.declared.fault.StilFault.{StilFault}
use Rattle.stil_ast.specs.declared.fault.StilKind.TheVariants.{TooLarge, TooManyCycles}
use Rattle.stil_ast.proofs.TreeLemmas.{same_trees_serve}
use Rattle.time_expr.specs.TimesOf.{times_of}
use Rattle.burst_exec.specs.Executives.{IsExecutive, AreExecutives, AreAllOf}
use Rattle.cycle_comp.specs.Compiled.{least_of, code_fault}

-- the fault of an executive by what its compiling looks at
abbrev judged : ℕ → Place → ℕ → Option StilFault → ℕ → Option StilFault
judged measure place cycles trees characters =
    unless (nat_le measure most_measure) (fault_at place TooLarge)
    (unless (nat_le cycles most_cycles) (fault_at place TooManyCycles)
    (or_else trees (unless (nat_le characters most_row_characters) (fault_at place TooLarge) None)))

-- the rows of the vectors of executives, one after another
abbrev rows_in : ℕ → List Executive → List (List ℕ)
rows_in n xs = flat_map (λ (x : Executive). map row_of (vectors_of n x)) xs

-- what a text has for an executive
abbrev own : Blocks → ExecDecl → Executive
own blocks d = executive_of times_of blocks d

module _ (blocks : Blocks) where
  -- ---- the text's executives one by one

  -- there are as many
  pub as_many : (ds : List ExecDecl) (xs : List Executive) → AreExecutives blocks ds xs → length xs ≡ length ds
  as_many [] [] are = refl
  as_many [] (x ∷ xs) are = absurd are
  as_many (d ∷ ds) [] are = absurd are
  as_many (d ∷ ds) (x ∷ xs) are = ap suc (as_many ds xs are.1)

  -- their tables are the text's
  pub tables_are : (ds : List ExecDecl) (xs : List Executive) → AreExecutives blocks ds xs
      → tables_of xs ≡ flat_map (table_list times_of blocks) ds
  tables_are [] [] are = refl
  tables_are [] (x ∷ xs) are = absurd are
  tables_are (d ∷ ds) [] are = absurd are
  tables_are (d ∷ ds) (x ∷ xs) are =
      ap (λ (ts : List Table). ts ++ tables_of xs) are.0.tables_are
      ∙ ap (λ (ts : List Table). table_list times_of blocks d ++ ts) (tables_are ds xs are.1)

  -- executives of which one stands behind some and in front of others
  pub record HasCut (before : List ExecDecl) (d : ExecDecl) (xs : List Executive) : Type 0 where
    pub front : List Executive
    pub back : List Executive
    pub here : Executive
    pub cut : xs ≡ front ++ here ∷ back
    pub are : AreExecutives blocks before front
    pub is : IsExecutive blocks d here

  pub cut_of : (before after : List ExecDecl) (d : ExecDecl) (xs : List Executive)
      → AreExecutives blocks (before ++ d ∷ after) xs → HasCut before d xs
  cut_of [] after d [] are = absurd are
  cut_of [] after d (x ∷ xs) are = record { front = []; back = xs; here = x; cut = refl; are = tt; is = are.0 }
  cut_of (b ∷ before) after d [] are = absurd are
  cut_of (b ∷ before) after d (x ∷ xs) are =
      let rest = cut_of before after d xs are.1 in
      record {
        front = x ∷ rest.front;
        back = rest.back;
        here = rest.here;
        cut = ap (λ (l : List Executive). x ∷ l) rest.cut;
        are = (are.0, rest.are);
        is = rest.is;
      }

  -- one more
  push : (ds : List ExecDecl) (xs : List Executive) (d : ExecDecl) (x : Executive) → AreExecutives blocks ds xs
      → IsExecutive blocks d x → AreExecutives blocks (ds ++ d ∷ []) (xs ++ x ∷ [])
  push [] [] d x are is = (is, tt)
  push [] (y ∷ xs) d x are is = absurd are
  push (e ∷ ds) [] d x are is = absurd are
  push (e ∷ ds) (y ∷ xs) d x are is = (are.0, push ds xs d x are.1 is)

  -- ---- as they are compiled

  module _ (d : ExecDecl) (x : Executive) (is : IsExecutive blocks d x) where
    vectors_same : (n : ℕ) → vectors_of n x ≡ vectors_of n (own blocks d)
    vectors_same n =
        ap (λ (r : Ran State). map (λ (m : Made). m.vector) r.made)
        (same_trees_serve x.tables x.trees (map tree_of (parts blocks d)) (start_of n) is.trees_are).0

    pub measure_same : measure_of x ≡ measure_of (own blocks d)
    measure_same = (same_trees_serve x.tables x.trees (map tree_of (parts blocks d)) (start_of 0) is.trees_are).2

    pub least_same : (n : ℕ) → least_of n x ≡ least_of n (own blocks d)
    least_same n = (same_trees_serve x.tables x.trees (map tree_of (parts blocks d)) (start_of n) is.trees_are).3

    fault_same : (n : ℕ) → trees_fault x.tables x.trees (start_of n) ≡ trees_fault (own blocks d).tables (own blocks d).trees (start_of n)
    fault_same n =
        (same_trees_serve x.tables x.trees (map tree_of (parts blocks d)) (start_of n) is.trees_are).1
        ∙ ap (λ (ts : List Table). trees_fault ts (map tree_of (parts blocks d)) (start_of n)) is.tables_are

    place_same : exec_place x.name x.line ≡ exec_place d.name d.line
    place_same = ap (λ (n : List ℕ). exec_place n x.line) is.name_is ∙ ap (exec_place d.name) is.line_is

  measures_same : (ds : List ExecDecl) (xs : List Executive) → AreExecutives blocks ds xs
      → sum_by measure_of xs ≡ sum_by measure_of (map (own blocks) ds)
  measures_same [] [] are = refl
  measures_same [] (x ∷ xs) are = absurd are
  measures_same (d ∷ ds) [] are = absurd are
  measures_same (d ∷ ds) (x ∷ xs) are =
      sum_by-cons measure_of x xs
      ∙ (ap (λ (n : ℕ). n + sum_by measure_of xs) (measure_same d x are.0)
      ∙ (ap (λ (n : ℕ). measure_of (own blocks d) + n) (measures_same ds xs are.1)
      ∙ sym (sum_by-cons measure_of (own blocks d) (map (own blocks) ds))))

  rows_same : (n : ℕ) (ds : List ExecDecl) (xs : List Executive) → AreExecutives blocks ds xs
      → rows_in n xs ≡ rows_in n (map (own blocks) ds)
  rows_same n [] [] are = refl
  rows_same n [] (x ∷ xs) are = absurd are
  rows_same n (d ∷ ds) [] are = absurd are
  rows_same n (d ∷ ds) (x ∷ xs) are =
      ap (λ (vs : List Vector). map row_of vs ++ rows_in n xs) (vectors_same d x are.0 n)
      ∙ ap (λ (rs : List (List ℕ)). map row_of (vectors_of n (own blocks d)) ++ rs) (rows_same n ds xs are.1)

  -- one behind others
  one_same : (n : ℕ) (ds : List ExecDecl) (xs : List Executive) (d : ExecDecl) (x : Executive) → AreExecutives blocks ds xs
      → IsExecutive blocks d x → compile_fault n xs x ≡ compile_fault n (map (own blocks) ds) (own blocks d)
  one_same n ds xs d x are is =
      let next = push ds xs d x are is in
      let pushed : map (own blocks) (ds ++ d ∷ []) ≡ map (own blocks) ds ++ own blocks d ∷ [] = map-append (own blocks) ds (d ∷ []) in
      let measure : sum_by measure_of (xs ++ x ∷ []) ≡ sum_by measure_of (map (own blocks) ds ++ own blocks d ∷ []) =
      measures_same (ds ++ d ∷ []) (xs ++ x ∷ []) next ∙ ap (sum_by measure_of) pushed in
      let rows : rows_of n (xs ++ x ∷ []) ≡ rows_of n (map (own blocks) ds ++ own blocks d ∷ []) =
      ap (distinct_rows []) (rows_same n (ds ++ d ∷ []) (xs ++ x ∷ []) next)
      ∙ ap (λ (l : List Executive). distinct_rows [] (rows_in n l)) pushed in
      let place = exec_place d.name d.line in
      let cycles = length (vectors_of n x) in
      let fault = trees_fault x.tables x.trees (start_of n) in
      let characters = length (rows_of n (xs ++ x ∷ [])) * n in
      ap (λ (k : ℕ). judged k (exec_place x.name x.line) cycles fault characters) measure
      ∙ (ap (λ (p : Place). judged (sum_by measure_of (map (own blocks) ds ++ own blocks d ∷ [])) p cycles fault characters) (place_same d x is)
      ∙ (ap (λ (vs : List Vector). judged (sum_by measure_of (map (own blocks) ds ++ own blocks d ∷ [])) place (length vs) fault characters)
      (vectors_same d x is n)
      ∙ (ap (λ (o : Option StilFault). judged (sum_by measure_of (map (own blocks) ds ++ own blocks d ∷ [])) place
      (length (vectors_of n (own blocks d))) o characters) (fault_same d x is n)
      ∙ ap (λ (rs : List (List ℕ)). judged (sum_by measure_of (map (own blocks) ds ++ own blocks d ∷ [])) place
      (length (vectors_of n (own blocks d))) (trees_fault (own blocks d).tables (own blocks d).trees (start_of n)) (length rs * n)) rows)))

  -- all behind others
  all_same : (n : ℕ) (before ds : List ExecDecl) (front xs : List Executive) → AreExecutives blocks before front
      → AreExecutives blocks ds xs → compile_faults n front xs ≡ compile_faults n (map (own blocks) before) (map (own blocks) ds)
  all_same n before [] front [] are those = refl
  all_same n before [] front (x ∷ xs) are those = absurd those
  all_same n before (d ∷ ds) front [] are those = absurd those
  all_same n before (d ∷ ds) front (x ∷ xs) are those =
      let pushed : map (own blocks) (before ++ d ∷ []) ≡ map (own blocks) before ++ own blocks d ∷ [] = map-append (own blocks) before (d ∷ []) in
      ap (λ (o : Option StilFault). or_else o (compile_faults n (front ++ x ∷ []) xs)) (one_same n before front d x are those.0)
      ∙ ap (or_else (compile_fault n (map (own blocks) before) (own blocks d)))
      (all_same n (before ++ d ∷ []) ds (front ++ x ∷ []) xs (push before front d x are those.0) those.1
      ∙ ap (λ (l : List Executive). compile_faults n l (map (own blocks) ds)) pushed)

  -- their first fault is that of the sixth pass
  pub code_fault_is : (xs : List Executive) → AreAllOf blocks xs → code_fault (names_of blocks) xs ≡ sixth_fault times_of blocks
  code_fault_is xs are = all_same (length (names_of blocks).signals) [] blocks.executives [] xs tt are
