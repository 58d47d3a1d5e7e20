-- How many cycles a text and its code have, up to an executive: `few_listed`, `told_many`.
use Rattle.std.proofs.Common.{◌≡◌, ℕ, ◌+◌, ◌<◌, ◌≤◌, Bool, List, [], ◌∷◌, ◌++◌, length, map, take, drop, get_or, Option, Some, None, refl, sym, ap, ◌∙◌, subst, arith, append_assoc}
use Rattle.std.specs.Prelude.{nat_le, sum_by, slice_index_or}
use Rattle.std.specs.List.{enumerate_from}
use Rattle.std.proofs.lemmas.Bool.{le-leb, lt-leb}
use Rattle.std.proofs.lemmas.List.{append-nil, length-append, length-take-le, length-drop, take-append-drop, take_all, get_or-map}
use Rattle.std.proofs.lemmas.List.Sums.{sum_by-append, sum_by-take-le}
use Rattle.std.proofs.Math.Seq.{take-append-add, get_or-append_seam}
use Rattle.stil_ast.specs.Faults.Found.{fault_at, unless, or_else, first_in}
use Rattle.stil_ast.specs.Faults.BurstFaults.{exec_place}
use Rattle.stil_ast.specs.Faults.FrontFaults.{cycle_count, too_many_at}
use Rattle.stil_ast.specs.declared.blocks.Blocks.{Blocks}
use Rattle.stil_ast.specs.declared.executive.ExecDecl.{ExecDecl}
use Rattle.stil_ast.specs.declared.fault.StilFault.{StilFault}
use Rattle.stil_ast.specs.declared.fault.StilKind.TheVariants.{TooManyCycles}
use Rattle.packed_code.specs.Meaning.{Means}
use Rattle.packed_code.specs.Program.{Program}
use Rattle.packed_code.specs.Cycles.{exec_of}
use Rattle.code_listing.specs.Text.{cycles_among}
use Rattle.code_listing.proofs.ListingLemmas.{cycles-more}
use Rattle.stil_program.specs.Program.{IsBlocksCode}
use Rattle.stil_program.proofs.ProgramLemmas.{execs_are, exec_behind}
use Rattle.text_commands.specs.FewCycles.{Crosses}

-- ---- a list of executives with their numbers of cycles

module _ (execs : List ExecDecl) (count : ExecDecl → ℕ) where
  -- up to an executive there are too many cycles to be printed
  abbrev rule : ℕ × ExecDecl → Option StilFault
  rule e = unless (nat_le (sum_by count (take (e.0 + 1) execs)) 65536) (fault_at (exec_place e.1.name e.1.line) TooManyCycles) None

  -- the executives up to one of them
  upto-one : (before after : List ExecDecl) (d : ExecDecl) → execs ≡ before ++ d ∷ after
      → sum_by count (take (length before + 1) execs) ≡ sum_by count (before ++ d ∷ [])
  upto-one before after d cut =
      ap (λ (es : List ExecDecl). sum_by count (take (length before + 1) es)) cut ∙ ap (sum_by count) (take-append-add before (d ∷ after) 1)

  -- up to this one there aren't too many
  fine-here : (before after : List ExecDecl) (d : ExecDecl) → execs ≡ before ++ d ∷ after
      → sum_by count (before ++ d ∷ []) ≤ 65536 → rule (length before, d) ≡ None
  fine-here before after d cut few =
      ap (λ (n : ℕ). unless (nat_le n 65536) (fault_at (exec_place d.name d.line) TooManyCycles) None) (upto-one before after d cut)
      ∙ ap (λ (b : Bool). unless b (fault_at (exec_place d.name d.line) TooManyCycles) None) (le-leb (sum_by count (before ++ d ∷ [])) 65536 few)

  -- up to this one there are
  many-here : (before after : List ExecDecl) (d : ExecDecl) → execs ≡ before ++ d ∷ after
      → 65536 < sum_by count (before ++ d ∷ []) → rule (length before, d) ≡ Some (fault_at (exec_place d.name d.line) TooManyCycles)
  many-here before after d cut many =
      ap (λ (n : ℕ). unless (nat_le n 65536) (fault_at (exec_place d.name d.line) TooManyCycles) None) (upto-one before after d cut)
      ∙ ap (λ (b : Bool). unless b (fault_at (exec_place d.name d.line) TooManyCycles) None) (lt-leb (sum_by count (before ++ d ∷ [])) 65536 many)

  next-length : (before : List ExecDecl) (d : ExecDecl) → length (before ++ d ∷ []) ≡ length before + 1
  next-length before d = length-append before (d ∷ [])

  -- one more behind some
  moved : (before rest : List ExecDecl) (d : ExecDecl) → execs ≡ before ++ d ∷ rest → execs ≡ (before ++ d ∷ []) ++ rest
  moved before rest d cut = cut ∙ sym (append_assoc before (d ∷ []) rest)

  none-from : (before rest : List ExecDecl) → execs ≡ before ++ rest → sum_by count execs ≤ 65536
      → first_in rule (enumerate_from (length before) rest) ≡ None
  none-from before [] cut few = refl
  none-from before (d ∷ rest) cut few =
      let all = sum_by-take-le count execs (length before + 1) in
      let here = fine-here before rest d cut (omega (arith, few, all, upto-one before rest d cut)) in
      let more = none-from (before ++ d ∷ []) rest (moved before rest d cut) few in
      ap (λ (o : Option StilFault). or_else o (first_in rule (enumerate_from (length before + 1) rest))) here
      ∙ subst (λ (n : ℕ). first_in rule (enumerate_from n rest) ≡ None) (next-length before d) more

  some-from : (before middle after : List ExecDecl) (d : ExecDecl) → execs ≡ before ++ (middle ++ d ∷ after)
      → sum_by count (before ++ middle) ≤ 65536 → 65536 < sum_by count (before ++ (middle ++ d ∷ []))
      → first_in rule (enumerate_from (length before) (middle ++ d ∷ after)) ≡ Some (fault_at (exec_place d.name d.line) TooManyCycles)
  some-from before [] after d cut few many =
      ap (λ (o : Option StilFault). or_else o (first_in rule (enumerate_from (length before + 1) after))) (many-here before after d cut many)
  some-from before (m ∷ middle) after d cut few many =
      let parts = ap (sum_by count) (sym (append_assoc before (m ∷ []) middle)) ∙ sum_by-append count (before ++ m ∷ []) middle in
      let here = fine-here before (middle ++ d ∷ after) m cut (omega (arith, few, parts)) in
      let more = some-from (before ++ m ∷ []) middle after d (moved before (middle ++ d ∷ after) m cut)
      (subst (λ (es : List ExecDecl). sum_by count es ≤ 65536) (sym (append_assoc before (m ∷ []) middle)) few)
      (subst (λ (es : List ExecDecl). 65536 < sum_by count es) (sym (append_assoc before (m ∷ []) (middle ++ d ∷ []))) many) in
      ap (λ (o : Option StilFault). or_else o (first_in rule (enumerate_from (length before + 1) (middle ++ d ∷ after)))) here
      ∙ subst (λ (n : ℕ). first_in rule (enumerate_from n (middle ++ d ∷ after)) ≡ Some (fault_at (exec_place d.name d.line) TooManyCycles))
      (next-length before m) more

  -- ---- and a code of these executives
  module _ (code : Program) (as_many : length code.execs ≡ length execs)
      (counts : (before after : List ExecDecl) (d : ExecDecl) → execs ≡ before ++ d ∷ after
      → length (Means (exec_of code (length before)).instrs) ≡ count d)
      (names : (before after : List ExecDecl) (d : ExecDecl) → execs ≡ before ++ d ∷ after
      → (exec_of code (length before)).name ≡ d.name) where
    -- the executives before one have as many cycles in the code
    abbrev AreSame : List ExecDecl → Type 0
    AreSame before = cycles_among (take (length before) code.execs) ≡ sum_by count before

    same-more : (before rest : List ExecDecl) (d : ExecDecl) → execs ≡ before ++ d ∷ rest → AreSame before → AreSame (before ++ d ∷ [])
    same-more before rest d cut same =
        let long = as_many ∙ ap length cut ∙ length-append before (d ∷ rest) in
        let within : length before < length code.execs = omega (arith, long) in
        let last : sum_by count (d ∷ []) ≡ 0 + count d = refl in
        ap (λ (n : ℕ). cycles_among (take n code.execs)) (length-append before (d ∷ []))
        ∙ cycles-more code (length before) within
        ∙ omega (arith, same, counts before rest d cut, last, sum_by-append count before (d ∷ []))

    same-walk : (before middle after : List ExecDecl) → execs ≡ before ++ (middle ++ after) → AreSame before → AreSame (before ++ middle)
    same-walk before [] after cut same = subst AreSame (sym (append-nil before)) same
    same-walk before (m ∷ middle) after cut same =
        let next = cut ∙ sym (append_assoc before (m ∷ []) (middle ++ after)) in
        subst AreSame (append_assoc before (m ∷ []) middle)
        (same-walk (before ++ m ∷ []) middle after next (same-more before (middle ++ after) m cut same))

    same-front : (front after : List ExecDecl) → execs ≡ front ++ after → AreSame front
    same-front front after cut = same-walk [] front after cut refl

    same-all : cycles_among code.execs ≡ sum_by count execs
    same-all =
        ap cycles_among (sym (take_all (length execs) code.execs (omega (arith, as_many))))
        ∙ same-front execs [] (sym (append-nil execs))

    few-counted : cycles_among code.execs ≤ 65536 → first_in rule (enumerate_from 0 execs) ≡ None
    few-counted few = none-from [] execs refl (omega (arith, few, same-all))

    many-at : (front after : List ExecDecl) (d : ExecDecl) (lines : List ℕ) → execs ≡ front ++ d ∷ after
        → lines ≡ map (λ (e : ExecDecl). e.line) execs → Crosses code (length front)
        → first_in rule (enumerate_from 0 execs)
        ≡ Some (fault_at (exec_place (exec_of code (length front)).name (slice_index_or lines (length front) 0)) TooManyCycles)
    many-at front after d lines cut are crosses =
        let name : (exec_of code (length front)).name ≡ d.name = names front after d cut in
        let line : get_or lines (length front) 0 ≡ d.line =
        ap (λ (ls : List ℕ). get_or ls (length front) 0) are
        ∙ ap (λ (es : List ExecDecl). get_or (map (λ (e : ExecDecl). e.line) es) (length front) 0) cut
        ∙ get_or-map (λ (e : ExecDecl). e.line) (front ++ d ∷ after) (length front) d 0 (omega (arith, length-append front (d ∷ after)))
        ∙ ap (λ (e : ExecDecl). e.line) (get_or-append_seam front d after d) in
        let before = same-front front (d ∷ after) cut in
        let upto = same-more front after d cut before in
        let long = length-append front (d ∷ []) in
        let few : sum_by count front ≤ 65536 = omega (arith, crosses.before, before) in
        let many : 65536 < sum_by count (front ++ d ∷ []) =
        omega (arith, crosses.beyond, upto, ap (λ (n : ℕ). cycles_among (take n code.execs)) long) in
        ap (λ (es : List ExecDecl). first_in rule (enumerate_from 0 es)) cut
        ∙ some-from [] front after d cut few many
        ∙ ap (λ (n : List ℕ). Some (fault_at (exec_place n d.line) TooManyCycles)) (sym name)
        ∙ ap (λ (l : ℕ). Some (fault_at (exec_place (exec_of code (length front)).name l) TooManyCycles)) (sym line)

    many-counted : (k : ℕ) (lines : List ℕ) → lines ≡ map (λ (e : ExecDecl). e.line) execs → Crosses code k
        → first_in rule (enumerate_from 0 execs) ≡ Some (fault_at (exec_place (exec_of code k).name (slice_index_or lines k 0)) TooManyCycles)
    many-counted k lines are crosses = go (drop k execs) refl
      where
        long : k < length execs
        long = omega (arith, crosses.within, as_many)

        go : (rest : List ExecDecl) → drop k execs ≡ rest
            → first_in rule (enumerate_from 0 execs) ≡ Some (fault_at (exec_place (exec_of code k).name (slice_index_or lines k 0)) TooManyCycles)
        go [] left = absurd (omega (arith, long, ap length left, length-drop k execs))
        go (d ∷ after) left =
            let front = take k execs in
            let size : length front ≡ k = length-take-le k execs (omega (arith, long)) in
            let cut = sym (take-append-drop k execs) ∙ ap (λ (es : List ExecDecl). front ++ es) left in
            subst (λ (n : ℕ). first_in rule (enumerate_from 0 execs)
            ≡ Some (fault_at (exec_place (exec_of code n).name (slice_index_or lines n 0)) TooManyCycles)) size
            (many-at front after d lines cut are (subst (Crosses code) (sym size) crosses))

-- ---- a text and its code

module _ (blocks : Blocks) (code : Program) (is : IsBlocksCode blocks code) where
  -- a code with few cycles is that of a text with few
  pub few-listed : cycles_among code.execs ≤ 65536 → too_many_at blocks ≡ None
  few-listed =
      few-counted blocks.executives (cycle_count blocks) code (execs_are blocks code is)
      (λ before after d cut. (exec_behind blocks code is before after d cut).count_is)
      (λ before after d cut. (exec_behind blocks code is before after d cut).name_is)

  -- a code with too many cycles up to an executive is that of a text with too many
  pub many-listed : (k : ℕ) (lines : List ℕ) → lines ≡ map (λ (e : ExecDecl). e.line) blocks.executives → Crosses code k
      → too_many_at blocks ≡ Some (fault_at (exec_place (exec_of code k).name (slice_index_or lines k 0)) TooManyCycles)
  many-listed =
      many-counted blocks.executives (cycle_count blocks) code (execs_are blocks code is)
      (λ before after d cut. (exec_behind blocks code is before after d cut).count_is)
      (λ before after d cut. (exec_behind blocks code is before after d cut).name_is)
