-- The vector of a row's procedure has no fault but that too much is walked, which isn't so where that fits.
use Rattle.std.proofs.Common.{◌≡◌, ℕ, zero, suc, ◌+◌, ◌<◌, ◌≤◌, true, false, ◌&&◌, List, [], ◌∷◌, length, Option, None, refl, sym, ap, subst, ◌∙◌, arith, inl, inr}
use Rattle.std.specs.Prelude.{◌==◌}
use Rattle.std.specs.List.{AllZip, list_any}
use Rattle.std.proofs.lemmas.Bool.{cases_Bool, le-leb, and_left, and_right, or_from, or_right}
use Rattle.text_bytes.specs.Limits.{most_walked}
use Rattle.packed_code.specs.Program.{Program}
use Rattle.packed_code.specs.Conditions.{IsProgram}
use Rattle.stil_ast.specs.Data.Written.{Written, no_more}
use Rattle.stil_ast.specs.Meaning.Statements.{a_character, Assign}
use Rattle.stil_ast.specs.Meaning.Dealing.{has_signal, takers, is_hash}
use Rattle.stil_ast.specs.Meaning.Members.{reference_kind}
use Rattle.stil_ast.specs.Meaning.Resolved.{Scope, resolved_assign}
use Rattle.stil_ast.specs.Faults.AssignmentFaults.{Walked, fine, rule, bar_if, rule_kind, Standing, fault_on, hash_misplaced, width_fits, all_there, data_there, may_walk, walked_assign, check_assign, check_assigns}
use Rattle.stil_ast.specs.Faults.PatternFaults.{counted, one_more, check_step, check_list, check_calls}
use Rattle.stil_ast.specs.declared.body.Assignment.{Assignment}
use Rattle.stil_ast.specs.declared.body.Step.TheVariants.{Vector}
use Rattle.stil_ast.specs.declared.blocks.BodyDef.{BodyDef}
use Rattle.stil_ast.specs.declared.fault.StilKind.{StilKind}
use Rattle.stil_ast.specs.declared.fault.StilKind.TheVariants.{TooLarge, ShiftForm, Width, NoData}
use Rattle.flat_parts.specs.FlatText.{name_of}
use Rattle.flat_parts.specs.FlatBlocks.{Given, given_from, IsGift, row_numbered, IsRowBody}
use Rattle.flat_fine.proofs.SignalLemmas.{AreNames, reference_known, reference_members}
use Rattle.flat_fine.proofs.FaultLemmas.{Passes, passes_then, passes_rule, passes_kept, passes_bar}

-- a signal without a character is left out
given_none : (code : Program) (signal c : ℕ) (row : List ℕ) → (c == 0) ≡ true
    → given_from code signal (c ∷ row) ≡ given_from code (signal + 1) row
given_none code signal c row e = rw e refl

given_some : (code : Program) (signal c : ℕ) (row : List ℕ) → (c == 0) ≡ false
    → given_from code signal (c ∷ row) ≡ record { name = name_of code signal; character = c } ∷ given_from code (signal + 1) row
given_some code signal c row e = rw e refl

module _ (scope : Scope) (code : Program) (program : IsProgram code) (are : AreNames code scope.names) (s : Standing)
    (outside : s.in_shift ≡ false) (Fit : Type 0) where
  -- one character for one signal
  abbrev one : ℕ → ℕ → Assign
  one signal c = record { signals = signal ∷ []; items = a_character c ∷ [] }

  one_is : (signal c : ℕ) (d : Assignment) → signal < length code.signals → IsGift (record { name = name_of code signal; character = c }) d
      → resolved_assign scope.names d ≡ one signal c
  one_is signal c d less is =
      ap (resolved_assign scope.names) is
      ∙ ap (λ (ms : List ℕ). record { signals = ms; items = a_character c ∷ [] }) (reference_members code scope.names signal program are less)

  -- has no `#`
  no_hash : (signal c : ℕ) (hashes : List ℕ) → hash_misplaced s (one signal c) hashes ≡ false
  no_hash signal c hashes =
      or_from (s.in_loop && list_any is_hash (a_character c ∷ [])) (s.in_shift && list_any (has_signal hashes) (takers (one signal c ∷ [])))
      (and_right s.in_loop (list_any is_hash (a_character c ∷ [])) refl)
      (and_left s.in_shift (list_any (has_signal hashes) (takers (one signal c ∷ []))) outside)

  -- an assignment of a row
  assign_passes : (signal c : ℕ) (d : Assignment) (w : Walked) → signal < length code.signals
      → IsGift (record { name = name_of code signal; character = c }) d → (Fit → w.count + 1 ≤ most_walked)
      → Passes Fit (w.count + 1) (check_assign scope s d w)
  assign_passes signal c d w less is few =
      let after = λ (a : Assign). rule (may_walk (w.count + length a.signals)) (fault_on scope s d.line TooLarge)
      (bar_if (hash_misplaced s a w.hashes) (fault_on scope s d.line ShiftForm)
      (rule (width_fits a) (fault_on scope s d.line Width)
      (rule (data_there s a w.args) (fault_on scope s d.line NoData) (λ w. fine (walked_assign s a w))))) in
      let a = one signal c in
      let most = w.count + 1 in
      let last = λ (now : Walked). fine (walked_assign s a now) in
      let third = rule (data_there s a w.args) (fault_on scope s d.line NoData) last in
      let second = rule (width_fits a) (fault_on scope s d.line Width) third in
      let known : reference_kind scope.names d.reference ≡ None =
      ap (λ (x : Assignment). reference_kind scope.names x.reference) is ∙ reference_known code scope.names signal program are less in
      subst (λ (k : Option StilKind). Passes Fit most (rule_kind k (fault_on scope s d.line)
      (after (resolved_assign scope.names d)) w)) (sym known)
      (subst (λ (x : Assign). Passes Fit most (after x w)) (sym (one_is signal c d less is))
      (passes_rule Fit most (may_walk (w.count + 1)) (fault_on scope s d.line TooLarge) _ w refl
      (λ fit. le-leb (w.count + 1) most_walked (few fit))
      (passes_bar Fit most (hash_misplaced s a w.hashes) (fault_on scope s d.line ShiftForm) second w
      (no_hash signal c w.hashes)
      (passes_kept Fit most (width_fits a) (fault_on scope s d.line Width) third w refl
      (passes_kept Fit most (data_there s a w.args) (fault_on scope s d.line NoData) last w
      (or_right s.without_pass (all_there (signal ∷ []) (a_character c ∷ []) w.args) refl) (omega arith))))))

  -- those of gifts, the first of which is for a signal
  more_pass : (signal c most : ℕ) (rest : List Given) (gifts : List Assignment) (w : Walked) → signal < length code.signals
      → (Fit → w.count + 1 ≤ most_walked)
      → ((others : List Assignment) (now : Walked) → now.count ≤ w.count + 1 → AllZip IsGift rest others
      → Passes Fit most (check_assigns scope s others now))
      → AllZip IsGift (record { name = name_of code signal; character = c } ∷ rest) gifts
      → Passes Fit most (check_assigns scope s gifts w)
  more_pass signal c most rest [] w less few again all = absurd all
  more_pass signal c most rest (d ∷ gifts) w less few again all =
      passes_then Fit (w.count + 1) most (check_assign scope s d w) (check_assigns scope s gifts)
      (assign_passes signal c d w less all.0 few) (λ now low. again gifts now low all.1)

  -- those of a row
  assigns_pass : (signal most : ℕ) (row : List ℕ) (gifts : List Assignment) (w : Walked)
      → signal + length row ≤ length code.signals
      → w.count + length row ≤ most → (Fit → most ≤ most_walked)
      → AllZip IsGift (given_from code signal row) gifts → Passes Fit most (check_assigns scope s gifts w)
  assigns_pass signal most [] [] w few low fits all = omega (arith, low)
  assigns_pass signal most [] (d ∷ gifts) w few low fits all = absurd all
  assigns_pass signal most (c ∷ row) gifts w few low fits all =
      elim (cases_Bool (c == 0)) [
        | inl t ↦
            assigns_pass (signal + 1) most row gifts w (omega (arith, few)) (omega (arith, low)) fits
            (subst (λ (given : List Given). AllZip IsGift given gifts) (given_none code signal c row t) all)
        | inr f ↦
            more_pass signal c most (given_from code (signal + 1) row) gifts w (omega (arith, few))
            (λ fit. let room = fits fit in omega (arith, low, room))
            (λ others now less rest. assigns_pass (signal + 1) most row others now (omega (arith, few))
            (omega (arith, low, less)) fits rest)
            (subst (λ (given : List Given). AllZip IsGift given gifts) (given_some code signal c row f) all)
      ]

  -- the vector of a row's procedure, in bodies so deep
  pub row_passes : (depth number most : ℕ) (d : BodyDef) (w : Walked) → length (row_numbered code number) ≡ length code.signals
      → w.count + 1 + length code.signals ≤ most → (Fit → most ≤ most_walked)
      → IsRowBody code number d → Passes Fit most (check_calls scope depth s d.body w)
  unfolding check_calls
  row_passes zero number most d w long low fits is = omega (arith, low)
  row_passes (suc depth) number most d w long low fits is =
      subst (λ (body : Written). Passes Fit most (check_list scope (check_calls scope depth) s body w)) (sym is.body)
      (passes_then Fit most most (counted scope s is.line (check_step scope (check_calls scope depth) s is.line
      (Vector is.gifts)) w)
      (check_list scope (check_calls scope depth) s no_more)
      (passes_rule Fit most (may_walk (w.count + 1)) (fault_on scope s is.line TooLarge) _ w refl
      (λ fit. let room = fits fit in le-leb (w.count + 1) most_walked (omega (arith, low, room)))
      (assigns_pass 0 most (row_numbered code number) is.gifts (one_more w) (omega (arith, long))
      (omega (arith, long, low)) fits is.each))
      (λ now less. less))
