-- The clauses of an answer on a pattern, from one fact.
use Rattle.std.proofs.Common.{◌≡◌, ℕ, List, [], refl, sym, ap, ◌∙◌, subst, inl, inr, ◌⊎◌, length}
use Rattle.std.proofs.lemmas.List.{length-map}
use Rattle.std.specs.Prelude.{Result, Ok, Err, IfOk, IfErr, MatchResult}
use Rattle.stil_ast.specs.Data.Written.{Written}
use Rattle.stil_ast.specs.Meaning.Arguments.{Argument}
use Rattle.stil_ast.specs.Meaning.ExecutiveData.{IsSameFlat}
use Rattle.stil_ast.specs.Meaning.Flat.{Flat, done}
use Rattle.stil_ast.specs.Meaning.Flattening.{joined, flat_of}
use Rattle.stil_ast.specs.Meaning.Resolved.{is_out}
use Rattle.stil_ast.specs.Meaning.Running.{outside}
use Rattle.stil_ast.specs.Meaning.Signals.{Names, Signal}
use Rattle.stil_ast.specs.Faults.AssignmentFaults.{Walked, Checked, fine, refused}
use Rattle.stil_ast.specs.Faults.PatternFaults.{on_top}
use Rattle.stil_ast.specs.declared.fault.StilFault.{StilFault}
use Rattle.stil_ast.specs.Data.Refusal.{StilRefusal}
use Rattle.answers.specs.declared.short.Short.TheVariants as refusal
use Rattle.stil_ast.proofs.SteadyLemmas.{checked_tree_agrees}
use Rattle.flat_tree.specs.Kept.{kept}
use Rattle.flat_tree.specs.Lean.{IsLean}
use Rattle.macro_expand.specs.declared.scope.PatternScope.{PatternScope}
use Rattle.macro_expand.specs.declared.standing.Standing.{Standing as HeldStanding}
use Rattle.macro_expand.specs.declared.walk.Walk.{Walk}
use Rattle.macro_expand.specs.Expanding.{pattern_check, pattern_in, IsTreeOf, Expands, IsPatternFault, ExpandsOr, IsRefusal}
use Rattle.macro_expand.specs.Recursing.{setting_in, flat_named, list_check}
use Rattle.macro_expand.specs.Scopes.{scope_in, IsNamed}
use Rattle.macro_expand.specs.Stepping.{Steps}
use Rattle.macro_expand.specs.Walking.{flat_at}
use Rattle.macro_expand.specs.Walks.{walked, then_kept}
use Rattle.flat_tree.proofs.FlatLemmas.{joined-done}
use Rattle.flat_tree.proofs.KeptLemmas.{kept_is_same}
use Rattle.flat_tree.proofs.SameLemmas.{same-trans}

-- a check has one end
not_both : (c : Checked) (w : Walked) (f : StilFault) → c ≡ fine w → c ≡ refused f → ⊥
not_both c w f e g = cc

one_end : (c : Checked) (w v : Walked) → c ≡ fine w → c ≡ fine v → w ≡ v
one_end c w v e g = cc

one_fault : (c : Checked) (f g : StilFault) → c ≡ refused f → c ≡ refused g → f ≡ g
one_fault c f g e h = cc

module _ (names : Names) (scope : PatternScope) (body : Written) (before after : ℕ) where
  pub is_found : (r : Result Flat StilRefusal) → ExpandsOr names scope body before after r
      → IfOk r (λ flat. Expands names scope body before flat after)
  is_found (Ok flat) h = h
  is_found (Err r) h = tt

  pub only_tree : (r : Result Flat StilRefusal) → ExpandsOr names scope body before after r → (w : Walked)
      → pattern_check names scope body before ≡ fine w
      → MatchResult r (λ flat. IsTreeOf names scope body flat × (after ≡ w.count)) (λ r. r ≡ refusal.NoMemory)
  only_tree (Ok flat) h w e =
      (h.tree, h.counted ∙ ap (λ (v : Walked). v.count) (one_end (pattern_check names scope body before) h.left w h.checked e))
  only_tree (Err refusal.NoMemory) h w e = refl
  only_tree (Err (refusal.Fault f)) h w e = absurd (not_both (pattern_check names scope body before) w f e h)

  pub is_fault : (r : Result Flat StilRefusal) → ExpandsOr names scope body before after r
      → IfErr r (λ r. (r ≡ refusal.NoMemory) ⊎ IsPatternFault names scope body before r)
  is_fault (Ok flat) h = tt
  is_fault (Err refusal.NoMemory) h = inl refl
  is_fault (Err (refusal.Fault f)) h = inr (record { fault = f; is = refl; first = h })

  pub is_refused : (r : Result Flat StilRefusal) → ExpandsOr names scope body before after r → (f : StilFault)
      → pattern_check names scope body before ≡ refused f
      → MatchResult r (λ _. ⊥) (λ r. (r ≡ refusal.NoMemory) ⊎ (r ≡ refusal.Fault f))
  is_refused (Ok flat) h f e = not_both (pattern_check names scope body before) h.left f h.checked e
  is_refused (Err refusal.NoMemory) h f e = inl refl
  is_refused (Err (refusal.Fault g)) h f e =
      inr (ap (λ (x : StilFault). refusal.Fault x) (one_fault (pattern_check names scope body before) g f h e))

  -- a refusal that is right of the check
  pub refusal_is : (r : StilRefusal) → IsRefusal (pattern_check names scope body before) r
      → ExpandsOr names scope body before after (Err r)
  refusal_is refusal.NoMemory h = tt
  refusal_is (refusal.Fault f) h = h

module _ (names : Names) (scope : PatternScope) (body : Written) (count : ℕ) where
  -- a walk from the start to the end
  pub from_start : (top : HeldStanding) (start after : Walk) → start.args ≡ [] → start.hashes ≡ [] → start.out ≡ done → start.count ≡ count
      → top.calls ≡ 0
      → Steps (list_check names scope top on_top body) (flat_at (setting_in names scope) (flat_named names scope top) (pattern_in names scope body) start.args)
      start after
      → (pattern_check names scope body count ≡ fine (walked after))
      × (after.out ≡ kept (flat_of (setting_in names scope) (pattern_in names scope body)))
  from_start top start after args hashes out counts calls steps =
      let begins : walked start ≡ record { args = []; hashes = []; count = count }
      = ap (λ (xs : List Argument). record { args = xs; hashes = start.hashes; count = start.count }) args
      ∙ ap (λ (xs : List ℕ). record { args = []; hashes = xs; count = start.count }) hashes
      ∙ ap (λ (n : ℕ). record { args = []; hashes = []; count = n }) counts in
      let at_top : HeldStanding → Walked → Checked = λ s. list_check names scope s on_top body in
      let piece : ℕ → List Argument → Flat = λ n args.
      (flat_at (setting_in names scope) (flat_named names scope (record top { calls = n })) (pattern_in names scope body) args).flat in (
        ap (λ (w : Walked). pattern_check_at w) (sym begins)
            ∙ ap (λ (n : ℕ). at_top (record top { calls = n }) (walked start)) (sym calls)
            ∙ steps.checked,
        sym (joined-done after.out) ∙ steps.out done
            ∙ ap (λ (f : Flat). then_kept f (joined (piece top.calls start.args) done)) out
            ∙ ap kept (joined-done (piece top.calls start.args))
            ∙ ap (λ (n : ℕ). kept (piece n start.args)) calls
            ∙ ap (λ (args : List Argument). kept (piece 0 args)) args,
      )
    where
      pattern_check_at : Walked → Checked
      pattern_check_at w = list_check names scope (record top { calls = 0 }) on_top body w

  -- the tree that is kept serves for the pattern
  pub tree_serves : (whole flat : Flat) (w : Walked) (signals : ℕ) → pattern_check names scope body count ≡ fine w
      → whole ≡ kept (flat_of (setting_in names scope) (pattern_in names scope body)) → IsSameFlat flat whole
      → signals ≡ length names.signals → IsLean signals flat → IsTreeOf names scope body flat
  tree_serves whole flat w signals checked is same few lean =
      let defined = flat_of (setting_in names scope) (pattern_in names scope body) in
      let whole_same : IsSameFlat flat defined
      = same-trans flat (kept defined) defined (subst (λ (f : Flat). IsSameFlat flat f) is same) (kept_is_same defined) in record {
        runs = λ s.
            whole_same.runs (outside s).held s
            ∙ checked_tree_agrees (scope_in names scope) scope.scan_outs.now body count w s checked;
        same = whole_same;
        lean = subst (λ (n : ℕ). IsLean n flat) few lean;
      }

-- the signals of the scope are those of the text
pub outs-length : (names : Names) (scope : PatternScope) → IsNamed names scope → length scope.outs.now ≡ length names.signals
outs-length names scope named = ap length named.outs ∙ length-map names.signals (λ (s : Signal). is_out s.direction)
