-- Assignments in text order.
use Rattle.std.proofs.Common.{◌≡◌, ℕ, ◌+◌, true, List, [], ◌∷◌, ◌++◌, Option, Some, None, refl, ap, sym, ◌∙◌, subst, length, append-nil, append_assoc}
use Rattle.std.specs.Prelude.{Result, Ok, Err}
use Rattle.stil_ast.specs.Data.Places.{Titles}
use Rattle.stil_ast.specs.Meaning.Arguments.{Argument}
use Rattle.stil_ast.specs.Meaning.Members.{members, reference_kind}
use Rattle.stil_ast.specs.Data.Items.{items_of}
use Rattle.stil_ast.specs.declared.data.ItemRun.{ItemRun}
use Rattle.stil_ast.specs.Meaning.Statements.{Assign, Item}
use Rattle.stil_ast.specs.Meaning.Dealing.{Gift, deal, deal_pairs, spread, hashed, takers}
use Rattle.stil_ast.specs.Meaning.Flattening.{gifts_front}
use Rattle.stil_ast.specs.Meaning.Resolved.{Scope, resolved_assign, resolved_assigns}
use Rattle.stil_ast.specs.Faults.AssignmentFaults.{Walked, Checked, then_check, rule, rule_kind, Standing, fault_on, may_walk, check_assign, check_assigns}
use Rattle.stil_ast.specs.declared.body.Assignment.{Assignment}
use Rattle.stil_ast.specs.declared.fault.StilFault.{StilFault}
use Rattle.stil_ast.specs.declared.fault.StilKind.{StilKind}
use Rattle.stil_ast.specs.declared.fault.StilKind.TheVariants.{TooLarge}
use Rattle.macro_expand.specs.declared.references.References.{References}
use Rattle.answers.specs.declared.short.Short.TheVariants.{NoMemory, Fault}
use Rattle.macro_expand.specs.declared.walk.Walk.{Walk}
use Rattle.macro_expand.specs.Placing.{placed, placed_from, assign_of, Writes}
use Rattle.macro_expand.specs.Refusing.{Trouble}
use Rattle.macro_expand.specs.Stepping.{WritesOr, IsAssigning}
use Rattle.macro_expand.specs.Walks.{walked, then_kept}
use Rattle.macro_expand.proofs.FlatLemmas.{gifts_front-append}
use Rattle.macro_expand.proofs.PlaceLemmas.{not_ruled_out}

pub kind_passes : (kind : Option StilKind) (fault : StilKind → StilFault) (next : Walked → Checked) (w : Walked)
    → kind ≡ None → rule_kind kind fault next w ≡ next w
kind_passes None fault next w e = refl
kind_passes (Some kind) fault next w e = cc

-- the rules behind that on the reference
abbrev behind_reference : Scope → Standing → Assignment → Walked → Checked
behind_reference sc s d w =
    rule (may_walk (w.count + length (resolved_assign sc.names d).signals)) (fault_on sc s d.line TooLarge)
    (placed_from sc s d.line (resolved_assign sc.names d) w) w

behind_kind : (sc : Scope) (s : Standing) (d : Assignment) (w : Walked) → reference_kind sc.names d.reference ≡ None
    → check_assign sc s d w ≡ behind_reference sc s d w
behind_kind sc s d w e =
    kind_passes (reference_kind sc.names d.reference) (fault_on sc s d.line)
    (rule (may_walk (w.count + length (resolved_assign sc.names d).signals)) (fault_on sc s d.line TooLarge)
    (placed_from sc s d.line (resolved_assign sc.names d) w)) w e

pub assign_known : (sc : Scope) (s : Standing) (d : Assignment) (w : Walked) → reference_kind sc.names d.reference ≡ None
    → may_walk (w.count + length (resolved_assign sc.names d).signals) ≡ true
    → check_assign sc s d w ≡ placed sc s d.line (resolved_assign sc.names d) w
assign_known sc s d w known e =
    behind_kind sc s d w known
    ∙ not_ruled_out (may_walk (w.count + length (resolved_assign sc.names d).signals)) (fault_on sc s d.line TooLarge)
    (placed_from sc s d.line (resolved_assign sc.names d) w) w e

-- checks that agree where a step begins
pub writes_same : {A : Type 0} (titles : Titles) (check other : Walked → Checked) (assigns : List Assign) (before after : Walk) (r : Result A Trouble)
    → check (walked before) ≡ other (walked before) → WritesOr titles other assigns before after r
    → WritesOr titles check assigns before after r
writes_same titles check other assigns before after (Ok done) e h =
    record { checked = e ∙ h.checked; args = h.args; out = h.out; taken = h.taken }
writes_same titles check other assigns before after (Err NoMemory) e h = tt
writes_same titles check other assigns before after (Err (Fault at)) e h = e ∙ h

-- an assignment whose reference has no fault, and which is within the limit
pub assigned : {A : Type 0} (sc : Scope) (s : Standing) (d : Assignment) (runs : List ItemRun) (signals : List ℕ)
    (before after : Walk) (r : Result A Trouble) → d.items ≡ items_of runs
    → (reference_kind sc.names d.reference ≡ None) × (signals ≡ members sc.names d.reference)
    → may_walk (before.count + length signals) ≡ true
    → WritesOr sc.titles (placed sc s d.line (assign_of signals runs)) (assign_of signals runs ∷ []) before after r
    → WritesOr sc.titles (check_assign sc s d) (resolved_assign sc.names d ∷ []) before after r
assigned sc s d runs signals before after r items known few h =
    let same : assign_of signals runs ≡ resolved_assign sc.names d
    = ap (λ (xs : List ℕ). assign_of xs runs) known.1
    ∙ ap (λ (items : List Item). record { signals = members sc.names d.reference; items = items }) (sym items) in
    writes_same sc.titles (check_assign sc s d) (placed sc s d.line (resolved_assign sc.names d)) (resolved_assign sc.names d ∷ []) before after r
    (assign_known sc s d (walked before) known.0 (ap (λ (xs : List ℕ). may_walk (before.count + length xs)) (sym known.1) ∙ few))
    (subst (λ (a : Assign). WritesOr sc.titles (placed sc s d.line a) (a ∷ []) before after r) same h)

-- whichever places of references were noted before, the same is written
pub writes_noted : {A : Type 0} (titles : Titles) (check : Walked → Checked) (assigns : List Assign) (before after : Walk)
    (references : References) (r : Result A Trouble) → WritesOr titles check assigns (record before { references = references }) after r
    → WritesOr titles check assigns before after r
writes_noted titles check assigns before after references (Ok done) w =
    record { checked = w.checked; args = w.args; out = w.out; taken = w.taken }
writes_noted titles check assigns before after references (Err NoMemory) w = tt
writes_noted titles check assigns before after references (Err (Fault at)) w = w

-- one assignment in front of others
deal-first : (a : Assign) (rest : List Assign) (args : List Argument) → (deal (a ∷ rest) args).gifts
    ≡ (deal (a ∷ []) args).gifts ++ (deal rest (deal (a ∷ []) args).args).gifts
deal-first a rest args =
    let d = deal_pairs a.signals (spread a.signals a.items) args in
    ap (λ (gifts : List Gift). gifts ++ (deal rest d.args).gifts) (sym (append-nil d.gifts))

pub takers-first : (a : Assign) (rest : List Assign) → takers (a ∷ rest) ≡ takers (a ∷ []) ++ takers rest
takers-first a rest = ap (λ xs. xs ++ takers rest) (sym (append-nil (hashed a.signals (spread a.signals a.items))))

module _ (sc : Scope) (s : Standing) (all : List Assignment) (start : Walk) where
  -- one of them more
  pub assigning_step : (d : Assignment) (left : List Assignment) (now after : Walk)
      → IsAssigning sc s all start (d ∷ left) now
      → Writes (check_assign sc s d) (resolved_assign sc.names d ∷ []) now after
      → IsAssigning sc s all start left after
  assigning_step d left now after before e =
      let a = resolved_assign sc.names d in
      let rest = resolved_assigns sc.names left in
      let first = deal (a ∷ []) now.args in
      record {
        checked = ap (λ (c : Checked). then_check c (check_assigns sc s left)) (sym e.checked) ∙ before.checked;
        args = ap (λ (args : List Argument). (deal rest args).args) e.args ∙ before.args;
        out = λ more.
            ap (λ (args : List Argument). then_kept after.out (gifts_front (deal rest args).gifts more)) e.args
            ∙ e.out (gifts_front (deal rest first.args).gifts more)
            ∙ ap (then_kept now.out) (sym (gifts_front-append first.gifts (deal rest first.args).gifts more))
            ∙ ap (λ (gifts : List Gift). then_kept now.out (gifts_front gifts more)) (sym (deal-first a rest now.args))
            ∙ before.out more;
        taken = ap (λ xs. xs ++ takers rest) e.taken ∙ append_assoc now.taken (takers (a ∷ [])) (takers rest)
            ∙ ap (λ xs. now.taken ++ xs) (sym (takers-first a rest)) ∙ before.taken;
      }
