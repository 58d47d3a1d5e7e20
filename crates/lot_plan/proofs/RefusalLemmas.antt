-- What it says of rows, faults and circuits that nothing refuses them.
use Rattle.std.proofs.Common.{◌≡◌, ℕ, ◌+◌, Bool, true, false, List, [], ◌∷◌, Option, Some, None, refl, ap, ◌∙◌}
use Rattle.std.specs.Prelude.{All}
use Rattle.std.specs.Option.{option_or, option_map}
use Rattle.std.proofs.lemmas.List.Elements.{All-nil, All-cons, All-head, All-tail}
use Rattle.text_bytes.proofs.OptionLemmas.{or_none}
use Rattle.bench_net.specs.Circuit.{Circuit}
use Rattle.plan_rows.specs.declared.fault.PlanFault.{PlanFault}
use Rattle.plan_rows.specs.declared.fault.PlanFault.TheVariants as refused
use Rattle.plan_rows.specs.declared.row.Row.{Row}
use Rattle.plan_rows.specs.declared.row.Row.TheVariants as row
use Rattle.plan_rows.specs.declared.row.FaultRow.{FaultRow}
use Rattle.plan_rows.specs.declared.row.SkewRow.{SkewRow}
use Rattle.plan_rows.specs.Rows.{each_of, as_fault}
use Rattle.lot_plan.specs.Needs.{PinNeed}
use Rattle.lot_plan.specs.Binds.{binds_of, unbound_in}
use Rattle.lot_plan.specs.Refusal.{unless, is_net, row_refusal, rows_refusal, first_unbound}

none_second : {X : Type 0} (a b : Option X) → option_or a b ≡ None → b ≡ None
none_second None b is = is
none_second (Some x) b is = cc

pub none_both : {X : Type 0} (a b : Option X) → option_or a b ≡ None → (a ≡ None) × (b ≡ None)
none_both a b is = (or_none a b is, none_second a b is)

holds : (t : Bool) (e : PlanFault) → unless t e ≡ None → t ≡ true
holds true e is = refl
holds false e is = cc

-- each fault of rows that nothing refuses has a net
pub faults-accepted : (known : List ℕ → Bool) (skewed : ℕ → SkewRow → Option PlanFault) (execs : ℕ) (circuit : ℕ → ℕ → Circuit) (rows : List Row) (n : ℕ) →
    rows_refusal known skewed execs circuit n rows ≡ None →
    All (λ f. is_net (circuit f.site f.die) f.net ≡ true) (each_of as_fault rows)
faults-accepted known skewed execs circuit [] n is = All-nil (λ (f : FaultRow). is_net (circuit f.site f.die) f.net ≡ true)
faults-accepted known skewed execs circuit (row.Fault f ∷ rows) n is =
    All-cons (λ (f : FaultRow). is_net (circuit f.site f.die) f.net ≡ true) f (each_of as_fault rows)
    (holds (is_net (circuit f.site f.die) f.net) (refused.UnknownName n)
    (or_none _ (rows_refusal known skewed execs circuit (n + 1) rows) is))
    (faults-accepted known skewed execs circuit rows (n + 1) (none_second (row_refusal known skewed execs circuit n (row.Fault f)) _ is))
faults-accepted known skewed execs circuit (row.Lot x ∷ rows) n is = faults-accepted known skewed execs circuit rows (n + 1) is
faults-accepted known skewed execs circuit (row.Clock x ∷ rows) n is =
    faults-accepted known skewed execs circuit rows (n + 1) (none_second (row_refusal known skewed execs circuit n (row.Clock x)) _ is)
faults-accepted known skewed execs circuit (row.Bind x ∷ rows) n is =
    faults-accepted known skewed execs circuit rows (n + 1) (none_second (row_refusal known skewed execs circuit n (row.Bind x)) _ is)
faults-accepted known skewed execs circuit (row.Die x ∷ rows) n is = faults-accepted known skewed execs circuit rows (n + 1) is
faults-accepted known skewed execs circuit (row.Stop x ∷ rows) n is = faults-accepted known skewed execs circuit rows (n + 1) is
faults-accepted known skewed execs circuit (row.Bin x ∷ rows) n is =
    faults-accepted known skewed execs circuit rows (n + 1) (none_second (row_refusal known skewed execs circuit n (row.Bin x)) _ is)
faults-accepted known skewed execs circuit (row.Skew x ∷ rows) n is =
    faults-accepted known skewed execs circuit rows (n + 1) (none_second (row_refusal known skewed execs circuit n (row.Skew x)) _ is)

-- rows are judged alike by tests that agree, and circuits that agree where there are faults
abbrev Agree : (ℕ → ℕ → Circuit) → (ℕ → ℕ → Circuit) → FaultRow → Type 0
Agree circuit other f = circuit f.site f.die ≡ other f.site f.die

same_front : (known test : List ℕ → Bool) (skewed : ℕ → SkewRow → Option PlanFault) (execs : ℕ)
    (circuit other : ℕ → ℕ → Circuit) (n : ℕ) (r : Row) (rows : List Row) →
    row_refusal known skewed execs circuit n r ≡ row_refusal test skewed execs other n r →
    rows_refusal known skewed execs circuit (n + 1) rows ≡ rows_refusal test skewed execs other (n + 1) rows →
    rows_refusal known skewed execs circuit n (r ∷ rows) ≡ rows_refusal test skewed execs other n (r ∷ rows)
same_front known test skewed execs circuit other n r rows here rest =
    ap (λ o. option_or o (rows_refusal known skewed execs circuit (n + 1) rows)) here
    ∙ ap (option_or (row_refusal test skewed execs other n r)) rest

pub same_refusal : (known test : List ℕ → Bool) (skewed : ℕ → SkewRow → Option PlanFault) (execs : ℕ)
    (circuit other : ℕ → ℕ → Circuit) (rows : List Row) (n : ℕ) →
    ((name : List ℕ) → known name ≡ test name) →
    All (Agree circuit other) (each_of as_fault rows) →
    rows_refusal known skewed execs circuit n rows ≡ rows_refusal test skewed execs other n rows
same_refusal known test skewed execs circuit other [] n names all = refl
same_refusal known test skewed execs circuit other (row.Fault f ∷ rows) n names all =
    same_front known test skewed execs circuit other n (row.Fault f) rows
    (ap (λ c. unless (is_net c f.net) (refused.UnknownName n)) (All-head (Agree circuit other) f (each_of as_fault rows) all))
    (same_refusal known test skewed execs circuit other rows (n + 1) names
    (All-tail (Agree circuit other) f (each_of as_fault rows) all))
same_refusal known test skewed execs circuit other (row.Clock x ∷ rows) n names all =
    same_front known test skewed execs circuit other n (row.Clock x) rows (ap (λ b. unless b (refused.UnknownName n)) (names x))
    (same_refusal known test skewed execs circuit other rows (n + 1) names all)
same_refusal known test skewed execs circuit other (row.Bind x ∷ rows) n names all =
    same_front known test skewed execs circuit other n (row.Bind x) rows (ap (λ b. unless b (refused.UnknownName n)) (names x.signal))
    (same_refusal known test skewed execs circuit other rows (n + 1) names all)
same_refusal known test skewed execs circuit other (row.Lot x ∷ rows) n names all = same_refusal known test skewed execs circuit other rows
    (n + 1) names all
same_refusal known test skewed execs circuit other (row.Die x ∷ rows) n names all = same_refusal known test skewed execs circuit other rows
    (n + 1) names all
same_refusal known test skewed execs circuit other (row.Stop x ∷ rows) n names all = same_refusal known test skewed execs circuit other rows
    (n + 1) names all
same_refusal known test skewed execs circuit other (row.Bin x ∷ rows) n names all =
    same_front known test skewed execs circuit other n (row.Bin x) rows refl
    (same_refusal known test skewed execs circuit other rows (n + 1) names all)
same_refusal known test skewed execs circuit other (row.Skew x ∷ rows) n names all =
    same_front known test skewed execs circuit other n (row.Skew x) rows refl
    (same_refusal known test skewed execs circuit other rows (n + 1) names all)

-- where no signal is unbound, none is in any circuit
pub each-bound : (needs : List PinNeed) (circuits : List Circuit) → first_unbound needs circuits ≡ None →
    All (λ c. unbound_in (binds_of c needs) ≡ None) circuits
each-bound needs [] is = All-nil (λ (c : Circuit). unbound_in (binds_of c needs) ≡ None)
each-bound needs (c ∷ circuits) is =
    All-cons (λ (c : Circuit). unbound_in (binds_of c needs) ≡ None) c circuits
    (or_none (unbound_in (binds_of c needs)) (first_unbound needs circuits) is)
    (each-bound needs circuits (none_second (unbound_in (binds_of c needs)) (first_unbound needs circuits) is))

pub none-mapped : {X Y : Type 0} (f : X → Y) (o : Option X) → option_map f o ≡ None → o ≡ None
none-mapped f None is = refl
none-mapped f (Some x) is = cc
