-- Trees that are as good as each other stay so in whatever they stand.
use Rattle.std.proofs.Common.{◌≡◌, ℕ, zero, suc, ◌+◌, Bool, [], ◌∷◌, refl, ap, sym, ◌∙◌, arith}
use Rattle.stil_ast.specs.Data.Places.{Origin}
use Rattle.stil_ast.specs.Meaning.State.{State}
use Rattle.stil_ast.specs.Meaning.Flat.{Flat, table, character, back, cycle, repeat, save, saved, flat_run}
use Rattle.stil_ast.specs.Meaning.Flattening.{joined}
use Rattle.stil_ast.specs.Meaning.Least.{vectors_in, least_passes, least_loop, least_written}
use Rattle.stil_ast.specs.Meaning.Running.{Ran, behind, times}
use Rattle.stil_ast.specs.Meaning.ExecutiveData.{IsSameFlat}
use Rattle.stil_ast.proofs.RunLemmas.{then_run-same, times-same}
use Rattle.stil_ast.proofs.FlatSteps.{flat_run-joined}
use Rattle.flat_tree.proofs.FlatLemmas.{measure-joined, least_written-joined}

-- a tree behind what takes as few instructions and does the same
least-then : (first other : ℕ) (r q : Ran State) (c d : Flat) (base : State) → first ≡ other → r ≡ q
    → ((s : State) → least_written c base s ≡ least_written d base s)
    → first + least_written c base r.here ≡ other + least_written d base q.here
least-then first other r q c d base few same rest =
    ap (λ (n : ℕ). n + least_written c base r.here) few
    ∙ (ap (λ (x : Ran State). other + least_written c base x.here) same ∙ ap (λ (n : ℕ). other + n) (rest q.here))

-- a Loop of passes that take as few instructions and do the same
least_loop-same : (n : ℕ) (least fewest : State → ℕ) (run turn : State → Ran State)
    → ((s : State) → least s ≡ fewest s) → ((s : State) → run s ≡ turn s) → (s : State)
    → least_loop n least run s ≡ least_loop n fewest turn s
least_loop-same zero least fewest run turn few same s = refl
least_loop-same (suc zero) least fewest run turn few same s = few s
least_loop-same (suc (suc n)) least fewest run turn few same s =
    let now = turn s in
    let later = turn now.here in
    ap (λ (r : Ran State). least_passes (vectors_in r) (vectors_in (run r.here)) (least s) (least r.here)) (same s)
    ∙ (ap (λ (r : Ran State). least_passes (vectors_in now) (vectors_in r) (least s) (least now.here)) (same now.here)
    ∙ (ap (λ (k : ℕ). least_passes (vectors_in now) (vectors_in later) k (least now.here)) (few s)
    ∙ ap (least_passes (vectors_in now) (vectors_in later) (fewest s)) (few now.here)))

pub same-refl : (a : Flat) → IsSameFlat a a
same-refl a = record { runs = λ base s. refl; measure = refl; least = λ base s. refl }

pub same-trans : (a b c : Flat) → IsSameFlat a b → IsSameFlat b c → IsSameFlat a c
same-trans a b c p q =
    record {
      runs = λ base s. p.runs base s ∙ q.runs base s;
      measure = p.measure ∙ q.measure;
      least = λ base s. p.least base s ∙ q.least base s;
    }

pub same-joined : (a b c d : Flat) → IsSameFlat a b → IsSameFlat c d → IsSameFlat (joined a c) (joined b d)
same-joined a b c d p q =
    record {
      runs =
          λ base s. flat_run-joined a c base s
          ∙ (then_run-same (flat_run a base s) (flat_run b base s) (flat_run c base) (flat_run d base)
          (p.runs base s) (q.runs base)
          ∙ sym (flat_run-joined b d base s));
      measure = omega (arith, measure-joined a c, measure-joined b d, p.measure, q.measure);
      least =
          λ base s. least_written-joined a c base s
          ∙ (least-then (least_written a base s) (least_written b base s) (flat_run a base s) (flat_run b base s) c d base
          (p.least base s) (p.runs base s) (q.least base)
          ∙ sym (least_written-joined b d base s));
    }

pub same-repeat : (count : ℕ) (a b c d : Flat) → IsSameFlat a b → IsSameFlat c d
    → IsSameFlat (repeat count a c) (repeat count b d)
same-repeat count a b c d p q =
    record {
      runs =
          λ base s. then_run-same (times count (flat_run a base) s) (times count (flat_run b base) s)
          (flat_run c base) (flat_run d base)
          (times-same (flat_run a base) (flat_run b base) (p.runs base) count s) (q.runs base);
      measure = omega (arith, p.measure, q.measure);
      least =
          λ base s. least-then (least_loop count (least_written a base) (flat_run a base) s)
          (least_loop count (least_written b base) (flat_run b base) s)
          (times count (flat_run a base) s) (times count (flat_run b base) s) c d base
          (least_loop-same count (least_written a base) (least_written b base) (flat_run a base) (flat_run b base)
          (p.least base) (p.runs base) s)
          (times-same (flat_run a base) (flat_run b base) (p.runs base) count s) (q.least base);
    }

pub same-save : (putting : Bool) (a b c d : Flat) → IsSameFlat a b → IsSameFlat c d
    → IsSameFlat (save putting a c) (save putting b d)
same-save putting a b c d p q =
    record {
      runs =
          λ base s. then_run-same (saved putting s (flat_run a s s)) (saved putting s (flat_run b s s))
          (flat_run c base) (flat_run d base)
          (ap (saved putting s) (p.runs s s)) (q.runs base);
      measure = omega (arith, p.measure, q.measure);
      least =
          λ base s. least-then (least_written a s s) (least_written b s s)
          (saved putting s (flat_run a s s)) (saved putting s (flat_run b s s)) c d base
          (p.least s s) (ap (saved putting s) (p.runs s s)) (q.least base);
    }

pub same-table : (t : ℕ) (a b : Flat) → IsSameFlat a b → IsSameFlat (table t a) (table t b)
same-table t a b p = record { runs = λ base s. p.runs base _; measure = p.measure; least = λ base s. p.least base _ }

pub same-character : (signal c : ℕ) (a b : Flat) → IsSameFlat a b
    → IsSameFlat (character signal c a) (character signal c b)
same-character signal c a b p = record { runs = λ base s. p.runs base _; measure = p.measure; least = λ base s. p.least base _ }

pub same-back : (signal : ℕ) (a b : Flat) → IsSameFlat a b → IsSameFlat (back signal a) (back signal b)
same-back signal a b p = record { runs = λ base s. p.runs base _; measure = p.measure; least = λ base s. p.least base _ }

pub same-cycle : (mark : ℕ) (spot : Origin) (a b : Flat) → IsSameFlat a b
    → IsSameFlat (cycle mark spot a) (cycle mark spot b)
same-cycle mark spot a b p =
    record {
      runs =
          λ base s. ap (behind (record {
            vector = record { table = s.table; characters = s.characters; mark = mark };
            place = spot;
          } ∷ [])) (p.runs base s);
      measure = omega (arith, p.measure);
      least = λ base s. omega (arith, p.least base s);
    }
