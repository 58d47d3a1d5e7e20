-- What is written of a flat tree, step by step.
use Rattle.std.proofs.Common.{◌≡◌, ℕ, List, refl, sym, ap, subst, ◌∙◌}
use Rattle.tester_types.specs.declared.wave.Table.{Table}
use Rattle.stil_ast.specs.Meaning.State.{State}
use Rattle.stil_ast.specs.Meaning.Flat.{Flat, done, flat_run, measure}
use Rattle.stil_ast.specs.Meaning.Flattening.{joined}
use Rattle.flat_tree.specs.Items.{item_front}
use Rattle.flat_tree.specs.declared.steps.FlatItem.{FlatItem}
use Rattle.flat_tree.proofs.FlatLemmas.{joined-done, item_front-joined, front_more}
use Rattle.packed_code.specs.declared.instr.Instr.{Instr}
use Rattle.cycle_comp.specs.Writing.{Walked, IsStopped, Trouble}
use Rattle.cycle_comp.specs.Passes.{written, IsExact}
use Rattle.cycle_comp.proofs.WalkedLemmas.{walked-still}
use Rattle.cycle_comp.proofs.ListLemmas.{walked-joined, stopped-joined}
use Rattle.cycle_comp.proofs.ExactLemmas.{exact-joined}

-- a front of a tree has been written, and the rest of it is left
pub record IsWriting (tables : List Table) (first : ℕ) (all left : Flat) (base s : State) (old new : List Instr)
    (before rows : List (List ℕ)) (now : State) : Type 0 where
  pub front : Flat
  pub whole : joined front left ≡ all
  pub walked : Walked tables first (flat_run front base s) (measure front) old new before rows now
  pub exact : IsExact first (λ entry code. written entry front base s code) old new rows

-- nothing has been
pub writing_starts : (tables : List Table) (first : ℕ) (all left : Flat) (base s : State) (code : List Instr)
    (rows : List (List ℕ)) → left ≡ all → IsWriting tables first all left base s code code rows rows s
writing_starts tables first all left base s code rows e =
    record {
      front = done;
      whole = e;
      walked = walked-still tables first 0 code rows s s refl;
      exact = λ table on. refl;
    }

-- one item more has been
pub writing_goes_on : (tables : List Table) (first : ℕ) (all left after : Flat) (item : FlatItem) (base s : State)
    (old mid new : List Instr) (before rows later : List (List ℕ)) (now next : State) → left ≡ item_front item after
    → IsWriting tables first all left base s old mid before rows now
    → Walked tables first (flat_run (item_front item done) base now) (measure (item_front item done)) mid new rows later next
    → IsExact first (λ entry code. written entry (item_front item done) base now code) mid new later
    → IsWriting tables first all after base s old new before later next
writing_goes_on tables first all left after item base s old mid new before rows later now next is w walked exact =
    let last = item_front item done in
    record {
      front = joined w.front last;
      whole = front_more w.front left after all item w.whole is;
      walked = walked-joined tables first w.front last base s old mid new before rows later now next w.walked walked;
      exact =
          exact-joined first w.front last base s old mid new (flat_run last base now).made rows later now
          w.walked.here_is walked.wrote.rows w.exact exact;
    }

-- the next item stops it
pub writing_stops : (tables : List Table) (first : ℕ) (all left after : Flat) (item : FlatItem) (base s : State)
    (old mid : List Instr) (before rows : List (List ℕ)) (now : State) (t : Trouble) → left ≡ item_front item after
    → IsWriting tables first all left base s old mid before rows now
    → IsStopped tables (flat_run (item_front item done) base now).made t
    → IsStopped tables (flat_run all base s).made t
writing_stops tables first all left after item base s old mid before rows now t is w stop =
    let last = item_front item done in
    subst (λ (f : Flat). IsStopped tables (flat_run f base s).made t)
    (ap (joined w.front) (item_front-joined item done after ∙ sym is) ∙ w.whole)
    (stopped-joined tables first w.front last after base s (measure w.front) old mid before rows now t w.walked stop)

-- nothing is left
all_written : (tables : List Table) (first : ℕ) (all left : Flat) (base s : State) (old new : List Instr)
    (before rows : List (List ℕ)) (now : State) → left ≡ done
    → (w : IsWriting tables first all left base s old new before rows now) → w.front ≡ all
all_written tables first all left base s old new before rows now none w =
    sym (joined-done w.front) ∙ (ap (joined w.front) (sym none) ∙ w.whole)

pub writing_walked : (tables : List Table) (first : ℕ) (all left : Flat) (base s : State) (old new : List Instr)
    (before rows : List (List ℕ)) (now : State) → left ≡ done
    → IsWriting tables first all left base s old new before rows now
    → Walked tables first (flat_run all base s) (measure all) old new before rows now
writing_walked tables first all left base s old new before rows now none w =
    subst (λ (f : Flat). Walked tables first (flat_run f base s) (measure f) old new before rows now)
    (all_written tables first all left base s old new before rows now none w) w.walked

pub writing_exact : (tables : List Table) (first : ℕ) (all left : Flat) (base s : State) (old new : List Instr)
    (before rows : List (List ℕ)) (now : State) → left ≡ done
    → IsWriting tables first all left base s old new before rows now
    → IsExact first (λ entry code. written entry all base s code) old new rows
writing_exact tables first all left base s old new before rows now none w =
    subst (λ (f : Flat). IsExact first (λ entry code. written entry f base s code) old new rows)
    (all_written tables first all left base s old new before rows now none w) w.exact
