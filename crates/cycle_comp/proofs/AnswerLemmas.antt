-- What a pass answers that writes an item, a loop or a save.
use Rattle.std.proofs.Common.{◌≡◌, ℕ, ◌+◌, ◌*◌, Bool, true, false, List, Result, Ok, Err, refl, sym, ap, subst, ◌∙◌, arith}
use Rattle.tester_types.specs.declared.wave.Table.{Table}
use Rattle.stil_ast.specs.Meaning.State.{State, Vector}
use Rattle.stil_ast.specs.Meaning.Running.{still, times}
use Rattle.stil_ast.specs.Meaning.Flat.{Flat, done, repeat, save, saved, flat_run, measure}
use Rattle.flat_tree.specs.Items.{item_front}
use Rattle.flat_tree.specs.declared.steps.FlatItem.{FlatItem}
use Rattle.packed_code.specs.declared.instr.Entry.{Entry}
use Rattle.packed_code.specs.declared.instr.Instr.{Instr}
use Rattle.cycle_comp.specs.Known.{Known, IsKnown, Keeps, Moves}
use Rattle.cycle_comp.specs.Writing.{Walked, IsStopped, Trouble}
use Rattle.cycle_comp.specs.Passes.{entry_in, with_passes, written, IsExact, WroteAll, Writes}
use Rattle.cycle_comp.proofs.KnownLemmas.{known-later}
use Rattle.cycle_comp.proofs.WalkedLemmas.{walked-alone, walked-once, walked-save, stopped-alone, stopped-first, stopped-save}
use Rattle.cycle_comp.proofs.LoopLemmas.{walked-item_set, moves-none}
use Rattle.cycle_comp.proofs.ExactLemmas.{exact-one}

-- ---- items that write nothing

exact-item_set : (first : ℕ) (item x : FlatItem) (old : List Instr) (rows : List (List ℕ)) (base s : State) → item ≡ x
    → ((e : Vector → Entry) → written e (item_front x done) base s old ≡ old)
    → IsExact first (λ entry code. written entry (item_front item done) base s code) old old rows
exact-item_set first item x old rows base s is same = λ all on.
    let e = entry_in first all in
    sym (same e) ∙ ap (λ (y : FlatItem). written e (item_front y done) base s old) (sym is)

-- an item that sets something
pub written-item_set : (tables : List Table) (first : ℕ) (item x : FlatItem) (base next : State) (old new : Known)
    (code : List Instr) (rows : List (List ℕ)) → item ≡ x → flat_run (item_front x done) base old.told ≡ still next
    → ((e : Vector → Entry) → written e (item_front x done) base old.told code ≡ code) → new.told ≡ next
    → Keeps old new → Moves old new → IsKnown tables rows old
    → WroteAll tables first (flat_run (item_front item done) base old.told) (measure (item_front item done))
    (λ entry before. written entry (item_front item done) base old.told before) old new code code rows rows
written-item_set tables first item x base next old new code rows is runs same told keeps moves k = record {
  walked = walked-item_set tables first item x code rows base old.told next new.told is runs told;
  known = keeps tables rows k;
  moves = moves;
  exact = exact-item_set first item x code rows base old.told is same;
}

-- ---- loops

-- a loop, and nothing behind it
pub written-loop : (tables : List Table) (first count : ℕ) (body : Flat) (base : State) (old new : Known)
    (before after : List Instr) (rows more : List (List ℕ))
    → Walked tables first (times count (flat_run body base) old.told) (2 * measure body + 2) before after rows more new.told
    → IsKnown tables more new → Moves old new
    → IsExact first (λ entry code. with_passes count (written entry body base) (flat_run body base) old.told code)
    before after more
    → WroteAll tables first (flat_run (repeat count body done) base old.told) (measure (repeat count body done))
    (λ entry code. written entry (repeat count body done) base old.told code) old new before after rows more
written-loop tables first count body base old new before after rows more w k moves exact = record {
  walked =
      walked-alone tables first (times count (flat_run body base) old.told) (2 * measure body + 2) (2 * measure body + 2 + 0)
      before after rows more new.told (omega arith) w;
  known = k;
  moves = moves;
  exact = exact;
}

pub stopped-loop : (tables : List Table) (count : ℕ) (body : Flat) (base s : State) (t : Trouble)
    → IsStopped tables (times count (flat_run body base) s).made t
    → IsStopped tables (flat_run (repeat count body done) base s).made t
stopped-loop tables count body base s t stop = stopped-alone tables (times count (flat_run body base) s) t stop

-- a loop of one pass answers what its body does
pub writes-once : (tables : List Table) (first count : ℕ) (body : Flat) (base : State) (old new : Known)
    (before after : List Instr) (rows more : List (List ℕ)) (result : Result Unit Trouble) → count ≡ 1
    → Writes tables first body base old new before after rows more result
    → Writes tables first (repeat count body done) base old new before after rows more result
writes-once tables first count body base old new before after rows more (Ok x) one w =
    written-loop tables first count body base old new before after rows more
    (walked-once tables first count body before after rows more base old.told new.told one w.walked) w.known w.moves
    (exact-one first count body base old.told before after more one w.exact)
writes-once tables first count body base old new before after rows more (Err t) one stop =
    stopped-loop tables count body base old.told t
    (stopped-first tables count body base old.told t (omega (arith, one)) stop)

-- ---- saves

-- what holds of both states that may be put behind a save holds of the one that is
put_back : (P : Known → Type 0) (putting : Bool) (old behind here : Known) → (putting ≡ true → here ≡ old)
    → (putting ≡ false → here ≡ behind) → P old → P behind → P here
put_back P true old behind here put kept p q = subst P (sym (put refl)) p
put_back P false old behind here put kept p q = subst P (sym (kept refl)) q

pub written-save : (tables : List Table) (first : ℕ) (putting : Bool) (body : Flat) (base : State) (old behind here : Known)
    (before after : List Instr) (rows more : List (List ℕ)) → (putting ≡ true → here ≡ old)
    → (putting ≡ false → here ≡ behind) → IsKnown tables rows old
    → WroteAll tables first (flat_run body old.told old.told) (measure body)
    (λ entry code. written entry body old.told old.told code) old behind before after rows more
    → WroteAll tables first (flat_run (save putting body done) base old.told) (measure (save putting body done))
    (λ entry code. written entry (save putting body done) base old.told code) old here before after rows more
written-save tables first putting body base old behind here before after rows more put kept k w =
    let r = flat_run body old.told old.told in
    record {
      walked =
          walked-alone tables first (saved putting old.told r) (measure body) (measure body + 0) before after rows more
          here.told (omega arith)
          (walked-save tables first putting body (measure body) before after rows more old.told behind.told here.told
          (λ yes. ap (λ (x : Known). x.told) (put yes)) (λ no. ap (λ (x : Known). x.told) (kept no)) w.walked);
      known =
          put_back (λ (x : Known). IsKnown tables more x) putting old behind here put kept
          (known-later tables rows more r.made old w.walked.wrote.rows k) w.known;
      moves = put_back (λ (x : Known). Moves old x) putting old behind here put kept (moves-none old) w.moves;
      exact = w.exact;
    }

pub stopped-saved : (tables : List Table) (putting : Bool) (body : Flat) (base s : State) (t : Trouble)
    → IsStopped tables (flat_run body s s).made t → IsStopped tables (flat_run (save putting body done) base s).made t
stopped-saved tables putting body base s t stop =
    stopped-alone tables (saved putting s (flat_run body s s)) t
    (stopped-save tables putting s (flat_run body s s) t stop)
