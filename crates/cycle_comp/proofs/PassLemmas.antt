-- What is written of the passes of a loop whose first two were written into lists of their own.
use Rattle.std.proofs.Common.{◌≡◌, ℕ, zero, suc, ◌+◌, ◌*◌, ◌<◌, Bool, true, false, cond, List, [], ◌∷◌, ◌++◌, length, refl, sym, ap, subst, ◌∙◌, append_assoc, length-append, arith}
use Rattle.std.proofs.lemmas.List.{append-nil}
use Rattle.tester_types.specs.declared.wave.Table.{Table}
use Rattle.stil_ast.specs.Meaning.Running.{Made}
use Rattle.packed_code.specs.declared.instr.Instr.{Instr}
use Rattle.cycle_comp.specs.Writing.{looped, often, Wrote}
use Rattle.cycle_comp.specs.Passes.{same_code, later_passes, passes}
use Rattle.cycle_comp.proofs.BodyLemmas.{puts-nothing, puts-append}
use Rattle.cycle_comp.proofs.StandLemmas.{stands-nothing, stands-append}
use Rattle.cycle_comp.proofs.SameLemmas.{same_code-true}
use Rattle.cycle_comp.proofs.WroteLemmas.{wrote-nothing, wrote-wider, wrote-then, wrote-loop, wrote-once, body-some}

-- ---- a list of its own

-- what was written into a list of its own stands behind others
pub wrote-apart : (tables : List Table) (first size : ℕ) (made : List Made) (old more : List Instr)
    (before after : List (List ℕ)) → Wrote tables first made size [] more before after
    → Wrote tables first made size old (old ++ more) before after
wrote-apart tables first size made old more before after w =
    let long = length-append old more in
    record {
      fine = w.fine;
      entries = w.entries;
      are = w.are;
      rows = w.rows;
      puts = λ cycles c. puts-append old more cycles w.entries c (w.puts [] puts-nothing);
      stands = λ nest low few s. stands-append nest old more s (w.stands nest low few (stands-nothing nest));
      short = omega (arith, w.short, long);
      silent = λ none. (ap (λ (code : List Instr). old ++ code) (w.silent none) ∙ append-nil old);
    }

-- ---- loops

-- passes that are all alike
pub wrote-alike : (tables : List Table) (first n size : ℕ) (pass : List Made) (old body : List Instr)
    (before rows : List (List ℕ)) → 0 < n → 0 < length pass → Wrote tables first pass size [] body before rows
    → Wrote tables first (often n pass) (2 * size + 2) old (old ++ looped n body) before rows
wrote-alike tables first n size pass old body before rows some vectors w =
    wrote-loop tables first n size [] pass old old body before before rows some vectors
    (wrote-nothing tables first size old before) w

-- the first pass apart, and behind it the others
wrote-others : (tables : List Table) (first n size : ℕ) (made pass : List Made) (old one second : List Instr)
    (before rows after : List (List ℕ)) → 0 < length pass
    → Wrote tables first made size [] one before rows → Wrote tables first pass size [] second rows after
    → Wrote tables first (made ++ often (suc n) pass) (2 * size + 2) old (old ++ (one ++ later_passes n second)) before after
unfolding often
wrote-others tables first zero size made pass old one second before rows after vectors p q =
    let front = wrote-apart tables first size made old one before rows p in
    let behind = wrote-apart tables first size pass (old ++ one) second rows after q in
    let both = wrote-then tables first made pass size size old (old ++ one) ((old ++ one) ++ second) before rows after front behind in
    subst (λ (vs : List Made). Wrote tables first (made ++ vs) (2 * size + 2) old (old ++ (one ++ second)) before after)
    (sym (append-nil pass))
    (subst (λ (code : List Instr). Wrote tables first (made ++ pass) (2 * size + 2) old code before after)
    (append_assoc old one second)
    (wrote-wider tables first (made ++ pass) (size + size) (2 * size + 2) old ((old ++ one) ++ second) before after
    (omega arith) both))
wrote-others tables first (suc n) size made pass old one second before rows after vectors p q =
    let front = wrote-apart tables first size made old one before rows p in
    subst (λ (code : List Instr). Wrote tables first (made ++ often (suc (suc n)) pass) (2 * size + 2) old code before after)
    (append_assoc old one (looped (suc (suc n)) second))
    (wrote-loop tables first (suc (suc n)) size made pass old (old ++ one) second before rows after (omega arith) vectors front q)

-- two passes and so many, where the first two were written into lists of their own
pub wrote-passes : (tables : List Table) (first n size : ℕ) (made pass : List Made) (old one second : List Instr)
    (before rows after : List (List ℕ)) → 0 < length made → 0 < length pass
    → Wrote tables first made size [] one before rows → Wrote tables first pass size [] second rows after
    → Wrote tables first (made ++ often (suc n) pass) (2 * size + 2) old (old ++ passes n one second) before after
wrote-passes tables first n size made pass old [] second before rows after some vectors p q =
    absurd (omega (arith, body-some tables first made size [] before rows some p))
wrote-passes tables first n size made pass old (i ∷ one) second before rows after some vectors p q =
    step (same_code (i ∷ one) second) refl
  where
    step : (b : Bool) → same_code (i ∷ one) second ≡ b
        → Wrote tables first (made ++ often (suc n) pass) (2 * size + 2) old
        (old ++ cond b (looped (suc (suc n)) (i ∷ one)) ((i ∷ one) ++ later_passes n second)) before after
    step true e =
        wrote-once tables first (suc n) size made pass old (i ∷ one) before rows after (omega arith) some vectors p
        (subst (λ (code : List Instr). Wrote tables first pass size [] code rows after)
        (sym (same_code-true (i ∷ one) second e)) q)
    step false e = wrote-others tables first n size made pass old (i ∷ one) second before rows after vectors p q
