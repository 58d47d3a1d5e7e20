-- What is written of vectors one after another, and of a loop.
use Rattle.std.proofs.Common.{◌≡◌, ℕ, zero, suc, ◌+◌, ◌*◌, ◌^◌, ◌<◌, ◌≤◌, List, [], ◌∷◌, ◌++◌, map, length, refl, sym, ap, subst, ◌∙◌, append_assoc, length-append, arith}
use Rattle.std.proofs.Math.Nat.{pow-succ'}
use Rattle.std.proofs.lemmas.List.{append-nil, map-append}
use Rattle.text_bytes.specs.Limits.{most_cycles, most_passes}
use Rattle.tester_types.specs.declared.wave.Table.{Table}
use Rattle.stil_ast.specs.Meaning.State.{Vector}
use Rattle.stil_ast.specs.Meaning.Running.{Made}
use Rattle.stil_ast.specs.Meaning.ExecutiveData.{distinct_rows}
use Rattle.packed_code.specs.declared.instr.Entry.{Entry}
use Rattle.packed_code.specs.declared.instr.Instr.{Instr}
use Rattle.packed_code.specs.declared.instr.Instr.TheVariants.{End}
use Rattle.packed_code.specs.Meaning.{repeated}
use Rattle.cycle_comp.specs.Entries.{AreEntries}
use Rattle.cycle_comp.specs.Writing.{Puts, Stands, looped, often, Wrote, row_in}
use Rattle.cycle_comp.proofs.BodyLemmas.{puts-nothing, puts-loop, nothing_puts, puts_means}
use Rattle.cycle_comp.proofs.StandLemmas.{stands-nothing, stands-loop}
use Rattle.cycle_comp.proofs.EntryLemmas.{entries-more, entries-append, entries-often, entries-none, map-often}
use Rattle.cycle_comp.proofs.RowsOnce.{distinct_rows-extends, distinct_rows-append, distinct_rows-often}
use Rattle.cycle_comp.proofs.FaultLemmas.{fine-append, fine-often}

-- the vectors, without their places
abbrev vectors_of : List Made → List Vector
vectors_of made = map (λ (m : Made). m.vector) made

-- ---- nothing, and more room

pub wrote-nothing : (tables : List Table) (first size : ℕ) (code : List Instr) (rows : List (List ℕ))
    → Wrote tables first [] size code code rows rows
wrote-nothing tables first size code rows = record {
  fine = tt;
  entries = [];
  are = tt;
  rows = refl;
  puts = λ cycles p. subst (λ (c : List Entry). Puts code c) (sym (append-nil cycles)) p;
  stands = λ nest fits few s. s;
  short = omega arith;
  silent = λ none. refl;
}

pub wrote-wider : (tables : List Table) (first : ℕ) (made : List Made) (size more : ℕ) (old new : List Instr)
    (before after : List (List ℕ)) → size ≤ more → Wrote tables first made size old new before after
    → Wrote tables first made more old new before after
wrote-wider tables first made size more old new before after fits w = record {
  fine = w.fine;
  entries = w.entries;
  are = w.are;
  rows = w.rows;
  puts = w.puts;
  stands = λ nest low few s. w.stands nest (omega (arith, low, fits)) few s;
  short = omega (arith, w.short, fits);
  silent = w.silent;
}

-- ---- one after another

-- entries that were written before stay right with the rows that are added
entries-later : (tables : List Table) (first : ℕ) (made : List Made) (rows after : List (List ℕ)) (vectors : List Vector)
    (entries : List Entry) → after ≡ distinct_rows rows (map row_in made) → AreEntries first rows vectors entries
    → AreEntries first after vectors entries
entries-later tables first made rows after vectors entries e are =
    let x = distinct_rows-extends rows (map row_in made) in
    subst (λ (rs : List (List ℕ)). AreEntries first rs vectors entries) (sym (e ∙ x.are))
    (entries-more first rows x.more vectors entries are)

-- no vectors in two lists are none in each
none_of : (made more : List Made) → made ++ more ≡ [] → (made ≡ []) × (more ≡ [])
none_of [] more e = (refl, e)
none_of (m ∷ made) more e = absurd cc

pub wrote-then : (tables : List Table) (first : ℕ) (made more : List Made) (m n : ℕ) (old mid new : List Instr)
    (before rows after : List (List ℕ)) → Wrote tables first made m old mid before rows
    → Wrote tables first more n mid new rows after → Wrote tables first (made ++ more) (m + n) old new before after
wrote-then tables first made more m n old mid new before rows after p q =
    let long = length-append made more in
    record {
      fine = fine-append tables made more p.fine q.fine;
      entries = p.entries ++ q.entries;
      are =
          subst (λ (vs : List Vector). AreEntries first after vs (p.entries ++ q.entries))
          (sym (map-append (λ (m : Made). m.vector) made more))
          (entries-append first after (vectors_of made) (vectors_of more) p.entries q.entries
          (entries-later tables first more rows after (vectors_of made) p.entries q.rows p.are) q.are);
      rows =
          q.rows
          ∙ (ap (λ (rs : List (List ℕ)). distinct_rows rs (map row_in more)) p.rows
          ∙ (sym (distinct_rows-append before (map row_in made) (map row_in more))
          ∙ ap (distinct_rows before) (sym (map-append row_in made more))));
      puts =
          λ cycles c. subst (λ (es : List Entry). Puts new es) (append_assoc cycles p.entries q.entries)
          (q.puts (cycles ++ p.entries) (p.puts cycles c));
      stands =
          λ nest low few s. q.stands nest (omega (arith, low)) (omega (arith, few, long))
          (p.stands nest (omega (arith, low)) (omega (arith, few, long)) s);
      short = omega (arith, p.short, q.short);
      silent =
          λ none. (let both = none_of made more none in q.silent both.1 ∙ p.silent both.0);
    }

-- ---- a loop

length-often : {A : Type 0} (n : ℕ) (xs : List A) → length (often n xs) ≡ n * length xs
unfolding often
length-often zero xs = omega arith
length-often (suc n) xs = length-append xs (often n xs) ∙ omega (arith, length-often n xs)

-- a product with something in it is no less than the other factor
factor-le : (n k : ℕ) → 0 < k → n ≤ n * k
factor-le n zero some = absurd (omega arith)
factor-le n (suc k) some = omega (arith, factor-more n k)
  where
    factor-more : (n k : ℕ) → n ≤ n * suc k
    factor-more n k = omega arith

-- what writes vectors isn't empty
pub body-some : (tables : List Table) (first : ℕ) (made : List Made) (size : ℕ) (body : List Instr) (before after : List (List ℕ))
    → 0 < length made → Wrote tables first made size [] body before after → 0 < length body
body-some tables first made size (i ∷ body) before after some w = omega arith
body-some tables first made size [] before after some w =
    let none : w.entries ≡ [] = nothing_puts w.entries (w.puts [] puts-nothing) in
    let no_vectors = entries-none first after (vectors_of made)
    (subst (λ (es : List Entry). AreEntries first after (vectors_of made) es) none w.are) in
    absurd (made_some made some no_vectors)
  where
    made_some : (made : List Made) → 0 < length made → vectors_of made ≡ [] → ⊥
    made_some [] some e = omega arith
    made_some (m ∷ made) some e = cc

-- a body within a level of loops less
halved : (nest size : ℕ) → 2 * size + 2 + 2 ≤ 2 ^ suc (suc nest) → size + 2 ≤ 2 ^ suc nest
halved nest size low = let twice : 2 ^ suc (suc nest) ≡ 2 * 2 ^ suc nest = pow-succ' 2 (suc nest) in omega (arith, low, twice)

stands-looped : (tables : List Table) (first : ℕ) (pass : List Made) (size n nest : ℕ) (code body : List Instr)
    (rows after : List (List ℕ)) → Wrote tables first pass size [] body rows after → 0 < n → n ≤ most_passes
    → 0 < length body → length pass ≤ most_cycles → 2 * size + 2 + 2 ≤ 2 ^ suc nest → Stands nest code
    → Stands nest (code ++ looped n body)
stands-looped tables first pass size n zero code body rows after w some few there short low s = absurd (omega (arith, low))
stands-looped tables first pass size n (suc nest) code body rows after w some few there short low s =
    stands-loop nest n code body some few there (w.stands nest (halved nest size low) short (stands-nothing nest)) s

pub wrote-loop : (tables : List Table) (first n size : ℕ) (made pass : List Made) (old code body : List Instr)
    (before rows after : List (List ℕ)) → 0 < n → 0 < length pass → Wrote tables first made size old code before rows
    → Wrote tables first pass size [] body rows after
    → Wrote tables first (made ++ often n pass) (2 * size + 2) old (code ++ looped n body) before after
wrote-loop tables first zero size made pass old code body before rows after some vectors p q = absurd (omega arith)
wrote-loop tables first (suc n) size made pass old code body before rows after some vectors p q =
    let there = body-some tables first pass size body rows after vectors q in
    let passes = often (suc n) pass in
    let long = length-append made passes in
    let many = length-often (suc n) pass in
    let more = factor-le (suc n) (length pass) vectors in
    let one = factor-le (length pass) (suc n) some in
    let long_code = length-append code (looped (suc n) body) in
    let long_body = length-append body (End ∷ []) in
    record {
      fine = fine-append tables made passes p.fine (fine-often tables (suc n) pass q.fine);
      entries = p.entries ++ repeated (suc n) q.entries;
      are =
          subst (λ (vs : List Vector). AreEntries first after vs (p.entries ++ repeated (suc n) q.entries))
          (sym (map-append (λ (m : Made). m.vector) made passes))
          (entries-append first after (vectors_of made) (vectors_of passes) p.entries (repeated (suc n) q.entries)
          (entries-later tables first pass rows after (vectors_of made) p.entries q.rows p.are)
          (subst (λ (vs : List Vector). AreEntries first after vs (repeated (suc n) q.entries))
          (sym (map-often (λ (m : Made). m.vector) (suc n) pass))
          (entries-often first after (suc n) (vectors_of pass) q.entries q.are)));
      rows =
          q.rows
          ∙ (sym (distinct_rows-often n rows (map row_in pass))
          ∙ (ap (distinct_rows rows) (sym (map-often row_in (suc n) pass))
          ∙ (ap (λ (rs : List (List ℕ)). distinct_rows rs (map row_in passes)) p.rows
          ∙ (sym (distinct_rows-append before (map row_in made) (map row_in passes))
          ∙ ap (distinct_rows before) (sym (map-append row_in made passes))))));
      puts =
          λ cycles c. subst (λ (es : List Entry). Puts (code ++ looped (suc n) body) es)
          (append_assoc cycles p.entries (repeated (suc n) q.entries))
          (puts-loop (suc n) code body (cycles ++ p.entries) q.entries (p.puts cycles c) (q.puts [] puts-nothing));
      stands =
          λ nest low few s. stands-looped tables first pass size (suc n) nest code body rows after q some
          (omega (arith, few, long, many, more)) there (omega (arith, few, long, many, one)) low
          (p.stands nest (omega (arith, low)) (omega (arith, few, long)) s);
      short = omega (arith, p.short, q.short, long_code, long_body);
      silent = λ none. absurd (omega (arith, ap length none, long, many, vectors));
    }

-- instructions put one list of cycles
puts_one : (code : List Instr) (cycles more : List Entry) → Puts code cycles → Puts code more → cycles ≡ more
puts_one code cycles more p q = sym (puts_means code cycles p) ∙ puts_means code more q

-- passes of which the first is written as the others are
pub wrote-once : (tables : List Table) (first n size : ℕ) (made pass : List Made) (old body : List Instr)
    (before rows after : List (List ℕ)) → 0 < n → 0 < length made → 0 < length pass
    → Wrote tables first made size [] body before rows → Wrote tables first pass size [] body rows after
    → Wrote tables first (made ++ often n pass) (2 * size + 2) old (old ++ looped (suc n) body) before after
unfolding repeated wrote-loop
wrote-once tables first zero size made pass old body before rows after some one vectors p q = absurd (omega arith)
wrote-once tables first (suc n) size made pass old body before rows after some one vectors p q =
    let w = wrote-loop tables first (suc n) size made pass [] body body before rows after some vectors p q in
    let same = puts_one body p.entries q.entries (p.puts [] puts-nothing) (q.puts [] puts-nothing) in
    let there = body-some tables first made size body before rows one p in
    let passes_long = length-append made (often (suc n) pass) in
    let many = length-often (suc n) pass in
    let more = factor-le (suc n) (length pass) vectors in
    let alone = factor-le (length pass) (suc n) some in
    let long_code = length-append old (looped (suc (suc n)) body) in
    let long_body = length-append body (End ∷ []) in
    record {
      fine = w.fine;
      entries = w.entries;
      are = w.are;
      rows = w.rows;
      puts =
          λ cycles c. subst (λ (es : List Entry). Puts (old ++ looped (suc (suc n)) body) (cycles ++ es))
          (ap (λ (es : List Entry). p.entries ++ repeated (suc n) es) same)
          (puts-loop (suc (suc n)) old body cycles p.entries c (p.puts [] puts-nothing));
      stands =
          λ nest low few s. stands-looped tables first pass size (suc (suc n)) nest old body rows after q (omega arith)
          (omega (arith, few, passes_long, many, more, one)) there (omega (arith, few, passes_long, many, alone)) low s;
      short = omega (arith, p.short, long_code, long_body);
      silent = λ none. absurd (omega (arith, ap length none, passes_long, one));
    }
