-- Behind each Timing block the names of tables differ under each title, and there are at most 64.
use Rattle.std.proofs.Common.{◌≡◌, ℕ, arith, List, [], ◌∷◌, ◌++◌, Ok, refl, sym, subst, append-nil}
use Rattle.text_bytes.specs.Limits.{most_tables}
use Rattle.answers.specs.Reading.{reading}
use Rattle.stil_tree.specs.Trees.{Entry}
use Rattle.stil_form.specs.Setting.{Setting, line_at, inner_of, unskipped}
use Rattle.stil_ast.specs.declared.timing.TableDecl.{TableDecl}
use Rattle.stil_ast.specs.declared.timing.TimingBlock.{TimingBlock}
use Rattle.block_forms.specs.Heads.{titled_block, under}
use Rattle.timing_blocks.specs.Timings.{table_name, table_names, table_said, judge_table, timing_block}
use Rattle.pat_read.proofs.AcceptedLemmas.{both_ok, reading-keeps}
use Rattle.timing_blocks.proofs.TableLemmas.{name-table_of}
use Rattle.timing_blocks.proofs.TimingForms.{table_name-parts}
use Rattle.block_forms.proofs.DeclaredForms.{Differ, AtMost, under-more, Differ-push, AtMost-push}

-- names that differ under each title, of which there are at most 64
pub record AreTableNames (declared : List (List ℕ × List ℕ)) : Type 0 where
  pub differ : Differ declared
  pub within : AtMost most_tables declared

-- a table that was read keeps what names are
keeps_names : (s : Setting) (declared : List (List ℕ × List ℕ)) (title : List ℕ) (e : Entry) (x : TableDecl)
    → table_said s declared title e ≡ Ok x → AreTableNames declared → AreTableNames (declared ++ (title, x.name) ∷ [])
keeps_names s declared title e x is names =
    let both = both_ok (table_name s declared title e) _ x is in
    let parts = table_name-parts s declared title e both.given both.met in
    let called = name-table_of s both.given (line_at s.tokens e.first) (inner_of e.body) x both.made in
    subst (λ (n : List ℕ). AreTableNames (declared ++ (title, n) ∷ [])) (sym called)
    (record {
      differ = Differ-push declared title both.given names.differ parts.new.new;
      within = AtMost-push most_tables declared title both.given names.within parts.new.room;
    })

-- so do all tables of a Timing block
pub names-timing_block : (s : Setting) (declared : List (List ℕ × List ℕ)) (e : Entry) (timing : TimingBlock)
    → timing_block s declared e ≡ Ok timing → AreTableNames declared
    → AreTableNames (declared ++ under timing.name (table_names timing.tables))
names-timing_block s declared e timing is names =
    let outer = both_ok (titled_block s e) _ timing is in
    let title : List ℕ = outer.given in
    let es : List Entry = unskipped s (inner_of e.body) in
    let both = both_ok (reading (judge_table s declared title) [] es) _ timing outer.made in
    let same_block : record { name = title; tables = both.given } ≡ timing = cc in
    subst (λ (t : TimingBlock). AreTableNames (declared ++ under t.name (table_names t.tables))) same_block
    (reading-keeps (judge_table s declared title) (λ before. AreTableNames (declared ++ under title (table_names before)))
    (λ before one x judged held.
    subst AreTableNames (under-more (λ (t : TableDecl). t.name) title declared before x)
    (keeps_names s (declared ++ under title (table_names before)) title one x judged held))
    [] es both.given both.met (subst AreTableNames (sym (append-nil declared)) names))

-- nothing was declared
pub no_table_names : AreTableNames []
no_table_names = record { differ = λ title. refl; within = λ title. omega arith }
