-- An executive that is read has its form.
use Rattle.std.proofs.Common.{◌≡◌, ℕ, Bool, true, ◌&&◌, not, List, [], ◌∷◌, Option, Some, None, is_some, Result, Ok, Err, refl, sym, subst}
use Rattle.std.specs.Prelude.{slice_get}
use Rattle.std.specs.List.{list_all, cons_option}
use Rattle.std.specs.Cmp.Derive.{both_true}
use Rattle.std.proofs.lemmas.Bool.{and_parts}
use Rattle.stil_tree.specs.Trees.{Entry}
use Rattle.stil_form.specs.declared.fault.FormKind.{FormKind}
use Rattle.stil_form.specs.declared.fault.FormKind.TheVariants.{Twice}
use Rattle.stil_form.specs.Lexeme.{Lexeme}
use Rattle.stil_form.specs.Setting.{Setting, lexemes_at, line_at, at_statement, inner_of, unskipped}
use Rattle.stil_ast.specs.Data.Texts.{is_name}
use Rattle.stil_ast.specs.Data.Forms.{is_line, is_absent_or, is_optional_name, is_named, is_optionally_named}
use Rattle.stil_ast.specs.Data.BlockForms.{is_exec_decl}
use Rattle.stil_ast.specs.declared.name.Named.{Named}
use Rattle.stil_ast.specs.declared.executive.ExecDecl.{ExecDecl}
use Rattle.pattern_blocks.specs.declared.executive.ExecWord.{ExecWord}
use Rattle.pattern_blocks.specs.declared.executive.ExecWord.TheVariants as word
use Rattle.answers.specs.Reading.{reading}
use Rattle.block_forms.specs.Heads.{titled_block}
use Rattle.block_forms.specs.Named.{named_on}
use Rattle.block_forms.specs.Keywords.{meaning}
use Rattle.pattern_blocks.specs.Executives.{exec_words, name_behind, with_name, by_word, exec_said, Said, name_by, names_by, first_by, stands_already, new_said, judge_exec, exec_by, exec_called, exec_in, exec_block}
use Rattle.pat_read.proofs.AcceptedLemmas.{said_at}
use Rattle.pat_read.proofs.AcceptedBodies.{is_name-only_name}
use Rattle.block_forms.proofs.AcceptedLemmas.{both_taken, kept_each, IsLined, inner_lined}
use Rattle.block_forms.proofs.FormLemmas.{made_unless, said_so, is_optional_name-name_or_empty, is_optional_name-titled_block}

-- what a name behind a keyword is
abbrev fits_word : ExecWord → List ℕ → Bool
fits_word word.Category called = is_name called
fits_word word.Selector called = is_name called
fits_word word.Timing called = is_optional_name called
fits_word word.Burst called = is_name called

-- the name behind a keyword is one
behind_is : (found : ExecWord) (rest : List Lexeme) (c : List ℕ) → name_behind found rest ≡ Ok c
    → fits_word found c ≡ true
behind_is word.Category rest c is = is_name-only_name rest c is
behind_is word.Selector rest c is = is_name-only_name rest c is
behind_is word.Timing rest c is = is_optional_name-name_or_empty rest c is
behind_is word.Burst rest c is = is_name-only_name rest c is

-- a keyword with its name
with_name-is : (found : ExecWord) (r : Result (List ℕ) FormKind) (said : ExecWord × List ℕ)
    → ((c : List ℕ) → r ≡ Ok c → fits_word found c ≡ true) → with_name found r ≡ Ok said
    → fits_word said.0 said.1 ≡ true
with_name-is found (Ok c) said each is =
    let same : ◌≡◌ {A = ExecWord × List ℕ} (found, c) said = cc in
    subst (λ (x : ExecWord × List ℕ). fits_word x.0 x.1 ≡ true) same (each c refl)
with_name-is found (Err kind) said each is = cc

-- a statement's keyword and name
by_word-is : (o : Option ExecWord) (b : Bool) (rest : List Lexeme) (said : ExecWord × List ℕ)
    → by_word o b rest ≡ Ok said → fits_word said.0 said.1 ≡ true
by_word-is None b rest said is = cc
by_word-is (Some found) b rest said is =
    with_name-is found (name_behind found rest) said (behind_is found rest)
    (said_so (not b) (with_name found (name_behind found rest)) said is)

exec_said-is : (b : Bool) (ls : List Lexeme) (said : ExecWord × List ℕ)
    → exec_said b ls ≡ Ok said → fits_word said.0 said.1 ≡ true
exec_said-is b [] said is = cc
exec_said-is b (one ∷ rest) said is = by_word-is (meaning exec_words one) b rest said is

-- what a statement says has its form
abbrev fits : Said → Bool
fits said = fits_word said.0 said.1.name && is_line said.1.line

said_fits : (s : Setting) (before : List Said) (e : Entry) (x : Said) → IsLined s e → judge_exec s before e ≡ Ok x
    → fits x ≡ true
said_fits s before e x lined is =
    let head = exec_said (is_some e.body) (lexemes_at s e) in
    let parts = both_taken (at_statement e.first head) (λ told. at_statement e.first (new_said before (told.0, named_on s e told.1))) x is in
    let one : Said = (parts.0.0, named_on s e parts.0.1) in
    let called = exec_said-is (is_some e.body) (lexemes_at s e) parts.0 (said_at e.first head parts.0 parts.1) in
    let made = made_unless (stands_already parts.0.0 before) Twice one x (said_at e.first (new_said before one) x parts.2) in
    subst (λ (y : Said). fits y ≡ true) made.1 (both_true called lined.0)

-- a name that a keyword stands before
name_by-is : (w : ExecWord) (x : Said) (n : Named) → name_by w x ≡ Some n → ◌≡◌ {A = Said} (w, n) x
name_by-is word.Category (word.Category, named) n is = cc
name_by-is word.Category (other, named) n is = cc
name_by-is word.Selector (word.Selector, named) n is = cc
name_by-is word.Selector (other, named) n is = cc
name_by-is word.Timing (word.Timing, named) n is = cc
name_by-is word.Timing (other, named) n is = cc
name_by-is word.Burst (word.Burst, named) n is = cc
name_by-is word.Burst (other, named) n is = cc

-- the names behind a keyword have its form
abbrev test_of : ExecWord → Named → Bool
test_of w n = fits_word w n.name && is_line n.line

one_more : (w : ExecWord) (x : Said) (ns : List Named) (o : Option Named) → name_by w x ≡ o → fits x ≡ true
    → list_all (test_of w) ns ≡ true → list_all (test_of w) (cons_option o ns) ≡ true
one_more w x ns None is fit rest = rest
one_more w x ns (Some n) is fit rest =
    both_true (subst (λ (y : Said). fits y ≡ true) (sym (name_by-is w x n is)) fit) rest

names_fit : (w : ExecWord) (said : List Said) → list_all fits said ≡ true → list_all (test_of w) (names_by w said) ≡ true
names_fit w [] each = refl
names_fit w (x ∷ said) each =
    let both = and_parts (fits x) (list_all fits said) each in
    one_more w x (names_by w said) (name_by w x) refl both.0 (names_fit w said both.1)

-- and the first of them
first_fits : (test : Named → Bool) (ns : List Named) → list_all test ns ≡ true → is_absent_or test (slice_get ns 0) ≡ true
first_fits test [] each = refl
first_fits test (n ∷ ns) each = (and_parts (test n) (list_all test ns) each).0

-- an executive of what fits
by_fits : (line : ℕ) (title : List ℕ) (said : List Said) (burst : Option Named) (d : ExecDecl)
    → is_line line ≡ true → is_optional_name title ≡ true → list_all fits said ≡ true → is_absent_or is_named burst ≡ true
    → exec_by line title said burst ≡ Ok d → is_exec_decl d ≡ true
by_fits line title said None d lined titled fit named is = cc
by_fits line title said (Some burst) d lined titled fit named is =
    let same : record {
      name = title;
      categories = names_by word.Category said;
      selector = first_by word.Selector said;
      timing = first_by word.Timing said;
      burst = burst;
      line = line;
    } ≡ d = cc in
    let category = names_fit word.Category said fit in
    let selector = first_fits is_named (names_by word.Selector said) (names_fit word.Selector said fit) in
    let timing = first_fits is_optionally_named (names_by word.Timing said) (names_fit word.Timing said fit) in
    subst (λ (x : ExecDecl). is_exec_decl x ≡ true) same
    (both_true (both_true (both_true (both_true (both_true titled category) selector) timing) named) lined)

-- an executive that is read has its form
pub exec_block-is : (s : Setting) (e : Entry) (d : ExecDecl) → IsLined s e → exec_block s e ≡ Ok d
    → is_exec_decl d ≡ true
exec_block-is s e d lined is =
    let line = line_at s.tokens e.first in
    let es = unskipped s (inner_of e.body) in
    let outer = both_taken (titled_block s e) (exec_in s e) d is in
    let titled = is_optional_name-titled_block s e outer.0 outer.1 in
    let inner = both_taken (reading (judge_exec s) [] es)
    (λ said. at_statement e.first (exec_called line outer.0 said)) d outer.2 in
    let fit = kept_each (judge_exec s) fits (IsLined s) (said_fits s) [] inner.0 es (inner_lined s e lined) refl inner.1 in
    by_fits line outer.0 inner.0 (first_by word.Burst inner.0) d lined.0 titled fit
    (first_fits is_named (names_by word.Burst inner.0) (names_fit word.Burst inner.0 fit))
    (said_at e.first (exec_called line outer.0 inner.0) d inner.2)
