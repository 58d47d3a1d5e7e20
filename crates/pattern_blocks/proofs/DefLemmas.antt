-- Patterns, macros and procedures that are read have their form, where the bodies that are read have theirs; no name
-- stands twice under a title.
use Rattle.std.proofs.Common.{◌≡◌, ℕ, true, false, List, [], ◌++◌, is_some, Ok, refl, sym, subst}
use Rattle.std.specs.Cmp.Derive.{both_true}
use Rattle.std.proofs.lemmas.List.{append-nil}
use Rattle.stil_tree.specs.Trees.{Entry}
use Rattle.answers.specs.Reading.{and_then}
use Rattle.stil_form.specs.Setting.{Setting, lexemes_at, at_statement, inner_of, unskipped}
use Rattle.stil_form.specs.declared.fault.FormKind.TheVariants.{Twice}
use Rattle.stil_ast.specs.Data.Texts.{is_name}
use Rattle.stil_ast.specs.Data.Written.{Written}
use Rattle.stil_ast.specs.Data.BlockForms.{is_body, is_body_def, is_def_block, is_pattern}
use Rattle.stil_ast.specs.declared.blocks.BodyDef.{BodyDef}
use Rattle.stil_ast.specs.declared.blocks.DefBlock.{DefBlock}
use Rattle.stil_ast.specs.declared.blocks.Pattern.{Pattern}
use Rattle.pat_read.specs.declared.reader.BodyPlace.{BodyPlace}
use Rattle.pat_read.specs.declared.reader.BodyPlace.TheVariants as place
use Rattle.pat_read.specs.Statements.{only_name}
use Rattle.block_forms.specs.Heads.{named_block, titled_block, is_declared, under}
use Rattle.block_forms.specs.Named.{Names}
use Rattle.pattern_blocks.specs.Defs.{body_in, pattern_called, pattern_block, def_called, names_of, def_name, new_name, new_def, def_said, judge_def, defs_in, defs_called, defs_block}
use Rattle.pat_read.proofs.AcceptedLemmas.{said_at}
use Rattle.pat_read.proofs.AcceptedBodies.{is_name-only_name}
use Rattle.block_forms.proofs.AcceptedLemmas.{both_taken, kept_each, kept_read, IsLined, inner_lined}
use Rattle.block_forms.proofs.FormLemmas.{made_unless, said_so, is_name-named_block, is_optional_name-titled_block}
use Rattle.block_forms.proofs.DeclaredForms.{Differ, under-more, Differ-push}

-- a pattern that is read has its form
pub pattern_block-is : (s : Setting) (e : Entry) (p : Pattern)
    → ((w : Written) → body_in s place.Pattern e ≡ Ok w → is_body true w ≡ true) → pattern_block s e ≡ Ok p
    → is_pattern p ≡ true
pattern_block-is s e p bodies is =
    let outer = both_taken (named_block s e) (λ called. and_then (body_in s place.Pattern e) (λ body. Ok (pattern_called called body))) p is in
    let called = is_name-named_block s e outer.0 outer.1 in
    let inner = both_taken (body_in s place.Pattern e) (λ body. Ok (pattern_called outer.0 body)) p outer.2 in
    let same_one : pattern_called outer.0 inner.0 ≡ p = cc in
    subst (λ (x : Pattern). is_pattern x ≡ true) same_one (both_true called (bodies inner.0 inner.1))

-- the name of a body is one, and is not declared
abbrev IsNew : Names → List ℕ → List ℕ → Type 0
IsNew declared title called = (is_name called ≡ true) × (is_declared declared title called ≡ false)

new_def-is : (s : Setting) (title : List ℕ) (declared : Names) (e : Entry) (c : List ℕ)
    → new_def s title declared e ≡ Ok c → IsNew declared title c
new_def-is s title declared e c is =
    let parts = both_taken (at_statement e.first (def_name s e)) (λ called. at_statement e.first (new_name declared title called)) c is in
    let called = is_name-only_name (lexemes_at s e) parts.0 (said_so (is_some e.body) (only_name (lexemes_at s e)) parts.0
    (said_at e.first (def_name s e) parts.0 parts.1)) in
    let new = made_unless (is_declared declared title parts.0) Twice parts.0 c (said_at e.first (new_name declared title parts.0) c parts.2) in
    subst (IsNew declared title) new.1 (called, new.0)

-- a body that is read has its form, and its name is not declared
abbrev Fits : Names → List ℕ → BodyDef → Type 0
Fits declared title d = (is_body_def d ≡ true) × (is_declared declared title d.name ≡ false)

def_fits : (s : Setting) (here : BodyPlace) (title : List ℕ) (declared : Names) (e : Entry) (d : BodyDef)
    → ((w : Written) → body_in s here e ≡ Ok w → is_body false w ≡ true)
    → def_said s here title declared e ≡ Ok d → Fits declared title d
def_fits s here title declared e d bodies is =
    let outer = both_taken (new_def s title declared e) (λ called. and_then (body_in s here e) (λ body. Ok (def_called called body))) d is in
    let new = new_def-is s title declared e outer.0 outer.1 in
    let inner = both_taken (body_in s here e) (λ body. Ok (def_called outer.0 body)) d outer.2 in
    let same_one : def_called outer.0 inner.0 ≡ d = cc in
    subst (Fits declared title) same_one (both_true new.0 (bodies inner.0 inner.1), new.1)

-- bodies of a place have their form
abbrev pub BodiesFit : Setting → BodyPlace → Type 0
BodiesFit s here = (e : Entry) (w : Written) → IsLined s e → body_in s here e ≡ Ok w → is_body false w ≡ true

-- a MacroDefs or Procedures block that is read has its form
pub defs_block-is : (s : Setting) (here : BodyPlace) (declared : Names) (e : Entry) (b : DefBlock)
    → BodiesFit s here → IsLined s e → defs_block s here declared e ≡ Ok b → is_def_block b ≡ true
defs_block-is s here declared e b bodies lined is =
    let outer = both_taken (titled_block s e) (λ title. and_then (defs_in s here title declared (inner_of e.body)) (λ read. Ok (defs_called title read))) b is in
    let titled = is_optional_name-titled_block s e outer.0 outer.1 in
    let inner = both_taken (defs_in s here outer.0 declared (inner_of e.body)) (λ read. Ok (defs_called outer.0 read)) b outer.2 in
    let each = kept_each (judge_def s here outer.0 declared) is_body_def (IsLined s)
    (λ before x d l i. (def_fits s here outer.0 (declared ++ under outer.0 (names_of before)) x d (λ w. bodies x w l) i).0)
    [] inner.0 (unskipped s (inner_of e.body)) (inner_lined s e lined) refl inner.1 in
    let same_one : defs_called outer.0 inner.0 ≡ b = cc in
    subst (λ (x : DefBlock). is_def_block x ≡ true) same_one (both_true titled each)

-- no name stands twice under a title behind a block where none did before
pub defs_block-differ : (s : Setting) (here : BodyPlace) (declared : Names) (e : Entry) (b : DefBlock)
    → BodiesFit s here → IsLined s e → Differ declared → defs_block s here declared e ≡ Ok b
    → Differ (declared ++ under b.name (names_of b.bodies))
defs_block-differ s here declared e b bodies lined differ is =
    let outer = both_taken (titled_block s e) (λ title. and_then (defs_in s here title declared (inner_of e.body)) (λ read. Ok (defs_called title read))) b is in
    let inner = both_taken (defs_in s here outer.0 declared (inner_of e.body)) (λ read. Ok (defs_called outer.0 read)) b outer.2 in
    let all = kept_read (judge_def s here outer.0 declared) (λ read. Differ (declared ++ under outer.0 (names_of read))) (IsLined s)
    (λ before x d l p i. subst Differ (under-more (λ (x : BodyDef). x.name) outer.0 declared before d)
    (Differ-push (declared ++ under outer.0 (names_of before)) outer.0 d.name p
    (def_fits s here outer.0 (declared ++ under outer.0 (names_of before)) x d (λ w. bodies x w l) i).1))
    [] inner.0 (unskipped s (inner_of e.body)) (inner_lined s e lined) (subst Differ (sym (append-nil declared)) differ) inner.1 in
    let same_one : defs_called outer.0 inner.0 ≡ b = cc in
    subst (λ (x : DefBlock). Differ (declared ++ under x.name (names_of x.bodies))) same_one all
