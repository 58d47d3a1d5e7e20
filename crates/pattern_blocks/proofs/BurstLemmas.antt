-- A burst that is read has its form.
use Rattle.std.proofs.Common.{◌≡◌, ℕ, ◌+◌, Bool, true, false, cond, nat_le, List, [], ◌∷◌, ◌++◌, Option, Some, None, is_some, not, Result, Ok, refl, sym, ap, subst, ◌∙◌, arith, append-nil}
use Rattle.std.specs.List.{list_all, list_any, count_by}
use Rattle.std.specs.Cmp.Derive.{both_true}
use Rattle.std.proofs.lemmas.Bool.{or_parts}
use Rattle.std.proofs.lemmas.List.{append_assoc, flat_map_more}
use Rattle.std.proofs.lemmas.List.Sums.{sum_by_push, sum_by-cons}
use Rattle.stil_tree.specs.Trees.{Entry}
use Rattle.answers.specs.Reading.{and_then, reading}
use Rattle.stil_form.specs.declared.fault.FormFault.{FormFault}
use Rattle.stil_form.specs.declared.fault.FormKind.TheVariants.{Twice}
use Rattle.stil_form.specs.Setting.{Setting, lexemes_at, line_at, at_statement, inner_of, unskipped}
use Rattle.stil_ast.specs.Data.Forms.{is_optional_name}
use Rattle.stil_ast.specs.Data.BlockForms.{is_burst, is_burst_name, is_burst_item, is_macros_word, is_procedures_word, is_scans_word, names_once}
use Rattle.stil_ast.specs.declared.executive.Burst.{Burst}
use Rattle.stil_ast.specs.declared.executive.BurstItem.{BurstItem}
use Rattle.stil_ast.specs.declared.executive.BurstWord.{BurstWord}
use Rattle.stil_ast.specs.declared.executive.BurstWord.TheVariants as word
use Rattle.pat_read.specs.Statements.{only_name}
use Rattle.block_forms.specs.Heads.{name_or_empty, rest_at, bare_block, named_block}
use Rattle.block_forms.specs.Keywords.{first_meaning}
use Rattle.pattern_blocks.specs.Bursts.{burst_words, item_on, stands_already, new_item, burst_name, named_item, where_empty, entry_item, entries_in, by_word, names_in, judge_burst, items_in, burst_called, burst_block}
use Rattle.pat_read.proofs.AcceptedLemmas.{said_at, list_all-one}
use Rattle.pat_read.proofs.AcceptedBodies.{is_name-only_name}
use Rattle.block_forms.proofs.AcceptedLemmas.{both_taken, kept_read, IsLined, HasLine, inner_lined}
use Rattle.block_forms.proofs.FormLemmas.{made_unless, said_so, is_name-named_block, is_optional_name-name_or_empty}

-- nothing before
none_plus : (n : ℕ) → 0 + n ≡ n
none_plus n = omega arith

-- where none passes, none is counted
none_counted : {X : Type 0} (p : X → Bool) (xs : List X) → list_any p xs ≡ false → count_by p xs ≡ 0
none_counted p [] is = refl
none_counted p (x ∷ xs) is =
    let parts = or_parts (p x) (list_any p xs) is in
    sum_by-cons (λ y. cond (p y) 1 0) x xs
    ∙ ap (λ (b : Bool). cond {A = ℕ} b 1 0 + count_by p xs) parts.0
    ∙ none_plus (count_by p xs) ∙ none_counted p xs parts.1

-- nothing is added
plus_none : (n : ℕ) → n + 0 ≡ n
plus_none n = omega arith

-- one more item, which passes where none did
counted_once : {X : Type 0} (p : X → Bool) (xs : List X) (x : X) (b : Bool) → p x ≡ b
    → nat_le (count_by p xs) 1 ≡ true → (b ≡ true → list_any p xs ≡ false)
    → nat_le (count_by p (xs ++ x ∷ [])) 1 ≡ true
counted_once p xs x true passes once none =
    ap (λ n. nat_le n 1) (sum_by_push (λ y. cond (p y) 1 0) xs x
    ∙ ap (λ n. n + cond {A = ℕ} (p x) 1 0) (none_counted p xs (none refl)) ∙ ap (λ (c : Bool). 0 + cond {A = ℕ} c 1 0) passes)
counted_once p xs x false passes once none =
    ap (λ n. nat_le n 1) (sum_by_push (λ y. cond (p y) 1 0) xs x
    ∙ ap (λ (c : Bool). count_by p xs + cond {A = ℕ} c 1 0) passes ∙ plus_none (count_by p xs)) ∙ once

-- the names of a burst have their form
abbrev Fit : List BurstItem → Type 0
Fit items =
    (list_all is_burst_item items ≡ true) × (names_once is_macros_word items ≡ true)
    × (names_once is_procedures_word items ≡ true) × (names_once is_scans_word items ≡ true)

-- a word of another kind passes no test
more_fit : (before : List BurstItem) (item : BurstItem) → Fit before → is_burst_item item ≡ true
    → (is_macros_word item.word ≡ true → list_any (λ (i : BurstItem). is_macros_word i.word) before ≡ false)
    → (is_procedures_word item.word ≡ true → list_any (λ (i : BurstItem). is_procedures_word i.word) before ≡ false)
    → (is_scans_word item.word ≡ true → list_any (λ (i : BurstItem). is_scans_word i.word) before ≡ false)
    → Fit (before ++ item ∷ [])
more_fit before item fit one macros procedures scans = (
  list_all-one is_burst_item before item fit.0 one,
  counted_once (λ (i : BurstItem). is_macros_word i.word) before item (is_macros_word item.word) refl fit.1 macros,
  counted_once (λ (i : BurstItem). is_procedures_word i.word) before item (is_procedures_word item.word) refl fit.2 procedures,
  counted_once (λ (i : BurstItem). is_scans_word i.word) before item (is_scans_word item.word) refl fit.3 scans,
)

-- one more name of a word that does not stand already
word_fits : (before : List BurstItem) (w : BurstWord) (called : List ℕ) (line : ℕ) → Fit before
    → is_burst_item (record { word = w; name = called; line = line }) ≡ true → stands_already w before ≡ false
    → Fit (before ++ record { word = w; name = called; line = line } ∷ [])
word_fits before word.SignalGroups called line fit one new =
    more_fit before (record { word = word.SignalGroups; name = called; line = line }) fit one (λ no_word. cc) (λ no_word. cc) (λ no_word. cc)
word_fits before word.MacroDefs called line fit one new =
    more_fit before (record { word = word.MacroDefs; name = called; line = line }) fit one (λ _. new) (λ no_word. cc) (λ no_word. cc)
word_fits before word.Procedures called line fit one new =
    more_fit before (record { word = word.Procedures; name = called; line = line }) fit one (λ no_word. cc) (λ _. new) (λ no_word. cc)
word_fits before word.ScanStructures called line fit one new =
    more_fit before (record { word = word.ScanStructures; name = called; line = line }) fit one (λ no_word. cc) (λ no_word. cc) (λ _. new)
word_fits before word.Entry called line fit one new =
    more_fit before (record { word = word.Entry; name = called; line = line }) fit one (λ no_word. cc) (λ no_word. cc) (λ no_word. cc)

-- what is said is one
ok_same : {X : Type 0} (x y : X) → ◌≡◌ {A = Result X FormFault} (Ok x) (Ok y) → x ≡ y
ok_same x y is = cc

-- a name behind a keyword other than a PatList's
abbrev IsPlain : BurstWord → Type 0
IsPlain w = (c : List ℕ) → is_optional_name c ≡ true → is_burst_name w c ≡ true

named_fits : (s : Setting) (before read : List BurstItem) (e : Entry) (w : BurstWord) → IsPlain w
    → HasLine s e → Fit before → named_item s before e w ≡ Ok read → Fit (before ++ read)
named_fits s before read e w plain lined fit is =
    let line = line_at s.tokens e.first in
    let outer = both_taken (at_statement e.first (burst_name s e)) (λ called.
    and_then (at_statement e.first (new_item before (item_on s e w called))) (λ item. Ok (item ∷ []))) read is in
    let item = item_on s e w outer.0 in
    let inner = both_taken (at_statement e.first (new_item before item)) (λ (x : BurstItem). Ok (x ∷ [])) read outer.2 in
    let called = is_optional_name-name_or_empty (rest_at s e) outer.0
    (said_so (not (is_some e.body)) (name_or_empty (rest_at s e)) outer.0 (said_at e.first (burst_name s e) outer.0 outer.1)) in
    let made = made_unless (stands_already w before) Twice item inner.0 (said_at e.first (new_item before item) inner.0 inner.1) in
    let same : item ∷ [] ≡ read = ap (λ (x : BurstItem). x ∷ []) made.1 ∙ ok_same (inner.0 ∷ []) read inner.2 in
    subst (λ (xs : List BurstItem). Fit (before ++ xs)) same
    (word_fits before w outer.0 line fit (both_true (plain outer.0 called) lined) made.0)

-- no statement stands in the block of an entry
nothing_inside : (es : List Entry) (item x : BurstItem) → where_empty es item ≡ Ok x → item ≡ x
nothing_inside [] item x is = cc
nothing_inside (e ∷ es) item x is = cc

-- an entry of a PatList
entry_fits : (s : Setting) (before : List BurstItem) (e : Entry) (x : BurstItem) → IsLined s e → Fit before
    → entry_item s e ≡ Ok x → Fit (before ++ x ∷ [])
entry_fits s before e x lined fit is =
    let parts = both_taken (at_statement e.first (only_name (lexemes_at s e)))
    (λ called. where_empty (unskipped s (inner_of e.body)) (item_on s e word.Entry called)) x is in
    let called = is_name-only_name (lexemes_at s e) parts.0 (said_at e.first (only_name (lexemes_at s e)) parts.0 parts.1) in
    let same = nothing_inside (unskipped s (inner_of e.body)) (item_on s e word.Entry parts.0) x parts.2 in
    subst (λ (i : BurstItem). Fit (before ++ i ∷ [])) same
    (word_fits before word.Entry parts.0 (line_at s.tokens e.first) fit (both_true called lined.0) refl)

-- a PatList
list_fits : (s : Setting) (before read : List BurstItem) (e : Entry) → IsLined s e → Fit before
    → entries_in s e ≡ Ok read → Fit (before ++ read)
list_fits s before read e lined fit is =
    let es = unskipped s (inner_of e.body) in
    let parts = both_taken (bare_block s e) (λ _. reading (λ _ inner. entry_item s inner) [] es) read is in
    kept_read (λ _ inner. entry_item s inner) (λ (xs : List BurstItem). Fit (before ++ xs)) (IsLined s)
    (λ xs inner x inner_line held one. subst Fit (append_assoc before xs (x ∷ [])) (entry_fits s (before ++ xs) inner x inner_line held one))
    [] read es (inner_lined s e lined) (subst Fit (sym (append-nil before)) fit) parts.2

-- a statement by its keyword
by_word_fits : (s : Setting) (before read : List BurstItem) (e : Entry) (o : Option BurstWord) → IsLined s e
    → Fit before → by_word s before e o ≡ Ok read → Fit (before ++ read)
by_word_fits s before read e None lined fit is = cc
by_word_fits s before read e (Some word.Entry) lined fit is = list_fits s before read e lined fit is
by_word_fits s before read e (Some w) lined fit is = named_fits s before read e w (λ c called. called) lined.0 fit is

-- one more statement
said_fits : (s : Setting) (before : List (List BurstItem)) (e : Entry) (read : List BurstItem) → IsLined s e
    → Fit (names_in before) → judge_burst s before e ≡ Ok read → Fit (names_in (before ++ read ∷ []))
said_fits s before e read lined fit is =
    subst Fit (flat_map_more (λ (items : List BurstItem). items) [] before read)
    (by_word_fits s (names_in before) read e (first_meaning burst_words (lexemes_at s e)) lined fit is)

-- a burst that is read has its form
pub burst_block-is : (s : Setting) (e : Entry) (b : Burst) → IsLined s e → burst_block s e ≡ Ok b
    → is_burst b ≡ true
burst_block-is s e b lined is =
    let es = unskipped s (inner_of e.body) in
    let outer = both_taken (named_block s e) (λ called. and_then (items_in s (inner_of e.body)) (λ items. Ok (burst_called called items))) b is in
    let called = is_name-named_block s e outer.0 outer.1 in
    let inner = both_taken (items_in s (inner_of e.body)) (λ items. Ok (burst_called outer.0 items)) b outer.2 in
    let all = both_taken (reading (judge_burst s) [] es) (λ said. Ok (names_in said)) inner.0 inner.1 in
    let held = kept_read (judge_burst s) (λ (said : List (List BurstItem)). Fit (names_in said)) (IsLined s) (said_fits s) [] all.0 es
    (inner_lined s e lined) (refl, refl, refl, refl) all.1 in
    let fit = subst Fit (ok_same (names_in all.0) inner.0 all.2) held in
    let same : burst_called outer.0 inner.0 ≡ b = cc in
    subst (λ (x : Burst). is_burst x ≡ true) same (both_true (both_true (both_true (both_true called fit.0) fit.1) fit.2) fit.3)
