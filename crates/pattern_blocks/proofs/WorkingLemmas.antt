-- What the code keeps from statement to statement comes to what the statements say, one by one.
use Rattle.std.proofs.Common.{◌≡◌, ℕ, Bool, true, false, cond, List, [], ◌∷◌, ◌++◌, Option, Some, None, is_some, Result, Ok, Err, refl, sym, ap, ◌∙◌, append-nil}
use Rattle.std.specs.Prelude.{slice_get}
use Rattle.std.proofs.lemmas.List.{append_assoc, flat_map_more}
use Rattle.std.proofs.lemmas.List.Elements.{filter_map-append}
use Rattle.answers.specs.Reading.{and_then, reading, stepping}
use Rattle.stil_tree.specs.Trees.{Entry}
use Rattle.stil_form.specs.declared.fault.FormFault.{FormFault}
use Rattle.stil_form.specs.declared.fault.FormKind.{FormKind}
use Rattle.stil_form.specs.declared.fault.FormKind.TheVariants.{Twice}
use Rattle.stil_form.specs.Setting.{Setting, lexemes_at, line_at, at_statement, inner_of, unskipped}
use Rattle.stil_ast.specs.declared.name.Named.{Named}
use Rattle.stil_ast.specs.declared.executive.BurstItem.{BurstItem}
use Rattle.stil_ast.specs.declared.executive.BurstWord.{BurstWord}
use Rattle.stil_ast.specs.declared.executive.BurstWord.TheVariants as names
use Rattle.pat_read.specs.Statements.{only_name}
use Rattle.block_forms.specs.Heads.{bare_block, titled_block}
use Rattle.block_forms.specs.Keywords.{first_meaning}
use Rattle.block_forms.specs.Named.{named_on}
use Rattle.pattern_blocks.specs.declared.executive.ExecWord.{ExecWord}
use Rattle.pattern_blocks.specs.declared.executive.ExecWord.TheVariants as word
use Rattle.pattern_blocks.specs.declared.executive.ExecParts.{ExecParts}
use Rattle.pattern_blocks.specs.Executives.{Said, exec_said, name_by, names_by, first_by, new_said, judge_exec, exec_by, exec_called, exec_in, exec_block}
use Rattle.pattern_blocks.specs.Bursts.{burst_words, item_on, stands_already, burst_name, new_item, named_item, where_empty, entry_item, entries_in, by_word, names_in, judge_burst, items_in}
use Rattle.pattern_blocks.specs.Working.{first_named, with_named, with_selector, with_timing, with_burst, exec_step, exec_with, executive_of, with_item, named_step, left_out, entry_step, list_step, word_step, burst_step}

-- ---- a state that is made from what was said

-- one statement, and those behind it
made_on : {X S E F : Type 0} (judge : List X → E → Result X F) (step : S → E → Result S F) (made : List X → S)
    (before : List X) (es : List E) (r : Result X F)
    → ((x : X) → stepping step (made (before ++ x ∷ [])) es
    ≡ and_then (reading judge (before ++ x ∷ []) es) (λ all. Ok (made all)))
    → and_then (and_then r (λ x. Ok (made (before ++ x ∷ [])))) (λ next. stepping step next es)
    ≡ and_then (and_then r (λ x. reading judge (before ++ x ∷ []) es)) (λ all. Ok (made all))
made_on judge step made before es (Ok x) rest = rest x
made_on judge step made before es (Err fault) rest = refl

-- where each step moves on what is made of those before, all come to what is made of all
stepping-made : {X S E F : Type 0} (judge : List X → E → Result X F) (step : S → E → Result S F) (made : List X → S)
    → ((before : List X) (e : E) → step (made before) e ≡ and_then (judge before e) (λ x. Ok (made (before ++ x ∷ []))))
    → (before : List X) (es : List E)
    → stepping step (made before) es ≡ and_then (reading judge before es) (λ all. Ok (made all))
stepping-made judge step made each before [] = refl
stepping-made judge step made each before (e ∷ es) =
    ap (λ r. and_then r (λ next. stepping step next es)) (each before e)
    ∙ made_on judge step made before es (judge before e) (λ x. stepping-made judge step made each (before ++ x ∷ []) es)

-- what is made of what a statement says
at_statement-made : {X Y : Type 0} (first : ℕ) (r : Result X FormKind) (made : X → Y)
    → at_statement first (and_then r (λ x. Ok (made x))) ≡ and_then (at_statement first r) (λ x. Ok (made x))
at_statement-made first (Ok x) made = refl
at_statement-made first (Err kind) made = refl

-- ---- executives

-- one more statement of another keyword
names_by-other : (w : ExecWord) (before : List Said) (one : Said) → name_by w one ≡ None
    → names_by w (before ++ one ∷ []) ≡ names_by w before
names_by-other w before one is =
    filter_map-append (name_by w) before (one ∷ [])
    ∙ (rw is refl)
    ∙ append-nil (names_by w before)

first_by-other : (w : ExecWord) (before : List Said) (one : Said) → name_by w one ≡ None
    → first_by w (before ++ one ∷ []) ≡ first_by w before
first_by-other w before one is = ap (λ (ns : List Named). slice_get ns 0) (names_by-other w before one is)

-- one more of this
names_by-one : (w : ExecWord) (before : List Said) (one : Said) (n : Named) → name_by w one ≡ Some n
    → names_by w (before ++ one ∷ []) ≡ names_by w before ++ n ∷ []
names_by-one w before one n is = filter_map-append (name_by w) before (one ∷ []) ∙ (rw is refl)

-- behind none a name is the first
first_behind : (ns : List Named) (n : Named) → slice_get ns 0 ≡ None → slice_get (ns ++ n ∷ []) 0 ≡ Some n
first_behind [] n none = refl
first_behind (m ∷ ns) n none = cc

first_by-one : (w : ExecWord) (before : List Said) (one : Said) (n : Named) → name_by w one ≡ Some n
    → first_by w before ≡ None → first_by w (before ++ one ∷ []) ≡ Some n
first_by-one w before one n is none =
    ap (λ (ns : List Named). slice_get ns 0) (names_by-one w before one n is) ∙ first_behind (names_by w before) n none

-- what statements name
abbrev parts_of : List Said → ExecParts
parts_of said = record {
  categories = names_by word.Category said;
  selector = first_by word.Selector said;
  timing = first_by word.Timing said;
  burst = first_by word.Burst said;
}

-- the same, by each part
parts_by : (said : List Said) (categories : List Named) (selector timing burst : Option Named)
    → names_by word.Category said ≡ categories → first_by word.Selector said ≡ selector
    → first_by word.Timing said ≡ timing → first_by word.Burst said ≡ burst
    → parts_of said ≡ record { categories = categories; selector = selector; timing = timing; burst = burst }
parts_by said categories selector timing burst c s t b = rw (c, s, t, b) refl

-- one more Category
category_parts : (n : Named) (before : List Said)
    → parts_of (before ++ (word.Category, n) ∷ [])
    ≡ record {
      categories = names_by word.Category before ++ n ∷ [];
      selector = first_by word.Selector before;
      timing = first_by word.Timing before;
      burst = first_by word.Burst before;
    }
category_parts n before =
    let one : Said = (word.Category, n) in
    parts_by (before ++ one ∷ []) _ _ _ _ (names_by-one word.Category before one n refl) (first_by-other word.Selector before one refl)
    (first_by-other word.Timing before one refl) (first_by-other word.Burst before one refl)

-- a Selector, a Timing, a PatternBurst, where there was none
selector_parts : (n : Named) (before : List Said) (o : Option Named) → first_by word.Selector before ≡ o
    → with_selector (parts_of before) (first_named o n)
    ≡ and_then (cond (is_some o) (Err Twice) (Ok (word.Selector, n))) (λ x. Ok (parts_of (before ++ x ∷ [])))
selector_parts n before (Some other) is = refl
selector_parts n before None is =
    let one : Said = (word.Selector, n) in
    ap Ok (sym (parts_by (before ++ one ∷ []) _ _ _ _ (names_by-other word.Category before one refl)
    (first_by-one word.Selector before one n refl is) (first_by-other word.Timing before one refl)
    (first_by-other word.Burst before one refl)))

timing_parts : (n : Named) (before : List Said) (o : Option Named) → first_by word.Timing before ≡ o
    → with_timing (parts_of before) (first_named o n)
    ≡ and_then (cond (is_some o) (Err Twice) (Ok (word.Timing, n))) (λ x. Ok (parts_of (before ++ x ∷ [])))
timing_parts n before (Some other) is = refl
timing_parts n before None is =
    let one : Said = (word.Timing, n) in
    ap Ok (sym (parts_by (before ++ one ∷ []) _ _ _ _ (names_by-other word.Category before one refl)
    (first_by-other word.Selector before one refl) (first_by-one word.Timing before one n refl is)
    (first_by-other word.Burst before one refl)))

burst_parts : (n : Named) (before : List Said) (o : Option Named) → first_by word.Burst before ≡ o
    → with_burst (parts_of before) (first_named o n)
    ≡ and_then (cond (is_some o) (Err Twice) (Ok (word.Burst, n))) (λ x. Ok (parts_of (before ++ x ∷ [])))
burst_parts n before (Some other) is = refl
burst_parts n before None is =
    let one : Said = (word.Burst, n) in
    ap Ok (sym (parts_by (before ++ one ∷ []) _ _ _ _ (names_by-other word.Category before one refl)
    (first_by-other word.Selector before one refl) (first_by-other word.Timing before one refl)
    (first_by-one word.Burst before one n refl is)))

-- one more name
with_named-made : (w : ExecWord) (n : Named) (before : List Said)
    → with_named (parts_of before) w n ≡ and_then (new_said before (w, n)) (λ x. Ok (parts_of (before ++ x ∷ [])))
with_named-made word.Category n before = ap Ok (sym (category_parts n before))
with_named-made word.Selector n before = selector_parts n before (first_by word.Selector before) refl
with_named-made word.Timing n before = timing_parts n before (first_by word.Timing before) refl
with_named-made word.Burst n before = burst_parts n before (first_by word.Burst before) refl

-- one more statement
told_made : (s : Setting) (before : List Said) (e : Entry) (r : Result (ExecWord × List ℕ) FormFault)
    → and_then r (λ told. at_statement e.first (with_named (parts_of before) told.0 (named_on s e told.1)))
    ≡ and_then (and_then r (λ told. at_statement e.first (new_said before (told.0, named_on s e told.1))))
    (λ x. Ok (parts_of (before ++ x ∷ [])))
told_made s before e (Ok told) =
    ap (at_statement e.first) (with_named-made told.0 (named_on s e told.1) before)
    ∙ at_statement-made e.first (new_said before (told.0, named_on s e told.1)) (λ x. parts_of (before ++ x ∷ []))
told_made s before e (Err fault) = refl

exec_step-made : (s : Setting) (before : List Said) (e : Entry)
    → exec_step s (parts_of before) e ≡ and_then (judge_exec s before e) (λ x. Ok (parts_of (before ++ x ∷ [])))
exec_step-made s before e = told_made s before e (at_statement e.first (exec_said (is_some e.body) (lexemes_at s e)))

-- an executive of what statements name
exec_with-made : (line : ℕ) (title : List ℕ) (said : List Said) (o : Option Named)
    → exec_with line title (parts_of said) o ≡ exec_by line title said o
exec_with-made line title said None = refl
exec_with-made line title said (Some burst) = refl

made_exec : (line first : ℕ) (title : List ℕ) (r : Result (List Said) FormFault)
    → and_then (and_then r (λ all. Ok (parts_of all))) (λ parts. at_statement first (exec_with line title parts parts.burst))
    ≡ and_then r (λ said. at_statement first (exec_called line title said))
made_exec line first title (Ok said) = ap (at_statement first) (exec_with-made line title said (first_by word.Burst said))
made_exec line first title (Err fault) = refl

-- an executive by what the code keeps
pub executive_of-exec_in : (s : Setting) (e : Entry) (title : List ℕ) → executive_of s e title ≡ exec_in s e title
executive_of-exec_in s e title =
    let line = line_at s.tokens e.first in
    let es = unskipped s (inner_of e.body) in
    ap (λ r. and_then r (λ parts. at_statement e.first (exec_with line title parts parts.burst)))
    (stepping-made (judge_exec s) (exec_step s) parts_of (exec_step-made s) [] es)
    ∙ made_exec line e.first title (reading (judge_exec s) [] es)

-- the same behind its title
pub executive_of-titled : (s : Setting) (e : Entry) (title : List ℕ) → titled_block s e ≡ Ok title
    → executive_of s e title ≡ exec_block s e
executive_of-titled s e title titled =
    executive_of-exec_in s e title ∙ sym (ap (λ (r : Result (List ℕ) FormFault). and_then r (exec_in s e)) titled)

-- ---- bursts

-- one more name
with_item-made : (before : List BurstItem) (item : BurstItem) (b : Bool)
    → cond {A = Result (List BurstItem) FormKind} b (Err Twice) (Ok (before ++ item ∷ []))
    ≡ and_then (cond b (Err Twice) (Ok item)) (λ x. Ok (before ++ x ∷ []))
with_item-made before item true = refl
with_item-made before item false = refl

-- one name in a list
listed : (before : List BurstItem) (r : Result BurstItem FormFault)
    → and_then r (λ x. Ok (before ++ x ∷ [])) ≡ and_then (and_then r (λ x. Ok (x ∷ []))) (λ xs. Ok (before ++ xs))
listed before (Ok x) = refl
listed before (Err fault) = refl

called_made : (s : Setting) (before : List BurstItem) (e : Entry) (w : BurstWord) (r : Result (List ℕ) FormFault)
    → and_then r (λ called. at_statement e.first (with_item before (item_on s e w called)))
    ≡ and_then (and_then r (λ called.
    and_then (at_statement e.first (new_item before (item_on s e w called))) (λ item. Ok (item ∷ []))))
    (λ xs. Ok (before ++ xs))
called_made s before e w (Err fault) = refl
called_made s before e w (Ok called) =
    let item = item_on s e w called in
    ap (at_statement e.first) (with_item-made before item (stands_already w before))
    ∙ at_statement-made e.first (new_item before item) (λ x. before ++ x ∷ [])
    ∙ listed before (at_statement e.first (new_item before item))

named_step-made : (s : Setting) (before : List BurstItem) (e : Entry) (w : BurstWord)
    → named_step s before e w ≡ and_then (named_item s before e w) (λ xs. Ok (before ++ xs))
named_step-made s before e w = called_made s before e w (at_statement e.first (burst_name s e))

-- an entry of a PatList
nothing_made : (before read : List BurstItem) (item : BurstItem) (es : List Entry)
    → stepping left_out ((before ++ read) ++ item ∷ []) es
    ≡ and_then (where_empty es item) (λ x. Ok (before ++ (read ++ x ∷ [])))
nothing_made before read item [] = ap Ok (append_assoc before read (item ∷ []))
nothing_made before read item (e ∷ es) = refl

entry_made : (s : Setting) (before read : List BurstItem) (e : Entry) (r : Result (List ℕ) FormFault)
    → and_then r (λ called.
    stepping left_out ((before ++ read) ++ item_on s e names.Entry called ∷ []) (unskipped s (inner_of e.body)))
    ≡ and_then (and_then r (λ called. where_empty (unskipped s (inner_of e.body)) (item_on s e names.Entry called)))
    (λ x. Ok (before ++ (read ++ x ∷ [])))
entry_made s before read e (Ok called) =
    nothing_made before read (item_on s e names.Entry called) (unskipped s (inner_of e.body))
entry_made s before read e (Err fault) = refl

entry_step-made : (s : Setting) (before read : List BurstItem) (e : Entry)
    → entry_step s (before ++ read) e ≡ and_then (entry_item s e) (λ x. Ok (before ++ (read ++ x ∷ [])))
entry_step-made s before read e = entry_made s before read e (at_statement e.first (only_name (lexemes_at s e)))

-- the entries of a PatList
entries_made : (s : Setting) (before : List BurstItem) (es : List Entry)
    → stepping (entry_step s) before es
    ≡ and_then (reading (λ _ inner. entry_item s inner) [] es) (λ xs. Ok (before ++ xs))
entries_made s before es =
    ap (λ (items : List BurstItem). stepping (entry_step s) items es) (sym (append-nil before))
    ∙ stepping-made (λ _ inner. entry_item s inner) (entry_step s) (λ xs. before ++ xs) (entry_step-made s before) [] es

bare_made : (s : Setting) (before : List BurstItem) (es : List Entry) (r : Result (List ℕ) FormFault)
    → and_then r (λ _. stepping (entry_step s) before es)
    ≡ and_then (and_then r (λ _. reading (λ _ inner. entry_item s inner) [] es)) (λ xs. Ok (before ++ xs))
bare_made s before es (Ok nothing) = entries_made s before es
bare_made s before es (Err fault) = refl

list_step-made : (s : Setting) (before : List BurstItem) (e : Entry)
    → list_step s before e ≡ and_then (entries_in s e) (λ xs. Ok (before ++ xs))
list_step-made s before e = bare_made s before (unskipped s (inner_of e.body)) (bare_block s e)

-- a statement by its keyword
word_step-made : (s : Setting) (before : List BurstItem) (e : Entry) (o : Option BurstWord)
    → word_step s before e o ≡ and_then (by_word s before e o) (λ xs. Ok (before ++ xs))
word_step-made s before e None = refl
word_step-made s before e (Some names.Entry) = list_step-made s before e
word_step-made s before e (Some w) = named_step-made s before e w

-- behind those before it
joined : (before : List (List BurstItem)) (r : Result (List BurstItem) FormFault)
    → and_then r (λ xs. Ok (names_in before ++ xs)) ≡ and_then r (λ xs. Ok (names_in (before ++ xs ∷ [])))
joined before (Ok xs) = ap Ok (flat_map_more (λ (items : List BurstItem). items) [] before xs)
joined before (Err fault) = refl

burst_step-made : (s : Setting) (before : List (List BurstItem)) (e : Entry)
    → burst_step s (names_in before) e ≡ and_then (judge_burst s before e) (λ xs. Ok (names_in (before ++ xs ∷ [])))
burst_step-made s before e =
    word_step-made s (names_in before) e (first_meaning burst_words (lexemes_at s e)) ∙ joined before (judge_burst s before e)

-- the names of a burst by what the code keeps
pub stepping-items_in : (s : Setting) (es : List Entry)
    → stepping (burst_step s) [] (unskipped s es) ≡ items_in s es
stepping-items_in s es = stepping-made (judge_burst s) (burst_step s) names_in (burst_step-made s) [] (unskipped s es)
