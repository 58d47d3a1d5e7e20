-- The selections of a block are those that the machine reads; and their names, as declared under no title.
use Rattle.std.proofs.Common.{◌≡◌, ℕ, Bool, true, false, cond, ◌&&◌, List, [], ◌∷◌, ◌++◌, map, Result, Ok, Err, refl, ◌∙◌}
use Rattle.text_bytes.proofs.ListLemmas.{list_any-map}
use Rattle.answers.specs.Reading.{and_then, reading, stepping}
use Rattle.stil_tree.specs.Trees.{Entry}
use Rattle.stil_form.specs.Setting.{Setting}
use Rattle.stil_form.specs.declared.fault.FormFault.{FormFault}
use Rattle.stil_form.specs.declared.fault.FormFault.TheVariants.{Refused}
use Rattle.stil_form.specs.declared.fault.FormKind.TheVariants.{Twice}
use Rattle.stil_ast.specs.Data.Texts.{same}
use Rattle.stil_ast.specs.declared.variable.Selection.{Selection}
use Rattle.block_forms.specs.Heads.{is_declared}
use Rattle.timing_blocks.specs.Selectors.{names_in, is_selected, selection_at, new_selection, judge_selection}
use Rattle.timing_blocks.specs.Working.{select_once, selection_step}
use Rattle.timing_blocks.proofs.MadeLemmas.{and_then_ok, stepping-made}

-- a name is declared where it is selected
pub is_declared-names_in : (selections : List Selection) (called : List ℕ)
    → is_declared (names_in selections) [] called ≡ is_selected selections called
is_declared-names_in selections called =
    list_any-map (λ (name : List ℕ). ([], name)) (λ (d : List ℕ × List ℕ). same d.0 [] && same d.1 called)
    (map (λ (c : Selection). c.name) selections)
    ∙ list_any-map (λ (c : Selection). c.name) (λ (name : List ℕ). same name called) selections

-- a selection is put behind those before it
selected_once : (before : List Selection) (e : Entry) (c : Selection) (b : Bool)
    → cond b (Err (Refused Twice e.first)) (Ok (before ++ c ∷ []))
    ≡ and_then (cond b (Err (Refused Twice e.first)) (Ok c)) (λ (x : Selection). Ok (before ++ x ∷ []))
selected_once before e c true = refl
selected_once before e c false = refl

selected_by : (before : List Selection) (e : Entry) (r : Result Selection FormFault)
    → and_then r (select_once before e) ≡ and_then (and_then r (new_selection before e)) (λ (x : Selection). Ok (before ++ x ∷ []))
selected_by before e (Ok c) = selected_once before e c (is_selected before c.name)
selected_by before e (Err fault) = refl

-- the machine comes to what is read
pub selections_computed : (s : Setting) (es : List Entry) → stepping (selection_step s) [] es ≡ reading (judge_selection s) [] es
selections_computed s es =
    stepping-made (selection_step s) (judge_selection s) (λ (all : List Selection). all)
    (λ before e. selected_by before e (selection_at s e)) [] es
    ∙ and_then_ok (reading (judge_selection s) [] es)
