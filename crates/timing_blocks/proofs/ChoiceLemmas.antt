-- The texts of a variable's block are those that the machine reads.
use Rattle.std.proofs.Common.{◌≡◌, ℕ, ◌+◌, Bool, true, false, cond, List, [], ◌∷◌, ◌++◌, Option, Some, None, is_some, option_map, Result, Ok, Err, refl, ap, sym, ◌∙◌}
use Rattle.std.specs.List.{find}
use Rattle.std.specs.Option.{option_or}
use Rattle.std.proofs.lemmas.List.Folds.{find-append}
use Rattle.answers.specs.Reading.{and_then, reading, stepping}
use Rattle.stil_tree.specs.Trees.{Entry}
use Rattle.stil_form.specs.Setting.{Setting}
use Rattle.stil_form.specs.declared.fault.FormFault.{FormFault}
use Rattle.stil_form.specs.declared.fault.FormFault.TheVariants.{Refused}
use Rattle.stil_form.specs.declared.fault.FormKind.TheVariants.{Twice}
use Rattle.stil_ast.specs.Meaning.Variables.{chosen_of}
use Rattle.stil_ast.specs.declared.name.Quoted.{Quoted}
use Rattle.stil_ast.specs.declared.variable.Choice.{Choice}
use Rattle.stil_ast.specs.declared.variable.Choice.TheVariants.{Min, Typ, Max, Meas}
use Rattle.stil_ast.specs.declared.variable.Choices.{Choices}
use Rattle.block_forms.specs.Quotes.{quoted_at}
use Rattle.timing_blocks.specs.Variables.{choice_at, same_choice, text_for, new_choice, judge_choice, choices_in}
use Rattle.timing_blocks.specs.Working.{given, none_given, give_once, choice_step}
use Rattle.timing_blocks.proofs.MadeLemmas.{stepping-made}

-- what is chosen of choices is the text that was said
chosen_of-choices_in : (choice : Choice) (said : List (Choice × Quoted)) → chosen_of choice (choices_in said) ≡ text_for choice said
chosen_of-choices_in Min said = refl
chosen_of-choices_in Typ said = refl
chosen_of-choices_in Max said = refl
chosen_of-choices_in Meas said = refl

-- what is found first, or else behind it
found_or : (o found : Option (Choice × Quoted))
    → option_map (λ (one : Choice × Quoted). one.1) (option_or o found)
    ≡ option_or (option_map (λ (one : Choice × Quoted). one.1) o) (option_map (λ (one : Choice × Quoted). one.1) found)
found_or None found = refl
found_or (Some one) found = refl

text_for-more : (choice : Choice) (before : List (Choice × Quoted)) (one : Choice × Quoted)
    → text_for choice (before ++ one ∷ [])
    ≡ option_or (text_for choice before) (option_map (λ (x : Choice × Quoted). x.1) (cond (same_choice one.0 choice) (Some one) None))
text_for-more choice before one =
    let is : Choice × Quoted → Bool = λ x. same_choice x.0 choice in
    ap (λ (o : Option (Choice × Quoted)). option_map (λ (x : Choice × Quoted). x.1) o) (find-append is before (one ∷ []))
    ∙ found_or (find is before) (find is (one ∷ []))

or_none : {X : Type 0} (o : Option X) → option_or o None ≡ o
or_none None = refl
or_none (Some x) = refl

some_or : {X : Type 0} (o : Option X) (x : X) → is_some o ≡ false → option_or o (Some x) ≡ Some x
some_or None x none = refl
some_or (Some y) x none = cc

-- a text for another choice, and the first one for its own
other_text : (choice other : Choice) (q : Quoted) (before : List (Choice × Quoted)) → same_choice other choice ≡ false
    → text_for choice (before ++ (other, q) ∷ []) ≡ text_for choice before
other_text choice other q before differ =
    text_for-more choice before (other, q)
    ∙ ap (λ (b : Bool). option_or (text_for choice before) (option_map (λ (x : Choice × Quoted). x.1) (cond b (Some (other, q)) None))) differ
    ∙ or_none (text_for choice before)

own_text : (choice : Choice) (q : Quoted) (before : List (Choice × Quoted)) → same_choice choice choice ≡ true
    → is_some (text_for choice before) ≡ false → text_for choice (before ++ (choice, q) ∷ []) ≡ Some q
own_text choice q before own new =
    text_for-more choice before (choice, q)
    ∙ ap (λ (b : Bool). option_or (text_for choice before) (option_map (λ (x : Choice × Quoted). x.1) (cond b (Some (choice, q)) None))) own
    ∙ some_or (text_for choice before) q new

-- choices are alike where their texts are
abbrev these : Option Quoted → Option Quoted → Option Quoted → Option Quoted → Choices
these a b c d = record { min = a; typ = b; max = c; meas = d }

alike : (a b c d e f g h : Option Quoted) → a ≡ e → b ≡ f → c ≡ g → d ≡ h → these a b c d ≡ these e f g h
alike a b c d e f g h p q r t = cc

-- one text more
given_more : (choice : Choice) (q : Quoted) (before : List (Choice × Quoted)) → is_some (text_for choice before) ≡ false
    → choices_in (before ++ (choice, q) ∷ []) ≡ given choice q (choices_in before)
given_more Min q before new =
    alike _ _ _ _ _ _ _ _ (own_text Min q before refl new) (other_text Typ Min q before refl) (other_text Max Min q before refl)
    (other_text Meas Min q before refl)
given_more Typ q before new =
    alike _ _ _ _ _ _ _ _ (other_text Min Typ q before refl) (own_text Typ q before refl new) (other_text Max Typ q before refl)
    (other_text Meas Typ q before refl)
given_more Max q before new =
    alike _ _ _ _ _ _ _ _ (other_text Min Max q before refl) (other_text Typ Max q before refl) (own_text Max q before refl new)
    (other_text Meas Max q before refl)
given_more Meas q before new =
    alike _ _ _ _ _ _ _ _ (other_text Min Meas q before refl) (other_text Typ Meas q before refl) (other_text Max Meas q before refl)
    (own_text Meas q before refl new)

-- one more statement
given_once : (first : ℕ) (choice : Choice) (q : Quoted) (before : List (Choice × Quoted)) (b : Bool)
    → is_some (text_for choice before) ≡ b
    → cond b (Err (Refused Twice first)) (Ok (given choice q (choices_in before)))
    ≡ and_then (cond b (Err (Refused Twice first)) (Ok (choice, q))) (λ (one : Choice × Quoted). Ok (choices_in (before ++ one ∷ [])))
given_once first choice q before true is = refl
given_once first choice q before false is = ap Ok (sym (given_more choice q before is))

given_by : (s : Setting) (before : List (Choice × Quoted)) (e : Entry) (r : Result (Choice × List ℕ) FormFault)
    → and_then r (give_once s (choices_in before) e)
    ≡ and_then (and_then r (new_choice s before e)) (λ (one : Choice × Quoted). Ok (choices_in (before ++ one ∷ [])))
given_by s before e (Ok said) =
    let q = quoted_at s (e.first + 1) said.1 in
    ap (λ (o : Option Quoted). cond (is_some o) (Err (Refused Twice e.first)) (Ok (given said.0 q (choices_in before))))
    (chosen_of-choices_in said.0 before)
    ∙ given_once e.first said.0 q before (is_some (text_for said.0 before)) refl
given_by s before e (Err fault) = refl

-- the machine comes to what is made of all that is read
pub choices_computed : (s : Setting) (es : List Entry)
    → stepping (choice_step s) none_given es ≡ and_then (reading (judge_choice s) [] es) (λ said. Ok (choices_in said))
choices_computed s es =
    stepping-made (choice_step s) (judge_choice s) choices_in (λ before e. given_by s before e (choice_at s e)) [] es
