-- The variables that an executive picks, and their values (IEEE 1450-1999, clauses 16 and 19).
use Rattle.std.specs.Prelude.{ℕ, zero, suc, Bool, true, false, List, [], ◌∷◌, ◌++◌, Option, Some, None, Result, Ok, Err, length, map, flat_map, find, nat_lt, codes, if◌then◌else◌}
use Rattle.std.specs.List.{list_any}
use Rattle.text_bytes.specs.Limits.{most_variables}
use Rattle.stil_ast.specs.Data.Places.{Place}
use Rattle.stil_ast.specs.Data.Texts.{same, has_name}
use Rattle.stil_ast.specs.Faults.Found.{fault_at, on_line, unless, refuse_if, or_else, first_in}
use Rattle.stil_ast.specs.Meaning.Times.{Met, in_text, elsewhere, Times, met_at}
use Rattle.stil_ast.specs.declared.name.Quoted.{Quoted}
use Rattle.stil_ast.specs.declared.name.Named.{Named}
use Rattle.stil_ast.specs.declared.variable.Choice.{Choice}
use Rattle.stil_ast.specs.declared.variable.Choice.TheVariants.{Min, Typ, Max, Meas}
use Rattle.stil_ast.specs.declared.variable.Choices.{Choices}
use Rattle.stil_ast.specs.declared.variable.VariableValue.{VariableValue}
use Rattle.stil_ast.specs.declared.variable.VariableValue.TheVariants.{Same, Chosen}
use Rattle.stil_ast.specs.declared.variable.VariableDecl.{VariableDecl}
use Rattle.stil_ast.specs.declared.variable.Category.{Category}
use Rattle.stil_ast.specs.declared.variable.SpecBlock.{SpecBlock}
use Rattle.stil_ast.specs.declared.variable.Selection.{Selection}
use Rattle.stil_ast.specs.declared.variable.Selector.{Selector}
use Rattle.stil_ast.specs.declared.executive.ExecDecl.{ExecDecl}
use Rattle.stil_ast.specs.declared.blocks.Blocks.{Blocks}
use Rattle.stil_ast.specs.declared.fault.StilFault.{StilFault}
use Rattle.stil_ast.specs.declared.fault.StilKind.TheVariants.{Twice, UnknownName, Cyclic, OutOfRange}

-- a variable of a picked category: its name, the text of the chosen value if it has one, and where it is defined
pub record Variable : Type 0 where
  pub name : List ℕ
  pub text : Option Quoted
  pub place : Place

-- one value stands for each choice
abbrev pub chosen_of : Choice → Choices → Option Quoted
chosen_of Min c = c.min
chosen_of Typ c = c.typ
chosen_of Max c = c.max
chosen_of Meas c = c.meas

-- the text of a variable's chosen value
abbrev pub text_of : Choice → VariableValue → Option Quoted
text_of choice (Same q) = Some q
text_of choice (Chosen c) = chosen_of choice c

-- Typ is taken for a variable that the Selector doesn't list
abbrev pub selected_choice : Option Selection → Choice
selected_choice None = Typ
selected_choice (Some s) = s.choice

-- which value a Selector takes for a variable
abbrev pub choice_in : Option Selector → List ℕ → Choice
choice_in None name = Typ
choice_in (Some s) name = selected_choice (find (λ c. same c.name name) s.selections)

-- the Selector that an executive names
abbrev pub selector_of : Blocks → Option Named → Option Selector
selector_of blocks None = None
selector_of blocks (Some n) = find (λ s. same s.name n.name) blocks.selectors

-- a variable of a picked category
abbrev pub picked_in : Option Selector → List ℕ → VariableDecl → Variable
picked_in selector spec d = record {
  name = d.name;
  text = text_of (choice_in selector d.name) d.value;
  place = record { block = codes "Spec"; name = spec; line = d.line };
}

-- the variables of a category, where it is picked
abbrev pub picked_category : Option Selector → List (List ℕ) → List ℕ → Category → List Variable
picked_category selector names spec c =
    if has_name names c.name then map (picked_in selector spec) c.variables else []

-- The variables of all categories that an executive names, each once, in whatever Spec they stand.
abbrev pub picked : Blocks → ExecDecl → List Variable
picked blocks e =
    flat_map (λ (s : SpecBlock).
    flat_map (picked_category (selector_of blocks e.selector) (map (λ (n : Named). n.name) e.categories) s.name)
    s.categories)
    blocks.specs

-- the value of a text that may be missing; what is met stands in it
abbrev pub placed : {V : Type 0} → Place → Result V Met → Result V Met
placed p (Ok v) = Ok v
placed p (Err met) = Err (elsewhere (met_at p met))

-- the value of a chosen text, which may be missing
abbrev pub value_of_text : {V : Type 0} → Place → Option Quoted → (List ℕ → Result V Met) → Result V Met
value_of_text p None value = Err (in_text UnknownName)
value_of_text p (Some q) value = placed (on_line p q.line) (value q.text)

-- a name is unknown, or met again while it is evaluated, or has the value of its text
abbrev pub value_of_found : {V : Type 0} → Bool → Option Variable → (List ℕ → Result V Met) → Result V Met
value_of_found running None value = Err (in_text UnknownName)
value_of_found true (Some v) value = Err (in_text Cyclic)
value_of_found false (Some v) value = value_of_text v.place v.text value

-- A variable's value is that of its text under the same variables. So deep goes a chain of names; those in
-- `running` are being evaluated.
abbrev pub value_within : {V : Type 0} → Times V → List Variable → ℕ → List (List ℕ) → List ℕ → Result V Met
value_within times vars zero running name = Err (in_text Cyclic)
value_within times vars (suc depth) running name =
    value_of_found (has_name running name) (find (λ v. same v.name name) vars)
    (times.value (value_within times vars depth (name ∷ running)))

-- A chain that doesn't come back to itself is no longer than there are variables.
abbrev pub value_of : {V : Type 0} → Times V → List Variable → List ℕ → Result V Met
value_of times vars name = value_within times vars (suc (length vars)) [] name

-- the first definition that repeats a name, or the one behind as many as an executive may have
abbrev pub picked_fault : List Variable → List Variable → Option StilFault
picked_fault before [] = None
picked_fault before (v ∷ vars) =
    unless (nat_lt (length before) most_variables) (fault_at v.place OutOfRange)
    (refuse_if (list_any (λ b. same b.name v.name) before) (fault_at v.place Twice)
    (picked_fault (before ++ v ∷ []) vars))

-- a variable that is met first for itself has its own statement's line
abbrev pub value_fault : {V : Type 0} → Place → Result V Met → Option StilFault
value_fault p (Ok v) = None
value_fault p (Err met) = Some (met_at p met)

-- the first fault of an executive's variables; all are evaluated, in text order
abbrev pub variables_fault : {V : Type 0} → Times V → List Variable → Option StilFault
variables_fault times vars =
    or_else (picked_fault [] vars) (first_in (λ (v : Variable). value_fault v.place (value_of times vars v.name)) vars)
