-- How the first fault of several rules is found.
use Rattle.std.specs.Prelude.{ℕ, Bool, true, false, List, [], ◌∷◌, Option, Some, None, codes}
use Rattle.stil_ast.specs.Data.Places.{Place, Body, of_pattern, of_macro, of_procedure, Origin, Titles}
use Rattle.stil_ast.specs.declared.fault.StilFault.{StilFault}
use Rattle.stil_ast.specs.declared.fault.StilKind.{StilKind}
use Rattle.stil_ast.specs.Data.Refusal.{StilRefusal}
use Rattle.answers.specs.Answers.{Blames}

-- a fault of this kind at this place
abbrev pub fault_at : Place → StilKind → StilFault
fault_at p kind = record { kind = kind; block = p.block; name = p.name; line = p.line }

-- the same top-level statement at another line
abbrev pub on_line : Place → ℕ → Place
on_line p line = record { block = p.block; name = p.name; line = line }

-- the keyword of the block in which bodies of a kind stand
abbrev pub keyword_of : Body → List ℕ
keyword_of of_pattern = codes "Pattern"
keyword_of of_macro = codes "MacroDefs"
keyword_of of_procedure = codes "Procedures"

-- the name of that block
abbrev pub title_of : Titles → Body → List ℕ
title_of titles of_pattern = titles.pattern
title_of titles of_macro = titles.macros
title_of titles of_procedure = titles.procedures

-- a fault of this kind at a statement of a pattern
abbrev pub fault_in : Titles → Origin → StilKind → StilFault
fault_in titles o kind =
    record { kind = kind; block = keyword_of o.body; name = title_of titles o.body; line = o.line }

-- one rule: a fault where the test fails, else what follows
abbrev pub unless : Bool → StilFault → Option StilFault → Option StilFault
unless true fault rest = rest
unless false fault rest = Some fault

-- the same where a test must fail
abbrev pub refuse_if : Bool → StilFault → Option StilFault → Option StilFault
refuse_if true fault rest = Some fault
refuse_if false fault rest = rest

-- the first of two
abbrev pub or_else : Option StilFault → Option StilFault → Option StilFault
or_else None second = second
or_else (Some fault) second = Some fault

-- the first in a list
abbrev pub first_in : {A : Type 0} → (A → Option StilFault) → List A → Option StilFault
first_in rule [] = None
first_in rule (x ∷ xs) = or_else (rule x) (first_in rule xs)

-- a refusal has the fault that is there, or memory was short
abbrev pub IsRefusal : Option StilFault → StilRefusal → Type 0
IsRefusal fault short = Blames fault short
