-- Where a V stands, in memory and in the words of the language.
use Rattle.std.specs.Prelude.{◌≡◌, refl}
use Rattle.std.proofs.Common.{ap}
use Rattle.stil_ast.specs.Data.Places.{Body, of_pattern, of_macro, of_procedure, Origin}
use Rattle.flat_tree.specs.declared.place.BodyKind.{BodyKind}
use Rattle.flat_tree.specs.declared.place.BodyKind.TheVariants.{Pattern, Macro, Procedure}
use Rattle.flat_tree.specs.declared.place.Origin.TheInside.{Inside}

-- the kind of body that it stands for
abbrev pub body_of : BodyKind → Body
body_of Pattern = of_pattern
body_of Macro = of_macro
body_of Procedure = of_procedure

-- what stands for the kind of body
abbrev pub kind_of : Body → BodyKind
kind_of of_pattern = Pattern
kind_of of_macro = Macro
kind_of of_procedure = Procedure

-- nothing is lost
pub kind_of-body_of : (k : BodyKind) → kind_of (body_of k) ≡ k
kind_of-body_of Pattern = refl
kind_of-body_of Macro = refl
kind_of-body_of Procedure = refl

-- the place for which the fields stand
abbrev pub origin_of : Inside → Origin
origin_of a = record { body = body_of a.body; line = a.line }

-- the fields that stand for a place
abbrev pub fields_of : Origin → Inside
fields_of p = record { body = kind_of p.body; line = p.line }

-- nothing is lost
pub fields_of-origin_of : (a : Inside) → fields_of (origin_of a) ≡ a
fields_of-origin_of a = ap (λ (k : BodyKind). record a { body = k }) (kind_of-body_of a.body)
