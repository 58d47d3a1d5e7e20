use Rattle.std.proofs.Common.{◌∙◌, ℕ, ap}
use Rattle.lot_plan.specs.Bound.{image_of}
use Rattle.fault_grade.proofs.die.first_image.Goals as goal

pub returns : goal.returns
returns c = c.image.ensures ∙ ap (λ (site : ℕ). image_of c.args.plan.now site 0 1) c.first_site.ensures.site
