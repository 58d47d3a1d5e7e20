use Rattle.site_meaning.proofs.PartLemmas.{lot_in-part_of, dies_in-part_of, skews_in-part_of, order_in-part_of, image_in-part_of}
use Rattle.site_meaning.proofs.laws.part_says_what_plan_says.Goals as goal

pub returns-clause-lot : goal.returns-clause-lot
returns-clause-lot c = lot_in-part_of

pub returns-clause-dies : goal.returns-clause-dies
returns-clause-dies c = dies_in-part_of

pub returns-clause-skews : goal.returns-clause-skews
returns-clause-skews c = skews_in-part_of

pub returns-clause-order : goal.returns-clause-order
returns-clause-order c = order_in-part_of

pub returns-clause-image : goal.returns-clause-image
returns-clause-image c = image_in-part_of
