use Rattle.std.proofs.Common.{refl, sym, ◌∙◌}
use Rattle.page_code.proofs.laws.one_spelling.Goals as goal

pub returns-clause-some : goal.returns-clause-some
returns-clause-some c = λ version code fits. record { conditions = fits; spelled = refl }

pub returns-clause-one : goal.returns-clause-one
returns-clause-one c = λ version code bytes other a b. a.spelled ∙ sym b.spelled
