use Rattle.packed_code.proofs.PageLemmas.{on_its_page, within_pages}
use Rattle.packed_code.proofs.code.Code.page_of.Goals as goal

pub returns-clause-there : goal.returns-clause-there
returns-clause-there c =
    let stands = on_its_page c.args.self.now c.args.exec c.args.place c.requires.exec c.requires.place in
    let there = within_pages c.args.self.now c.args.exec c.args.place stands.0 stands.1 in
    rw c.pages_before.ensures.exact there

pub returns-clause-stands : goal.returns-clause-stands
returns-clause-stands c =
    rw c.pages_before.ensures.exact (on_its_page c.args.self.now c.args.exec c.args.place c.requires.exec c.requires.place)
