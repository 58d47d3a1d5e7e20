use Rattle.std.proofs.Common.{◌%◌, ◌<◌, ◌∙◌, ℕ, List, length, slice_get, arith, ap, sym, subst}
use Rattle.packed_code.specs.declared.instr.Instr.{Instr}
use Rattle.packed_code.specs.Cycles.{pages_of}
use Rattle.pattern_mem.specs.Pool.{page_at}
use Rattle.pattern_mem.specs.Cursor.{instrs_of}
use Rattle.pattern_mem.proofs.CursorLemmas.{stands_here, page_is, few_pages}
use Rattle.pattern_mem.proofs.cursor.Cursor.instr.Goals as goal

pub overflow_cast-place : goal.overflow_cast-place
overflow_cast-place g c =
    omega (arith, few_pages c.args.mem.now.code c.args.self.now c.place-place.result c.requires.placed c.place-place.ensures.place)

pub overflow_add-self : goal.overflow_add-self
overflow_add-self g c =
    omega (arith, few_pages c.args.mem.now.code c.args.self.now c.place-place.result c.requires.placed c.place-place.ensures.place)

pub show-requires-clause-page : goal.show-requires-clause-page
show-requires-clause-page g c =
    let code = c.args.mem.now.code in
    let place = c.place-place.result in
    let stands = stands_here code c.args.self.now place c.requires.placed c.place-place.ensures.place in
    subst (λ (n : ℕ). n < length (pages_of code)) (sym (page_is code c.args.self.now place c.requires.placed)) stands.page

pub instr-requires : goal.instr-requires
instr-requires g c =
    let code = c.args.mem.now.code in
    let place = c.place-place.result in
    let stands = stands_here code c.args.self.now place c.requires.placed c.place-place.ensures.place in
    let shows = c.in-Ok.ensures.shown ∙ ap (page_at code) (page_is code c.args.self.now place c.requires.placed) in
    subst (λ (xs : List Instr). place % 256 < length xs) (sym shows) stands.inside

pub returns-in-Ok-clause-instr : goal.returns-in-Ok-clause-instr
returns-in-Ok-clause-instr g c =
    let code = c.args.mem.now.code in
    let place = c.place-place.result in
    let stands = stands_here code c.args.self.now place c.requires.placed c.place-place.ensures.place in
    let shows = c.in-Ok.ensures.shown ∙ ap (page_at code) (page_is code c.args.self.now place c.requires.placed) in
    ap (slice_get (instrs_of code c.args.self.now.exec)) (sym c.place-place.ensures.place) ∙ stands.here ∙ sym stands.there
    ∙ ap (λ (xs : List Instr). slice_get xs (place % 256)) (sym shows) ∙ c.instr.ensures
