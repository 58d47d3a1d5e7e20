use Rattle.std.proofs.Common.{◌≡◌, ◌∙◌, true, false, List, ℕ, sym, subst}
use Rattle.std.proofs.lemmas.Result.{MatchResult-weaker}
use Rattle.tool_inputs.specs.Inputs.{is_saved}
use Rattle.tool_inputs.proofs.InputLemmas.{program_read, by_saved, by_text, text_refused, saved_refused}
use Rattle.tool_inputs.proofs.inputs.read_program.Goals as goal

pub returns-then-is_saved-clause-reads : goal.returns-then-is_saved-clause-reads
returns-then-is_saved-clause-reads g c =
    let told = g.F.Shelf.told c.args.shelf.now in
    let file = c.args.file.now in
    let bytes = c.in_ok-bytes.bytes.items in
    let seen = c.as_slice-then-is_saved.result.now in
    let same = c.as_slice-then-is_saved.ensures.value in
    let so = subst (λ (bs : List ℕ). true ≡ is_saved bs) (c.as_slice.ensures.value ∙ sym same) c.if-is_saved.ensures in
    MatchResult-weaker c.saved_code.result c.saved_code.ensures
    (λ code is. program_read told file bytes seen code c.in_ok-bytes.ensures.found same (by_saved (is_saved seen) seen code so is))
    (λ r is. saved_refused told (g.F.Shelf.faults c.args.shelf.now) (g.F.Shelf.faults c.load.new.shelf) file bytes seen r
    c.in_ok-bytes.ensures.found same so is)

pub returns-clause-reads : goal.returns-clause-reads
returns-clause-reads g c =
    let told = g.F.Shelf.told c.args.shelf.now in
    let file = c.args.file.now in
    let bytes = c.in_ok-bytes.bytes.items in
    let seen = c.as_slice-else-is_saved.result.now in
    let same = c.as_slice-else-is_saved.ensures.value in
    let so = subst (λ (bs : List ℕ). false ≡ is_saved bs) (c.as_slice.ensures.value ∙ sym same) c.if-is_saved.ensures in
    MatchResult-weaker c.text_code.result c.text_code.ensures
    (λ code is. program_read told file bytes seen code c.in_ok-bytes.ensures.found same (by_text (is_saved seen) seen code so is))
    (λ r is. text_refused told (g.F.Shelf.faults c.args.shelf.now) (g.F.Shelf.faults c.load.new.shelf) file bytes seen r
    c.in_ok-bytes.ensures.found same so is)
