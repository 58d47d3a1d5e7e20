-- A lot on a flat text prints what one on its source prints but for the names of scan cells: `flat_lot`.
use Rattle.std.proofs.Common.{◌≡◌, ℕ, ◌<◌, ◌≤◌, Bool, false, List, [], map, length, Some, refl, sym, ap, ◌∙◌, subst, arith, ⊎_elim}
use Rattle.std.proofs.lemmas.Bool.{cases_lt}
use Rattle.std.proofs.lemmas.List.{get_or_past, get_or-map, length-map}
use Rattle.std.proofs.lemmas.Option.{same_Some}
use Rattle.tester_types.specs.Outside.{Files, file_of}
use Rattle.tester_types.specs.Records.{records_of}
use Rattle.packed_code.specs.Program.{Exec, Program}
use Rattle.die_sim.specs.Socket.{Told}
use Rattle.stil_program.specs.Program.{IsProgramOf}
use Rattle.flat_parts.specs.FlatText.{text_of, flat_text}
use Rattle.site_meaning.specs.Alike.{AreCodesAlike}
use Rattle.site_meaning.specs.Part.{part_of}
use Rattle.tester_run.specs.Work.{AreRecords}
use Rattle.tool_inputs.specs.Inputs.{is_saved, IsCodeBy, IsProgramFile, bound_of}
use Rattle.lot_laws.proofs.CodeLemmas.{codes_of_text}
use Rattle.stil_tool.specs.Alone.{LotRun, said, sites_in, records_at}
use Rattle.stil_tool.proofs.RunLemmas.{some_item}
use Rattle.flat_lots.specs.Chains.{unchained, without_chains, HasNoChains}
use Rattle.flat_lots.specs.FlatLot.{FlatLot}
use Rattle.flat_lots.proofs.TextLemmas.{same_texts}
use Rattle.flat_lots.proofs.BookLemmas.{rows_are, same_books}
use Rattle.flat_lots.proofs.CodeLemmas.{signals_are, no_chains, codes_beside}

-- ---- the codes

-- a flat text is no saved program
flat_is_text : (code : Program) → is_saved (flat_text code) ≡ false
unfolding text_of
flat_is_text code = refl

-- the code of a file with these bytes, which are a text
code_of_file : (files : Files) (name bytes : List ℕ) (code : Program) → file_of files name ≡ Some bytes → is_saved bytes ≡ false
    → IsProgramFile (Some files) name code → IsProgramOf bytes code
code_of_file files name bytes code is text file =
    let same : file.bytes ≡ bytes = same_Some file.bytes bytes (sym file.file.are ∙ is) in
    let reads : IsCodeBy (is_saved bytes) bytes code = subst (λ (bs : List ℕ). IsCodeBy (is_saved bs) bs code) same file.reads in
    subst (λ (b : Bool). IsCodeBy b bytes code) text reads

-- a code that is left without chains has none
bare_chains : (code : Program) → HasNoChains (without_chains code)
bare_chains code exec =
    ⊎_elim
    (λ (low : exec < length code.execs).
    ap (λ (x : Exec). x.chains)
    (get_or-map unchained code.execs exec (record { name = []; chains = []; instrs = [] }) (record { name = []; chains = []; instrs = [] }) low))
    (λ (high : length code.execs ≤ exec).
    ap (λ (x : Exec). x.chains)
    (get_or_past (map unchained code.execs) exec (record { name = []; chains = []; instrs = [] })
    (omega (arith, high, length-map code.execs unchained))))
    (cases_lt exec (length code.execs))

-- ---- the runs

module _ {S : Type 0} (tells : S → Told) where
  -- the whole list of a site
  all_at : (run : LotRun tells) (site : ℕ) → site < sites_in run → AreRecords (part_of (bound_of (said run)) site) (records_at run site)
  all_at run site within =
      (run.is.lot.is.records site (some_item run.old.sockets (omega (arith, within, run.is.enough))) within).records_are

  pub flat_lot : FlatLot tells
  flat_lot run flat of planned nets cuts =
      let source : Program = of.written.0 in
      let text : is_saved of.text ≡ false = ap is_saved of.written.2.is ∙ flat_is_text source in
      let own : IsProgramOf of.bytes (said run).code =
      code_of_file run.files run.program of.bytes (said run).code of.source of.is_text run.is.are.code in
      let other : IsProgramOf of.text (said flat).code =
      code_of_file flat.files flat.program of.text (said flat).code of.is text flat.is.are.code in
      let alike : AreCodesAlike (said run).code source = codes_of_text of.bytes (said run).code source own of.written.1 in
      let same = of.written.3 other.blocks other.text in
      let signals = signals_are (said run).code source (said flat).code other.blocks alike same other.compiled in
      let beside = codes_beside (said run).code source (said flat).code other.blocks alike same other.compiled in
      flat.is.lot.written
      ∙ sym (same_texts (without_chains (said run).code) (said flat).code (bare_chains (said run).code)
      (no_chains (said run).code source (said flat).code other.blocks alike same other.compiled) signals (bound_of (said run)) (bound_of (said flat))
      (rows_are run.files flat.files run.program run.plan flat.program flat.plan (said run) (said flat) run.is.are flat.is.are planned nets signals beside)
      (records_of run.is.lot.book) (records_of flat.is.lot.book)
      (same_books run.files flat.files run.program run.plan flat.program flat.plan (said run) (said flat) run.is.are flat.is.are planned nets signals beside
      run.is.lot.book flat.is.lot.book run.is.lot.is.all flat.is.lot.is.all (all_at run) (all_at flat) cuts))
