use Rattle.std.proofs.Common.{◌≡◌, Bool, true, false, ◌&&◌, Option, not, is_some, sym, ap, ◌∙◌}
use Rattle.tester_types.specs.declared.wave.Act.{Act}
use Rattle.stil_form.specs.Lexeme.{lexeme_of}
use Rattle.timing_blocks.specs.Waveforms.{act_of}
use Rattle.timing_blocks.proofs.waveforms.is_no_act.Goals as goal

-- at an act's place none is there where it is not so that one is there
none_there : (at_act none there : Bool) → at_act ≡ true → there ≡ not none → none ≡ (at_act && not there)
none_there true true there at_place is = sym (ap not is)
none_there true false there at_place is = sym (ap not is)
none_there false none there at_place is = cc

pub returns-then-at_act : goal.returns-then-at_act
returns-then-at_act c =
    none_there c.args.at_act c.is_none.result (is_some (act_of (lexeme_of c.args.part.now))) c.if-at_act.true
    (sym (ap (λ (o : Option Act). is_some o) c.keyword_in.ensures) ∙ c.is_none.ensures)
