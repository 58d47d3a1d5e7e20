use Rattle.std.proofs.Common.{Bool, Result, Ok, Err}
use Rattle.std.specs.Prelude.{IfOk}
use Rattle.vcd_text.specs.Seen.{seen}
use Rattle.vcd_text.proofs.TakingLemmas.{takes_text}
use Rattle.vcd_text.proofs.reader.Reader.take_text.Goals as goal

if_ok : {E : Type 0} {P Q : Bool → Type 0} (r : Result Bool E) → ((b : Bool) → P b → Q b) → IfOk r P → IfOk r Q
if_ok (Ok b) f p = f b p
if_ok (Err e) f p = tt

pub returns-in-Some : goal.returns-in-Some
returns-in-Some c =
    if_ok c.take.result
    (λ took h. takes_text _ _ (seen c.in-Some.line) c.args.text.now took c.in-Some.ensures.found.0 c.in-Some.ensures.found.1 h)
    c.take.ensures
