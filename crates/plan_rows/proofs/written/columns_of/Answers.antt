use Rattle.std.proofs.Common.{arith}
use Rattle.csv.specs.Records.{fields_of}
use Rattle.plan_rows.proofs.FormLemmas.{none_of_six, six_is}
use Rattle.plan_rows.proofs.written.columns_of.Goals as goal

pub returns-in_err-get : goal.returns-in_err-get
returns-in_err-get c = absurd (none_of_six (fields_of c.args.fields.now) 0 (omega arith) (omega arith) c.in_err-get.ensures.value)

pub returns-in_err-get-2 : goal.returns-in_err-get-2
returns-in_err-get-2 c = absurd (none_of_six (fields_of c.args.fields.now) 1 (omega arith) (omega arith) c.in_err-get-2.ensures.value)

pub returns-in_err-get-3 : goal.returns-in_err-get-3
returns-in_err-get-3 c = absurd (none_of_six (fields_of c.args.fields.now) 2 (omega arith) (omega arith) c.in_err-get-3.ensures.value)

pub returns-in_err-get-4 : goal.returns-in_err-get-4
returns-in_err-get-4 c = absurd (none_of_six (fields_of c.args.fields.now) 3 (omega arith) (omega arith) c.in_err-get-4.ensures.value)

pub returns-in_err-get-5 : goal.returns-in_err-get-5
returns-in_err-get-5 c = absurd (none_of_six (fields_of c.args.fields.now) 4 (omega arith) (omega arith) c.in_err-get-5.ensures.value)

pub returns-in_err-get-6 : goal.returns-in_err-get-6
returns-in_err-get-6 c = absurd (none_of_six (fields_of c.args.fields.now) 5 (omega arith) (omega arith) c.in_err-get-6.ensures.value)

pub returns : goal.returns
returns c = six_is (fields_of c.args.fields.now) _ _ _ _ _ _ (omega arith)
    c.in_ok-get.ensures.value c.in_ok-get-2.ensures.value c.in_ok-get-3.ensures.value
    c.in_ok-get-4.ensures.value c.in_ok-get-5.ensures.value c.in_ok-get-6.ensures.value
