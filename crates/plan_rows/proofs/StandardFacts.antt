-- Known fields, records and plans, as the definitions must read them.
use Rattle.std.proofs.Common.{◌≡◌, ℕ, ◌-◌, ◌^◌, List, [], ◌∷◌, Some, None, Ok, Err, true, false, pos, negsuc, codes, refl}
use Rattle.csv.specs.Machine.{next_record}
use Rattle.csv.specs.Reading.{default_config, records, records_from, strip_bom}
use Rattle.text_bytes.specs.Bytes.{is_digit, is_printing, is_printable}
use Rattle.plan_rows.specs.Words.{number_in, name_of, net_of}
use Rattle.plan_rows.specs.Forms.{a_lot, a_clock, a_bind, a_die, a_fault, a_stop, a_bin, a_skew, written_of}
use Rattle.plan_rows.specs.Judging.{plan_of}
use Rattle.plan_rows.specs.declared.row.Row.TheVariants as row
use Rattle.plan_rows.specs.declared.row.Ending.TheVariants.{Pass, Fail}
use Rattle.plan_rows.specs.declared.fault.PlanFault.TheVariants.{Shape, UnknownName, Twice, OutOfRange}

-- numbers: leading zeros, 20 digits, 21 digits, a sign, none
pub seven : number_in (codes "007") ≡ Some 7
unfolding is_digit is_printing is_printable
seven = refl

pub twenty_digits : number_in (codes "00000000000000000007") ≡ Some 7
unfolding is_digit is_printing is_printable
twenty_digits = refl

pub more_digits : number_in (codes "000000000000000000007") ≡ Some (2 ^ 64 - 1)
unfolding is_digit is_printing is_printable
more_digits = refl

pub too_great : number_in (codes "99999999999999999999") ≡ Some (2 ^ 64 - 1)
unfolding is_digit is_printing is_printable
too_great = refl

pub no_sign : number_in (codes "-1") ≡ None
unfolding is_digit is_printing is_printable
no_sign = refl

pub no_digit : number_in [] ≡ None
no_digit = refl

-- names: a net may hold a space, a die's name not
pub net_with_space : net_of (codes "a b") ≡ Some (codes "a b")
unfolding is_digit is_printing is_printable
net_with_space = refl

pub name_with_space : name_of (codes "a b") ≡ None
unfolding is_digit is_printing is_printable
name_with_space = refl

-- a record of each kind
pub lot_record : written_of (codes "lot" ∷ codes "4" ∷ codes "2" ∷ codes "3" ∷ [] ∷ [] ∷ []) ≡ Some (a_lot 4 2 3)
unfolding is_digit is_printing is_printable
lot_record = refl

pub clock_record : written_of (codes "clock" ∷ codes "c" ∷ [] ∷ [] ∷ [] ∷ [] ∷ []) ≡ Some (a_clock (codes "c"))
unfolding is_digit is_printing is_printable
clock_record = refl

pub free_record : written_of (codes "bind" ∷ codes "s" ∷ codes "-" ∷ [] ∷ [] ∷ [] ∷ []) ≡ Some (a_bind (codes "s") None)
unfolding is_digit is_printing is_printable
free_record = refl

pub bind_record : written_of (codes "bind" ∷ codes "s" ∷ codes "n" ∷ [] ∷ [] ∷ [] ∷ []) ≡ Some (a_bind (codes "s") (Some (codes "n")))
unfolding is_digit is_printing is_printable
bind_record = refl

pub die_record : written_of (codes "die" ∷ codes "3" ∷ codes "a" ∷ codes "f" ∷ [] ∷ [] ∷ []) ≡ Some (a_die 3 (codes "a") (codes "f"))
unfolding is_digit is_printing is_printable
die_record = refl

pub fault_record : written_of (codes "fault" ∷ codes "3" ∷ codes "a" ∷ codes "n" ∷ codes "1" ∷ [] ∷ []) ≡ Some (a_fault 3 (codes "a") (codes "n") 1 None)
unfolding is_digit is_printing is_printable
fault_record = refl

pub stop_record : written_of (codes "stop" ∷ codes "3" ∷ codes "a" ∷ codes "2" ∷ codes "7" ∷ [] ∷ []) ≡ Some (a_stop 3 (codes "a") 2 7)
unfolding is_digit is_printing is_printable
stop_record = refl

pub fail_record : written_of (codes "bin" ∷ codes "fail" ∷ codes "5" ∷ codes "9" ∷ [] ∷ [] ∷ []) ≡ Some (a_bin (Fail 5) 9)
unfolding is_digit is_printing is_printable
fail_record = refl

pub pass_record : written_of (codes "bin" ∷ codes "pass" ∷ [] ∷ codes "9" ∷ [] ∷ [] ∷ []) ≡ Some (a_bin Pass 9)
unfolding is_digit is_printing is_printable
pass_record = refl

-- a skew: later, earlier, and 0 of either sign; a sign that is another, or stands alone
pub skew_record : written_of (codes "skew" ∷ codes "3" ∷ codes "a b" ∷ codes "70" ∷ [] ∷ [] ∷ []) ≡ Some (a_skew 3 (codes "a b") false 70)
unfolding is_digit is_printing is_printable
skew_record = refl

pub earlier_record : written_of (codes "skew" ∷ codes "3" ∷ codes "a" ∷ codes "-070" ∷ [] ∷ [] ∷ []) ≡ Some (a_skew 3 (codes "a") true 70)
unfolding is_digit is_printing is_printable
earlier_record = refl

pub plus_sign : written_of (codes "skew" ∷ codes "3" ∷ codes "a" ∷ codes "+70" ∷ [] ∷ [] ∷ []) ≡ None
unfolding is_digit is_printing is_printable
plus_sign = refl

pub sign_alone : written_of (codes "skew" ∷ codes "3" ∷ codes "a" ∷ codes "-" ∷ [] ∷ [] ∷ []) ≡ None
unfolding is_digit is_printing is_printable
sign_alone = refl

-- a field that is not used, a kind that is none, five fields
pub used_record : written_of (codes "clock" ∷ codes "c" ∷ codes "d" ∷ [] ∷ [] ∷ [] ∷ []) ≡ None
used_record = refl

pub no_kind : written_of (codes "dice" ∷ codes "3" ∷ codes "a" ∷ codes "f" ∷ [] ∷ [] ∷ []) ≡ None
no_kind = refl

pub five_fields : written_of (codes "clock" ∷ codes "c" ∷ [] ∷ [] ∷ [] ∷ []) ≡ None
five_fields = refl

-- the records of plans that follow
abbrev lot_fields : List (List ℕ)
lot_fields = codes "lot" ∷ codes "4" ∷ codes "2" ∷ codes "3" ∷ [] ∷ [] ∷ []

abbrev die_fields : List (List ℕ)
die_fields = codes "die" ∷ codes "3" ∷ codes "a" ∷ codes "f" ∷ [] ∷ [] ∷ []

abbrev other_die_fields : List (List ℕ)
other_die_fields = codes "die" ∷ codes "3" ∷ codes "b" ∷ codes "f" ∷ [] ∷ [] ∷ []

abbrev fault_fields : List (List ℕ)
fault_fields = codes "fault" ∷ codes "3" ∷ codes "b" ∷ codes "n" ∷ codes "1" ∷ [] ∷ []

-- the second die of its site has the number 1
pub small_plan : plan_of (lot_fields ∷ die_fields ∷ other_die_fields ∷ fault_fields ∷ [])
    ≡ Ok (row.Lot (record { batch = 4; tries = 2; keep = 3 })
    ∷ row.Die (record { site = 3; name = codes "a"; file = codes "f" })
    ∷ row.Die (record { site = 3; name = codes "b"; file = codes "f" })
    ∷ row.Fault (record { site = 3; die = 1; net = codes "n"; value = true; tries = None }) ∷ [])
unfolding is_digit is_printing is_printable
small_plan = refl

-- a skew of `-0`, and one that is as far as may be
abbrev skew_fields : List ℕ → List ℕ → List (List ℕ)
skew_fields signal offset = codes "skew" ∷ codes "3" ∷ signal ∷ offset ∷ [] ∷ [] ∷ []

pub skewed_plan : plan_of (lot_fields ∷ die_fields ∷ skew_fields (codes "a") (codes "-0") ∷ skew_fields (codes "b") (codes "-1000000000000") ∷ [])
    ≡ Ok (row.Lot (record { batch = 4; tries = 2; keep = 3 })
    ∷ row.Die (record { site = 3; name = codes "a"; file = codes "f" })
    ∷ row.Skew (record { site = 3; signal = codes "a"; skew = pos 0 })
    ∷ row.Skew (record { site = 3; signal = codes "b"; skew = negsuc 999999999999 }) ∷ [])
unfolding is_digit is_printing is_printable
skewed_plan = refl

-- one femtosecond more, 21 digits; no die at the site; a signal again
pub skew_too_far : plan_of (lot_fields ∷ die_fields ∷ skew_fields (codes "a") (codes "1000000000001") ∷ []) ≡ Err (OutOfRange 3)
unfolding is_digit is_printing is_printable
skew_too_far = refl

pub skew_too_long : plan_of (lot_fields ∷ die_fields ∷ skew_fields (codes "a") (codes "-000000000000000000001") ∷ []) ≡ Err (OutOfRange 3)
unfolding is_digit is_printing is_printable
skew_too_long = refl

pub skew_early : plan_of (lot_fields ∷ skew_fields (codes "a") (codes "1") ∷ die_fields ∷ []) ≡ Err (UnknownName 2)
unfolding is_digit is_printing is_printable
skew_early = refl

pub skew_again : plan_of (lot_fields ∷ die_fields ∷ skew_fields (codes "a") (codes "1") ∷ skew_fields (codes "a") (codes "1") ∷ []) ≡ Err (Twice 4)
unfolding is_digit is_printing is_printable
skew_again = refl

pub no_record : plan_of [] ≡ Err (Shape 1)
no_record = refl

pub lot_missing : plan_of (die_fields ∷ []) ≡ Err (Shape 1)
unfolding is_digit is_printing is_printable
lot_missing = refl

pub second_lot : plan_of (lot_fields ∷ die_fields ∷ lot_fields ∷ []) ≡ Err (Shape 3)
unfolding is_digit is_printing is_printable
second_lot = refl

pub die_later : plan_of (lot_fields ∷ fault_fields ∷ other_die_fields ∷ []) ≡ Err (UnknownName 2)
unfolding is_digit is_printing is_printable
die_later = refl

pub die_again : plan_of (lot_fields ∷ die_fields ∷ die_fields ∷ []) ≡ Err (Twice 3)
unfolding is_digit is_printing is_printable
die_again = refl

pub fault_again : plan_of (lot_fields ∷ other_die_fields ∷ fault_fields ∷ fault_fields ∷ []) ≡ Err (Twice 4)
unfolding is_digit is_printing is_printable
fault_again = refl

pub bin_zero : plan_of (lot_fields ∷ (codes "bin" ∷ codes "pass" ∷ [] ∷ codes "0" ∷ [] ∷ [] ∷ []) ∷ []) ≡ Err (OutOfRange 2)
unfolding is_digit is_printing is_printable
bin_zero = refl

-- the records of a text: a byte order mark and an empty line are none, an open quote ends with the text
pub text_records : records default_config (strip_bom (0xEF ∷ 0xBB ∷ 0xBF ∷ codes "a,b\r\n\r\n\"c,"))
    ≡ (codes "a" ∷ codes "b" ∷ []) ∷ (codes "c," ∷ []) ∷ []
unfolding next_record records_from strip_bom
text_records = refl
