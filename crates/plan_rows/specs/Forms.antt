-- What a record says by its form alone: its kind, with its numbers as they are written.
use Rattle.std.specs.Prelude.{ℕ, ◌==◌, Bool, true, false, List, [], ◌∷◌, length, codes, Option, Some, None, if◌then◌else◌}
use Rattle.std.specs.List.{list_all}
use Rattle.std.specs.Str.{bytes_eq}
use Rattle.plan_rows.specs.Words.{number_in, name_of, net_of}
use Rattle.plan_rows.specs.declared.row.Ending.{Ending}
use Rattle.plan_rows.specs.declared.row.Ending.TheVariants.{Pass, Fail, Stopped, Contact}

-- what a record says, before its numbers and names are looked at
pub data Written : Type 0 where
  a_lot : ℕ → ℕ → ℕ → Written
  a_clock : List ℕ → Written
  a_bind : List ℕ → Option (List ℕ) → Written
  a_die : ℕ → List ℕ → List ℕ → Written
  a_fault : ℕ → List ℕ → List ℕ → ℕ → Option ℕ → Written
  a_stop : ℕ → List ℕ → ℕ → ℕ → Written
  a_bin : Ending → ℕ → Written
  a_skew : ℕ → List ℕ → Bool → ℕ → Written

-- what follows from a part, where it is there
abbrev pub given : {A B : Type 0} → Option A → (A → Option B) → Option B
given None rest = None
given (Some x) rest = rest x

-- a part, where these fields are empty
abbrev pub unused : {A : Type 0} → List (List ℕ) → Option A → Option A
unused fields rest = if list_all (λ f. length f == 0) fields then rest else None

-- the net of a binding: none at `-`
abbrev pub bound_net : List ℕ → Option (Option (List ℕ))
bound_net bytes = if bytes_eq bytes (codes "-") then Some None else given (net_of bytes) (λ net. Some (Some net))

-- in how many tries a fault is active: in all where nothing is written
abbrev pub fault_tries : List ℕ → Option (Option ℕ)
fault_tries bytes = if length bytes == 0 then Some None else given (number_in bytes) (λ tries. Some (Some tries))

-- how a last try ends, of its word and the field behind it: pass, fail with the executive's number, stopped, contact
abbrev pub ending_form : List ℕ → List ℕ → Option Ending
ending_form word number =
    if bytes_eq word (codes "fail") then given (number_in number) (λ executive. Some (Fail executive))
    else unused (number ∷ []) (
    if bytes_eq word (codes "pass") then Some Pass
    else if bytes_eq word (codes "stopped") then Some Stopped
    else if bytes_eq word (codes "contact") then Some Contact
    else None)

-- a number of femtoseconds and whether a `-` stands before it
abbrev pub offset_in : List ℕ → Option (Bool × ℕ)
offset_in [] = None
offset_in (b ∷ bytes) =
    if b == 45 then given (number_in bytes) (λ size. Some (true, size))
    else given (number_in (b ∷ bytes)) (λ size. Some (false, size))

-- what a record of these six fields says, by the form of its kind; other fields say nothing
abbrev pub written_of : List (List ℕ) → Option Written
written_of (kind ∷ a ∷ b ∷ c ∷ d ∷ e ∷ []) =
    -- lot,B,TRIES,F,,
    if bytes_eq kind (codes "lot") then unused (d ∷ e ∷ [])
    (given (number_in a) (λ batch. given (number_in b) (λ tries. given (number_in c) (λ keep.
    Some (a_lot batch tries keep)))))
    -- clock,SIGNAL,,,,
    else if bytes_eq kind (codes "clock") then unused (b ∷ c ∷ d ∷ e ∷ [])
    (given (net_of a) (λ signal. Some (a_clock signal)))
    -- bind,SIGNAL,NET,,,
    else if bytes_eq kind (codes "bind") then unused (c ∷ d ∷ e ∷ [])
    (given (net_of a) (λ signal. given (bound_net b) (λ net. Some (a_bind signal net))))
    -- die,SITE,NAME,FILE,,
    else if bytes_eq kind (codes "die") then unused (d ∷ e ∷ [])
    (given (number_in a) (λ site. given (name_of b) (λ name. given (name_of c) (λ file.
    Some (a_die site name file)))))
    -- fault,SITE,NAME,NET,VALUE,TRIES
    else if bytes_eq kind (codes "fault") then
    given (number_in a) (λ site. given (name_of b) (λ name. given (net_of c) (λ net.
    given (number_in d) (λ value. given (fault_tries e) (λ tries. Some (a_fault site name net value tries))))))
    -- stop,SITE,NAME,TRY,BATCH,
    else if bytes_eq kind (codes "stop") then unused (e ∷ [])
    (given (number_in a) (λ site. given (name_of b) (λ name. given (number_in c) (λ number.
    given (number_in d) (λ batch. Some (a_stop site name number batch))))))
    -- bin,ENDING,E,N,,
    else if bytes_eq kind (codes "bin") then unused (d ∷ e ∷ [])
    (given (ending_form a b) (λ ending. given (number_in c) (λ number. Some (a_bin ending number))))
    -- skew,SITE,SIGNAL,FS,,
    else if bytes_eq kind (codes "skew") then unused (d ∷ e ∷ [])
    (given (number_in a) (λ site. given (net_of b) (λ signal. given (offset_in c) (λ offset.
    Some (a_skew site signal offset.0 offset.1)))))
    else None
written_of _ = None
