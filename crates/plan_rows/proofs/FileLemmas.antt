-- The file of a record of a die is 1 to 255 bytes that show in print.
use Rattle.std.proofs.Common.{◌≡◌, ℕ, Bool, true, false, cond, ◌==◌, List, [], ◌∷◌, length, Option, Some, None, refl}
use Rattle.std.specs.Prelude.{codes}
use Rattle.std.specs.List.{list_all}
use Rattle.std.specs.Str.{bytes_eq}
use Rattle.plan_rows.specs.Words.{number_in, is_name, name_of, net_of}
use Rattle.plan_rows.specs.Forms.{Written, a_lot, a_clock, a_bind, a_die, a_fault, a_stop, a_bin, a_skew, given, unused, bound_net, fault_tries, ending_form, offset_in, written_of}

-- what a record says, if it is a die's, has a file's name
abbrev pub SaysFile : Option Written → Type 0
SaysFile None = Unit {0}
SaysFile (Some (a_lot batch tries keep)) = Unit {0}
SaysFile (Some (a_clock signal)) = Unit {0}
SaysFile (Some (a_bind signal net)) = Unit {0}
SaysFile (Some (a_die site name file)) = is_name file ≡ true
SaysFile (Some (a_fault site name net value tries)) = Unit {0}
SaysFile (Some (a_stop site name number batch)) = Unit {0}
SaysFile (Some (a_bin ending number)) = Unit {0}
SaysFile (Some (a_skew site signal back size)) = Unit {0}

-- behind a part
given-says : {A : Type 0} (o : Option A) (f : A → Option Written) → ((x : A) → SaysFile (f x)) → SaysFile (given o f)
given-says None f all = tt
given-says (Some x) f all = all x

-- at a choice
chosen-says : (b : Bool) (x y : Option Written) → SaysFile x → SaysFile y → SaysFile (cond b x y)
chosen-says true x y first second = first
chosen-says false x y first second = second

-- where fields are empty
unused-says : (fields : List (List ℕ)) (o : Option Written) → SaysFile o → SaysFile (unused fields o)
unused-says fields o says = chosen-says (list_all (λ f. length f == 0) fields) o None says tt

-- behind a name
named-says : (bytes : List ℕ) (f : List ℕ → Option Written) → (is_name bytes ≡ true → SaysFile (f bytes)) → SaysFile (given (name_of bytes) f)
named-says bytes f each = by (is_name bytes) refl
  where
    by : (b : Bool) → is_name bytes ≡ b → SaysFile (given (cond b (Some bytes) None) f)
    by true is = each is
    by false is = tt

-- the record of a die, of its four fields and those that are empty
die-says : (a b c d e : List ℕ) → SaysFile (unused (d ∷ e ∷ [])
    (given (number_in a) (λ site. given (name_of b) (λ name. given (name_of c) (λ file. Some (a_die site name file))))))
die-says a b c d e =
    unused-says (d ∷ e ∷ []) _ (given-says (number_in a) _ (λ site. given-says (name_of b) _ (λ name.
    named-says c (λ file. Some (a_die site name file)) (λ is. is))))

-- the records of the kinds
six-says : (kind a b c d e : List ℕ) → SaysFile (written_of (kind ∷ a ∷ b ∷ c ∷ d ∷ e ∷ []))
six-says kind a b c d e =
    chosen-says (bytes_eq kind (codes "lot")) _ _ (unused-says (d ∷ e ∷ []) _
    (given-says (number_in a) _ (λ batch. given-says (number_in b) _ (λ tries. given-says (number_in c) _ (λ keep. tt)))))
    (chosen-says (bytes_eq kind (codes "clock")) _ _ (unused-says (b ∷ c ∷ d ∷ e ∷ []) _ (given-says (net_of a) _ (λ signal. tt)))
    (chosen-says (bytes_eq kind (codes "bind")) _ _ (unused-says (c ∷ d ∷ e ∷ []) _
    (given-says (net_of a) _ (λ signal. given-says (bound_net b) _ (λ net. tt))))
    (chosen-says (bytes_eq kind (codes "die")) _ _ (die-says a b c d e)
    (chosen-says (bytes_eq kind (codes "fault")) _ _
    (given-says (number_in a) _ (λ site. given-says (name_of b) _ (λ name. given-says (net_of c) _ (λ net.
    given-says (number_in d) _ (λ value. given-says (fault_tries e) _ (λ tries. tt))))))
    (chosen-says (bytes_eq kind (codes "stop")) _ _ (unused-says (e ∷ []) _
    (given-says (number_in a) _ (λ site. given-says (name_of b) _ (λ name. given-says (number_in c) _ (λ number.
    given-says (number_in d) _ (λ batch. tt))))))
    (chosen-says (bytes_eq kind (codes "bin")) _ _ (unused-says (d ∷ e ∷ []) _
    (given-says (ending_form a b) _ (λ ending. given-says (number_in c) _ (λ number. tt))))
    (chosen-says (bytes_eq kind (codes "skew")) _ _ (unused-says (d ∷ e ∷ []) _
    (given-says (number_in a) _ (λ site. given-says (net_of b) _ (λ signal. given-says (offset_in c) _ (λ offset. tt)))))
    tt)))))))

-- each record
pub written_of-says : (fields : List (List ℕ)) → SaysFile (written_of fields)
written_of-says [] = tt
written_of-says (k ∷ []) = tt
written_of-says (k ∷ a ∷ []) = tt
written_of-says (k ∷ a ∷ b ∷ []) = tt
written_of-says (k ∷ a ∷ b ∷ c ∷ []) = tt
written_of-says (k ∷ a ∷ b ∷ c ∷ d ∷ []) = tt
written_of-says (k ∷ a ∷ b ∷ c ∷ d ∷ e ∷ []) = six-says k a b c d e
written_of-says (k ∷ a ∷ b ∷ c ∷ d ∷ e ∷ x ∷ xs) = tt
