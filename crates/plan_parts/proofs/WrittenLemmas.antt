-- What a record says with another number in the place of its site.
use Rattle.std.proofs.Common.{◌≡◌, ℕ, ◌≤◌, Bool, true, false, cond, ◌==◌, List, [], ◌∷◌, length, Option, Some, None, refl, sym, ap, ◌∙◌, arith}
use Rattle.std.specs.Prelude.{codes, decimal}
use Rattle.std.specs.List.{list_all, range_with_len}
use Rattle.std.specs.Str.{bytes_eq}
use Rattle.std.proofs.lemmas.Bool.{eqb-true}
use Rattle.std.specs.Fmt.{digits}
use Rattle.text_bytes.specs.Bytes.{is_digit}
use Rattle.plan_rows.specs.Words.{number_in, name_of, net_of}
use Rattle.plan_rows.specs.Forms.{Written, a_lot, a_clock, a_bind, a_die, a_fault, a_stop, a_bin, a_skew, given, unused, bound_net, fault_tries, ending_form, offset_in, written_of}
use Rattle.plan_parts.specs.PartText.{with_site}
use Rattle.plan_parts.proofs.NeededLemmas.{all_in_range}

-- ---- numbers

-- whether it is this number
abbrev is_number : ℕ → Option ℕ → Bool
is_number n None = false
is_number n (Some m) = m == n

-- numbers up to 63 are read as they are written
small_numbers : list_all (λ n. is_number n (number_in (decimal n))) (range_with_len 0 64) ≡ true
unfolding digits is_digit
small_numbers = refl

-- a small number is read as it is written
pub number_in-decimal : (n : ℕ) → n ≤ 63 → number_in (decimal n) ≡ Some n
number_in-decimal n small = by (number_in (decimal n)) (all_in_range (λ (k : ℕ). is_number k (number_in (decimal k))) 0 64 n small_numbers (omega arith) (omega (arith, small)))
  where
    by : (o : Option ℕ) → is_number n o ≡ true → o ≡ Some n
    by None h = cc
    by (Some m) h = ap Some (eqb-true m n h)

-- ---- what a record says

-- the site that it says, if it says one
abbrev pub written_site : Written → Option ℕ
written_site (a_lot batch tries keep) = None
written_site (a_clock signal) = None
written_site (a_bind signal net) = None
written_site (a_die site name file) = Some site
written_site (a_fault site name net value tries) = Some site
written_site (a_stop site name number batch) = Some site
written_site (a_bin ending number) = None
written_site (a_skew site signal back size) = Some site

-- the same of another site
abbrev pub written_to : ℕ → Written → Written
written_to n (a_lot batch tries keep) = a_lot batch tries keep
written_to n (a_clock signal) = a_clock signal
written_to n (a_bind signal net) = a_bind signal net
written_to n (a_die site name file) = a_die n name file
written_to n (a_fault site name net value tries) = a_fault n name net value tries
written_to n (a_stop site name number batch) = a_stop n name number batch
written_to n (a_bin ending number) = a_bin ending number
written_to n (a_skew site signal back size) = a_skew n signal back size

-- where the first says something of a site, the second says it of this number
abbrev Goes : ℕ → Option Written → Option Written → Type 0
Goes n o o' = (w : Written) (s : ℕ) → o ≡ Some w → written_site w ≡ Some s → o' ≡ Some (written_to n w)

-- what is nothing goes
none-goes : (n : ℕ) (o : Option Written) → Goes n None o
none-goes n o w s e at = cc

-- what says no site goes
free-goes : (n : ℕ) (v : Written) (o : Option Written) → written_site v ≡ None → Goes n (Some v) o
free-goes n v o free w s e at = let same : v ≡ w = cc in wrong (sym free ∙ ap written_site same ∙ at)
  where
    wrong : {A : Type 0} → ◌≡◌ {A = Option ℕ} None (Some s) → A
    wrong h = cc

-- what says a site
site-goes : (n : ℕ) (v : Written) → Goes n (Some v) (Some (written_to n v))
site-goes n v w s e at = let same : v ≡ w = cc in ap (λ (u : Written). Some (written_to n u)) same

-- behind a part
given-goes : {A : Type 0} (n : ℕ) (o : Option A) (f g : A → Option Written) → ((x : A) → Goes n (f x) (g x)) → Goes n (given o f) (given o g)
given-goes n None f g all = none-goes n None
given-goes n (Some x) f g all = all x

-- behind a part, where the other is anything
given-free : {A : Type 0} (n : ℕ) (o : Option A) (f : A → Option Written) (r : Option Written) → ((x : A) → Goes n (f x) r) → Goes n (given o f) r
given-free n None f r all = none-goes n r
given-free n (Some x) f r all = all x

-- at a choice
chosen-goes : (n : ℕ) (b : Bool) (x y x' y' : Option Written) → Goes n x x' → Goes n y y' → Goes n (cond b x y) (cond b x' y')
chosen-goes n true x y x' y' first second = first
chosen-goes n false x y x' y' first second = second

-- where fields are empty
unused-goes : (n : ℕ) (fields : List (List ℕ)) (o o' : Option Written) → Goes n o o' → Goes n (unused fields o) (unused fields o')
unused-goes n fields o o' goes = chosen-goes n (list_all (λ f. length f == 0) fields) o None o' None goes (none-goes n None)

-- the same, where the other is anything
unused-free : (n : ℕ) (fields : List (List ℕ)) (o r : Option Written) → Goes n o r → Goes n (unused fields o) r
unused-free n fields o r goes = by (list_all (λ f. length f == 0) fields)
  where
    by : (b : Bool) → Goes n (cond b o None) r
    by true = goes
    by false = none-goes n r

-- behind the number of the site
number-goes : (n : ℕ) (a a' : Option ℕ) (f : ℕ → Option Written) → a' ≡ Some n → ((s : ℕ) → Goes n (f s) (f n)) → Goes n (given a f) (given a' f)
number-goes n None a' f is all w t e at = cc
number-goes n (Some s) a' f is all w t e at = ap (λ (o : Option ℕ). given o f) is ∙ all s w t e at

-- the records of the kinds
six-goes : (n : ℕ) (kind a a' b c d e : List ℕ) → number_in a' ≡ Some n
    → Goes n (written_of (kind ∷ a ∷ b ∷ c ∷ d ∷ e ∷ [])) (written_of (kind ∷ a' ∷ b ∷ c ∷ d ∷ e ∷ []))
six-goes n kind a a' b c d e is =
    chosen-goes n (bytes_eq kind (codes "lot")) _ _ _ _ (unused-free n (d ∷ e ∷ []) _ _
    (given-free n (number_in a) _ _ (λ batch. given-free n (number_in b) _ _ (λ tries. given-free n (number_in c) _ _
    (λ keep. free-goes n (a_lot batch tries keep) _ refl)))))
    (chosen-goes n (bytes_eq kind (codes "clock")) _ _ _ _ (unused-free n (b ∷ c ∷ d ∷ e ∷ []) _ _
    (given-free n (net_of a) _ _ (λ signal. free-goes n (a_clock signal) _ refl)))
    (chosen-goes n (bytes_eq kind (codes "bind")) _ _ _ _ (unused-free n (c ∷ d ∷ e ∷ []) _ _
    (given-free n (net_of a) _ _ (λ signal. given-free n (bound_net b) _ _ (λ net. free-goes n (a_bind signal net) _ refl))))
    (chosen-goes n (bytes_eq kind (codes "die")) _ _ _ _ (unused-goes n (d ∷ e ∷ []) _ _
    (number-goes n (number_in a) (number_in a') _ is (λ site. given-goes n (name_of b) _ _ (λ name. given-goes n (name_of c) _ _
    (λ file. site-goes n (a_die site name file))))))
    (chosen-goes n (bytes_eq kind (codes "fault")) _ _ _ _
    (number-goes n (number_in a) (number_in a') _ is (λ site. given-goes n (name_of b) _ _ (λ name. given-goes n (net_of c) _ _ (λ net.
    given-goes n (number_in d) _ _ (λ value. given-goes n (fault_tries e) _ _ (λ tries. site-goes n (a_fault site name net value tries)))))))
    (chosen-goes n (bytes_eq kind (codes "stop")) _ _ _ _ (unused-goes n (e ∷ []) _ _
    (number-goes n (number_in a) (number_in a') _ is (λ site. given-goes n (name_of b) _ _ (λ name. given-goes n (number_in c) _ _ (λ number.
    given-goes n (number_in d) _ _ (λ batch. site-goes n (a_stop site name number batch)))))))
    (chosen-goes n (bytes_eq kind (codes "bin")) _ _ _ _ (unused-free n (d ∷ e ∷ []) _ _
    (given-free n (ending_form a b) _ _ (λ ending. given-free n (number_in c) _ _ (λ number. free-goes n (a_bin ending number) _ refl))))
    (chosen-goes n (bytes_eq kind (codes "skew")) _ _ _ _ (unused-goes n (d ∷ e ∷ []) _ _
    (number-goes n (number_in a) (number_in a') _ is (λ site. given-goes n (net_of b) _ _ (λ signal. given-goes n (offset_in c) _ _
    (λ offset. site-goes n (a_skew site signal offset.0 offset.1))))))
    (none-goes n None))))))))

-- a record of a site, with a small number in its place
pub written_with : (fields : List (List ℕ)) (n : ℕ) (w : Written) (s : ℕ) → n ≤ 63 → written_of fields ≡ Some w → written_site w ≡ Some s
    → written_of (with_site fields n) ≡ Some (written_to n w)
written_with [] n w s small h at = cc
written_with (k ∷ []) n w s small h at = cc
written_with (k ∷ a ∷ []) n w s small h at = cc
written_with (k ∷ a ∷ b ∷ []) n w s small h at = cc
written_with (k ∷ a ∷ b ∷ c ∷ []) n w s small h at = cc
written_with (k ∷ a ∷ b ∷ c ∷ d ∷ []) n w s small h at = cc
written_with (k ∷ a ∷ b ∷ c ∷ d ∷ e ∷ []) n w s small h at = six-goes n k a (decimal n) b c d e (number_in-decimal n small) w s h at
written_with (k ∷ a ∷ b ∷ c ∷ d ∷ e ∷ x ∷ xs) n w s small h at = cc
