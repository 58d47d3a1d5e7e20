-- How one record is written.
use Rattle.std.proofs.Common.{◌≡◌, ℕ, zero, suc, ◌/◌, ◌%◌, ◌<◌, Bool, true, false, cond, ◌==◌, List, [], ◌∷◌, length, Option, Some, None, refl, sym, ap, ◌∙◌, arith, append-nil}
use Rattle.std.specs.Prelude.{decimal}
use Rattle.std.specs.Io.KnownBytes.{append_known}
use Rattle.csv.specs.Writing.{text_written, writer_pending, writer_under}
use Rattle.csv.specs.declared.writer.Writer.{Writer}
use Rattle.std.specs.List.{position_or_len}
use Rattle.std.specs.Option.{option_map}
use Rattle.csv.specs.Records.{field_at}
use Rattle.csv.specs.Writing.{default_writer, row_text}
use Rattle.plan_rows.specs.Rows.{one, site_in}
use Rattle.plan_rows.specs.declared.row.Row.{Row}
use Rattle.plan_parts.specs.Cut.{of_rank, of_site, sites_with_dies}
use Rattle.plan_parts.specs.PartText.{record_in, records_text, with_site}

-- a field that is there
pub none_within : (fields : List (List ℕ)) (i : ℕ) → i < length fields → None ≡ field_at fields i → ⊥
unfolding field_at
none_within [] i low h = absurd (omega (arith, low))
none_within (f ∷ fs) zero low h = absurd (differ h)
  where
    differ : {X : Type 0} {x : X} → None ≡ Some x → ⊥
    differ h = cc
none_within (f ∷ fs) (suc i) low h = none_within fs i (omega (arith, low)) h

-- six fields, with a number in the place of the second
pub six_with : (fields : List (List ℕ)) (number : ℕ) (k n b c d e : List ℕ) → length fields ≡ 6 → n ≡ decimal number → Some k ≡ field_at fields 0
    → Some b ≡ field_at fields 2 → Some c ≡ field_at fields 3 → Some d ≡ field_at fields 4 → Some e ≡ field_at fields 5
    → k ∷ n ∷ b ∷ c ∷ d ∷ e ∷ [] ≡ with_site fields number
unfolding field_at
six_with (l ∷ g ∷ h ∷ i ∷ j ∷ m ∷ []) number k n b c d e six is s0 s2 s3 s4 s5 = cc
six_with [] number k n b c d e six is s0 s2 s3 s4 s5 = absurd (omega arith)
six_with (l ∷ []) number k n b c d e six is s0 s2 s3 s4 s5 = absurd (omega arith)
six_with (l ∷ g ∷ []) number k n b c d e six is s0 s2 s3 s4 s5 = absurd (omega arith)
six_with (l ∷ g ∷ h ∷ []) number k n b c d e six is s0 s2 s3 s4 s5 = absurd (omega arith)
six_with (l ∷ g ∷ h ∷ i ∷ []) number k n b c d e six is s0 s2 s3 s4 s5 = absurd (omega arith)
six_with (l ∷ g ∷ h ∷ i ∷ j ∷ []) number k n b c d e six is s0 s2 s3 s4 s5 = absurd (omega arith)
six_with (l ∷ g ∷ h ∷ i ∷ j ∷ m ∷ x ∷ xs) number k n b c d e six is s0 s2 s3 s4 s5 = absurd (omega arith)

-- a writer that wrote nothing
pub fresh_text : {W : Type 0} (w : Writer W) (contents : W → Option (List ℕ)) (v : W) → writer_under w ≡ v → writer_pending w ≡ []
    → contents v ≡ Some [] → text_written contents w ≡ Some []
fresh_text w contents v under pending none =
    ap (λ (u : _). append_known (contents u) (writer_pending w)) under ∙ ap (λ (b : List ℕ). append_known (contents v) b) pending
    ∙ ap (λ (o : Option (List ℕ)). append_known o []) none

-- what is said of a rank's number, by the number
pub of_rank-number : {A : Type 0} (parts part : ℕ) (said : ℕ → A) (rank : ℕ)
    → of_rank parts part said rank ≡ option_map said (of_rank parts part (λ number. number) rank)
of_rank-number {A} parts part said rank = by (rank % parts == part)
  where
    by : (b : Bool) → cond {A = Option A} b (Some (said (rank / parts))) None
        ≡ option_map said (cond {A = Option ℕ} b (Some (rank / parts)) None)
    by true = refl
    by false = refl

-- a record of no site is written as it is
pub text_same : (parts part : ℕ) (rows : List Row) (r : Row) (fields : List (List ℕ)) → None ≡ site_in r
    → row_text default_writer fields ≡ records_text (one (record_in parts part rows r fields))
text_same parts part rows r fields none =
    sym (append-nil (row_text default_writer fields))
    ∙ ap (λ (o : Option ℕ). records_text (one (of_site parts part rows fields (with_site fields) o))) none

-- what a part has of a record of a site
of_number : (parts part : ℕ) (sites : List ℕ) (rows : List Row) (r : Row) (fields : List (List ℕ)) (site : ℕ) (o : Option ℕ) → sites ≡ sites_with_dies rows
    → Some site ≡ site_in r → o ≡ of_rank parts part (λ number. number) (position_or_len (λ s. s == site) sites)
    → record_in parts part rows r fields ≡ option_map (with_site fields) o
of_number parts part sites rows r fields site o same at is =
    ap (of_site parts part rows fields (with_site fields)) (sym at)
    ∙ ap (λ (l : List ℕ). of_rank parts part (with_site fields) (position_or_len (λ s. s == site) l)) (sym same)
    ∙ of_rank-number parts part (with_site fields) (position_or_len (λ s. s == site) sites)
    ∙ ap (option_map (with_site fields)) (sym is)

-- a record of a site of the part is written with its number
pub text_moved : (parts part : ℕ) (sites : List ℕ) (rows : List Row) (r : Row) (fields : List (List ℕ)) (site number : ℕ) → sites ≡ sites_with_dies rows
    → Some site ≡ site_in r → Some number ≡ of_rank parts part (λ number. number) (position_or_len (λ s. s == site) sites)
    → row_text default_writer (with_site fields number) ≡ records_text (one (record_in parts part rows r fields))
text_moved parts part sites rows r fields site number same at is =
    sym (append-nil (row_text default_writer (with_site fields number)))
    ∙ ap (λ (o : Option (List (List ℕ))). records_text (one o)) (sym (of_number parts part sites rows r fields site (Some number) same at is))

-- a record of another site isn't written
pub text_gone : (parts part : ℕ) (sites : List ℕ) (rows : List Row) (r : Row) (fields : List (List ℕ)) (site : ℕ) → sites ≡ sites_with_dies rows
    → Some site ≡ site_in r → None ≡ of_rank parts part (λ number. number) (position_or_len (λ s. s == site) sites)
    → [] ≡ records_text (one (record_in parts part rows r fields))
text_gone parts part sites rows r fields site same at is =
    ap (λ (o : Option (List (List ℕ))). records_text (one o)) (sym (of_number parts part sites rows r fields site None same at is))
