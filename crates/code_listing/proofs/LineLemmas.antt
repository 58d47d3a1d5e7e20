-- Texts that end their last line, and what a sink holds where one of several isn't put whole.
use Rattle.std.proofs.Common.{◌≡◌, ℕ, List, [], ◌∷◌, ◌++◌, Option, Result, Ok, Err, inl, refl, sym, ap, ◌∙◌, subst, append_assoc}
use Rattle.std.specs.List.{flat_map}
use Rattle.text_bytes.specs.Texts.{AreLines}
use Rattle.text_bytes.proofs.TextLemmas.{lines_behind}
use Rattle.tester_types.specs.Outside.{gained, GainsFront}
use Rattle.tester_types.proofs.OutsideLemmas.{gained-gained, gained-none, front_more, front_behind, puts_stops}
use Rattle.code_listing.specs.declared.fault.ListFault.{ListFault}
use Rattle.code_listing.specs.declared.fault.ListFault.TheVariants.{NoMemory, Sink}
use Rattle.code_listing.specs.Lines.{GainsLines, Lists}

-- ---- whole lines

-- a text that ends with a line feed, behind another
pub ends_behind : (a b : List ℕ) → ((front : List ℕ) × (b ≡ front ++ 10 ∷ [])) → (front : List ℕ) × (a ++ b ≡ front ++ 10 ∷ [])
ends_behind a b (front, is) = (a ++ front, ap (λ t. a ++ t) is ∙ sym (append_assoc a front (10 ∷ [])))

-- texts that are each whole lines
pub lines_all : {X : Type 0} (text : X → List ℕ) (items : List X) → ((x : X) → AreLines (text x)) → AreLines (flat_map text items)
lines_all text [] each = inl refl
lines_all text (x ∷ items) each = lines_behind (text x) (flat_map text items) (each x) (lines_all text items each)

-- ---- texts that are put one after another

-- the first lines of a text are those of a longer one
lines_more : (held now : Option (List ℕ)) (a b : List ℕ) → GainsLines held a now → GainsLines held (a ++ b) now
lines_more held now a b (lines, first, is) = (
  lines,
  record {
    rest = first.rest ++ b;
    is = ap (λ t. t ++ b) first.is ∙ append_assoc lines first.rest b;
    whole = first.whole;
  },
  is,
)

-- whole lines, and the first lines of what comes behind them
gains_behind : (held before now : Option (List ℕ)) (a b : List ℕ) → AreLines a → before ≡ gained held a → GainsLines before b now
    → GainsLines held (a ++ b) now
gains_behind held before now a b whole so_far (lines, first, is) = (
  a ++ lines,
  record {
    rest = first.rest;
    is = ap (λ t. a ++ t) first.is ∙ sym (append_assoc a lines first.rest);
    whole = lines_behind a lines whole first.whole;
  },
  is ∙ ap (λ was. gained was lines) so_far ∙ gained-gained held a lines,
)

-- the last of two texts ends as it ends
pub lists_last : {A : Type 0} (held before now : Option (List ℕ)) (a b : List ℕ) (r : Result A ListFault) → AreLines a
    → before ≡ gained held a → Lists before b r now → Lists held (a ++ b) r now
lists_last held before now a b (Ok done) whole so_far is = is ∙ ap (λ was. gained was b) so_far ∙ gained-gained held a b
lists_last held before now a b (Err (Sink fault)) whole so_far front =
    front_behind held now a b (subst (λ (was : Option (List ℕ)). GainsFront was b now) so_far front)
lists_last held before now a b (Err NoMemory) whole so_far lines = gains_behind held before now a b whole so_far lines

-- a text that isn't put whole, before another
pub lists_more : (A B : Type 0) (held now : Option (List ℕ)) (a b : List ℕ) (e : ListFault) → Lists {A = A} held a (Err e) now
    → Lists {A = B} held (a ++ b) (Err e) now
lists_more A B held now a b (Sink fault) front = front_more held now a b front
lists_more A B held now a b NoMemory lines = lines_more held now a b lines

-- a text that isn't put whole, among others
pub lists_stops : (A B : Type 0) (held before now : Option (List ℕ)) (whole done text rest : List ℕ) (e : ListFault)
    → whole ≡ done ++ (text ++ rest) → AreLines done → before ≡ gained held done → Lists {A = A} before text (Err e) now
    → Lists {A = B} held whole (Err e) now
lists_stops A B held before now whole done text rest (Sink fault) is lines so_far front =
    subst (λ (all : List ℕ). GainsFront held all now) (sym is) (puts_stops held before now done text rest so_far front)
lists_stops A B held before now whole done text rest NoMemory is lines so_far got =
    subst (λ (all : List ℕ). GainsLines held all now) (sym is)
    (gains_behind held before now done (text ++ rest) lines so_far (lines_more before now text rest got))

-- nothing was put yet
pub none_lists : (A : Type 0) (held : Option (List ℕ)) (text : List ℕ) → Lists {A = A} held text (Err NoMemory) held
none_lists A held text = ([], record { rest = text; is = refl; whole = inl refl }, sym (gained-none held))
