-- Signals are given what they get, one after another.
use Rattle.std.proofs.Common.{◌≡◌, ℕ, Bool, true, false, List, [], ◌∷◌, ◌++◌, refl, ap, sym, ◌∙◌, append-nil, append_assoc, if◌then◌else◌}
use Rattle.stil_ast.specs.Meaning.Arguments.{Argument}
use Rattle.stil_ast.specs.Meaning.Dealing.{deal_item}
use Rattle.stil_ast.specs.Meaning.Flattening.{gifts_front}
use Rattle.macro_expand.specs.declared.walk.Walk.{Walk}
use Rattle.macro_expand.specs.Pairs.{Taker, hash_front, hashed_in, dealt_to}
use Rattle.macro_expand.specs.Walks.{then_kept, Deals, IsDealing}
use Rattle.macro_expand.proofs.PairLemmas.{hash_front_append}
use Rattle.macro_expand.proofs.FlatLemmas.{gifts_front-append}

-- those that got a `#` are noted in a Shift alone
noted : (in_shift : Bool) (start all now hashed left whole after : List ℕ)
    → after ≡ (if in_shift then now ++ hashed else now)
    → (now ++ hashed) ++ left ≡ now ++ whole
    → (if in_shift then now ++ whole else now) ≡ (if in_shift then start ++ all else start)
    → (if in_shift then after ++ left else after) ≡ (if in_shift then start ++ all else start)
noted true start all now hashed left whole after e more before = ap (λ xs. xs ++ left) e ∙ more ∙ before
noted false start all now hashed left whole after e more before = e ∙ before

all_noted : (in_shift : Bool) (now : List ℕ) → now ≡ (if in_shift then now ++ [] else now)
all_noted true now = sym (append-nil now)
all_noted false now = refl

-- one of them more
pub dealing_step : (in_shift : Bool) (takers : List Taker) (start : Walk) (t : Taker) (left : List Taker) (now after : Walk)
    → IsDealing in_shift takers start (t ∷ left) now
    → Deals in_shift (deal_item t.item t.signal now.args) (hash_front t.signal t.item []) now after
    → IsDealing in_shift takers start left after
dealing_step in_shift takers start t left now after before e =
    let d = deal_item t.item t.signal now.args in
    let hashed = hash_front t.signal t.item [] in
    let more : (xs : List ℕ) → (xs ++ hashed) ++ hashed_in left ≡ xs ++ hashed_in (t ∷ left)
    = λ xs. append_assoc xs hashed (hashed_in left) ∙ ap (λ ys. xs ++ ys) (hash_front_append t.signal t.item (hashed_in left)) in
    record {
      args = ap (λ (args : List Argument). (dealt_to left args).args) e.args ∙ before.args;
      out = λ rest.
          ap (λ (args : List Argument). then_kept after.out (gifts_front (dealt_to left args).gifts rest)) e.args
          ∙ e.out (gifts_front (dealt_to left d.args).gifts rest)
          ∙ ap (then_kept now.out) (sym (gifts_front-append d.gifts (dealt_to left d.args).gifts rest))
          ∙ before.out rest;
      taken = ap (λ xs. xs ++ hashed_in left) e.taken ∙ more now.taken ∙ before.taken;
      hashes = noted in_shift start.hashes (hashed_in takers) now.hashes hashed (hashed_in left) (hashed_in (t ∷ left)) after.hashes
          e.hashes (more now.hashes) before.hashes;
      count = e.count ∙ before.count;
    }

-- all of them
pub dealing_ends : (in_shift : Bool) (takers : List Taker) (start now : Walk) → IsDealing in_shift takers start [] now
    → Deals in_shift (dealt_to takers start.args) (hashed_in takers) start now
dealing_ends in_shift takers start now e = record {
  args = e.args;
  out = e.out;
  taken = sym (append-nil now.taken) ∙ e.taken;
  hashes = all_noted in_shift now.hashes ∙ e.hashes;
  count = e.count;
}
