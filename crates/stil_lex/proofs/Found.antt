-- What it means that the front which the code finds is so.
use Rattle.std.proofs.Common.{◌≡◌, ℕ, ◌+◌, false, List, [], ◌∷◌, ◌++◌, length, Option, Some, None, Result, Ok, Err, refl, sym, ap, ◌∙◌, inl, inr, arith, append_assoc, eq-eqb, length-append}
use Rattle.std.specs.Prelude.{◌==◌}
use Rattle.std.proofs.lemmas.Bool.{cond_both, eqb-true, false≢true}
use Rattle.std.proofs.lemmas.List.{drop_at}
use Rattle.stil_lex.specs.Bytes.{has_pair}
use Rattle.stil_lex.specs.Pieces.{Piece, gap, token, IsPiece, IsGap, IsClosed}
use Rattle.stil_lex.specs.Faults.{IsRefusal}
use Rattle.stil_lex.specs.Step.{a_gap, closed_front, pair_place}
use Rattle.stil_lex.specs.declared.token.TokenKind.{TokenKind}
use Rattle.stil_lex.specs.declared.fault.LexFault.{LexFault}
use Rattle.stil_lex.specs.declared.fault.LexFault.TheVariants.{OpenComment}
use Rattle.stil_lex.specs.declared.front.Front.{Front}
use Rattle.stil_lex.proofs.Pairs.{pair_cases}

-- the piece of this kind and spelling
abbrev pub piece_of : Option TokenKind → List ℕ → Piece
piece_of None text = gap text
piece_of (Some kind) text = token kind text

-- a piece of so many bytes stands at the front of the text
pub record IsFront (text : List ℕ) (kind : Option TokenKind) (len : ℕ) : Type 0 where
  pub by : List ℕ
  pub after : List ℕ
  pub spelled : text ≡ by ++ after
  pub is_len : len ≡ length by
  pub piece : IsPiece (piece_of kind by) after

-- what is found is so: the piece, or the refusal
abbrev pub IsSo : List ℕ → ℕ → Result Front LexFault → Type 0
IsSo text at (Ok found) = IsFront text found.kind found.len
IsSo text at (Err fault) = IsRefusal text at fault

-- a comment or an annotation, of which the opening is read
pub closed_is_so : (at n first second : ℕ) (opening rest : List ℕ) → n ≡ length opening
    → ((by after : List ℕ) → rest ≡ by ++ after → IsClosed first second by → IsGap (opening ++ by) after)
    → (has_pair first second rest ≡ false → IsRefusal (opening ++ rest) at (OpenComment at))
    → IsSo (opening ++ rest) at (closed_front at n first second (opening ++ rest))
unfolding closed_front
closed_is_so at n first second opening rest is_n is_gap is_open =
    rw (drop_at opening rest n (sym is_n))
    (elim (pair_cases first second rest) [
      | inl f ↦
          cond_both (pair_place first second rest == length rest) (Err (OpenComment at)) (Ok (a_gap (n + pair_place first second rest + 2))) (IsSo (opening ++ rest) at)
          (λ all.
          let same = eqb-true _ _ all in
          let long = ap length f.spelled in
          absurd (omega (arith, f.place, length-append f.body (first ∷ second ∷ f.after))))
          (λ _. record {
            by = opening ++ (f.body ++ first ∷ second ∷ []);
            after = f.after;
            spelled = ap (λ ys. opening ++ ys) f.spelled ∙ simp append_assoc;
            is_len = simp length-append (omega (arith, f.place));
            piece = is_gap (f.body ++ first ∷ second ∷ []) f.after (f.spelled ∙ simp append_assoc) (record { body = f.body; spelled = refl; no_earlier = f.no_earlier });
          })
      | inr n_one ↦
          cond_both (pair_place first second rest == length rest) (Err (OpenComment at)) (Ok (a_gap (n + pair_place first second rest + 2))) (IsSo (opening ++ rest) at)
          (λ _. is_open n_one.0)
          (λ fails. absurd (false≢true (sym fails ∙ eq-eqb _ _ n_one.1)))
    ])
