-- Where the fault of a text's tokens stands, and how many tokens a text has.
use Rattle.std.proofs.Common.{◌≡◌, ◌⊎◌, ℕ, ◌+◌, ◌≤◌, List, [], ◌∷◌, ◌++◌, length, sym, ap, subst, ◌∙◌, inl, inr, arith, length-append}
use Rattle.stil_lex.specs.Pieces.{Piece, gap, token}
use Rattle.stil_lex.specs.Tokens.{spelled, ArePieces, tokens_of, Reads}
use Rattle.stil_lex.specs.Faults.{IsRefusal, IsFault, IsFaultBehind, place}
use Rattle.stil_lex.specs.declared.token.Token.{Token}
use Rattle.stil_lex.specs.declared.fault.LexFault.{LexFault}
use Rattle.stil_lex.specs.declared.fault.LexFault.TheVariants.{NoMemory, BadByte, OpenQuote, OpenComment}
use Rattle.stil_lex.proofs.Readings.{piece_not_empty}

-- the place of a refusal is one of the text, or its end
place_in : (rest : List ℕ) (at : ℕ) (fault : LexFault) → IsRefusal rest at fault → place fault ≤ at + length rest
place_in rest at NoMemory h = absurd h
place_in rest at (BadByte p) (inl h) = omega (arith, h.0)
place_in rest at (BadByte p) (inr h) =
    let long = ap length h.2.spelled in
    omega (arith, h.1, h.2.place, long, length-append (h.2.front ++ h.2.byte ∷ h.2.back) (h.2.quote ∷ h.2.after), length-append h.2.front (h.2.byte ∷ h.2.back))
place_in rest at (OpenQuote p) h = omega (arith, h.0)
place_in rest at (OpenComment p) h = omega (arith, h.0)

pub place_within : (bytes : List ℕ) (fault : LexFault) → IsFault bytes fault → place fault ≤ length bytes
place_within bytes fault is =
    let h = is.here in
    omega (arith, place_in h.rest (length (spelled h.pieces)) fault h.refusal, ap length h.whole, length-append (spelled h.pieces) h.rest)

-- tokens are no more than bytes
fewer : (before after : List ℕ) (ps : List Piece) → ArePieces ps after → length (tokens_of before ps) ≤ length (spelled ps)
fewer before after [] are = omega arith
fewer before after (gap text ∷ ps) are =
    omega (arith, fewer (before ++ text) after ps are.1, length-append text (spelled ps))
fewer before after (token kind text ∷ ps) are =
    omega (arith, fewer (before ++ text) after ps are.1, length-append text (spelled ps), piece_not_empty (token kind text) (spelled ps ++ after) are.0)

pub few_tokens : (bytes : List ℕ) (tokens : List Token) → Reads bytes tokens → length tokens ≤ length bytes
few_tokens bytes tokens r = omega (arith, ap length r.are, ap length r.whole, fewer [] [] r.pieces r.each)

-- a fault that is answered stands in the text, or at its end
pub answered_within : (bytes : List ℕ) (read : List Token) (found which : LexFault) → found ≡ which → (which ≡ NoMemory → ⊥)
    → (found ≡ NoMemory) ⊎ IsFaultBehind bytes read found → place which ≤ length bytes
answered_within bytes read found which same some (inl none) = absurd (some (sym same ∙ none))
answered_within bytes read found which same some (inr is) =
    subst (λ (f : LexFault). place f ≤ length bytes) same (place_within bytes found is.0)
