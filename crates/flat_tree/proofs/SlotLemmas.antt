-- How a flat tree lies in two lists.
use Rattle.std.proofs.Common.{◌≡◌, ℕ, ◌+◌, ◌*◌, ◌≤◌, zero, suc, ◌<◌, Bool, true, ◌||◌, List, [], ◌∷◌, ◌++◌, refl, ap, sym, ◌∙◌, length, drop, get_or, length-append, arith}
use Rattle.std.proofs.lemmas.List.{append-nil, drop_more}
use Rattle.stil_ast.specs.Meaning.Flat.{Flat, done, table, character, back, repeat, measure}
use Rattle.stil_ast.specs.Meaning.Flattening.{joined}
use Rattle.flat_tree.specs.Counts.{item_count, body_count}
use Rattle.flat_tree.specs.Kept.{has_vector, loops_in}
use Rattle.flat_tree.specs.Slots.{whole_front, wholes_flat, slots_flat, wholes_in}
use Rattle.flat_tree.specs.declared.flat.Slot.{Slot}
use Rattle.flat_tree.specs.declared.flat.Slot.TheVariants.{Table, Character, Back, Next}
use Rattle.flat_tree.specs.declared.flat.Whole.{Whole}
use Rattle.flat_tree.specs.declared.flat.Whole.TheVariants.{Cycle, Repeat, Save}
use Rattle.flat_tree.proofs.FlatLemmas.{bodies-joined, measure-joined}

-- ---- lists behind each other

pub wholes_in-append : (slots more : List Slot) → wholes_in (slots ++ more) ≡ wholes_in slots + wholes_in more
wholes_in-append [] more = omega arith
wholes_in-append (slot ∷ slots) more = omega (arith, wholes_in-append slots more)

-- both lists fit each other behind others
pub fits_behind : (slots more : List Slot) (wholes others : List Whole) → wholes_in slots ≡ length wholes
    → wholes_in more ≡ length others → wholes_in (slots ++ more) ≡ length (wholes ++ others)
fits_behind slots more wholes others e f =
    omega (arith, wholes_in-append slots more, e, f, length-append wholes others)

-- a vector, a loop or a save stands in front of what is joined to it
pub whole_front-joined : (whole : Whole) (a b : Flat) → joined (whole_front whole a) b ≡ whole_front whole (joined a b)
whole_front-joined (Cycle mark place) a b = refl
whole_front-joined (Repeat count body) a b = refl
whole_front-joined (Save putting body) a b = refl

pub slots_flat-append : (slots more : List Slot) (wholes others : List Whole) → wholes_in slots ≡ length wholes
    → slots_flat (slots ++ more) (wholes ++ others) ≡ joined (slots_flat slots wholes) (slots_flat more others)
slots_flat-append [] more [] others e = refl
slots_flat-append [] more (whole ∷ wholes) others e = absurd (omega (arith, e))
slots_flat-append (Table t ∷ slots) more wholes others e =
    ap (table t) (slots_flat-append slots more wholes others (omega (arith, e)))
slots_flat-append (Character c signal ∷ slots) more wholes others e =
    ap (character signal c) (slots_flat-append slots more wholes others (omega (arith, e)))
slots_flat-append (Back signal ∷ slots) more wholes others e =
    ap (back signal) (slots_flat-append slots more wholes others (omega (arith, e)))
slots_flat-append (Next ∷ slots) more [] others e = absurd (omega (arith, e))
slots_flat-append (Next ∷ slots) more (whole ∷ wholes) others e =
    ap (whole_front whole) (slots_flat-append slots more wholes others (omega (arith, e)))
    ∙ sym (whole_front-joined whole (slots_flat slots wholes) (slots_flat more others))

-- an assignment behind others
pub slots_flat-push : (slots : List Slot) (slot : Slot) (wholes : List Whole) → wholes_in slots ≡ length wholes
    → slots_flat (slots ++ slot ∷ []) wholes ≡ joined (slots_flat slots wholes) (slots_flat (slot ∷ []) [])
slots_flat-push slots slot wholes e =
    ap (slots_flat (slots ++ slot ∷ [])) (sym (append-nil wholes)) ∙ slots_flat-append slots (slot ∷ []) wholes [] e

-- each slot is an item
pub slots_flat-count : (slots : List Slot) (wholes : List Whole) → wholes_in slots ≡ length wholes
    → item_count (slots_flat slots wholes) ≡ length slots
slots_flat-count [] wholes e = refl
slots_flat-count (Table t ∷ slots) wholes e = omega (arith, slots_flat-count slots wholes (omega (arith, e)))
slots_flat-count (Character c signal ∷ slots) wholes e = omega (arith, slots_flat-count slots wholes (omega (arith, e)))
slots_flat-count (Back signal ∷ slots) wholes e = omega (arith, slots_flat-count slots wholes (omega (arith, e)))
slots_flat-count (Next ∷ slots) [] e = absurd (omega (arith, e))
slots_flat-count (Next ∷ slots) (whole ∷ wholes) e =
    omega (arith, whole_count whole (slots_flat slots wholes), slots_flat-count slots wholes (omega (arith, e)))
  where
    whole_count : (whole : Whole) (rest : Flat) → item_count (whole_front whole rest) ≡ 1 + item_count rest
    whole_count (Cycle mark place) rest = refl
    whole_count (Repeat count body) rest = refl
    whole_count (Save putting body) rest = refl

-- ---- what passes over assignments

-- what says nothing of the assignments at the top of a flat tree: its bodies, its measure, its vectors and its loops
abbrev Asked : Type 0
Asked = ℕ × ℕ × Bool × Flat

abbrev asked : Flat → Asked
asked f = (body_count f, measure f, has_vector f, loops_in f)

-- a whole in front changes it alike
over_whole : (whole : Whole) (a b : Flat) → asked a ≡ asked b → asked (whole_front whole a) ≡ asked (whole_front whole b)
over_whole (Cycle mark place) a b e = ap (λ (x : Asked). (x.0, 1 + x.1, true, x.3)) e
over_whole (Repeat count body) a b e =
    let f = body.value in
    ap (λ (x : Asked). (body_count f + 1 + x.0, 2 * measure f + 2 + x.1, has_vector f || x.2, repeat count (loops_in f) x.3)) e
over_whole (Save putting body) a b e =
    let f = body.value in
    ap (λ (x : Asked). (body_count f + 1 + x.0, measure f + x.1, has_vector f || x.2, joined (loops_in f) x.3)) e

-- it can be asked of the wholes alone
wholes_alone : (slots : List Slot) (wholes : List Whole) → wholes_in slots ≡ length wholes
    → asked (slots_flat slots wholes) ≡ asked (wholes_flat wholes)
wholes_alone [] [] e = refl
wholes_alone [] (whole ∷ wholes) e = absurd (omega (arith, e))
wholes_alone (Table t ∷ slots) wholes e = wholes_alone slots wholes (omega (arith, e))
wholes_alone (Character c signal ∷ slots) wholes e = wholes_alone slots wholes (omega (arith, e))
wholes_alone (Back signal ∷ slots) wholes e = wholes_alone slots wholes (omega (arith, e))
wholes_alone (Next ∷ slots) [] e = absurd (omega (arith, e))
wholes_alone (Next ∷ slots) (whole ∷ wholes) e =
    over_whole whole (slots_flat slots wholes) (wholes_flat wholes) (wholes_alone slots wholes (omega (arith, e)))

pub bodies_alone : (slots : List Slot) (wholes : List Whole) → wholes_in slots ≡ length wholes
    → body_count (slots_flat slots wholes) ≡ body_count (wholes_flat wholes)
bodies_alone slots wholes e = ap (λ (x : Asked). x.0) (wholes_alone slots wholes e)

pub measure_alone : (slots : List Slot) (wholes : List Whole) → wholes_in slots ≡ length wholes
    → measure (slots_flat slots wholes) ≡ measure (wholes_flat wholes)
measure_alone slots wholes e = ap (λ (x : Asked). x.1) (wholes_alone slots wholes e)

pub vector_alone : (slots : List Slot) (wholes : List Whole) → wholes_in slots ≡ length wholes
    → has_vector (slots_flat slots wholes) ≡ has_vector (wholes_flat wholes)
vector_alone slots wholes e = ap (λ (x : Asked). x.2) (wholes_alone slots wholes e)

pub loops_alone : (slots : List Slot) (wholes : List Whole) → wholes_in slots ≡ length wholes
    → loops_in (slots_flat slots wholes) ≡ loops_in (wholes_flat wholes)
loops_alone slots wholes e = ap (λ (x : Asked). x.3) (wholes_alone slots wholes e)

-- ---- wholes one after another

-- what a whole begins has its bodies and those of the rest
pub whole_bodies : (whole : Whole) (rest : Flat)
    → body_count (whole_front whole rest) ≡ body_count (whole_front whole done) + body_count rest
whole_bodies whole rest =
    ap body_count (sym (whole_front-joined whole done rest)) ∙ bodies-joined (whole_front whole done) rest

-- and so with the measure
pub whole_measure : (whole : Whole) (rest : Flat)
    → measure (whole_front whole rest) ≡ measure (whole_front whole done) + measure rest
whole_measure whole rest =
    ap measure (sym (whole_front-joined whole done rest)) ∙ measure-joined (whole_front whole done) rest

-- wholes from a place on
pub wholes_from : (wholes : List Whole) (i : ℕ) (d whole : Whole) → whole ≡ get_or wholes i d → i < length wholes
    → wholes_flat (drop i wholes) ≡ whole_front whole (wholes_flat (drop (i + 1) wholes))
wholes_from wholes i d whole e within =
    ap wholes_flat (drop_more wholes i d within)
    ∙ ap (λ (w : Whole). whole_front w (wholes_flat (drop (i + 1) wholes))) (sym e)

-- what has been dropped had no fewer bodies
pub dropped_bodies : (wholes : List Whole) (i : ℕ) → body_count (wholes_flat (drop i wholes)) ≤ body_count (wholes_flat wholes)
dropped_bodies wholes zero = omega arith
dropped_bodies [] (suc i) = omega arith
dropped_bodies (whole ∷ wholes) (suc i) =
    omega (arith, whole_bodies whole (wholes_flat wholes), dropped_bodies wholes i)

-- a whole has no more bodies than all of them
pub whole_bodies-le : (wholes : List Whole) (i : ℕ) (d whole : Whole) → whole ≡ get_or wholes i d → i < length wholes
    → body_count (whole_front whole done) ≤ body_count (wholes_flat wholes)
whole_bodies-le wholes i d whole e within =
    omega (
      arith,
      ap body_count (wholes_from wholes i d whole e within),
      whole_bodies whole (wholes_flat (drop (i + 1) wholes)),
      dropped_bodies wholes i,
    )

-- the rest of a list has no more bodies
pub rest_bodies-le : (whole : Whole) (rest : List Whole)
    → body_count (wholes_flat rest) ≤ body_count (wholes_flat (whole ∷ rest))
rest_bodies-le whole rest = omega (arith, whole_bodies whole (wholes_flat rest))
