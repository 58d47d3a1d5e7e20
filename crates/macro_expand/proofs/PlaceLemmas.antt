-- An assignment whose signals are known: its faults, and what it does.
use Rattle.std.proofs.Common.{◌≡◌, ℕ, ◌+◌, Bool, true, false, List, [], ◌∷◌, ◌++◌, refl, ap, sym, ◌∙◌, subst, length, if◌then◌else◌}
use Rattle.stil_ast.specs.Meaning.Arguments.{Argument}
use Rattle.stil_ast.specs.Meaning.Statements.{Assign}
use Rattle.stil_ast.specs.Meaning.Dealing.{Dealt, deal, spread, takers}
use Rattle.stil_ast.specs.Meaning.Flattening.{gifts_front}
use Rattle.stil_ast.specs.Meaning.Resolved.{Scope}
use Rattle.stil_ast.specs.Faults.AssignmentFaults.{Walked, Checked, fine, refused, rule, bar_if, Standing, fault_on, hash_misplaced, width_fits, data_there, hashes_after, walked_assign}
use Rattle.stil_ast.specs.declared.fault.StilFault.{StilFault}
use Rattle.stil_ast.specs.declared.fault.StilKind.TheVariants.{ShiftForm, Width, NoData}
use Rattle.macro_expand.specs.declared.walk.Walk.{Walk}
use Rattle.macro_expand.specs.Pairs.{Taker, paired, hashed_in, dealt_to}
use Rattle.macro_expand.specs.Placing.{placed, Writes}
use Rattle.macro_expand.specs.Walks.{walked, then_kept, Deals}
use Rattle.macro_expand.proofs.PairLemmas.{takers_paired, deal_paired}

-- one rule after another
pub barred : (b : Bool) (fault : StilFault) (next : Walked → Checked) (w : Walked) → b ≡ true → bar_if b fault next w ≡ refused fault
barred true fault next w e = refl
barred false fault next w e = cc

pub not_barred : (b : Bool) (fault : StilFault) (next : Walked → Checked) (w : Walked) → b ≡ false → bar_if b fault next w ≡ next w
not_barred true fault next w e = cc
not_barred false fault next w e = refl

pub ruled_out : (b : Bool) (fault : StilFault) (next : Walked → Checked) (w : Walked) → b ≡ false → rule b fault next w ≡ refused fault
ruled_out true fault next w e = cc
ruled_out false fault next w e = refl

pub not_ruled_out : (b : Bool) (fault : StilFault) (next : Walked → Checked) (w : Walked) → b ≡ true → rule b fault next w ≡ next w
not_ruled_out true fault next w e = refl
not_ruled_out false fault next w e = cc

-- a `#` that may not stand there
pub misplaced_at : (sc : Scope) (s : Standing) (line : ℕ) (a : Assign) (w : Walked) → hash_misplaced s a w.hashes ≡ true
    → placed sc s line a w ≡ refused (fault_on sc s line ShiftForm)
misplaced_at sc s line a w e =
    barred (hash_misplaced s a w.hashes) (fault_on sc s line ShiftForm)
    (rule (width_fits a) (fault_on sc s line Width) (rule (data_there s a w.args) (fault_on sc s line NoData) (λ w. fine (walked_assign s a w)))) w e

-- the wrong number of data
pub width_at : (sc : Scope) (s : Standing) (line : ℕ) (a : Assign) (w : Walked) → hash_misplaced s a w.hashes ≡ false
    → width_fits a ≡ false → placed sc s line a w ≡ refused (fault_on sc s line Width)
width_at sc s line a w form e =
    not_barred (hash_misplaced s a w.hashes) (fault_on sc s line ShiftForm)
    (rule (width_fits a) (fault_on sc s line Width) (rule (data_there s a w.args) (fault_on sc s line NoData) (λ w. fine (walked_assign s a w)))) w form
    ∙ ruled_out (width_fits a) (fault_on sc s line Width) (rule (data_there s a w.args) (fault_on sc s line NoData) (λ w. fine (walked_assign s a w))) w e

-- behind the first two rules
behind_width : (sc : Scope) (s : Standing) (line : ℕ) (a : Assign) (w : Walked) → hash_misplaced s a w.hashes ≡ false
    → width_fits a ≡ true
    → placed sc s line a w ≡ rule (data_there s a w.args) (fault_on sc s line NoData) (λ w. fine (walked_assign s a w)) w
behind_width sc s line a w form e =
    not_barred (hash_misplaced s a w.hashes) (fault_on sc s line ShiftForm)
    (rule (width_fits a) (fault_on sc s line Width) (rule (data_there s a w.args) (fault_on sc s line NoData) (λ w. fine (walked_assign s a w)))) w form
    ∙ not_ruled_out (width_fits a) (fault_on sc s line Width) (rule (data_there s a w.args) (fault_on sc s line NoData) (λ w. fine (walked_assign s a w))) w e

-- data that aren't there
pub data_at : (sc : Scope) (s : Standing) (line : ℕ) (a : Assign) (w : Walked) → hash_misplaced s a w.hashes ≡ false
    → width_fits a ≡ true → data_there s a w.args ≡ false → placed sc s line a w ≡ refused (fault_on sc s line NoData)
data_at sc s line a w form fits e =
    behind_width sc s line a w form fits
    ∙ ruled_out (data_there s a w.args) (fault_on sc s line NoData) (λ w. fine (walked_assign s a w)) w e

-- an assignment without a fault is dealt
pub places : (sc : Scope) (s : Standing) (line : ℕ) (a : Assign) (ts : List Taker) (before : Walk)
    → hash_misplaced s a before.hashes ≡ false → width_fits a ≡ true → data_there s a before.args ≡ true
    → ts ≡ paired a.signals (spread a.signals a.items)
    → (dealt : Walk) → Deals s.in_shift (dealt_to ts before.args) (hashed_in ts) before dealt
    → Writes (placed sc s line a) (a ∷ []) before (record dealt { count = dealt.count + length a.signals })
places sc s line a ts before form fits there same dealt d =
    let takes : hashed_in ts ≡ takers (a ∷ []) = ap hashed_in same ∙ sym (takers_paired a.signals a.items) in
    let gets : dealt_to ts before.args ≡ deal (a ∷ []) before.args
    = ap (λ (us : List Taker). dealt_to us before.args) same ∙ sym (deal_paired a.signals a.items before.args) in
    let args : dealt.args ≡ (deal (a ∷ []) before.args).args = d.args ∙ ap (λ (x : Dealt). x.args) gets in
    let hashes : dealt.hashes ≡ (if s.in_shift then before.hashes ++ takers (a ∷ []) else before.hashes)
    = d.hashes ∙ ap (λ xs. if s.in_shift then before.hashes ++ xs else before.hashes) takes in
    let done : placed sc s line a (walked before) ≡ fine (walked_assign s a (walked before))
    = behind_width sc s line a (walked before) form fits
    ∙ not_ruled_out (data_there s a before.args) (fault_on sc s line NoData) (λ w. fine (walked_assign s a w)) (walked before) there in
    let same_walked : walked_assign s a (walked before) ≡ walked (record dealt { count = before.count + length a.signals })
    = ap (λ (args : List Argument). record { args = args; hashes = hashes_after s a before.hashes; count = before.count + length a.signals }) (sym args)
    ∙ ap (λ (hashes : List ℕ). record { args = dealt.args; hashes = hashes; count = before.count + length a.signals }) (sym hashes) in
    let all : Writes (placed sc s line a) (a ∷ []) before (record dealt { count = before.count + length a.signals })
    = record {
      checked = done ∙ ap fine same_walked;
      args = args;
      out = λ rest. d.out rest ∙ ap (λ (x : Dealt). then_kept before.out (gifts_front x.gifts rest)) gets;
      taken = d.taken ∙ ap (λ xs. before.taken ++ xs) takes;
    } in
    subst (λ n. Writes (placed sc s line a) (a ∷ []) before (record dealt { count = n + length a.signals })) (sym d.count) all
