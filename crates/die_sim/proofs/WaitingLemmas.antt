-- Flip-flops that don't wait keep what their D nets have, through captures, drives and new levels.
use Rattle.std.proofs.Common.{◌≡◌, ◌≢◌, ℕ, ◌+◌, ◌-◌, ◌<◌, ◌≤◌, ◌⊎◌, ◌++◌, Bool, true, false, cond, List, [], ◌∷◌, length, get_or, take, set, refl, sym, ap, ◌∙◌, subst, arith, inl, inr, length-set, length-append}
use Rattle.std.proofs.lemmas.List.{get_or-set_same, get_or-set_other, get_or_append_left, get_or_push, get_or_past, get_or-take, length-take-le}
use Rattle.std.proofs.lemmas.Bool.{cases_Bool, cases_eq, cases_lt, both_ways}
use Rattle.std.proofs.lemmas.Nat.Bits.{bit_at-zero}
use Rattle.std.specs.Int.{bit_at}
use Rattle.place_bits.specs.Bits.{IsLowest, IsRest}
use Rattle.tester_types.specs.declared.level.Level.{Level}
use Rattle.tester_types.specs.declared.level.Level.TheVariants.{Zero, One, X, Z}
use Rattle.tester_types.specs.declared.level.Drive.{Drive}
use Rattle.bench_net.specs.declared.gate.Driver.{Driver}
use Rattle.bench_net.specs.declared.gate.Driver.TheVariants.{Input, Dff, Gate}
use Rattle.bench_net.specs.Wiring.{driver_at}
use Rattle.die_sim.specs.declared.image.Bind.{Bind}
use Rattle.die_sim.specs.declared.image.Bind.TheVariants as bind
use Rattle.die_sim.specs.declared.moment.Edge.{Edge}
use Rattle.die_sim.specs.declared.moment.Edge.TheVariants.{Takes, Doubts, Keeps}
use Rattle.bench_net.specs.Gates.{level_at, read}
use Rattle.die_sim.specs.Die.{bind_at, IsNetBind}
use Rattle.die_sim.specs.Moment.{agreed, capture, captured, Captures, put_all}
use Rattle.die_sim.specs.Walk.{is_flip_flop, StandsAt, AreFlipFlops, MayCapture}
use Rattle.die_sim.specs.Waiting.{FlipFlops, first_at, next_at, waits_at, IsLinked, here, onward, AreLinkedTo, AreWakers, AreAtRest, SameLinks, StandsBelow, AreListed, AreTaken}
use Rattle.die_sim.proofs.MomentLemmas.{flip_flop_within, put_all-other}

-- one more place is set
pub waits_more : (old new : List Bool) (i : ℕ) → new ≡ set old i true → i < length old
    → ((k : ℕ) → k < i → waits_at old k ≡ true) → (k : ℕ) → k < i + 1 → waits_at new k ≡ true
waits_more old new i is room h k l = ap (λ (b : List Bool). waits_at b k) is ∙ elim (cases_eq k i) [
  | inl q ↦ ap (waits_at (set old i true)) q ∙ get_or-set_same old i true false room
  | inr ne ↦ get_or-set_other old i k true false ne ∙ h k (omega (arith, l, ne))
]

-- a list gets one longer at most
pub length-pushed-le : (b : Bool) (xs : List ℕ) (x : ℕ) → length (cond b (xs ++ x ∷ []) xs) ≤ length xs + 1
length-pushed-le true xs x = omega (arith, length-append xs (x ∷ []))
length-pushed-le false xs x = omega arith

-- a link stays where another is added behind
IsLinked-push : (nexts : List ℕ) (x k link : ℕ) → IsLinked nexts k link → IsLinked (nexts ++ x ∷ []) k link
IsLinked-push nexts x k link here = here
IsLinked-push nexts x k link (onward j l r) =
    onward j (omega (arith, l, length-append nexts (x ∷ [])))
    (subst (λ (i : ℕ). IsLinked (nexts ++ x ∷ []) k i) (sym (get_or_append_left nexts (x ∷ []) 0 j l)) (IsLinked-push nexts x k (next_at nexts j) r))

same_pin : (x : Driver) (c d : ℕ) → x ≡ Dff c → x ≡ Dff d → d ≡ c
same_pin x c d a b = pin_of (sym b ∙ a)
  where
    pin : Driver → ℕ
    pin Input = 0
    pin (Dff p) = p
    pin (Gate kind pins) = 0

    pin_of : Dff d ≡ Dff c → d ≡ c
    pin_of e = ap pin e

-- one more flip-flop is linked
module _ (drivers : List Driver) (nets firsts nexts : List ℕ) (k c : ℕ) (is : driver_at drivers (get_or nets k 0) ≡ Dff c)
    (within : c < length drivers) (h : AreLinkedTo drivers nets firsts nexts k) where
  abbrev more : List ℕ
  more = nexts ++ first_at firsts c ∷ []

  room : c < length firsts
  room = omega (arith, within, h.size)

  last : next_at more k ≡ first_at firsts c
  last = get_or_push nexts (first_at firsts c) 0 k h.count

  linked_before : (j d : ℕ) → j < k → driver_at drivers (get_or nets j 0) ≡ Dff d
      → IsLinked more j (first_at (set firsts c (k + 1)) d)
  linked_before j d l e =
      let was = IsLinked-push nexts (first_at firsts c) j (first_at firsts d) (h.each j d l e) in
      elim (cases_eq d c) [
        | inl q ↦
            let front : k < length more = omega (arith, h.count, length-append nexts (first_at firsts c ∷ [])) in
            let at : first_at (set firsts c (k + 1)) d ≡ k + 1 = ap (λ (n : ℕ). first_at (set firsts c (k + 1)) n) q ∙ get_or-set_same firsts c (k + 1) 0 room in
            let then' = subst (λ (i : ℕ). IsLinked more j i) (ap (first_at firsts) q ∙ sym last) was in
            subst (λ (i : ℕ). IsLinked more j i) (sym at) (onward k front then')
        | inr ne ↦ subst (λ (i : ℕ). IsLinked more j i) (sym (get_or-set_other firsts c d (k + 1) 0 ne)) was
      ]

  pub AreLinkedTo-more : AreLinkedTo drivers nets (set firsts c (k + 1)) more (k + 1)
  AreLinkedTo-more = record {
    count = length-append nexts (first_at firsts c ∷ []) ∙ ap (λ (n : ℕ). n + 1) h.count;
    size = length-set firsts c (k + 1) ∙ h.size;
    heads = λ n. elim (cases_eq n c) [
      | inl q ↦ omega (arith, ap (λ (m : ℕ). first_at (set firsts c (k + 1)) m) q, get_or-set_same firsts c (k + 1) 0 room)
      | inr ne ↦ omega (arith, get_or-set_other firsts c n (k + 1) 0 ne, h.heads n)
    ];
    back = λ j. elim (cases_eq j k) [
      | inl q ↦ omega (arith, ap (λ (m : ℕ). next_at more m) q, last, h.heads c, q)
      | inr ne ↦ elim (cases_lt j k) [
        | inl l ↦ omega (arith, get_or_append_left nexts (first_at firsts c ∷ []) 0 j (omega (arith, l, h.count)), h.back j)
        | inr l ↦ omega (arith, get_or_past more j 0 (omega (arith, l, ne, h.count, length-append nexts (first_at firsts c ∷ []))))
      ]
    ];
    each = λ j d l e. elim (cases_eq j k) [
      | inl q ↦
          let same : d ≡ c = same_pin (driver_at drivers (get_or nets k 0)) c d is (subst (λ (i : ℕ). driver_at drivers (get_or nets i 0) ≡ Dff d) q e) in
          let at : first_at (set firsts c (k + 1)) d ≡ k + 1 = ap (λ (n : ℕ). first_at (set firsts c (k + 1)) n) same ∙ get_or-set_same firsts c (k + 1) 0 room in
          subst (λ (i : ℕ). IsLinked more j i) (sym at) (subst (λ (i : ℕ). IsLinked more i (k + 1)) (sym q) here)
      | inr ne ↦ linked_before j d (omega (arith, l, ne)) e
    ];
  }

-- of the flip-flops reached from the first link those wait that aren't reached from this one
pub record WakesTo (nexts : List ℕ) (first link : ℕ) (old new : List Bool) : Type 0 where
  pub within : link ≤ length nexts
  pub size : length new ≡ length old
  pub wakes : (k : ℕ) → IsLinked nexts k first → (waits_at new k ≡ true) ⊎ IsLinked nexts k link
  pub keeps : (k : ℕ) → waits_at old k ≡ true → waits_at new k ≡ true

-- the flip-flop behind a link, or one that is reached from the next
behind : (nexts : List ℕ) (k link j : ℕ) → link ≡ j + 1 → IsLinked nexts k link → (k ≡ j) ⊎ IsLinked nexts k (next_at nexts j)
behind nexts k link j e here = inl (omega (arith, e))
behind nexts k link j e (onward i l r) =
    let q : i ≡ j = omega (arith, e) in
    inr (subst (λ (n : ℕ). IsLinked nexts k (next_at nexts n)) q r)

-- flip-flops that don't wait are passed
pub AreListed-on : (nets : List ℕ) (bits : List Bool) (j k count : ℕ) (list : List ℕ)
    → ((i : ℕ) → j ≤ i → i < k → waits_at bits i ≡ false) → AreListed nets bits j count list
    → AreListed nets bits k count list
AreListed-on nets bits j k count list clear h = record {
  few = h.few;
  each = h.each;
  all = λ i l within w. elim (cases_lt i j) [
    | inl b ↦ h.all i b within w
    | inr b ↦ absurd (both_ways (waits_at bits i) (clear i b l) w)
  ];
}

-- of a word the flip-flops in front of a place are listed, and the marks of the others are left
pub record ListedTo (nets : List ℕ) (bits : List Bool) (base left count : ℕ) (list : List ℕ) : Type 0 where
  pub from : ℕ
  pub within : from ≤ 64
  pub skipped : (k : ℕ) → k < from → bit_at left k ≡ 0
  pub marks : (k : ℕ) → from ≤ k → k < 64 → waits_at bits (base + k) ≡ true → bit_at left k ≡ 1
  pub listed : AreListed nets bits (base + from) count list
  pub few : count ≤ base + from

-- the flip-flops that don't wait in front of the first mark
pub ListedTo-on : (nets : List ℕ) (bits : List Bool) (base left count place : ℕ) (list : List ℕ) → place ≤ 64
    → ((k : ℕ) → k < place → bit_at left k ≡ 0) → (h : ListedTo nets bits base left count list) → h.from ≤ place
    → AreListed nets bits (base + place) count list
ListedTo-on nets bits base left count place list within none h l =
    AreListed-on nets bits (base + h.from) (base + place) count list clear h.listed
  where
    clear : (i : ℕ) → base + h.from ≤ i → i < base + place → waits_at bits i ≡ false
    clear i a b = elim (cases_Bool (waits_at bits i)) [
      | inl w ↦
          let is : base + (i - base) ≡ i = omega (arith, a) in
          let one = h.marks (i - base) (omega (arith, a)) (omega (arith, a, b, within)) (ap (waits_at bits) is ∙ w) in
          absurd (omega (arith, one, none (i - base) (omega (arith, a, b))))
      | inr f ↦ f
    ]

-- the first mark lies no earlier than the place
from-le : (nets : List ℕ) (bits : List Bool) (base left count place : ℕ) (list : List ℕ) → bit_at left place ≡ 1
    → (h : ListedTo nets bits base left count list) → h.from ≤ place
from-le nets bits base left count place list one h = elim (cases_lt place h.from) [
  | inl l ↦ absurd (omega (arith, one, h.skipped place l))
  | inr l ↦ l
]

module _ (nets : List ℕ) (bits : List Bool) (base left count place : ℕ) (list : List ℕ) (h : ListedTo nets bits base left count list)
    (within : place < 64) (low : IsLowest left place) where
  start : h.from ≤ place
  start = from-le nets bits base left count place list low.found h

  -- the flip-flop at the first mark is listed, and its mark is taken
  pub ListedTo-more : (count' rest : ℕ) (list' : List ℕ) → IsRest left place rest
      → (AreListed nets bits (base + place) count list → AreListed nets bits (base + place + 1) count' list')
      → count' ≤ base + place + 1 → ListedTo nets bits base rest count' list'
  ListedTo-more count' rest list' r more few = record {
    from = place + 1;
    within = omega (arith, within);
    skipped = λ k l. elim (cases_eq k place) [
      | inl q ↦ ap (bit_at rest) q ∙ r.here
      | inr ne ↦ r.others k ne ∙ low.skipped k (omega (arith, l, ne))
    ];
    marks = λ k f l w. r.others k (λ q. omega (arith, q, f)) ∙ h.marks k (omega (arith, f, start)) l w;
    listed = subst (λ (n : ℕ). AreListed nets bits n count' list') (omega arith)
        (more (ListedTo-on nets bits base left count place list (omega (arith, within)) low.skipped h start));
    few = omega (arith, few);
  }

-- all of a word are listed
pub ListedTo-all : (nets : List ℕ) (bits : List Bool) (base left count : ℕ) (list : List ℕ) → left ≡ 0
    → (h : ListedTo nets bits base left count list) → AreListed nets bits (base + 64) count list
ListedTo-all nets bits base left count list none h =
    ListedTo-on nets bits base left count 64 list (omega arith) (λ k l. ap (λ (x : ℕ). bit_at x k) none ∙ bit_at-zero k) h h.within

pub AreWakers-same : (drivers : List Driver) (old new : FlipFlops) → SameLinks old new → AreWakers drivers old → AreWakers drivers new
AreWakers-same drivers old new s h = record {
  flip_flops = subst (λ (ns : List ℕ). AreFlipFlops drivers ns (length drivers)) (sym s.nets) h.flip_flops;
  few = omega (arith, h.few, ap (λ (ns : List ℕ). length ns) s.nets);
  size = ap (λ (ns : List ℕ). length ns) s.firsts ∙ h.size;
  each = subst (λ (fs : List ℕ). (k d : ℕ) → k < length new.nets → driver_at drivers (get_or new.nets k 0) ≡ Dff d → IsLinked new.nexts k (first_at fs d)) (sym s.firsts)
      (subst (λ (ls : List ℕ). (k d : ℕ) → k < length new.nets → driver_at drivers (get_or new.nets k 0) ≡ Dff d → IsLinked ls k (first_at old.firsts d)) (sym s.nexts)
      (subst (λ (ns : List ℕ). (k d : ℕ) → k < length ns → driver_at drivers (get_or ns k 0) ≡ Dff d → IsLinked old.nexts k (first_at old.firsts d)) (sym s.nets) h.each));
}

-- flip-flops that are at rest in any case stay so where those that wait are as before or more
pub AreAtRest-same : (drivers : List Driver) (held held' levels levels' : List Level) (old new : FlipFlops)
    → SameLinks old new → AreWakers drivers old
    → ((k d : ℕ) → k < length old.nets → driver_at drivers (get_or old.nets k 0) ≡ Dff d → waits_at new.bits k ≡ false
    → level_at held' (get_or old.nets k 0) ≡ read (level_at levels' d))
    → AreAtRest drivers held' levels' new
AreAtRest-same drivers held held' levels levels' old new s w each = record {
  wakers = AreWakers-same drivers old new s w;
  each = subst (λ (ns : List ℕ). (k d : ℕ) → k < length ns → driver_at drivers (get_or ns k 0) ≡ Dff d → waits_at new.bits k ≡ false → level_at held' (get_or ns k 0) ≡ read (level_at levels' d)) (sym s.nets) each;
}

-- where all wait, all others are at rest
pub AreAtRest-all : (drivers : List Driver) (held levels : List Level) (old new : FlipFlops) → AreWakers drivers old
    → SameLinks old new → ((k : ℕ) → k < length old.nets → waits_at new.bits k ≡ true)
    → AreAtRest drivers held levels new
AreAtRest-all drivers held levels old new w s all =
    AreAtRest-same drivers held held levels levels old new s w (λ k d l e f. absurd (both_ways (waits_at new.bits k) f (all k l)))

agreed_read : (d : Level) → agreed (read d) d ≡ read d
agreed_read Zero = refl
agreed_read One = refl
agreed_read X = refl
agreed_read Z = refl

-- a flip-flop that keeps what its D net has captures that
capture_read : (e : Edge) (d : Level) → capture e (read d) d ≡ read d
capture_read Takes d = refl
capture_read Doubts d = agreed_read d
capture_read Keeps d = refl

captures_own : (e : Edge) (own d : Level) → own ≡ read d → capture e own d ≡ own
captures_own e own d is = ap (λ (l : Level). capture e l d) is ∙ capture_read e d ∙ sym is

-- what keeps its level at an edge, or is a flip-flop at an edge
captured_or : (x : Driver) (e : Edge) (own : Level) (levels : List Level)
    → (captured x e own levels ≡ own) ⊎ ((is_flip_flop x ≡ true) × (e ≢ Keeps))
captured_or Input e own levels = inl refl
captured_or (Dff p) Takes own levels = inr (refl, λ q. cc)
captured_or (Dff p) Doubts own levels = inr (refl, λ q. cc)
captured_or (Dff p) Keeps own levels = inl refl
captured_or (Gate kind pins) e own levels = inl refl

-- a flip-flop's D net
record HasPin (x : Driver) : Type 0 where
  pub pin : ℕ
  pub is : x ≡ Dff pin

pin_of : (x : Driver) → is_flip_flop x ≡ true → HasPin x
pin_of Input e = cc
pin_of (Dff p) e = record { pin = p; is = refl }
pin_of (Gate kind pins) e = cc

module _ (drivers : List Driver) (e : Edge) (before held : List Level) (old new : FlipFlops) (count : ℕ) (list : List ℕ)
    (h : AreAtRest drivers held before old) (t : AreTaken e old new count list) where
  stands : (n : ℕ) → StandsBelow n count list → StandsAt n (take count list)
  stands n s =
      let w = s.within in
      record { place = s.place; within = omega (arith, w, length-take-le count list t.few); is = get_or-take count list s.place 0 w ∙ s.is }

  flips : (k : ℕ) → k < length (take count list) → is_flip_flop (driver_at drivers (get_or (take count list) k 0)) ≡ true
  flips k l =
      let below : k < count = omega (arith, l, length-take-le count list t.few) in
      let s = t.each k below in
      subst (λ (n : ℕ). is_flip_flop (driver_at drivers n) ≡ true) (s.is ∙ sym (get_or-take count list k 0 below)) (h.wakers.flip_flops.each s.place s.within)

  -- those that are listed may capture for all
  pub MayCapture-waiting : MayCapture drivers e before held (take count list)
  MayCapture-waiting = record {
    each = flips;
    all = λ n within. elim (captured_or (driver_at drivers n) e (level_at held n) before) [
      | inl stays ↦ inr stays
      | inr flip ↦
          let s = h.wakers.flip_flops.all n within flip.0 in
          let d = pin_of (driver_at drivers n) flip.0 in
          elim (cases_Bool (waits_at old.bits s.place)) [
            | inl w ↦ inl (stands n (subst (λ (m : ℕ). StandsBelow m count list) s.is (t.all flip.1 s.place s.within w)))
            | inr f ↦
                let rests = h.each s.place d.pin s.within (subst (λ (m : ℕ). driver_at drivers m ≡ Dff d.pin) (sym s.is) d.is) f in
                inr (ap (λ (x : Driver). captured x e (level_at held n) before) d.is ∙ captures_own e (level_at held n) (level_at before d.pin) (ap (level_at held) (sym s.is) ∙ rests))
          ]
    ];
  }

  -- after they have captured, those that don't wait are at rest
  pub AreAtRest-captured : (kept : List Level) → Captures drivers e before held kept → AreAtRest drivers kept before new
  AreAtRest-captured kept captures = AreAtRest-same drivers held kept before before old new t.links h.wakers (λ k d l is f.
      let n = get_or old.nets k 0 in
      let within = flip_flop_within drivers n (ap is_flip_flop is) in
      captures.each n within ∙ ap (λ (x : Driver). captured x e (level_at held n) before) is ∙ rests e refl k d l is f)
    where
      still : e ≢ Takes → (k d : ℕ) → k < length old.nets → driver_at drivers (get_or old.nets k 0) ≡ Dff d
          → waits_at new.bits k ≡ false → capture e (level_at held (get_or old.nets k 0)) (level_at before d) ≡ read (level_at before d)
      still ne k d l is f =
          let was = h.each k d l is (ap (λ (b : List Bool). waits_at b k) (sym (t.keeps ne)) ∙ f) in
          captures_own e (level_at held (get_or old.nets k 0)) (level_at before d) was ∙ was

      rests : (c : Edge) → e ≡ c → (k d : ℕ) → k < length old.nets → driver_at drivers (get_or old.nets k 0) ≡ Dff d
          → waits_at new.bits k ≡ false → capture e (level_at held (get_or old.nets k 0)) (level_at before d) ≡ read (level_at before d)
      rests Takes q k d l is f = ap (λ (c : Edge). capture c (level_at held (get_or old.nets k 0)) (level_at before d)) q
      rests Doubts q k d l is f = still (λ r. cc) k d l is f
      rests Keeps q k d l is f = still (λ r. cc) k d l is f

-- each signal is bound to a net of the circuit, or free
pub bound_at : (drivers : List Driver) (binds : List Bind)
    → ((s : ℕ) → s < length binds → IsNetBind drivers (bind_at binds s)) → (s : ℕ) → IsNetBind drivers (bind_at binds s)
bound_at drivers binds h s = elim (cases_lt s (length binds)) [
  | inl l ↦ h s l
  | inr l ↦ subst (λ (b : Bind). IsNetBind drivers b) (sym (get_or_past binds s bind.Free l)) tt
]

-- drives are of inputs, and what a flip-flop keeps stays
pub AreAtRest-driven : (drivers : List Driver) (held held' levels : List Level) (m : FlipFlops) (binds : List Bind)
    (drives : List (ℕ × Drive)) → ((s : ℕ) → IsNetBind drivers (bind_at binds s)) → held' ≡ put_all binds held drives
    → AreAtRest drivers held levels m → AreAtRest drivers held' levels m
AreAtRest-driven drivers held held' levels m binds drives sound is h =
    AreAtRest-same drivers held held' levels levels m m (record { nets = refl; firsts = refl; nexts = refl }) h.wakers
    (λ k d l e f. ap (λ (v : List Level). level_at v (get_or m.nets k 0)) is ∙ stays (get_or m.nets k 0) d e ∙ h.each k d l e f)
  where
    input : (b : Bind) (n d : ℕ) → b ≡ bind.Input n → driver_at drivers n ≡ Dff d → IsNetBind drivers b → ⊥
    input b n d q e bound =
        let two = subst (λ (x : Bind). IsNetBind drivers x) q bound in
        apart (sym two.1 ∙ e)
      where
        apart : Input ≡ Dff d → ⊥
        apart q = cc

    stays : (n d : ℕ) → driver_at drivers n ≡ Dff d → level_at (put_all binds held drives) n ≡ level_at held n
    stays n d e = elim (put_all-other binds drives held n) [
      | inl same ↦ same
      | inr driven ↦ absurd (input (bind_at binds (get_or drives driven.place driven.drive).0) n d driven.is e (sound (get_or drives driven.place driven.drive).0))
    ]
