-- 64 dies are loaded, make a step and are looked at: what each lane's own die does.
use Rattle.std.proofs.Common.{◌≡◌, ℕ, ◌+◌, ◌<◌, Bool, true, false, cond, not, eqb, nat_lt, Option, Some, None, List, length, get_or, map, replicate, refl, sym, ap, ◌∙◌, subst, inl, inr, arith}
use Rattle.std.specs.Prelude.{unwrap_or, ◌%◌}
use Rattle.std.specs.List.{range_with_len}
use Rattle.std.proofs.lemmas.List.{get_or-replicate, get_or_past, length-replicate}
use Rattle.std.proofs.lemmas.Bool.{both_ways, cases_lt}
use Rattle.std.proofs.lemmas.List.FromFn.{length-map-range_with_len, get_or-map-range_with_len}
use Rattle.std.proofs.lemmas.Nat.Bits.{bit_at-zero}
use Rattle.tester_types.specs.declared.level.Level.{Level}
use Rattle.tester_types.specs.declared.level.Level.TheVariants.{Zero, One, X, Z}
use Rattle.tester_types.specs.declared.level.Drive.{Drive}
use Rattle.bench_net.specs.declared.gate.GateKind.{GateKind}
use Rattle.bench_net.specs.declared.gate.GateKind.TheVariants as kind
use Rattle.bench_net.specs.declared.gate.Driver.{Driver}
use Rattle.bench_net.specs.declared.gate.Driver.TheVariants.{Input, Dff, Gate}
use Rattle.bench_net.specs.Circuit.{Circuit, IsWhole}
use Rattle.bench_net.specs.Gates.{level_at, read, negated, zeros, ones, and_of, or_of, xor_of, gate_of}
use Rattle.bench_net.specs.Wiring.{driver_at, gate_at}
use Rattle.die_sim.specs.declared.image.Bind.{Bind}
use Rattle.die_sim.specs.Die.{Device, State, IsOfNet, IsNetBind, driven, bind_at, shown, level_of}
use Rattle.die_sim.specs.declared.image.Binding.{Binding}
use Rattle.die_sim.proofs.WaitingLemmas.{bound_at}
use Rattle.strobe_check.specs.Look.{is_met}
use Rattle.std.specs.Int.{bit_at}
use Rattle.tester_types.specs.declared.wave.Look.{Look}
use Rattle.die_sim.specs.Moment.{edge, capture, captured, agreed, clock_after, put_all}
use Rattle.die_sim.specs.Stepped.{settled_levels, captured_levels, first_state, stepped}
use Rattle.die_sim.specs.Walk.{is_off}
use Rattle.die_sim.proofs.SettlingLemmas.{settles}
use Rattle.die_sim.proofs.SteppedLemmas.{step_is_stepped, length-step}
use Rattle.die_words.specs.declared.word.Word.{Word}
use Rattle.die_words.specs.Lane.{bit, nothing, Shows, ShowsFault, IsLane, AreFaults}
use Rattle.die_words.specs.declared.nets.NetWords.{NetWords}
use Rattle.die_words.specs.Board.{lanes_at, FitNets}
use Rattle.die_sim.specs.Pending.{is_pending, AreSeats}
use Rattle.die_words.specs.Fits.{word_at}
use Rattle.die_words.proofs.FitLemmas.{FitsOwn-at}
use Rattle.die_words.specs.Lanes.{Lanes, AreOff, OnlyInputs, IsLaneOf}

-- ---- what is off

not_off_read : (x : Level) → is_off (read x) ≡ false
not_off_read Zero = refl
not_off_read One = refl
not_off_read X = refl
not_off_read Z = refl

not_off_negated : (x : Level) → is_off (negated x) ≡ false
not_off_negated Zero = refl
not_off_negated One = refl
not_off_negated X = refl
not_off_negated Z = refl

not_off_agreed : (x d : Level) → is_off (agreed x d) ≡ false
not_off_agreed Zero Zero = refl
not_off_agreed Zero One = refl
not_off_agreed Zero X = refl
not_off_agreed Zero Z = refl
not_off_agreed One Zero = refl
not_off_agreed One One = refl
not_off_agreed One X = refl
not_off_agreed One Z = refl
not_off_agreed X d = refl
not_off_agreed Z d = refl

-- a flip-flop that isn't off stays so
not_off_capture : (was now x d : Level) → is_off x ≡ false → is_off (capture (edge was now) x d) ≡ false
not_off_capture Zero Zero x d h = h
not_off_capture Zero One x d h = not_off_read d
not_off_capture Zero X x d h = not_off_agreed x d
not_off_capture Zero Z x d h = not_off_agreed x d
not_off_capture One now x d h = h
not_off_capture X Zero x d h = h
not_off_capture X One x d h = not_off_agreed x d
not_off_capture X X x d h = h
not_off_capture X Z x d h = h
not_off_capture Z Zero x d h = h
not_off_capture Z One x d h = not_off_agreed x d
not_off_capture Z X x d h = h
not_off_capture Z Z x d h = h

off_captured : (r : Driver) (was now x : Level) (v : List Level) (b : Bool) → (b ≡ true → r ≡ Input) → is_off x ≡ b
    → is_off (captured r (edge was now) x v) ≡ b
off_captured Input was now x v b input h = h
off_captured (Gate kind pins) was now x v b input h = h
off_captured (Dff p) was now x v true input h = absurd (let e = input refl in cc)
off_captured (Dff p) was now x v false input h = not_off_capture was now x (level_at v p) h

-- what flip-flops capture changes nothing of what is off
pub AreOff-captured : (drivers : List Driver) (was now : Level) (v own : List Level) (offs : List Bool)
    → OnlyInputs drivers offs → AreOff offs own → AreOff offs (captured_levels drivers (edge was now) v own)
unfolding captured_levels
AreOff-captured drivers was now v own offs inputs h =
    let count_is : length (map (λ n. captured (driver_at drivers n) (edge was now) (level_at own n) v) (range_with_len 0 (length own))) ≡ length own =
    length-map-range_with_len (λ n. captured (driver_at drivers n) (edge was now) (level_at own n) v) 0 (length own) in
    record {
      count = h.count ∙ sym count_is;
      each = λ n l.
          let inside : n < length own = omega (arith, l, count_is) in
          ap is_off (get_or-map-range_with_len (λ m. captured (driver_at drivers m) (edge was now) (level_at own m) v) 0 (length own) n n Zero inside (omega arith))
          ∙ off_captured (driver_at drivers n) was now (level_at own n) v (get_or offs n false) (inputs.each n) (h.each n inside);
    }

-- no input is driven off
pub AreOff-none : (nets : ℕ) → AreOff (replicate nets false) (replicate nets X)
AreOff-none nets = record {
  count = length-replicate nets false ∙ sym (length-replicate nets X);
  each = λ n l.
      let inside : n < nets = omega (arith, l, length-replicate {A = Level} nets X) in
      ap is_off (get_or-replicate nets n X Zero inside) ∙ sym (get_or-replicate nets n false false inside);
}

two_ifs : (a b : Bool) (x y z : Level) → is_off x ≡ false → is_off y ≡ false → is_off z ≡ false → is_off (cond a x (cond b y z)) ≡ false
two_ifs true b x y z p q r = p
two_ifs false true x y z p q r = q
two_ifs false false x y z p q r = r

two_ifs' : (a b : Bool) (x y z : Level) → is_off x ≡ false → is_off y ≡ false → is_off z ≡ false → is_off (cond a (cond b x y) z) ≡ false
two_ifs' true true x y z p q r = p
two_ifs' true false x y z p q r = q
two_ifs' false b x y z p q r = r

not_off_gate : (k : GateKind) (v : List Level) (pins : List ℕ) → is_off (gate_of k v pins) ≡ false
not_off_gate kind.And v pins = two_ifs (nat_lt 0 (zeros v pins)) (eqb (ones v pins) (length pins)) Zero One X refl refl refl
not_off_gate kind.Nand v pins = not_off_negated (and_of (zeros v pins) (ones v pins) (length pins))
not_off_gate kind.Or v pins = two_ifs (nat_lt 0 (ones v pins)) (eqb (zeros v pins) (length pins)) One Zero X refl refl refl
not_off_gate kind.Nor v pins = not_off_negated (or_of (zeros v pins) (ones v pins) (length pins))
not_off_gate kind.Xor v pins =
    two_ifs' (eqb (zeros v pins + ones v pins) (length pins)) (eqb (ones v pins % 2) 1) One Zero X refl refl refl
not_off_gate kind.Xnor v pins = not_off_negated (xor_of (zeros v pins) (ones v pins) (length pins))
not_off_gate kind.Not v pins = not_off_negated (level_at v (get_or pins 0 0))
not_off_gate kind.Buf v pins = not_off_read (level_at v (get_or pins 0 0))

off_driven : (r : Driver) (own : Level) (v : List Level) (b : Bool) → (b ≡ true → r ≡ Input) → is_off own ≡ b
    → is_off (driven r own v) ≡ b
off_driven Input own v b input h = h
off_driven (Dff p) own v b input h = h
off_driven (Gate k pins) own v true input h = absurd (let e = input refl in cc)
off_driven (Gate k pins) own v false input h = not_off_gate k v pins

off_wanted : (f : Option Level) (r : Driver) (own : Level) (v : List Level) (b : Bool) → (b ≡ true → r ≡ Input)
    → is_off own ≡ b → is_off (unwrap_or f (driven r own v)) ≡ is_off (unwrap_or f own)
off_wanted None r own v b input h = off_driven r own v b input h ∙ sym h
off_wanted (Some x) r own v b input h = refl

-- a net is off where it is driven off and isn't fixed
pub off_shown : (lanes : Lanes) (k : ℕ) (device : Device) (state : State) (n : ℕ)
    → OnlyInputs lanes.image.circuit.net.drivers lanes.offs
    → n < length device.circuit.net.drivers → n < length state.held → IsLaneOf lanes k device state
    → is_off (level_at state.levels n) ≡ is_off (unwrap_or (get_or device.fixed n None) (level_at state.held n))
off_shown lanes k device state n inputs within held h =
    let input : get_or lanes.offs n false ≡ true → driver_at device.circuit.net.drivers n ≡ Input =
    λ e. ap (λ (c : Circuit). driver_at c.net.drivers n) h.net.circuit ∙ inputs.each n e in
    ap is_off (h.settled.fits n within)
    ∙ off_wanted (get_or device.fixed n None) (driver_at device.circuit.net.drivers n) (level_at state.held n) state.levels
    (get_or lanes.offs n false) input (h.offs.each n held)

-- ---- a lane as it is loaded, and a step of it

-- nothing is known
pub IsLane-none : (nets k : ℕ) → IsLane (replicate nets nothing) k (replicate nets X)
IsLane-none nets k = record {
  count = length-replicate nets X ∙ sym (length-replicate nets nothing);
  each = λ n l.
      let inside : n < nets = omega (arith, l, length-replicate {A = Word} nets nothing) in
      let none : Shows nothing k X = record { zero = bit_at-zero k; one = bit_at-zero k } in
      subst (λ (w : Word). Shows w k (level_at (replicate nets X) n)) (sym (get_or-replicate nets n nothing nothing inside))
      (subst (λ (x : Level). Shows nothing k x) (sym (get_or-replicate nets n X Zero inside)) none);
}

-- a die as it is loaded
pub IsLaneOf-first : (lanes : Lanes) (k : ℕ) (device : Device) → IsWhole lanes.image.circuit
    → IsOfNet device lanes.image → AreFaults lanes.forces k device.fixed → X ≡ lanes.clock
    → lanes.held ≡ replicate (length lanes.image.circuit.net.drivers) nothing
    → lanes.offs ≡ replicate (length lanes.image.circuit.net.drivers) false
    → ((fixed : List (Option Level)) (own : List Level) → AreFaults lanes.forces k fixed → IsLane lanes.held k own
    → IsLane lanes.words k (settled_levels lanes.image.circuit fixed own))
    → IsLaneOf lanes k device (first_state device)
IsLaneOf-first lanes k device whole net faults clock held offs settles_so =
    let circuit : Circuit = lanes.image.circuit in
    let own : List Level = replicate (length circuit.net.drivers) X in
    let lane : IsLane lanes.held k own =
    subst (λ (w : List Word). IsLane w k own) (sym held) (IsLane-none (length circuit.net.drivers) k) in
    let off : AreOff lanes.offs own =
    subst (λ (o : List Bool). AreOff o own) (sym offs) (AreOff-none (length circuit.net.drivers)) in
    record {
      net = net;
      faults = faults;
      clock = clock;
      offs = subst (λ (c : Circuit). AreOff lanes.offs (replicate (length c.net.drivers) X)) (sym net.circuit) off;
      held = subst (λ (c : Circuit). IsLane lanes.held k (replicate (length c.net.drivers) X)) (sym net.circuit) lane;
      levels =
          subst (λ (c : Circuit). IsLane lanes.words k (settled_levels c device.fixed (replicate (length c.net.drivers) X)))
          (sym net.circuit) (settles_so device.fixed own faults lane);
      size = length-replicate (length device.circuit.net.drivers) X;
      settled = settles device.circuit (subst (λ (c : Circuit). IsWhole c) (sym net.circuit) whole) device.fixed (first_state device).held;
    }

-- a die makes a step
pub IsLaneOf-stepped : (old new : Lanes) (drives : List (ℕ × Drive)) (k : ℕ) (device : Device) (state : State)
    → IsWhole old.image.circuit → new.image ≡ old.image → new.forces ≡ old.forces
    → new.clock ≡ clock_after old.image.clock old.clock drives
    → ((v own : List Level) → IsLane old.words k v → IsLane old.held k own
    → IsLane new.held k (put_all old.image.binds (captured_levels old.image.circuit.net.drivers (edge old.clock new.clock) v own) drives))
    → ((v own : List Level) → IsLane old.held k own → AreOff old.offs own
    → AreOff new.offs (put_all old.image.binds (captured_levels old.image.circuit.net.drivers (edge old.clock new.clock) v own) drives))
    → ((fixed : List (Option Level)) (own : List Level) → AreFaults old.forces k fixed → IsLane new.held k own
    → IsLane new.words k (settled_levels old.image.circuit fixed own))
    → IsLaneOf old k device state → IsLaneOf new k device (stepped device state drives)
IsLaneOf-stepped old new drives k device state whole image_is forces_are clock_is held offs words h =
    let clock : new.clock ≡ clock_after device.clock state.clock drives =
    clock_is ∙ ap (λ (c : Option ℕ). clock_after c old.clock drives) (sym h.net.clock)
    ∙ ap (λ (x : Level). clock_after device.clock x drives) (sym h.clock) in
    record {
      net = record {
        circuit = h.net.circuit ∙ ap (λ i. i.circuit) (sym image_is);
        clock = h.net.clock ∙ ap (λ i. i.clock) (sym image_is);
        binds = h.net.binds ∙ ap (λ i. i.binds) (sym image_is);
      };
      faults = subst (λ (f : List Word). AreFaults f k device.fixed) (sym forces_are) h.faults;
      clock = sym clock;
      offs = moved (λ l. AreOff new.offs l) clock (offs state.levels state.held h.held h.offs);
      held = lane clock;
      levels =
          subst (λ (c : Circuit). IsLane new.words k (settled_levels c device.fixed (stepped device state drives).held)) (sym h.net.circuit)
          (words device.fixed (stepped device state drives).held h.faults (lane clock));
      size =
          length-step device state (stepped device state drives) drives
          ((step_is_stepped device state (stepped device state drives) drives (subst (λ (c : Circuit). IsWhole c) (sym h.net.circuit) whole) h.size).1 refl)
          ∙ h.size;
      settled = settles device.circuit (subst (λ (c : Circuit). IsWhole c) (sym h.net.circuit) whole) device.fixed (stepped device state drives).held;
    }
  where
    -- what is said of the levels that are held by the netlist's parts, said by the die's
    moved : (P : List Level → Type 0) → new.clock ≡ clock_after device.clock state.clock drives
        → P (put_all old.image.binds (captured_levels old.image.circuit.net.drivers (edge old.clock new.clock) state.levels state.held) drives)
        → P (stepped device state drives).held
    moved P clock p =
        subst (λ (y : Level). P (put_all device.binds (captured_levels device.circuit.net.drivers (edge state.clock y) state.levels state.held) drives)) clock
        (subst (λ (x : Level). P (put_all device.binds (captured_levels device.circuit.net.drivers (edge x new.clock) state.levels state.held) drives)) (sym h.clock)
        (subst (λ (b : List Bind). P (put_all b (captured_levels device.circuit.net.drivers (edge old.clock new.clock) state.levels state.held) drives)) (sym h.net.binds)
        (subst (λ (c : Circuit). P (put_all old.image.binds (captured_levels c.net.drivers (edge old.clock new.clock) state.levels state.held) drives)) (sym h.net.circuit) p)))

    lane : new.clock ≡ clock_after device.clock state.clock drives → IsLane new.held k (stepped device state drives).held
    lane clock = moved (λ l. IsLane new.held k l) clock (held state.levels state.held h.levels h.held)

-- ---- the words of a netlist

-- no net is driven off
pub OnlyInputs-none : (drivers : List Driver) (offs : List Bool) (count : ℕ) → offs ≡ replicate count false
    → OnlyInputs drivers offs
OnlyInputs-none drivers offs count is = record {
  each = λ n e. absurd (both_ways (get_or offs n false) (none n) e);
}
  where
    none : (n : ℕ) → get_or offs n false ≡ false
    none n = ap (λ (l : List Bool). get_or l n false) is ∙ (elim (cases_lt n count) [
      | inl l ↦ get_or-replicate count n false false l
      | inr l ↦ get_or_past (replicate count false) n false (omega (arith, l, length-replicate {A = Bool} count false))
    ])

-- there are words for all nets, and each gate is pending
pub FitNets-fresh : (c : Circuit) (n : NetWords) (count : ℕ) → IsWhole c → count ≡ length c.net.names
    → n.forces.items ≡ replicate count nothing → n.offs.items ≡ replicate count false
    → n.held.items ≡ replicate count nothing → n.words.items ≡ replicate count nothing → AreSeats c.order n.pending
    → ((m : ℕ) → is_pending n.pending m ≡ gate_at c.net.drivers m) → FitNets c n
FitNets-fresh c n count whole names forces offs held words seats pending =
    let nets : count ≡ length c.net.drivers = names ∙ sym whole.drivers in
    record {
      forces = ap (λ (l : List Word). length l) forces ∙ length-replicate count nothing ∙ nets;
      offs = ap (λ (l : List Bool). length l) offs ∙ length-replicate count false ∙ nets;
      held = ap (λ (l : List Word). length l) held ∙ length-replicate count nothing ∙ nets;
      words = ap (λ (l : List Word). length l) words ∙ length-replicate count nothing ∙ nets;
      inputs = OnlyInputs-none c.net.drivers n.offs.items count offs;
      sources = record {
        each = λ m l e. let inside : m < count = omega (arith, l, nets) in FitsOwn-at (none n.forces.items m forces inside) (none n.held.items m held inside) (none n.words.items m words inside);
      };
      gates = record { seats = seats; each = λ g e f. absurd (both_ways (is_pending n.pending g) f (pending g ∙ e)) };
    }
  where
    none : (l : List Word) (m : ℕ) → l ≡ replicate count nothing → m < count → word_at l m ≡ nothing
    none l m is inside = ap (λ (w : List Word). word_at w m) is ∙ get_or-replicate count m nothing nothing inside

-- signals are bound to nets of the netlist, past the last one too
pub board_bound : (c d : Circuit) (b e : Binding) → c ≡ d → b ≡ e
    → ((s : ℕ) → s < length e.nets → IsNetBind d.net.drivers (bind_at e.nets s)) → (s : ℕ) → IsNetBind c.net.drivers (bind_at b.nets s)
board_bound c d b e c_is b_is bound s =
    subst (λ (x : Circuit). IsNetBind x.net.drivers (bind_at b.nets s)) (sym c_is)
    (subst (λ (x : Binding). IsNetBind d.net.drivers (bind_at x.nets s)) (sym b_is) (bound_at d.net.drivers e.nets bound s))

-- ---- a look at a net

pub net_fails : (c : Circuit) (bd : Binding) (clock : Level) (nets : NetWords) (k : ℕ) (device : Device) (state : State)
    (n signal result : ℕ) (look : Look) (b : Bind) → FitNets c nets → n < length c.net.drivers
    → shown b state ≡ level_at state.levels n → bind_at bd.nets signal ≡ b → IsLaneOf (lanes_at c bd clock nets) k device state
    → ((x own : Level) (f : Option Level) → Shows (get_or nets.words.items n nothing) k x
    → ShowsFault (get_or nets.forces.items n nothing) k f → is_off own ≡ get_or nets.offs.items n false
    → is_off x ≡ is_off (unwrap_or f own) → bit_at result k ≡ bit (not (is_met look x)))
    → bit_at result k ≡ bit (not (is_met look (level_of device state signal)))
net_fails c bd clock nets k device state n signal result look b fit within shows bound h fails =
    let bind_is : bind_at device.binds signal ≡ b = ap (λ (bs : List Bind). bind_at bs signal) h.net.binds ∙ bound in
    let level_is : level_of device state signal ≡ level_at state.levels n = ap (λ (x : Bind). shown x state) bind_is ∙ shows in
    let words_in : n < length nets.words.items = omega (arith, within, fit.words) in
    let forces_in : n < length nets.forces.items = omega (arith, within, fit.forces) in
    let held_in : n < length state.held = omega (arith, within, fit.held, h.held.count) in
    let drivers_in : n < length device.circuit.net.drivers = subst (λ (x : Circuit). n < length x.net.drivers) (sym h.net.circuit) within in
    subst (λ (x : Level). bit_at result k ≡ bit (not (is_met look x))) (sym level_is)
    (fails (level_at state.levels n) (level_at state.held n) (get_or device.fixed n None) (h.levels.each n words_in)
    (h.faults.each n forces_in) (h.offs.each n held_in)
    (off_shown (lanes_at c bd clock nets) k device state n fit.inputs drivers_in held_in h))
