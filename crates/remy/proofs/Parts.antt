-- What a part does to the line of its packet, to its sender and to its meter keeps what a simulation keeps, with the lists grown by what it did. Assumes nothing.
use Rattle.std.proofs.Common.{Option, Some, None}
use mathlib.Core.Path.{◌≡◌, refl, sym, subst}
use mathlib.Core.Bool.{Bool, true, false, not, ◌&&◌, beq, cond}
use mathlib.Core.List.{List, [], ◌∷◌, ◌++◌, append-nil}
use Prim.Native.Nat.{ℕ, ◌<◌}
use native.Mathlib.Omega.{arith}
use borrow.Author.Tests.{leb-false}
use lib.Dec.{T, leb, eqb}
use lib.ListN.{get_or, set}
use lib.Ieee.{le, eq}
use Rattle.quantities.specs.declared.time.Time.{Time}
use Rattle.quantities.specs.Units.{span_of, rate_of, amount_over_rate, span_after}
use Rattle.meters.specs.declared.meter.AverageFlowMeter.{AverageFlowMeter}
use Rattle.meters.specs.Meter.{Metered, ready, is_on, taken, unchanged, turned, switched_of}
use Rattle.link.specs.declared.packet.Packet.{Packet}
use Rattle.link.specs.declared.packet.Waiting.{Waiting}
use Rattle.link.specs.declared.packet.Transit.{Transit}
use Rattle.link.specs.declared.link.LineValues.{LineValues}
use Rattle.link.specs.declared.link.Line.{Line}
use Rattle.link.specs.declared.link.Transmitted.{Transmitted}
use Rattle.link.specs.Ring.{places, slot_of, place_after}
use Rattle.link.specs.Link.{admits, admitted, is_due, departed, is_free, started_line, not_started, try_transmit}
use Rattle.link.proofs.Limits.{due_count, free_count}
use Rattle.remy.specs.declared.network.RemyNetwork.{RemyNetwork}
use Rattle.remy.specs.declared.simulation.Simulation.{Simulation}
use Rattle.remy.specs.State.{line_count, values_of, no_waiting, no_transit, line_at, meter_at, packet_bits, with_line, with_waiting, with_meter}
use Rattle.remy.specs.History.{PacketId, Entry}
use Rattle.remy.specs.Tick.{waits_with}
use Rattle.remy.proofs.Lines.{entry_at, LineKept, line_lists, line_leave, line-start, line_arrive, beside_waiting}
use Rattle.remy.proofs.Plain.{Plain, plain-same}
use Rattle.remy.proofs.Facts.{both_l, both_r}
use Rattle.remy.proofs.Kept.{Kept, kept_lists, grown, grown-none, keep_line, keep_meter}
use Rattle.remy.proofs.Steps.{cond_elim}

-- ---- a meter that is switched keeps its records

pub turned-records : (m : AverageFlowMeter) (o : Option Time) (t : Time) → (turned m o t).records ≡ m.records
turned-records m None t = refl
turned-records m (Some u) t = refl

switched-records : (m : AverageFlowMeter) (on : Bool) (t : Time) → (switched_of m on t).meter.records ≡ m.records
unfolding switched_of
switched-records m on t =
    cond_elim (λ (x : Metered). x.meter.records ≡ m.records) (ready m t && not (beq on (is_on m.current_start))) (taken (turned m m.current_start t)) (unchanged m)
    (λ e. turned-records m m.current_start t) (λ e. refl)

pub keep_switch : {n : RemyNetwork} {adm sts lvs : ℕ → List Entry} {snd : List Entry} {cnt : List PacketId} {s : Simulation} → Kept n adm sts lvs snd cnt s → (i : ℕ) (on : Bool)
    → Kept n adm sts lvs snd cnt (with_meter s i (switched_of (meter_at s i) on s.head.clock).meter)
keep_switch {s} k i on = keep_meter k i (switched_of (meter_at s i) on s.head.clock).meter (switched-records (meter_at s i) on s.head.clock)

module _ {v : LineValues} {size : PacketId → ℕ} {l : ℕ} {adm sts lvs : List Entry} {waiting : List Waiting} {on_line : List Transit} {x : Line}
    (k : LineKept v size l adm sts lvs waiting on_line x) (clock : Time) where
  -- the packet that leaves next, and the packet that starts next
  abbrev front : Transit
  front = get_or on_line (slot_of l x.on_line.start) no_transit

  abbrev first : Waiting
  first = get_or waiting (slot_of l x.waiting.start) no_waiting

  -- ---- link: the first packet leaves
  pub leaves-line : Plain clock → Plain (get_or on_line (slot_of l x.on_line.start) no_transit).due → is_due x clock (get_or on_line (slot_of l x.on_line.start) no_transit) ≡ true
      → LineKept v size l adm sts (lvs ++ (entry_at clock (get_or on_line (slot_of l x.on_line.start) no_transit).packet ∷ [])) waiting on_line (departed x)
  unfolding is_due
  leaves-line now due e =
      line_leave k (due_count x clock front (unfold is_due in e)) clock
      (plain-same due now (both_r (leb 1 x.on_line.count) (eq front.due.0.0 clock.0.0) e))

  -- ---- link: the first packet that waits starts, or does not
  abbrev begins : Transit
  begins = record { packet = first.packet; due = span_after clock (span_of v.delay) }

  abbrev afterwards : Line
  afterwards = started_line x first.bits (span_after clock (amount_over_rate first.bits (rate_of v.rate)))

  pub transmit_elim : (F : Transmitted → Type 0) → F (not_started x 0) → ((m : ℕ) → eqb m 0 ≡ false → F (not_started x m))
      → (LineKept v size l adm (sts ++ (entry_at clock (get_or waiting (slot_of l x.waiting.start) no_waiting).packet ∷ [])) lvs waiting
      (set on_line (slot_of l (place_after x.on_line)) begins) afterwards
      → F (record { number = 0; begun = Some begins; line = afterwards }))
      → F (try_transmit x clock (get_or waiting (slot_of l x.waiting.start) no_waiting) (span_of v.delay) (rate_of v.rate))
  unfolding try_transmit is_free
  transmit_elim F none stop go =
      let starts : Transmitted = record { number = 0; begun = Some begins; line = afterwards } in
      cond_elim F (is_free x clock) (cond (leb places x.on_line.count) (not_started x 13) starts) (not_started x 0)
      (λ e. cond_elim F (leb places x.on_line.count) (not_started x 13) starts (λ full. stop 13 refl)
      (λ room. go
      (line-start k (free_count x clock e) (leb-false places x.on_line.count room) clock
      (subst T (sym (both_l (le x.earliest_transmit.0.0 clock.0.0) (leb 1 x.waiting.count) e)) tt))))
      (λ e. none)

-- ---- link: a packet arrives at line l and is admitted

pub keep_arrive : {adm sts lvs : ℕ → List Entry} {snd : List Entry} {cnt : List PacketId} {s : Simulation} → Kept s.network adm sts lvs snd cnt s → (l : ℕ) → l < line_count s.network
    → (p : Packet) → leb places (line_at s l).waiting.count ≡ false → admits (values_of s.network l).limit (line_at s l).buffer_contains (packet_bits s.network p) ≡ true
    → Kept s.network (grown adm l (entry_at s.head.clock p ∷ [])) sts lvs snd cnt
    (with_line (with_waiting s (set s.waiting (slot_of l (place_after (line_at s l).waiting)) (waits_with s p))) l (admitted (line_at s l) (packet_bits s.network p)))
keep_arrive {adm} {sts} {lvs} {snd} {cnt} {s} k l h p room fits =
    let waits = (line_at s l).waiting in
    let at = place_after waits in
    let own = line_arrive (k.line l h) (leb-false places waits.count room) s.head.clock p fits in
    kept_lists (λ m g. refl) (λ m g. grown-none sts l m) (λ m g. grown-none lvs l m) refl refl
    (keep_line k l h (entry_at s.head.clock p ∷ []) [] [] (set s.waiting (slot_of l at) (waits_with s p)) s.on_line (admitted (line_at s l) (packet_bits s.network p))
    (λ m other i j o y z. beside_waiting z l at other (omega arith) (waits_with s p)) (line_lists refl (sym (append-nil (sts l))) (sym (append-nil (lvs l))) own))
