-- The turns of a sender and of a toggler keep what a simulation keeps, and so does every tick. Assumes nothing.
use Rattle.std.proofs.Common.{None}
use mathlib.Core.Path.{◌≡◌, refl}
use mathlib.Core.Bool.{Bool, true, false, not}
use mathlib.Core.List.{List, [], ◌∷◌, ◌++◌}
use Prim.Native.Nat.{ℕ, zero, suc, ◌+◌, ◌<◌}
use native.Mathlib.Omega.{arith}
use borrow.Author.Tests.{ne_eqb}
use lib.Dec.{leb, eqb}
use lib.ListN.{set}
use lib.Ieee.{lt}
use Rattle.quantities.specs.declared.time.Time.{Time}
use Rattle.quantities.specs.Doubles.{power}
use Rattle.link.specs.declared.packet.Packet.{Packet}
use Rattle.sender.specs.declared.lossy.Enabled.{Enabled}
use Rattle.sender.specs.declared.lossy.SenderState.{SenderState}
use Rattle.sender.specs.declared.lossy.SenderState.TheVariants as State
use Rattle.sender.specs.declared.lossy.Sent.{Sent}
use Rattle.toggler.specs.declared.toggler.Toggler.{Toggler}
use Rattle.toggler.specs.declared.toggler.Toggled.{Toggled}
use Rattle.sender.specs.Sender.{window_sent, timer_sent, timer_due, tick_timer, not_sent, tick_send, enabled_of, disabled_of, sent_with}
use Rattle.toggler.specs.Toggler.{next_toggle_of, toggle_draw, toggle_of}
use Rattle.remy.specs.declared.simulation.Simulation.{Simulation}
use Rattle.remy.specs.declared.simulation.Mark.TheVariants as Mark
use Rattle.remy.specs.declared.simulation.TickRecord.{TickRecord}
use Rattle.remy.specs.State.{has_back, Role, bouncer, sender, toggler, nobody, role_in, sender_at, toggler_at, with_sender, with_toggler}
use Rattle.remy.specs.Queue.{requeue}
use Rattle.remy.specs.Tick.{named, record_at, arrives, Acted, enabled_sender, timer_with, send_with, sender_with, sender_acts, toggler_with, toggler_acts, acts_of, switched_sender, switch_with, deliver, pick_again, outcome_with, outcome_of}
use Rattle.remy.specs.History.{PacketId, Entry, is_s, is_p, sends, admissions, counted}
use Rattle.remy.specs.Names.{is_leave}
use Rattle.remy.specs.HeldTimes.{Holds}
use Rattle.remy.proofs.Lines.{entry_at}
use Rattle.remy.proofs.Plain.{Plain, plain}
use Rattle.remy.proofs.Facts.{FitState, first-there, second_there}
use Rattle.remy.proofs.Networks.{few_senders}
use Rattle.remy.proofs.Kept.{Kept, kept_lists, grown, keep_sender, keep_unread, count-sent}
use Rattle.remy.proofs.Front.{accepted}
use Rattle.remy.proofs.Steps.{cond_elim, keep_requeue, keep_picked}
use Rattle.remy.proofs.Parts.{keep_switch}
use Rattle.remy.proofs.Roles.{role_elim}
use Rattle.remy.proofs.Outcomes.{OnMoves, Grown, same, on-stopped, none-admitted, none-started, none_left_lem, arrival_elim, link-good}

-- an S record admits its packet to the first line
first-admitted : (adm : ℕ → List Entry) (t : Time) (part : ℕ) (p : Packet) (m : ℕ)
    → grown adm 0 (entry_at t p ∷ []) m ≡ adm m ++ admissions m (record { time = t; part = part; mark = Mark.Sent; packet = named p; started = None } ∷ [])
first-admitted adm t part p zero = refl
first-admitted adm t part p (suc m) = rw (ne_eqb (suc m) 0 (λ (e : suc m ≡ 0). omega arith))

module _ {adm sts lvs : ℕ → List Entry} {snd : List Entry} {cnt : List PacketId} {s : Simulation} (f : FitState s) (early : lt (power 40) s.head.clock.0.0 ≡ false)
    (clock : Plain s.head.clock) (held : Holds plain s) (k : Kept s.network adm sts lvs snd cnt s) where
  abbrev Good : TickRecord → Simulation → Type 0
  Good = Grown s.network adm sts lvs snd cnt

  -- a record by which nothing starts or leaves, and nothing is admitted
  quiet : (r : TickRecord) → is_s r.mark ≡ false → is_p r.mark ≡ false → r.started ≡ None → is_leave r.mark ≡ false → (m : Simulation) → {snd' : List Entry} {cnt' : List PacketId}
      → Kept s.network adm sts lvs snd' cnt' m → snd' ≡ snd ++ sends (r ∷ []) → cnt' ≡ cnt ++ counted (r ∷ []) → Good r m
  quiet r a b c d m q snd-same cnt-same =
      kept_lists (λ l g. none-admitted s.network r adm a b l) (λ l g. none-started s.network r sts c l) (λ l g. none_left_lem s.network r lvs d l) snd-same cnt-same q

  -- ---- a sender's turn
  module _ (i : ℕ) (h : i < s.network.senders) where
    -- the packet that it sends, and the record so far
    next : Packet
    next = record { sender = i; seq = (sender_at s i).packets_sent + 1; sent_time = s.head.clock }

    -- the state after the send, with the sender queued again
    module _ (e : Enabled) where
      after_send : Simulation
      after_send = requeue (with_sender s i (enabled_sender (sender_at s i) ((sender_at s i).packets_sent + 1) e)) (sender i)

      sent_kept : Kept s.network adm sts lvs (snd ++ (entry_at s.head.clock next ∷ [])) cnt after_send
      unfolding after_send next
      sent_kept = keep_requeue (count-sent k i (enabled_sender (sender_at s i) ((sender_at s i).packets_sent + 1) e) s.head.clock h (few_senders (accepted s f)) refl) (sender i)

      -- admitted, dropped full, or refused; the account does not read the record's part
      arrival_good : (part : ℕ) → OnMoves Good (pick_again (deliver (record { time = s.head.clock; part = part; mark = Mark.None; packet = named next; started = None }) after_send (arrives 0 next)))
      unfolding after_send next requeue
      arrival_good part =
          let r : TickRecord = record { time = s.head.clock; part = part; mark = Mark.None; packet = named next; started = None } in
          let sent : TickRecord = record { time = s.head.clock; part = part; mark = Mark.Sent; packet = named next; started = None } in
          arrival_elim sent_kept 0 (first-there (has_back s.network.back)) next r Good
          (λ m z. kept_lists (λ l g. first-admitted adm s.head.clock part next l) (λ l g. none-started s.network sent sts refl l) (λ l g. none_left_lem s.network sent lvs refl l) refl (same cnt) z)
          (λ m z. quiet (record { time = s.head.clock; part = part; mark = Mark.Full; packet = named next; started = None }) refl refl refl refl m z refl (same cnt))

    turn_with : (x : SenderState) → (sender_at s i).state ≡ x → OnMoves Good (outcome_with (sender i) (sender_with s i x))
    unfolding tick_send next after_send
    turn_with State.WaitingForEnable q = tt
    turn_with (State.Enabled e) q =
        let policy = s.network.policy in
        let now = s.head.clock in
        let sent = (sender_at s i).packets_sent in
        let t = tick_timer policy e now in
        let timer = timer_sent policy e.timer now in
        cond_elim (λ (a : Acted). OnMoves Good (outcome_with (sender i) a)) (timer_due e now) (timer_with s i t) (send_with s i (tick_send sent policy e now i))
        (λ due. quiet (record_at s (sender i) Mark.Timer None None) refl refl refl refl _ (keep_picked (keep_requeue (keep_sender k i (enabled_sender (sender_at s i) sent t) refl) (sender i))) (same snd) (same cnt))
        (λ due. cond_elim (λ (a : Sent). OnMoves Good (outcome_with (sender i) (send_with s i a))) (leb 16777216 sent) (not_sent sent e now i) (sent_with sent policy e now i)
        (λ spent. tt)
        (λ room. arrival_good (record { started = e.started; greatest_ack = e.greatest_ack; cwnd = window_sent policy e.cwnd; timer = timer }) _))

    pub sender-good : OnMoves Good (outcome_of s (sender i))
    unfolding outcome_of acts_of sender_acts
    sender-good = turn_with (sender_at s i).state refl

  -- ---- a toggler's turn
  module _ (i : ℕ) where
    -- the sender and its meter are switched
    switch_good : (st : Simulation) (on : Bool) → Kept s.network adm sts lvs snd cnt st
        → OnMoves Good (pick_again (switch_with (record_at s (toggler i) Mark.None None None) st i on))
    unfolding enabled_of disabled_of
    switch_good st true q =
        quiet (record_at s (toggler i) Mark.Enabled None None) refl refl refl refl _
        (keep_picked (keep_requeue (keep_switch (keep_sender q i (switched_sender st i true) refl) i true) (sender i))) (same snd) (same cnt)
    switch_good st false q =
        quiet (record_at s (toggler i) Mark.Disabled None None) refl refl refl refl _
        (keep_picked (keep_requeue (keep_switch (keep_sender q i (switched_sender st i false) refl) i false) (sender i))) (same snd) (same cnt)

    pub toggler_good : OnMoves Good (outcome_of s (toggler i))
    unfolding outcome_of acts_of toggler_acts toggle_of deliver
    toggler_good =
        let t = toggler_at s i in
        let d = toggle_draw t s.network.on s.network.off in
        let changed : Toggler = record { enabled = not t.enabled; next_toggle = next_toggle_of s.head.clock d.value; rng = d.rng } in
        cond_elim (λ (x : Toggled). OnMoves Good (outcome_with (toggler i) (toggler_with s i x))) (eqb d.number 0)
        (record { number = 0; toggler = changed }) (record { number = d.number; toggler = t })
        (λ drawn. switch_good (requeue (with_toggler s i changed) (toggler i)) (not t.enabled)
        (keep_requeue (keep_unread k s.head (set s.togglers i changed) s.queue) (toggler i)))
        (λ spent. rw spent (on-stopped Good (toggler i) s d.number spent))

  -- ---- every turn

  nobody_good : OnMoves Good (outcome_of s nobody)
  unfolding outcome_of acts_of
  nobody_good = tt

  -- the bouncer is never next
  bouncer_good : OnMoves Good (outcome_of s bouncer)
  unfolding outcome_of acts_of
  bouncer_good = tt

  pub turn_good : (j : ℕ) → OnMoves Good (outcome_of s (role_in s.network j))
  turn_good j =
      role_elim (λ (role : Role). OnMoves Good (outcome_of s role)) s.network.senders (has_back s.network.back) j
      (link-good f early clock held k 0 (first-there (has_back s.network.back)))
      (λ i inside. sender-good i inside)
      (λ i inside. toggler_good i)
      (λ back. bouncer_good)
      (λ back. link-good f early clock held k 1 (second_there (has_back s.network.back) back))
      nobody_good
