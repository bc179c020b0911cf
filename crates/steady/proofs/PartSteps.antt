-- A timer, a send, a packet that comes back and a toggle keep what a state keeps. Assumes nothing.
use mathlib.Core.Path.{◌≡◌, refl, sym, ap, subst, ◌∙◌}
use mathlib.Core.Bool.{Bool, true, false, not, cond}
use Prim.Native.Nat.{ℕ, ◌+◌, ◌≤◌, ◌<◌}
use native.Mathlib.Nat.{le_of_eq}
use native.Mathlib.Omega.{arith}
use borrow.Author.Tests.{eqb-false}
use lib.Dec.{eqb}
use lib.Ieee.{lt}
use Rattle.quantities.specs.declared.time.Time.{Time}
use Rattle.quantities.specs.Units.{span_of, since}
use Rattle.draws.specs.declared.distribution.ContinuousDistribution.{ContinuousDistribution}
use Rattle.draws.proofs.ZeroWords.{zero_words}
use Rattle.meters.specs.Meter.{is_on, switched_of, recorded_of}
use Rattle.link.specs.declared.packet.Packet.{Packet}
use Rattle.sender.specs.declared.lossy.Enabled.{Enabled}
use Rattle.sender.specs.declared.lossy.SenderState.{SenderState}
use Rattle.sender.specs.declared.lossy.SenderState.TheVariants as State
use Rattle.sender.specs.declared.lossy.Heard.TheVariants as Heard
use Rattle.sender.specs.declared.lossy.LossySender.{LossySender}
use Rattle.sender.specs.declared.lossy.Returned.{Returned}
use Rattle.toggler.specs.declared.toggler.Toggler.{Toggler}
use Rattle.toggler.specs.declared.toggler.Toggled.{Toggled}
use Rattle.sender.specs.Sender.{with_state, tick_timer, tick_send, enabled_of, disabled_of, acked, return_to, returned_of}
use Rattle.toggler.specs.Toggler.{next_toggle_of, toggle_draw, toggle_of}
use Rattle.remy.specs.declared.simulation.Simulation.{Simulation}
use Rattle.remy.specs.Network.{times_fit}
use Rattle.remy.specs.State.{no_toggler, no_meter, sender_at, toggler_at, meter_at, sender_bits, packet_bits, with_sender, with_toggler, with_meter}
use Rattle.remy.specs.Fit.{sender_on}
use Rattle.remy.specs.Tick.{enabled_sender, heard_meter, switched_sender}
use Rattle.remy.proofs.Facts.{both_l, both_r}
use Rattle.remy.proofs.Networks.{FitNetwork, fit-network, few_bits, far}
use Rattle.remy.proofs.Steps.{cond_elim}
use Rattle.remy.proofs.Fresh.{redraw-within}
use Rattle.steady.proofs.Facts.{NotAfter, Held, Words, EnabledOk, StateOk, PartAt, all_under_way, Body, Loose}
use Rattle.steady.proofs.Stores.{unset, sender-set, toggler_set, meter-set, store}
use Rattle.steady.proofs.Times.{Early, now_past, new_held, new_ahead}
use Rattle.steady.proofs.Senders.{first-fit, timer_ok, SentOk, sent_ok, acked_ok}
use Rattle.steady.proofs.Meters.{Recorded, recorded_ok, Switched, switched_ok}

-- a toggler that changed
record Changed (clock : Time) (t t' : Toggler) : Type 0 where
  other : t'.enabled ≡ not t.enabled
  held : Held t'.next_toggle
  ahead : NotAfter clock t'.next_toggle
  words : Words t'.rng

toggled_ok : (t : Toggler) (clock : Time) (on off : ContinuousDistribution) → Early clock → Words t.rng → times_fit on ≡ true → times_fit off ≡ true
    → (toggle_of t clock on off).number ≡ 0 → Changed clock t (toggle_of t clock on off).toggler
unfolding toggle_of
toggled_ok t clock on off c w f g =
    let d = toggle_draw t on off in
    let changed : Toggler = record { enabled = not t.enabled; next_toggle = next_toggle_of clock d.value; rng = d.rng } in
    let fine : times_fit (cond (not t.enabled) on off) ≡ true = cond_elim (λ (x : ContinuousDistribution). times_fit x ≡ true) (not t.enabled) on off (λ e. f) (λ e. g) in
    let short = far d.value (redraw-within 8 (cond (not t.enabled) on off) fine t.rng) in
    cond_elim (λ (x : Toggled). x.number ≡ 0 → Changed clock t x.toggler) (eqb d.number 0)
    (record { number = 0; toggler = changed }) (record { number = d.number; toggler = t })
    (λ drawn z.
    record {
      other = refl;
      held = new_held clock (span_of d.value) c short;
      ahead = new_ahead clock (span_of d.value) c short;
      words = zero_words.redrawn (cond (not t.enabled) on off) t.rng w;
    })
    (λ spent z. absurd (eqb-false d.number 0 spent z))

module _ (s : Simulation) (b : Body s) (early : Early s.head.clock) where
  net : FitNetwork s.network
  net = fit-network s.network b.network

  module _ (i : ℕ) (h : i < s.network.senders) where
    part : PartAt s i
    part = b.parts i h

    -- another enabled state of an enabled sender, and no fewer sent
    resumed : (sent : ℕ) (e : Enabled) → sender_on (sender_at s i).state ≡ true → (sender_at s i).packets_sent ≤ sent → sent ≤ 16777216
        → EnabledOk s.network.policy s.head.clock e → Body (with_sender s i (enabled_sender (sender_at s i) sent e))
    resumed sent e on more most k =
        store s b i h (sender-set s b i h (enabled_sender (sender_at s i) sent e)) (unset no_toggler s.togglers i) (unset no_meter s.meters i) more
        (record {
          sent = most;
          state = k;
          toggler_on = part.toggler_on ∙ on;
          toggle = part.toggle;
          toggle-ahead = part.toggle-ahead;
          meter-on = part.meter-on ∙ on;
          meter = part.meter;
          words = part.words;
          toggler_words_lem = part.toggler_words_lem;
        })
        (let room = b.records i h in omega (arith, room, more))

    module _ (e : Enabled) (on : (sender_at s i).state ≡ State.Enabled e) where
      enabled : EnabledOk s.network.policy s.head.clock e
      enabled = subst (StateOk s.network.policy s.head.clock) on part.state

      -- ---- its timer
      pub timer_body : Body (with_sender s i (enabled_sender (sender_at s i) (sender_at s i).packets_sent (tick_timer s.network.policy e s.head.clock)))
      timer_body =
          resumed (sender_at s i).packets_sent (tick_timer s.network.policy e s.head.clock) (ap sender_on on) (le_of_eq refl) part.sent
          (timer_ok s.head.clock early e s.network.policy net.policy enabled)

      -- ---- a packet
      sent_fine : (tick_send (sender_at s i).packets_sent s.network.policy e s.head.clock i).number ≡ 0
          → SentOk s.head.clock (sender_at s i).packets_sent s.network.policy i (tick_send (sender_at s i).packets_sent s.network.policy e s.head.clock i)
      sent_fine z = sent_ok s.head.clock early e (sender_at s i).packets_sent s.network.policy i net.policy enabled z

      pub send_body : let t = tick_send (sender_at s i).packets_sent s.network.policy e s.head.clock i in
          t.number ≡ 0 → Body (with_sender s i (enabled_sender (sender_at s i) t.packets_sent t.enabled))
      send_body z =
          let t = tick_send (sender_at s i).packets_sent s.network.policy e s.head.clock i in
          let k = sent_fine z in
          let count = k.count in
          let few = k.room in
          resumed t.packets_sent t.enabled (ap sender_on on) (omega (arith, count)) (omega (arith, count, few)) k.enabled

      pub send_loose : let t = tick_send (sender_at s i).packets_sent s.network.policy e s.head.clock i in
          t.number ≡ 0 → Loose (with_sender s i (enabled_sender (sender_at s i) t.packets_sent t.enabled)) t.packet
      send_loose z =
          let t = tick_send (sender_at s i).packets_sent s.network.policy e s.head.clock i in
          let k = sent_fine z in
          let x = enabled_sender (sender_at s i) t.packets_sent t.enabled in
          let sent : (sender_at (with_sender s i x) i).packets_sent ≡ (sender_at s i).packets_sent + 1 = ap (λ y. y.packets_sent) (sender-set s b i h x).at ∙ k.count in
          let room = b.records i h in
          subst (Loose (with_sender s i x)) (sym k.packet)
          (record {
            packet = record { own = h; first = omega arith; last = le_of_eq (sym sent); past = now_past s.head.clock early };
            room = rw sent (omega (arith, room));
          })

    -- ---- a packet that comes back

    -- it changes nothing where it is ignored or old
    unchanged : Body (with_sender s i (sender_at s i))
    unchanged =
        store s b i h (sender-set s b i h (sender_at s i)) (unset no_toggler s.togglers i) (unset no_meter s.meters i) (le_of_eq refl) part (b.records i h)

    module _ (p : Packet) (mine : p.sender ≡ i) (few : p.seq ≤ 16777216)
        (room : (meter_at s i).records + all_under_way s i + 1 ≤ (sender_at s i).packets_sent) where
      -- where it is counted
      counted : (e : Enabled) → (sender_at s i).state ≡ State.Enabled e
          → Body (heard_meter (with_sender s i (with_state (sender_at s i) (State.Enabled (acked s.network.policy e p)))) i p Heard.Counted)
      counted e on =
          let m = (recorded_of (meter_at s i) (packet_bits s.network p) (since s.head.clock p.sent_time) s.head.clock).meter in
          let size = (sender_bits s.network i).0 in
          let k : Recorded size s.head.clock (meter_at s i) m =
          rw mine (recorded_ok size s.head.clock (meter_at s i) (since s.head.clock p.sent_time) part.meter) in
          store s b i h (sender-set s b i h (with_state (sender_at s i) (State.Enabled (acked s.network.policy e p)))) (unset no_toggler s.togglers i) (meter-set s b i h m) (le_of_eq refl)
          (record {
            sent = part.sent;
            state = acked_ok s.head.clock early e s.network.policy p net.policy few (enabled e on);
            toggler_on = part.toggler_on ∙ ap sender_on on;
            toggle = part.toggle;
            toggle-ahead = part.toggle-ahead;
            meter-on = ap is_on k.same ∙ part.meter-on ∙ ap sender_on on;
            meter = k.kept;
            words = part.words;
            toggler_words_lem = part.toggler_words_lem;
          })
          (let one = k.one in omega (arith, one, room))

      returned : (x : SenderState) → (sender_at s i).state ≡ x
          → Body (heard_meter (with_sender s i (return_to s.network.policy (sender_at s i) x p).sender) i p (return_to s.network.policy (sender_at s i) x p).heard)
      returned State.WaitingForEnable on = unchanged
      returned (State.Enabled e) on =
          cond_elim (λ (r : Returned). Body (heard_meter (with_sender s i r.sender) i p r.heard)) (lt p.sent_time.0.0 e.started.0.0)
          (record { heard = Heard.Old; sender = sender_at s i })
          (record { heard = Heard.Counted; sender = with_state (sender_at s i) (State.Enabled (acked s.network.policy e p)) })
          (λ old. unchanged) (λ new. counted e on)

  pub return_body : (p : Packet) → Loose s p → let x = returned_of s.network.policy (sender_at s p.sender) p in
      Body (heard_meter (with_sender s p.sender x.sender) p.sender p x.heard)
  unfolding returned_of
  return_body p l =
      let own = l.packet.own in
      let last = l.packet.last in
      let most = (b.parts p.sender own).sent in
      returned p.sender own p refl (omega (arith, last, most)) l.room (sender_at s p.sender).state refl

  -- ---- a toggle
  module _ (i : ℕ) (h : i < s.network.senders) (t : Toggler) (changed : Changed s.head.clock (toggler_at s i) t) where
    meter_now : (on : Bool) → t.enabled ≡ on → Switched (sender_bits s.network i).0 s.head.clock (meter_at s i) (switched_of (meter_at s i) on s.head.clock).meter
    meter_now on e =
        let k = b.parts i h in
        let room = b.records i h in
        let most = k.sent in
        switched_ok (sender_bits s.network i).0 s.head.clock (meter_at s i) on early (few_bits net i h) (omega (arith, room, most))
        (sym e ∙ changed.other ∙ ap not (k.toggler_on ∙ sym k.meter-on)) k.meter

    -- the sender, on or off as its toggler is
    switched : (on : Bool) → t.enabled ≡ on → (x : LossySender) → x.packets_sent ≡ (sender_at s i).packets_sent → x.rng ≡ (sender_at s i).rng
        → StateOk s.network.policy s.head.clock x.state → sender_on x.state ≡ on → Body (with_meter (with_sender (with_toggler s i t) i x) i (switched_of (meter_at s i) on s.head.clock).meter)
    switched on e x sent same state own =
        let k = b.parts i h in
        let m = (switched_of (meter_at s i) on s.head.clock).meter in
        let w = meter_now on e in
        let room = b.records i h in
        let most = k.sent in
        let records = w.same in
        store s b i h (sender-set s b i h x) (toggler_set s b i h t) (meter-set s b i h m) (le_of_eq (sym sent))
        (record {
          sent = omega (arith, sent, most);
          state = state;
          toggler_on = e ∙ sym own;
          toggle = changed.held;
          toggle-ahead = changed.ahead;
          meter-on = w.other ∙ ap not (k.meter-on ∙ sym k.toggler_on) ∙ sym changed.other ∙ e ∙ sym own;
          meter = w.kept;
          words = rw same k.words;
          toggler_words_lem = changed.words;
        })
        (omega (arith, room, records, sent))

    switch_body : (on : Bool) → t.enabled ≡ on
        → Body (with_meter (with_sender (with_toggler s i t) i (switched_sender (with_toggler s i t) i on)) i (switched_of (meter_at (with_toggler s i t) i) on s.head.clock).meter)
    unfolding enabled_of disabled_of
    switch_body true e =
        switched true e (switched_sender (with_toggler s i t) i true) refl refl
        (record { started = now_past s.head.clock early; ack = (b.parts i h).sent; window = first-fit s.network.policy net.policy; timer = tt }) refl
    switch_body false e = switched false e (switched_sender (with_toggler s i t) i false) refl refl tt refl

  pub toggle-body : (i : ℕ) → i < s.network.senders →
      let t = toggle_of (toggler_at s i) s.head.clock s.network.on s.network.off in
      let s1 = with_toggler s i t.toggler in
      t.number ≡ 0 → Body (with_meter (with_sender s1 i (switched_sender s1 i t.toggler.enabled)) i (switched_of (meter_at s1 i) t.toggler.enabled s1.head.clock).meter)
  toggle-body i h z =
      let on = s.network.on in
      let off = s.network.off in
      let t = (toggle_of (toggler_at s i) s.head.clock on off).toggler in
      switch_body i h t
      (toggled_ok (toggler_at s i) s.head.clock on off early (b.parts i h).toggler_words_lem (both_l (times_fit on) (times_fit off) net.times) (both_r (times_fit on) (times_fit off) net.times) z) t.enabled refl
