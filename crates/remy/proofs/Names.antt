-- Every record of a history is well named, and so counting named packets is counting marks. Assumes nothing.
use Rattle.std.proofs.Common.{Option, Some, None}
use mathlib.Core.Path.{◌≡◌, refl, sym, ap, subst, ◌∙◌}
use mathlib.Core.Logic.{◌⊎◌, inl, inr, ⊎_elim}
use mathlib.Core.Bool.{Bool, true, false, ◌&&◌, ◌||◌, cond, false≢true, or-true}
use mathlib.Core.List.Memᴰ
use mathlib.Core.List.{List, [], ◌∷◌, ◌++◌, Memᴰ}
use Prim.Native.Nat.{ℕ, zero, suc, ◌+◌, ◌<◌}
use native.Mathlib.Decide.{ℕ_discrete}
use native.Mathlib.Omega.{arith}
use borrow.Author.Tests.{eq-eqb, ne_eqb}
use lib.Dec.{leb, eqb}
use lib.ListN.{length}
use lib.Ieee.{lt}
use Rattle.quantities.specs.declared.time.Time.{Time}
use Rattle.quantities.specs.Units.{span_of, rate_of}
use Rattle.draws.specs.Draws.{unit_of}
use Rattle.link.specs.declared.packet.Packet.{Packet}
use Rattle.link.specs.declared.link.Line.{Line}
use Rattle.link.specs.declared.link.Left.{Left}
use Rattle.link.specs.declared.link.Delivered.{Delivered}
use Rattle.link.specs.declared.link.Transmitted.{Transmitted}
use Rattle.sender.specs.declared.lossy.Enabled.{Enabled}
use Rattle.sender.specs.declared.lossy.SenderState.{SenderState}
use Rattle.sender.specs.declared.lossy.SenderState.TheVariants as State
use Rattle.sender.specs.declared.lossy.Sent.{Sent}
use Rattle.sender.specs.declared.lossy.Heard.{Heard}
use Rattle.toggler.specs.declared.toggler.Toggled.{Toggled}
use Rattle.link.specs.Ring.{places}
use Rattle.link.specs.Link.{is_due, departed, receive_of, try_deliver, is_free, not_started, try_transmit}
use Rattle.sender.specs.Sender.{timer_due, tick_timer, tick_send, returned_of, sent_with}
use Rattle.toggler.specs.Toggler.{toggle_of}
use Rattle.link.proofs.Limits.{due_count, free_count}
use Rattle.remy.specs.declared.network.RemyNetwork.{RemyNetwork}
use Rattle.remy.specs.declared.simulation.Simulation.{Simulation}
use Rattle.remy.specs.declared.simulation.Mark.{Mark}
use Rattle.remy.specs.declared.simulation.TickRecord.{TickRecord}
use Rattle.remy.specs.declared.simulation.Ticked.{Ticked}
use Rattle.remy.specs.State.{line_count, values_of, Role, link, bouncer, sender, toggler, nobody, sender_part, role_in, line_at, sender_at, toggler_at, first_of, front_of, packet_bits, with_sender}
use Rattle.remy.specs.Queue.{part_of, requeue}
use Rattle.remy.specs.Tick.{named, record_at, marked, begun_name, lost_mark, left_record, to_bouncer, left_messages, Message, arrives, bounces, returns, Acted, stopped, enabled_sender, link_with, link_acts, timer_with, send_with, sender_with, sender_acts, toggler_with, toggler_acts, acts_of, Outcome, moves, stops, heard_mark, switch_mark, deliver, deliver_all, pick_again, outcome_with, outcome_of, ticked, tick_of}
use Rattle.remy.specs.History.{Call, tick, called, noted, history, PacketId, Entry, ids, entry_if, entries, is_s, is_f, leaves_by}
use Rattle.remy.specs.Account.{total, of_sender}
use Rattle.remy.specs.Names.{is_send, is_leave, NamesPacket, OnLine, WellNamed, MarksName, records_with, own_mark, NamesCountMarks}
use Rattle.remy.proofs.Facts.{FitState}
use Rattle.remy.proofs.Kept.{Kept}
use Rattle.remy.proofs.Front.{first-sender, front-sender}
use Rattle.remy.proofs.Steps.{cond_elim}
use Rattle.remy.proofs.Roles.{Real, role_at}
use Rattle.remy.proofs.Outcomes.{OnMoves, on-stopped, lost-on, back_on, passed_on_lem, bouncing}
use Rattle.remy.proofs.Account.{KeptAt, tick_elim, call_keeps, fresh_keeps, either, demand3}

-- ---- a record, by its mark

module _ (n : RemyNetwork) where
  abbrev packet-named : (p : Packet) → p.sender < n.senders → NamesPacket n (named p)
  packet-named p h = record { sender = p.sender; seq = p.seq; same = refl; inside = h }

  -- no start is named, or one in a link's record
  abbrev Begins : ℕ → Option (ℕ × ℕ) → Type 0
  Begins part started = (started ≡ None) ⊎ (NamesPacket n started × OnLine n part)

  module _ (r : TickRecord) (starts : Begins r.part r.started) where
    send_named : is_send r.mark ≡ true → is_leave r.mark ≡ false → (p : NamesPacket n r.packet) × (r.part ≡ sender_part p.sender) → WellNamed n r
    send_named e f p = record { sent = λ g. p; left = λ g. absurd (false≢true (sym f ∙ g)); other = λ g h. absurd (false≢true (sym g ∙ e)); starts = starts }

    leave_named : is_send r.mark ≡ false → is_leave r.mark ≡ true → NamesPacket n r.packet → (o : OnLine n r.part) × (leaves_by n o.line r.mark ≡ true) → WellNamed n r
    leave_named e f p q = record { sent = λ g. absurd (false≢true (sym e ∙ g)); left = λ g. (p, q); other = λ g h. absurd (false≢true (sym h ∙ f)); starts = starts }

    other-named : is_send r.mark ≡ false → is_leave r.mark ≡ false → r.packet ≡ None → WellNamed n r
    other-named e f p = record { sent = λ g. absurd (false≢true (sym e ∙ g)); left = λ g. absurd (false≢true (sym f ∙ g)); other = λ g h. p; starts = starts }

-- ---- a turn

-- a packet that is sent is its sender's
pub sent_own : (sent : ℕ) (s : Simulation) (e : Enabled) (i : ℕ) → (tick_send sent s.network.policy e s.head.clock i).packet.sender ≡ i
unfolding tick_send
sent_own sent s e i =
    cond_elim (λ (t : Sent). t.packet.sender ≡ i) (leb 16777216 sent) _ (sent_with sent s.network.policy e s.head.clock i) (λ spent. refl) (λ room. refl)

module _ (s : Simulation) where
  abbrev Good : TickRecord → Simulation → Type 0
  Good r m = WellNamed s.network r

  -- ---- the link's

  abbrev LeftInside : Left → Type 0
  LeftInside Left.Nobody = Unit {0}
  LeftInside (Left.Lost p) = p.sender < s.network.senders
  LeftInside (Left.Out p) = p.sender < s.network.senders

  module _ (l : ℕ) (there : l < line_count s.network) where
    -- the link's own line
    own_line : OnLine s.network (part_of s.network.senders (link l))
    own_line = record { line = l; there = there; same = refl }

    module _ (started : Option (ℕ × ℕ)) (starts : Begins s.network (part_of s.network.senders (link l)) started) (p : Packet) (own : p.sender < s.network.senders) where
      -- a record of this link by which a packet leaves its line
      gone_named : (mark : Mark) → is_send mark ≡ false → is_leave mark ≡ true → leaves_by s.network l mark ≡ true → WellNamed s.network (record_at s (link l) mark (named p) started)
      unfolding own_line
      gone_named mark a b c = leave_named s.network _ starts a b (packet-named s.network p own) (own_line, c)

      back_named : to_bouncer s.network l ≡ false → (h : Heard) → WellNamed s.network (record_at s (link l) (heard_mark h) (named p) started)
      back_named e Heard.Ignored = gone_named Mark.Ignored refl refl (back_on s.network Mark.Ignored refl refl refl refl refl l l there there e ∙ eq-eqb l l refl)
      back_named e Heard.Old = gone_named Mark.Old refl refl (back_on s.network Mark.Old refl refl refl refl refl l l there there e ∙ eq-eqb l l refl)
      back_named e Heard.Counted = gone_named Mark.Counted refl refl (back_on s.network Mark.Counted refl refl refl refl refl l l there there e ∙ eq-eqb l l refl)

      lost-named : (j : ℕ) → leaves_by s.network l (lost_mark j) ≡ true → WellNamed s.network (record_at s (link l) (lost_mark j) (named p) started)
      lost-named zero e = gone_named Mark.Lost refl refl e
      lost-named (suc j) e = gone_named Mark.LostBack refl refl e

      -- at the second line: admitted, dropped full, or refused
      bounced_named : to_bouncer s.network l ≡ true → (m : Simulation) → OnMoves Good (pick_again (deliver (record_at s (link l) Mark.None (named p) started) m (arrives 1 p)))
      unfolding deliver
      bounced_named e m =
          let a = receive_of (values_of m.network 1).limit (line_at m 1) (packet_bits m.network p) in
          let first = bouncing s.network l e in
          let leaving : (mark : Mark) → leaves_by s.network 0 mark ≡ true → leaves_by s.network l mark ≡ true = λ mark q. subst (λ (j : ℕ). leaves_by s.network j mark ≡ true) (sym first.0) q in
          cond_elim (λ (o : Outcome). OnMoves Good (pick_again o)) (eqb a.number 0) _ (stops a.number)
          (λ z. cond_elim (λ (o : Outcome). OnMoves Good (pick_again o)) a.admitted _ _
          (λ admitted. gone_named Mark.Passed refl refl (leaving Mark.Passed (passed_on_lem s.network Mark.Passed refl refl refl refl first.1 0)))
          (λ dropped. gone_named Mark.FullBack refl refl (leaving Mark.FullBack (passed_on_lem s.network Mark.FullBack refl refl refl refl first.1 0))))
          (λ z. tt)

    left_named : (started : Option (ℕ × ℕ)) → Begins s.network (part_of s.network.senders (link l)) started → (left : Left) (m : Simulation) → LeftInside left
        → OnMoves Good (pick_again (deliver_all (moves (left_record s l left started) m) (left_messages s.network l left)))
    unfolding deliver
    left_named started starts Left.Nobody m own = other-named s.network _ starts refl refl refl
    left_named started starts (Left.Lost p) m own = lost-named started starts p own l (lost-on s.network l l there there ∙ eq-eqb l l refl)
    left_named started starts (Left.Out p) m own =
        let r = record_at s (link l) Mark.None (named p) started in
        cond_elim (λ (x : Message). OnMoves Good (pick_again (deliver_all (moves r m) (x ∷ [])))) (to_bouncer s.network l) (bounces p) (returns p)
        (λ e. bounced_named started starts p own e (requeue m bouncer))
        (λ e. back_named started starts p own e (returned_of m.network.policy (sender_at m p.sender) p).heard)

    link_with_lem : (left : Left) (x : Line) (t : Transmitted) → LeftInside left → Begins s.network (part_of s.network.senders (link l)) (begun_name t.begun)
        → OnMoves Good (outcome_with (link l) (link_with s l (record { left = left; line = x }) t))
    link_with_lem left x t own starts =
        cond_elim (λ (a : Acted). OnMoves Good (outcome_with (link l) a)) (eqb t.number 0) _ (stopped s t.number)
        (λ z. left_named (begun_name t.begun) starts left _ own)
        (on-stopped Good (link l) s t.number)

  -- ---- a sender's

  module _ (i : ℕ) (inside : i < s.network.senders) where
    arrived_named : (p : Packet) → p.sender ≡ i → (m : Simulation) → OnMoves Good (pick_again (deliver (record_at s (sender i) Mark.None (named p) None) m (arrives 0 p)))
    unfolding deliver
    arrived_named p own m =
        let a = receive_of (values_of m.network 0).limit (line_at m 0) (packet_bits m.network p) in
        let names : (x : NamesPacket s.network (named p)) × (sender_part i ≡ sender_part x.sender) =
        (packet-named s.network p (subst (λ (j : ℕ). j < s.network.senders) (sym own) inside), ap sender_part (sym own)) in
        cond_elim (λ (o : Outcome). OnMoves Good (pick_again o)) (eqb a.number 0) _ (stops a.number)
        (λ z. cond_elim (λ (o : Outcome). OnMoves Good (pick_again o)) a.admitted _ _
        (λ admitted. send_named s.network _ (inl refl) refl refl names)
        (λ dropped. send_named s.network _ (inl refl) refl refl names))
        (λ z. tt)

    send_turn : (t : Sent) → t.packet.sender ≡ i → OnMoves Good (outcome_with (sender i) (send_with s i t))
    send_turn t own =
        cond_elim (λ (a : Acted). OnMoves Good (outcome_with (sender i) a)) (eqb t.number 0) _ (stopped s t.number)
        (λ z. arrived_named t.packet own (requeue (with_sender s i (enabled_sender (sender_at s i) t.packets_sent t.enabled)) (sender i)))
        (on-stopped Good (sender i) s t.number)

    sender_turn : (x : SenderState) → OnMoves Good (outcome_with (sender i) (sender_with s i x))
    sender_turn State.WaitingForEnable = tt
    sender_turn (State.Enabled e) =
        let policy = s.network.policy in
        let clock = s.head.clock in
        let sent = (sender_at s i).packets_sent in
        cond_elim (λ (a : Acted). OnMoves Good (outcome_with (sender i) a)) (timer_due e clock) (timer_with s i (tick_timer policy e clock)) (send_with s i (tick_send sent policy e clock i))
        (λ due. other-named s.network _ (inl refl) refl refl refl)
        (λ due. send_turn (tick_send sent policy e clock i) (sent_own sent s e i))

  -- ---- a toggler's

  module _ (i : ℕ) where
    switched-named : (on : Bool) → WellNamed s.network (marked (record_at s (toggler i) Mark.None None None) (switch_mark on))
    switched-named true = other-named s.network _ (inl refl) refl refl refl
    switched-named false = other-named s.network _ (inl refl) refl refl refl

    toggler_turn : (t : Toggled) → OnMoves Good (outcome_with (toggler i) (toggler_with s i t))
    unfolding deliver
    toggler_turn t =
        cond_elim (λ (a : Acted). OnMoves Good (outcome_with (toggler i) a)) (eqb t.number 0) _ (stopped s t.number)
        (λ z. switched-named t.toggler.enabled)
        (on-stopped Good (toggler i) s t.number)

-- what starts on line l, where it is x
abbrev transmitted : Simulation → ℕ → Line → Transmitted
transmitted s l x = try_transmit x s.head.clock (first_of s l) (span_of (values_of s.network l).delay) (rate_of (values_of s.network l).rate)

module _ {adm sts lvs : ℕ → List Entry} {snd : List Entry} {cnt : List PacketId} {s : Simulation} (f : FitState s) (k : Kept s.network adm sts lvs snd cnt s) where
  module _ (l : ℕ) (there : l < line_count s.network) where
    -- a packet that starts is of a sender of the network
    start-named : (x : Line) → x.waiting ≡ (line_at s l).waiting → Begins s.network (part_of s.network.senders (link l)) (begun_name (transmitted s l x).begun)
    unfolding try_transmit
    start-named x same =
        let F : Transmitted → Type 0 = λ t. Begins s.network (part_of s.network.senders (link l)) (begun_name t.begun) in
        cond_elim F (is_free x s.head.clock) _ (not_started x 0)
        (λ e. cond_elim F (leb places x.on_line.count) (not_started x 13) _
        (λ full. inl refl)
        (λ room. inr (
          packet-named s.network (first_of s l).packet (first-sender s f l there (subst (λ w. 0 < w.count) same (free_count x s.head.clock e))),
          record { line = l; there = there; same = refl },
        )))
        (λ e. inl refl)

    link_turn : OnMoves (Good s) (outcome_of s (link l))
    unfolding outcome_of acts_of link_acts try_deliver
    link_turn =
        let x = line_at s l in
        let gone = departed x in
        let p = (front_of s l).packet in
        let F : Delivered → Type 0 = λ d. OnMoves (Good s) (outcome_with (link l) (link_with s l d (transmitted s l d.line))) in
        cond_elim F (is_due x s.head.clock (front_of s l)) _ (record { left = Left.Nobody; line = x })
        (λ e.
        let own : p.sender < s.network.senders = front-sender s f l there (k.line l there).transit (due_count x s.head.clock (front_of s l) e) in
        cond_elim F (lt (unit_of x.rng).value (values_of s.network l).loss) (record { left = Left.Lost p; line = gone }) (record { left = Left.Out p; line = gone })
        (λ lost. link_with_lem s l there (Left.Lost p) gone (transmitted s l gone) own (start-named gone refl))
        (λ out. link_with_lem s l there (Left.Out p) gone (transmitted s l gone) own (start-named gone refl)))
        (λ e. link_with_lem s l there Left.Nobody x (transmitted s l x) tt (start-named x refl))

  turn_of : (role : Role) → Real s.network role → OnMoves (Good s) (outcome_of s role)
  unfolding outcome_of acts_of sender_acts toggler_acts
  turn_of (link l) real = link_turn l real
  turn_of bouncer real = tt
  turn_of (sender i) real = sender_turn s i real (sender_at s i).state
  turn_of (toggler i) real = toggler_turn s i (toggle_of (toggler_at s i) s.head.clock s.network.on s.network.off)
  turn_of nobody real = absurd real

  turn_named : (j : ℕ) → OnMoves (Good s) (outcome_of s (role_in s.network j))
  unfolding outcome_of acts_of
  turn_named j = role_at (λ (role : Role). OnMoves (Good s) (outcome_of s role)) s.network j (λ role real part. turn_of role real) tt

-- ---- every list of calls

abbrev AllNamed : RemyNetwork → List TickRecord → Type 0
AllNamed n h = (r : TickRecord) → Memᴰ r h → WellNamed n r

named_more : (n : RemyNetwork) (r : TickRecord) (h : List TickRecord) → WellNamed n r → AllNamed n h → AllNamed n (r ∷ h)
named_more n r h w all x m = elim (Memᴰ.cases_cons m) [
  | inl e ↦ subst (WellNamed n) (sym e) w
  | inr later ↦ all x later
]

tick_named : (h rest : List TickRecord) (s : Simulation) → KeptAt s.network h s → AllNamed s.network rest → AllNamed s.network (noted (tick_of s) rest)
tick_named h rest s k all =
    tick_elim (λ (t : Ticked). AllNamed s.network (noted t rest)) s (λ number. all)
    (λ f early j. moved (outcome_of s (role_in s.network j)) (turn_named f k.lists j))
  where
    moved : (o : Outcome) → OnMoves (Good s) o → AllNamed s.network (noted (ticked s o) rest)
    moved (stops number) w = all
    moved (moves r m) w = named_more s.network r rest w all

call_named : (n : RemyNetwork) (c : Call) (h rest : List TickRecord) (s : Simulation) → KeptAt n h s → AllNamed n rest → AllNamed n (noted (called c s) rest)
call_named n tick h rest s k all =
    subst (λ (m : RemyNetwork). AllNamed m (noted (tick_of s) rest)) k.lists.network
    (tick_named h rest s (subst (λ (m : RemyNetwork). KeptAt m h s) (sym k.lists.network) k) (subst (λ (m : RemyNetwork). AllNamed m rest) (sym k.lists.network) all))

calls_named : (n : RemyNetwork) (cs : List Call) (h : List TickRecord) (s : Simulation) → KeptAt n h s → AllNamed n (history cs s)
calls_named n [] h s k = λ r m. absurd (Memᴰ.not-nil m)
calls_named n (c ∷ cs) h s k =
    let t = called c s in
    call_named n c h (history cs t.simulation) s k (calls_named n cs (h ++ noted t []) t.simulation (call_keeps n c h s k))

-- Every record with S, F, L, C, O, I, P, Q or N names a packet of a sender of the network, and with S or F one of its own part's sender.
pub marks_name : MarksName
marks_name n s fresh cs = calls_named n cs [] s (fresh_keeps n s fresh)

-- ---- counting

-- two senders' parts are the same exactly if the senders are
same_part : (j i : ℕ) → Dec (j ≡ i) → eqb (sender_part j) (sender_part i) ≡ eqb j i
same_part j i (yes same) = eq-eqb (sender_part j) (sender_part i) (omega arith) ∙ sym (eq-eqb j i same)
same_part j i (no other) = ne_eqb (sender_part j) (sender_part i) (λ (e : sender_part j ≡ sender_part i). other (omega arith)) ∙ sym (ne_eqb j i other)

module _ (n : RemyNetwork) where
  -- the sender of a name, and another number where there is none
  abbrev the_sender : Option (ℕ × ℕ) → ℕ → ℕ
  the_sender None j = j
  the_sender (Some (i, m)) j = i

  -- a record with any of those marks names a packet
  names_any : (r : TickRecord) → WellNamed n r → (is_send r.mark || is_leave r.mark) ≡ true → NamesPacket n r.packet
  names_any r w e = ⊎_elim (λ (a : is_send r.mark ≡ true). (w.sent a).0) (λ (a : is_leave r.mark ≡ true). (w.left a).0) (either (is_send r.mark) (is_leave r.mark) e)

  -- one record more
  one_mark : (b : Bool) (t : Time) (name : Option (ℕ × ℕ)) (es : List Entry) (c : ℕ) → (b ≡ true → NamesPacket n name) → c ≡ length es → cond b 1 0 + c ≡ length (entry_if b t name es)
  one_mark false t name es c p e = omega (arith, e)
  one_mark true t None es c p e = let clash = (p refl).same in let no : ◌≡◌ {A = ℕ} 0 1 = cc in absurd (omega arith)
  one_mark true t (Some (i, m)) es c p e = omega (arith, e)

  one-own : (b : Bool) (part : ℕ) (t : Time) (name : Option (ℕ × ℕ)) (es : List Entry) (c i : ℕ) → (b ≡ true → (p : NamesPacket n name) × (part ≡ sender_part p.sender))
      → c ≡ total (of_sender i) (ids es) → cond (b && eqb part (sender_part i)) 1 0 + c ≡ total (of_sender i) (ids (entry_if b t name es))
  one-own false part t name es c i p e = omega (arith, e)
  one-own true part t None es c i p e = let clash = (p refl).0.same in let no : ◌≡◌ {A = ℕ} 0 1 = cc in absurd (omega arith)
  one-own true part t (Some (j, m)) es c i p e =
      let own : j ≡ (p refl).0.sender = ap (λ (x : Option (ℕ × ℕ)). the_sender x j) (p refl).0.same in
      let its : part ≡ sender_part j = (p refl).1 ∙ ap sender_part (sym own) in
      rw (its, same_part j i (ℕ_discrete j i), e)

  count-marks : (f : Mark → Bool) → ((m : Mark) → f m ≡ true → (is_send m || is_leave m) ≡ true) → (h : List TickRecord) → AllNamed n h → records_with (λ r. f r.mark) h ≡ length (entries f h)
  count-marks f those [] all = refl
  count-marks f those (r ∷ h) all =
      one_mark (f r.mark) r.time r.packet (entries f h) (records_with (λ x. f x.mark) h) (λ e. names_any r (all r (Memᴰ.head refl)) (those r.mark e))
      (count-marks f those h (λ x m. all x (Memᴰ.tail m)))

  count-own : (f : Mark → Bool) → ((m : Mark) → f m ≡ true → is_send m ≡ true) → (i : ℕ) (h : List TickRecord) → AllNamed n h → records_with (own_mark f i) h ≡ total (of_sender i) (ids (entries f h))
  count-own f those i [] all = refl
  count-own f those i (r ∷ h) all =
      one-own (f r.mark) r.part r.time r.packet (entries f h) (records_with (own_mark f i) h) i (λ e. (all r (Memᴰ.head refl)).sent (those r.mark e))
      (count-own f those i h (λ x m. all x (Memᴰ.tail m)))

-- So counting named packets is counting marks.
pub names_count_marks : NamesCountMarks
names_count_marks n s fresh cs =
    let h = history cs s in
    let all = marks_name n s fresh cs in
    record {
      marks = λ f those. count-marks n f those h all;
      own = λ f those i. count-own n f those i h all;
      sent = λ i inside. let account = (demand3 n s fresh cs).sent i inside in omega (arith, account, count-own n is_s (λ m e. rw e) i h all, count-own n is_f (λ m e. rw (e, or-true)) i h all);
    }
