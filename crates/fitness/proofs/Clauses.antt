-- Conjunctions and tests of every member, and the clauses of `fit` at one packet, at one sender and at one place of the queue: each group's test holds exactly where they all do.
-- Assumes nothing.
use Rattle.std.proofs.Common.{Option, Some, None}
use Prim.Native.Nat.{ℕ, zero, suc, ◌+◌, ◌*◌, ◌<◌}
use mathlib.Core.Path.{◌≡◌, refl, sym, ap}
use mathlib.Core.Bool.{Bool, true, false, not, ◌&&◌, ◌||◌, beq}
use mathlib.Core.List.{List, [], ◌∷◌, map}
use native.Mathlib.Omega.{arith}
use lib.Dec.{leb, ltb, eqb}
use Rattle.quantities.specs.declared.time.Time.{Time}
use Rattle.draws.specs.Generator.{all_zero}
use Rattle.meters.specs.Meter.{is_on, total_fit, sum_fit}
use Rattle.link.specs.declared.packet.Packet.{Packet}
use Rattle.toggler.specs.declared.tick_queue.Queued.{Queued}
use Rattle.sender.specs.declared.lossy.Policy.{Policy}
use Rattle.sender.specs.declared.lossy.SenderState.{SenderState}
use Rattle.sender.specs.declared.lossy.SenderState.TheVariants as State
use Rattle.remy.specs.declared.simulation.Simulation.{Simulation}
use Rattle.remy.specs.Network.{up_to, between, window_fit}
use Rattle.remy.specs.State.{has_back, line_count, sender_at, toggler_at, meter_at, sender_bits}
use Rattle.remy.specs.Queue.{own_time, next_time_of}
use Rattle.remy.specs.Fit.{every, packet_fit, held, held_if_any, held_sender, held_queued, since_start, started_fit, meter_start_fit, ack_fit, held_window_fit, is_timed, timer_fit, sender_on}
use Rattle.remy.proofs.Facts.{both_l, both_r, both_i, first-there, second_there}
use Rattle.remy.proofs.Roles.{role_elim}
use Rattle.ranges.specs.Frame.{past_test}
use Rattle.clauses.specs.Tests.{sent_test, packet_test, timer_test, enabled_test, state_test, start_test, meter_test, agree_test, sent_count_test, words_test, sender_test, link_time, LinkTimes, role_time, part_time, queued_test}

-- ---- conjunctions

-- two tests that pass together are the same
pub same_test : (a b : Bool) → (a ≡ true → b ≡ true) → (b ≡ true → a ≡ true) → a ≡ b
same_test true b f g = sym (f refl)
same_test false true f g = g refl
same_test false false f g = refl

pub and_2 : (a b : Bool) → (a && b) ≡ true → (a ≡ true) × (b ≡ true)
and_2 a b e = (both_l a b e, both_r a b e)

pub and_3 : (a b c : Bool) → (a && b && c) ≡ true → (a ≡ true) × (b ≡ true) × (c ≡ true)
and_3 a b c e = let x = both_l (a && b) c e in (both_l a b x, both_r a b x, both_r (a && b) c e)

pub and_4 : (a b c d : Bool) → (a && b && c && d) ≡ true → (a ≡ true) × (b ≡ true) × (c ≡ true) × (d ≡ true)
and_4 a b c d e = let x = and_3 a b c (both_l (a && b && c) d e) in (x.0, x.1, x.2, both_r (a && b && c) d e)

pub and_5 : (a b c d f : Bool) → (a && b && c && d && f) ≡ true → (a ≡ true) × (b ≡ true) × (c ≡ true) × (d ≡ true) × (f ≡ true)
and_5 a b c d f e = let x = and_4 a b c d (both_l (a && b && c && d) f e) in (x.0, x.1, x.2, x.3, both_r (a && b && c && d) f e)

-- ---- every member, and every number below a bound

module _ {A : Type 0} where
  pub every_imp : (f k : A → Bool) → ((x : A) → f x ≡ true → k x ≡ true) → (xs : List A) → every f xs ≡ true → every k xs ≡ true
  every_imp f k step [] e = refl
  every_imp f k step (x ∷ xs) e =
      both_i (k x) (every k xs) (step x (both_l (f x) (every f xs) e)) (every_imp f k step xs (both_r (f x) (every f xs) e))

  pub every-and : (f g : A → Bool) (xs : List A) → every f xs ≡ true → every g xs ≡ true → every (λ x. f x && g x) xs ≡ true
  every-and f g [] e d = refl
  every-and f g (x ∷ xs) e d =
      both_i (f x && g x) (every (λ x. f x && g x) xs) (both_i (f x) (g x) (both_l (f x) (every f xs) e) (both_l (g x) (every g xs) d))
      (every-and f g xs (both_r (f x) (every f xs) e) (both_r (g x) (every g xs) d))

pub every_map : {A B : Type 0} (f : B → Bool) (g : A → B) (xs : List A) → every f (map g xs) ≡ every (λ x. f (g x)) xs
every_map f g [] = refl
every_map f g (x ∷ xs) = ap (λ (t : Bool). f (g x) && t) (every_map f g xs)

pub up_to_i : (n : ℕ) (f : ℕ → Bool) → ((i : ℕ) → i < n → f i ≡ true) → up_to n f ≡ true
up_to_i zero f all = refl
up_to_i (suc n) f all = both_i (up_to n f) (f n) (up_to_i n f (λ i h. all i (omega arith))) (all n (omega arith))

-- ---- a packet

module _ (s : Simulation) (p : Packet) where
  pub packet_clauses : packet_test s.senders s.network.senders s.head.clock p ≡ true
      → (packet_fit s p ≡ true) × (held p.sent_time ≡ true) × (since_start s p.sent_time ≡ true)
  unfolding packet_test sent_test past_test
  packet_clauses e =
      let a = ltb p.sender s.network.senders in
      let b = between 1 (sender_at s p.sender).packets_sent p.seq in
      let c = held p.sent_time in
      let d = since_start s p.sent_time in
      let x = and_2 a (b && (c && d)) e in
      let y = and_2 b (c && d) x.1 in
      let z = and_2 c d y.1 in
      (both_i a b x.0 y.0, z.0, z.1)

  pub clauses_packet : packet_fit s p ≡ true → held p.sent_time ≡ true → since_start s p.sent_time ≡ true
      → packet_test s.senders s.network.senders s.head.clock p ≡ true
  unfolding packet_test sent_test past_test
  clauses_packet e f g =
      let a = ltb p.sender s.network.senders in
      let b = between 1 (sender_at s p.sender).packets_sent p.seq in
      let c = held p.sent_time in
      let d = since_start s p.sent_time in
      both_i a (b && (c && d)) (both_l a b e) (both_i b (c && d) (both_r a b e) (both_i c d f g))

-- ---- a sender's state and a meter's start

module _ (policy : Policy) where
  timer_clauses : (t : Option Time) → timer_test policy t ≡ true → (held_if_any t ≡ true) × ((not (is_on t) || is_timed policy) ≡ true)
  unfolding timer_test
  timer_clauses None e = (refl, refl)
  timer_clauses (Some t) e = and_2 (held t) (is_timed policy) e

  clauses_timer : (t : Option Time) → held_if_any t ≡ true → (not (is_on t) || is_timed policy) ≡ true → timer_test policy t ≡ true
  unfolding timer_test
  clauses_timer None e f = refl
  clauses_timer (Some t) e f = both_i (held t) (is_timed policy) e f

pub record StateClauses (s : Simulation) (policy : Policy) (x : SenderState) : Type 0 where
  pub times : held_sender x ≡ true
  pub started : started_fit s x ≡ true
  pub ack : ack_fit x ≡ true
  pub window : held_window_fit x ≡ true
  pub timer : timer_fit policy x ≡ true

module _ (s : Simulation) (policy : Policy) where
  state_clauses : (x : SenderState) → state_test policy s.head.clock x ≡ true → StateClauses s policy x
  unfolding state_test enabled_test past_test
  state_clauses State.WaitingForEnable e = record { times = refl; started = refl; ack = refl; window = refl; timer = refl }
  state_clauses (State.Enabled x) e =
      let h = held x.started in
      let r = since_start s x.started in
      let a = and_4 (h && r) (leb x.greatest_ack 16777216) (window_fit x.cwnd) (timer_test policy x.timer) e in
      let b = and_2 h r a.0 in
      let t = timer_clauses policy x.timer a.3 in
      record { times = both_i h (held_if_any x.timer) b.0 t.0; started = b.1; ack = a.1; window = a.2; timer = t.1 }

  clauses_state : (x : SenderState) → StateClauses s policy x → state_test policy s.head.clock x ≡ true
  unfolding state_test enabled_test past_test
  clauses_state State.WaitingForEnable c = refl
  clauses_state (State.Enabled x) c =
      let h = and_2 (held x.started) (held_if_any x.timer) c.times in
      rw (h.0, c.started, c.ack, c.window) (clauses_timer policy x.timer h.1 c.timer)

module _ (s : Simulation) where
  start_clauses : (t : Option Time) → start_test s.head.clock t ≡ true → (held_if_any t ≡ true) × (meter_start_fit s t ≡ true)
  unfolding start_test past_test
  start_clauses None e = (refl, refl)
  start_clauses (Some t) e = and_2 (held t) (since_start s t) e

  clauses_start : (t : Option Time) → held_if_any t ≡ true → meter_start_fit s t ≡ true → start_test s.head.clock t ≡ true
  unfolding start_test past_test
  clauses_start None e f = refl
  clauses_start (Some t) e f = both_i (held t) (since_start s t) e f

-- ---- the i-th sender, with its toggler and meter

pub record SenderClauses (s : Simulation) (i u : ℕ) : Type 0 where
  pub state : StateClauses s s.network.policy (sender_at s i).state
  pub toggle : held (toggler_at s i).next_toggle ≡ true
  pub meter-held : held_if_any (meter_at s i).current_start ≡ true
  pub meter-start : meter_start_fit s (meter_at s i).current_start ≡ true
  pub total : total_fit (meter_at s i).total_time ≡ true
  pub sum : sum_fit (meter_at s i).records (meter_at s i).rtt_sum ≡ true
  pub bits : eqb (meter_at s i).total.0 ((meter_at s i).records * (sender_bits s.network i).0) ≡ true
  pub few : leb (sender_at s i).packets_sent 16777216 ≡ true
  pub records : leb ((meter_at s i).records + u) (sender_at s i).packets_sent ≡ true
  pub toggler_on : beq (toggler_at s i).enabled (sender_on (sender_at s i).state) ≡ true
  pub meter-on : beq (sender_on (sender_at s i).state) (is_on (meter_at s i).current_start) ≡ true
  pub words : not (all_zero (sender_at s i).rng) ≡ true
  pub toggler_words_lem : not (all_zero (toggler_at s i).rng) ≡ true

module _ (s : Simulation) (i u : ℕ) where
  pub sender_clauses : sender_test s.network.policy (sender_bits s.network i).0 s.head.clock (sender_at s i) (toggler_at s i) (meter_at s i) u ≡ true
      → SenderClauses s i u
  unfolding sender_test meter_test sent_count_test agree_test words_test
  sender_clauses e =
      let x = sender_at s i in
      let t = toggler_at s i in
      let m = meter_at s i in
      let clock = s.head.clock in
      let A = state_test s.network.policy clock x.state in
      let B = held t.next_toggle in
      let C = meter_test (sender_bits s.network i).0 clock m in
      let D = sent_count_test x.packets_sent m.records u in
      let E = agree_test t.enabled x.state m.current_start in
      let g = and_2 (A && B && C && D && E) (words_test x.rng t.rng) e in
      let a = and_5 A B C D E g.0 in
      let k = and_2 (not (all_zero x.rng)) (not (all_zero t.rng)) g.1 in
      let b =
      and_4 (start_test clock m.current_start) (total_fit m.total_time) (sum_fit m.records m.rtt_sum)
      (eqb m.total.0 (m.records * (sender_bits s.network i).0)) a.2 in
      let c = start_clauses s m.current_start b.0 in
      let d = and_2 (leb x.packets_sent 16777216) (leb (m.records + u) x.packets_sent) a.3 in
      let f = and_2 (beq t.enabled (sender_on x.state)) (beq (sender_on x.state) (is_on m.current_start)) a.4 in
      record {
        state = state_clauses s s.network.policy x.state a.0;
        toggle = a.1;
        meter-held = c.0;
        meter-start = c.1;
        total = b.1;
        sum = b.2;
        bits = b.3;
        few = d.0;
        records = d.1;
        toggler_on = f.0;
        meter-on = f.1;
        words = k.0;
        toggler_words_lem = k.1;
      }

  pub clauses_sender : SenderClauses s i u
      → sender_test s.network.policy (sender_bits s.network i).0 s.head.clock (sender_at s i) (toggler_at s i) (meter_at s i) u ≡ true
  unfolding sender_test meter_test sent_count_test agree_test words_test
  clauses_sender c =
      rw (
        clauses_state s s.network.policy (sender_at s i).state c.state,
        c.toggle,
        clauses_start s (meter_at s i).current_start c.meter-held c.meter-start,
        c.total,
        c.sum,
        c.bits,
        c.few,
        c.records,
        c.toggler_on,
        c.meter-on,
        c.words,
      )
      c.toggler_words_lem

-- ---- the queue

module _ (s : Simulation) where
  -- the own next time of part k, through the times of the links that there are
  pub part_same : (links : List Queued) → LinkTimes (link_time s.lines s.on_line s.head.clock) (line_count s.network) links → (k : ℕ)
      → part_time s.network.senders (has_back s.network.back) links s.head.clock s.senders s.togglers k ≡ next_time_of s k
  unfolding part_time role_time link_time own_time
  part_same links t k =
      role_elim (λ role. role_time links s.head.clock s.senders s.togglers role ≡ own_time s role) s.network.senders (has_back s.network.back) k
      (t.each 0 (first-there (has_back s.network.back))) (λ i h. refl) (λ i h. refl) (λ b. refl)
      (λ b. t.each 1 (second_there (has_back s.network.back) b)) refl

  pub queued_same : (q : Option Time) → queued_test s.head.clock q ≡ held_queued s q
  unfolding queued_test
  queued_same None = refl
  queued_same (Some t) = refl
