-- A fresh simulation keeps what every later one keeps, with nothing in the history; and what holds of every fresh simulation holds of what any build returns. Assumes nothing.
use Rattle.std.proofs.Common.{Option, Some, None}
use mathlib.Core.Path.{◌≡◌, refl, sym, ap, subst, ◌∙◌}
use mathlib.Core.Logic.{◌⊎◌, inl, inr, ⊎_elim}
use mathlib.Core.Bool.{Bool, true, false, and-false}
use mathlib.Core.List.Memᴰ
use mathlib.Core.List.{List, [], map, Memᴰ}
use Prim.Native.Nat.{ℕ, zero, suc, ◌+◌, ◌*◌, ◌<◌, zero-le}
use native.Mathlib.Omega.{arith}
use borrow.Author.Tests.{eqb-true, eqb-false, lt-leb}
use lib.Dec.{leb, ltb, eqb}
use lib.ListN.{length, get_or, set, replicate, length-set}
use lib.Dec.{T}
use lib.Ieee.{lt}
use Rattle.quantities.specs.declared.time.Time.{Time}
use Rattle.quantities.specs.Doubles.{zero_f}
use Rattle.quantities.specs.Units.{span_of, time_of, span_after}
use Rattle.quantities.proofs.Order.{lt→le}
use Rattle.draws.specs.declared.generator.Rng.{Rng}
use Rattle.draws.specs.declared.distribution.ContinuousDistribution.{ContinuousDistribution}
use Rattle.draws.specs.Generator.{from_seed, child_of}
use Rattle.draws.specs.Draws.{draw_of, redraw, positive_of}
use Rattle.meters.specs.Meter.{new_meter}
use Rattle.link.specs.Ring.{places, items}
use Rattle.link.proofs.Items.{Sound}
use Rattle.sender.specs.declared.lossy.LossySender.{LossySender}
use Rattle.toggler.specs.declared.toggler.Toggler.{Toggler}
use Rattle.toggler.specs.declared.toggler.Toggled.{Toggled}
use Rattle.toggler.specs.declared.tick_queue.Queued.{Queued}
use Rattle.toggler.specs.Queue.{queue_places, no_queued}
use Rattle.toggler.specs.Toggler.{new_toggler}
use Rattle.remy.specs.declared.network.RemyNetwork.{RemyNetwork}
use Rattle.remy.specs.declared.simulation.Simulation.{Simulation}
use Rattle.remy.specs.declared.simulation.Built.{Built}
use Rattle.remy.specs.Network.{network_stop}
use Rattle.remy.specs.State.{values_of, no_transit, no_sender, no_toggler, no_meter, with_queue}
use Rattle.remy.specs.Queue.{picked}
use Rattle.remy.specs.Build.{empty_network, empty_simulation, new_line, new_sender, blank_words, blank_waiting, blank_transit, blank_toggler, Parts, no_parts, populate, back_words, unqueued, own_times, queued_all, not_built, build_from, build_of}
use Rattle.remy.specs.History.{Fresh}
use Rattle.remy.specs.HeldTimes.{Full, IfAny, timer_of, Holds, Has}
use Rattle.remy.specs.Account.{Limited}
use Rattle.remy.proofs.Plain.{Plain, PlainOrLeast, plain, plain-after, plain_nan, zero_plain}
use Rattle.remy.proofs.Lines.{LineKept}
use Rattle.remy.proofs.Kept.{all_set, was_sent, size_in, Kept, keep_unread}
use Rattle.remy.proofs.Steps.{cond_elim, keep_picked}
use Rattle.remy.proofs.HeldTimes.{queued_has}
use Rattle.remy.proofs.PlainTimes.{plain_closed}
use Rattle.remy.proofs.Fresh.{new_lines, times-length}
use Rattle.remy.proofs.Empty.{empty-built}

-- ---- arrays filled with one value

pub all_same : {A : Type 0} (P : A → Type 0) (x d : A) → P x → P d → (n i : ℕ) → P (get_or (replicate n x) i d)
all_same P x d p q zero i = q
all_same P x d p q (suc n) zero = p
all_same P x d p q (suc n) (suc i) = all_same P x d p q n i

pub same_length : {A : Type 0} (x : A) (n : ℕ) → length (replicate n x) ≡ n
same_length x zero = refl
same_length x (suc n) = ap suc (same_length x n)

-- ---- senders and togglers as they are made

pub record NewSender (x : LossySender) : Type 0 where
  pub sent : x.packets_sent ≡ 0
  pub timer : IfAny Plain (timer_of x.state)

pub record NewParts (p : Parts) : Type 0 where
  pub senders-full : length p.senders ≡ 16
  pub togglers_full : length p.togglers ≡ 16
  pub senders : (i : ℕ) → NewSender (get_or p.senders i no_sender)
  pub togglers : (i : ℕ) → Plain (get_or p.togglers i no_toggler).next_toggle

new_sender_lem : (g : Rng) → NewSender (new_sender g)
new_sender_lem g = record { sent = refl; timer = tt }

-- a draw that was not spent is positive
draw_positive : (n : ℕ) (d : ContinuousDistribution) (g : Rng) → (redraw n d g).number ≡ 0 → T (lt zero_f (redraw n d g).value)
unfolding redraw
draw_positive zero d g e = let no : ⊥ = omega (arith, e) in absurd no
draw_positive (suc n) d g e = by (lt zero_f (draw_of d g).value) refl (draw_positive n d (draw_of d g).rng)
  where
    by : (b : Bool) → lt zero_f (draw_of d g).value ≡ b → ((redraw n d (draw_of d g).rng).number ≡ 0 → T (lt zero_f (redraw n d (draw_of d g).rng).value))
        → T (lt zero_f (redraw (suc n) d g).value)
    by true q later = rw q (subst T (sym q) tt)
    by false q later = rw q (later (rw q at e))

first-toggle : (g : Rng) (off : ContinuousDistribution) → Plain (new_toggler g off).toggler.next_toggle
unfolding new_toggler
first-toggle g off =
    let d = positive_of off g in
    cond_elim (λ (x : Toggled). Plain x.toggler.next_toggle) (eqb d.number 0)
    (record { number = 0; toggler = record { enabled = false; next_toggle = span_after (time_of zero_f) (span_of d.value); rng = d.rng } })
    (record { number = d.number; toggler = record { enabled = false; next_toggle = time_of zero_f; rng = g } })
    (λ e. plain-after (span_of d.value) zero_plain (lt→le zero_f d.value (draw_positive 8 off g (eqb-true d.number 0 e))))
    (λ e. zero_plain)

populate_new : (left i : ℕ) (off : ContinuousDistribution) (p : Parts) → NewParts p → NewParts (populate left i off p)
unfolding populate
populate_new zero i off p k = k
populate_new (suc left) i off p k =
    let c = child_of p.root in
    let d = child_of c.parent in
    let t = new_toggler d.child off in
    let more : Parts = record { number = t.number; root = d.parent; senders = set p.senders i (new_sender c.child); togglers = set p.togglers i t.toggler } in
    let kept : NewParts more =
    record {
      senders-full = length-set p.senders i (new_sender c.child) ∙ k.senders-full;
      togglers_full = length-set p.togglers i t.toggler ∙ k.togglers_full;
      senders = all_set NewSender no_sender p.senders i (new_sender c.child) k.senders (new_sender_lem c.child);
      togglers = all_set (λ (x : Toggler). Plain x.next_toggle) no_toggler p.togglers i t.toggler k.togglers (first-toggle d.child off);
    } in
    cond_elim NewParts (eqb t.number 0) (populate left (i + 1) off more) more (λ e. populate_new left (i + 1) off more kept) (λ e. kept)

no_parts_new : (root : Rng) → NewParts (no_parts root)
no_parts_new root =
    record {
      senders-full = same_length (new_sender blank_words) 16;
      togglers_full = same_length blank_toggler 16;
      senders = all_same NewSender (new_sender blank_words) no_sender (new_sender_lem blank_words) (record { sent = refl; timer = tt }) 16;
      togglers = all_same (λ (x : Toggler). Plain x.next_toggle) blank_toggler no_toggler zero_plain plain_nan 16;
    }

-- ---- the state before anything is queued

-- where nothing was sent, no packet was
none-sent : (n : RemyNetwork) (i m : ℕ) → 0 ≡ was_sent n i 0 m
none-sent n i zero = rw (and-false (ltb i n.senders))
none-sent n i (suc m) = rw (lt-leb (suc m) 0 (omega arith), and-false (leb 1 (suc m)), and-false (ltb i n.senders))

unlimited : (l : Option ℕ) → Limited l 0
unlimited None = tt
unlimited (Some most) = zero-le

-- the rings of a new line, in slots that are all alike
new_ring : {A : Type 0} (x : A) (l : ℕ) → l < 2 → Sound (replicate (places * 2) x) l (record { start = 0; count = 0 })
new_ring x l h = record { full = omega (arith, same_length x (places * 2)); start = omega arith; count = omega arith }

module _ (n : RemyNetwork) (g back : Rng) (p : Parts) (k : NewParts p) where
  -- a line that no packet came to
  line_kept : (l : ℕ) → l < 2 → (r : Rng)
      → LineKept (values_of n l) (size_in n) l [] [] [] (replicate (places * 2) blank_waiting) (replicate (places * 2) blank_transit) (new_line r)
  line_kept l h r =
      record {
        queue = new_ring blank_waiting l h;
        transit = new_ring blank_transit l h;
        books =
            record {
              starts = refl;
              leaves = refl;
              dues = refl;
              spacing = tt;
              after = tt;
              bits = refl;
              carried = refl;
              limit = unlimited (values_of n l).limit;
            };
      }

  unqueued_kept : Kept n (λ l. []) (λ l. []) (λ l. []) [] [] (unqueued n g back p)
  unqueued_kept =
      record {
        network = refl;
        lines_full = refl;
        senders-full = k.senders-full;
        meters-full = same_length new_meter 16;
        line =
            new_lines (λ l. LineKept (values_of n l) (size_in n) l [] [] [] (replicate (places * 2) blank_waiting) (replicate (places * 2) blank_transit)) n g back
            (line_kept 0 (omega arith) g) (line_kept 1 (omega arith) back);
        sends = λ i. (k.senders i).sent;
        once = λ i m. none-sent n i m ∙ ap (λ (c : ℕ). was_sent n i c m) (sym (k.senders i).sent);
        meter = λ i below. all_same (λ x. x.records ≡ 0) new_meter no_meter refl refl 16 i;
      }

  built_kept : Kept n (λ l. []) (λ l. []) (λ l. []) [] [] (picked (queued_all (unqueued n g back p)))
  unfolding queued_all
  built_kept =
      let u = unqueued n g back p in
      keep_picked (keep_unread unqueued_kept u.head u.togglers (own_times u queue_places 0))

  -- its times are plain, but for the earliest start
  unqueued-plain : Holds plain (unqueued n g back p)
  unqueued-plain =
      record {
        free = new_lines (λ l x. PlainOrLeast x.earliest_transmit) n g back (inr refl) (inr refl);
        due =
            new_lines (λ l x. (t : Time) → Memᴰ t (map (λ y. y.due) (items no_transit (replicate (places * 2) blank_transit) l x.on_line)) → Plain t) n g back
            (λ t m. absurd (Memᴰ.not-nil m)) (λ t m. absurd (Memᴰ.not-nil m));
        timer = λ i below. (k.senders i).timer;
        toggle = λ i below. k.togglers i;
        queued = λ j below. all_same (λ x. IfAny Plain x.time) no_queued no_queued tt tt queue_places j;
      }

  -- so they are where each part is queued at its own
  built-plain : Has plain (picked (queued_all (unqueued n g back p)))
  unfolding queued_all
  built-plain =
      let u = unqueued n g back p in
      queued_has plain u (plain_closed (time_of zero_f) zero_plain) (full (same_length no_queued queue_places)) (full (times-length u queue_places 0))
      (new_lines (λ l x. Sound (replicate (places * 2) blank_transit) l x.on_line) n g back (new_ring blank_transit 0 (omega arith)) (new_ring blank_transit 1 (omega arith))) unqueued-plain
    where
      full : {queue : List Queued} → length queue ≡ queue_places → Full (with_queue (unqueued n g back p) queue)
      full e =
          record {
            lines = refl;
            waiting = same_length blank_waiting (places * 2);
            moving = same_length blank_transit (places * 2);
            senders = k.senders-full;
            togglers = k.togglers_full;
            meters = same_length new_meter 16;
            queue = e;
          }

-- ---- an unrefused build

-- what is kept from then on, with nothing in the history
pub record FreshKept (n : RemyNetwork) (s : Simulation) : Type 0 where
  pub kept : Kept n (λ l. []) (λ l. []) (λ l. []) [] [] s
  pub plain : Has plain s

abbrev BuildKept : RemyNetwork → Built → Type 0
BuildKept n b = b.number ≡ 0 → FreshKept n b.simulation

not_zero : (m : ℕ) {A : Type 0} → eqb m 0 ≡ false → m ≡ 0 → A
not_zero m e z = absurd (eqb-false m 0 e z)

build_keeps : (n : RemyNetwork) (seed : ℕ) → BuildKept n (build_of n seed)
unfolding build_of
build_keeps n seed =
    let c = child_of (from_seed seed) in
    let parts = populate n.senders 0 n.off (no_parts c.parent) in
    let back = back_words n parts.root in
    let new = populate_new n.senders 0 n.off (no_parts c.parent) (no_parts_new c.parent) in
    cond_elim (BuildKept n) (eqb (network_stop n) 0) (build_from n c.child parts) (not_built (network_stop n))
    (λ fine. cond_elim (BuildKept n) (eqb parts.number 0) (record { number = 0; simulation = picked (queued_all (unqueued n c.child back parts)) }) (not_built parts.number)
    (λ drawn zero. record { kept = built_kept n c.child back parts new; plain = built-plain n c.child back parts new })
    (λ spent zero. not_zero parts.number spent zero))
    (λ refused zero. not_zero (network_stop n) refused zero)

pub fresh_kept : (n : RemyNetwork) (s : Simulation) → Fresh n s → FreshKept n s
fresh_kept n s f = subst (BuildKept n) f.1 (build_keeps n f.0) refl

-- ---- every build: a refused one returns the empty simulation, which is also built

abbrev BuiltOrEmpty : Built → Type 0
BuiltOrEmpty b = (b.number ≡ 0) ⊎ (b.simulation ≡ empty_simulation)

built-or_empty : (n : RemyNetwork) (seed : ℕ) → BuiltOrEmpty (build_of n seed)
unfolding build_of
built-or_empty n seed =
    let c = child_of (from_seed seed) in
    let parts = populate n.senders 0 n.off (no_parts c.parent) in
    cond_elim BuiltOrEmpty (eqb (network_stop n) 0) (build_from n c.child parts) (not_built (network_stop n))
    (λ fine. cond_elim BuiltOrEmpty (eqb parts.number 0) (record { number = 0; simulation = picked (queued_all (unqueued n c.child (back_words n parts.root) parts)) }) (not_built parts.number) (λ drawn. inl refl) (λ spent. inr refl))
    (λ refused. inr refl)

-- what holds of every fresh simulation holds of what a build returns
pub build_elim : (P : Simulation → Type 0) → ((n : RemyNetwork) (s : Simulation) → Fresh n s → P s) → (n : RemyNetwork) (seed : ℕ) → P (build_of n seed).simulation
build_elim P fresh n seed =
    let b = build_of n seed in
    ⊎_elim (λ (z : b.number ≡ 0). fresh n b.simulation (seed, ap (λ (number : ℕ). record { number = number; simulation = b.simulation }) z))
    (λ (e : b.simulation ≡ empty_simulation). subst P (sym e) (fresh empty_network empty_simulation (0, empty-built)))
    (built-or_empty n seed)
