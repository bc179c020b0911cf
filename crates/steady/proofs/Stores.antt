-- A store at one sender, its toggler and its meter keeps what a state keeps, where the new part does and its sender has sent no less; and what a store leaves as it was.
-- Assumes nothing.
use mathlib.Core.Path.{◌≡◌, refl, sym, ap, subst, ◌∙◌}
use mathlib.Core.List.{List}
use Prim.Native.Nat.{ℕ, ◌+◌, ◌%◌, ◌≤◌, ◌<◌}
use native.Mathlib.Nat.{le_trans, le_of_eq}
use native.Mathlib.Decide.{ℕ_discrete}
use native.Mathlib.Omega.{arith}
use lib.ListN.{length, get_or, set, length-set}
use lib.Seq.{get_or-set_same, get_or-set_other}
use Rattle.quantities.specs.declared.time.Time.{Time}
use Rattle.meters.specs.declared.meter.AverageFlowMeter.{AverageFlowMeter}
use Rattle.link.specs.declared.packet.Packet.{Packet}
use Rattle.link.specs.declared.packet.Waiting.{Waiting}
use Rattle.link.specs.declared.packet.Transit.{Transit}
use Rattle.link.specs.declared.link.Line.{Line}
use Rattle.sender.specs.declared.lossy.LossySender.{LossySender}
use Rattle.toggler.specs.declared.toggler.Toggler.{Toggler}
use Rattle.link.specs.declared.ring.Ring.{Ring}
use Rattle.link.specs.Ring.{places, slot_of, items}
use Rattle.link.proofs.Items.{Sound, items-same, store_sound}
use Rattle.remy.specs.declared.network.RemyNetwork.{RemyNetwork}
use Rattle.remy.specs.declared.simulation.Simulation.{Simulation}
use Rattle.remy.specs.State.{no_waiting, no_transit, no_sender, no_toggler, no_meter, line_at, sender_at, sender_bits, with_senders, with_togglers, with_meters}
use Rattle.remy.proofs.Networks.{fit-network, few_senders}
use Rattle.steady.proofs.Facts.{PacketOk, WaitsOk, TransitOk, LineOk, PartOk, sent_of, all_under_way, Body}
use Rattle.remy.proofs.Lists.{all_map}

-- ---- more packets sent

module _ (net : RemyNetwork) (sent sent' : ℕ → ℕ) (more : (i : ℕ) → sent i ≤ sent' i) (clock : Time) where
  packet-more : (p : Packet) → PacketOk net.senders sent clock p → PacketOk net.senders sent' clock p
  packet-more p k = record { own = k.own; first = k.first; last = le_trans k.last (more p.sender); past = k.past }

  waits-more : (x : Waiting) → WaitsOk net sent clock x → WaitsOk net sent' clock x
  waits-more x k = record { packet = packet-more x.packet k.packet; carries = k.carries }

  transit_more : (l : ℕ) (x : Transit) → TransitOk net sent clock l x → TransitOk net sent' clock l x
  transit_more l x k = record { packet = packet-more x.packet k.packet; held = k.held; ahead = k.ahead; soon = k.soon }

  line-more : (l : ℕ) (x : Line) (waiting : List Waiting) (moving : List Transit) → LineOk net sent clock l x waiting moving → LineOk net sent' clock l x waiting moving
  line-more l x waiting moving k =
      record {
        waits = k.waits;
        moves = k.moves;
        bits = k.bits;
        waiting_ok = all_map (WaitsOk net sent clock) (WaitsOk net sent' clock) waits-more (items no_waiting waiting l x.waiting) k.waiting_ok;
        moving_ok = all_map (TransitOk net sent clock l) (TransitOk net sent' clock l) (transit_more l) (items no_transit moving l x.on_line) k.moving_ok;
        order = k.order;
        free = k.free;
        words = k.words;
      }

-- ---- lists that differ at i, where the new one has x

pub record Anew {A : Type 0} (d : A) (l : List A) (i : ℕ) (x : A) (l' : List A) : Type 0 where
  pub size : length l' ≡ length l
  pub at : get_or l' i d ≡ x
  pub others : (j : ℕ) → (j ≡ i → ⊥) → get_or l' j d ≡ get_or l j d

pub unset : {A : Type 0} (d : A) (l : List A) (i : ℕ) → Anew d l i (get_or l i d) l
unset d l i = record { size = refl; at = refl; others = λ j other. refl }

pub set_at : {A : Type 0} (d : A) (l : List A) (i : ℕ) (x : A) → i < length l → Anew d l i x (set l i x)
set_at d l i x h = record { size = length-set l i x; at = get_or-set_same l i x d h; others = λ j other. get_or-set_other l i j x d other }

-- ---- slots that differ in ring l alone

pub record Beside {A : Type 0} (d : A) (slots : List A) (l : ℕ) (slots' : List A) : Type 0 where
  pub size : length slots' ≡ length slots
  pub sound : {m : ℕ} {r : Ring} → Sound slots m r → Sound slots' m r
  pub others : (m p : ℕ) → (m ≡ l → ⊥) → p < places → get_or slots' (slot_of m p) d ≡ get_or slots (slot_of m p) d

module _ {A : Type 0} (d : A) (slots : List A) (l : ℕ) where
  pub beside_self : Beside d slots l slots
  beside_self = record { size = refl; sound = λ k. k; others = λ m p other h. refl }

  pub beside_set : (p : ℕ) (x : A) → p < places → Beside d slots l (set slots (slot_of l p) x)
  beside_set p x h =
      record {
        size = length-set slots (slot_of l p) x;
        sound = λ k. store_sound k (slot_of l p) x;
        others = λ m q other k. get_or-set_other slots (slot_of l p) (slot_of m q) x d (λ e. other (omega (arith, h, k, e)));
      }

  -- the items of another ring
  pub beside_items : {slots' : List A} → Beside d slots l slots' → (m : ℕ) (r : Ring) → (m ≡ l → ⊥) → items d slots' m r ≡ items d slots m r
  beside_items {slots'} b m r other = items-same d slots' m r slots (λ i h. b.others m ((r.start + i) % places) other (omega arith))

-- ---- the store

module _ (s : Simulation) (b : Body s) (i : ℕ) (h : i < s.network.senders) where
  few : i < 16
  few = let most = few_senders (fit-network s.network b.network) in omega (arith, h, most)

  pub sender-set : (x : LossySender) → Anew no_sender s.senders i x (set s.senders i x)
  sender-set x = set_at no_sender s.senders i x (let full = b.full.senders in let low = few in omega (arith, full, low))

  pub toggler_set : (t : Toggler) → Anew no_toggler s.togglers i t (set s.togglers i t)
  toggler_set t = set_at no_toggler s.togglers i t (let full = b.full.togglers in let low = few in omega (arith, full, low))

  pub meter-set : (m : AverageFlowMeter) → Anew no_meter s.meters i m (set s.meters i m)
  meter-set m = set_at no_meter s.meters i m (let full = b.full.meters in let low = few in omega (arith, full, low))

  module _ {x : LossySender} {t : Toggler} {m : AverageFlowMeter} {xs : List LossySender} {ts : List Toggler} {ms : List AverageFlowMeter}
      (new_sender_lem : Anew no_sender s.senders i x xs) (new_toggler_lem : Anew no_toggler s.togglers i t ts) (new-meter : Anew no_meter s.meters i m ms)
      (more : (sender_at s i).packets_sent ≤ x.packets_sent) where
    sent_more : (j : ℕ) → Dec (j ≡ i) → sent_of s j ≤ (get_or xs j no_sender).packets_sent
    sent_more j (yes same) =
        subst (λ (k : ℕ). sent_of s k ≤ (get_or xs k no_sender).packets_sent) (sym same) (le_trans more (le_of_eq (ap (λ y. y.packets_sent) (sym new_sender_lem.at))))
    sent_more j (no other) = le_of_eq (ap (λ y. y.packets_sent) (sym (new_sender_lem.others j other)))

    module _ (part : PartOk s.network.policy (sender_bits s.network i).0 s.head.clock x t m)
        (room : m.records + all_under_way s i ≤ x.packets_sent) where
      parts : (j : ℕ) → j < s.network.senders → Dec (j ≡ i)
          → PartOk s.network.policy (sender_bits s.network j).0 s.head.clock (get_or xs j no_sender) (get_or ts j no_toggler) (get_or ms j no_meter)
      parts j g (yes same) = rw (same, new_sender_lem.at, new_toggler_lem.at, new-meter.at) part
      parts j g (no other) = rw (new_sender_lem.others j other, new_toggler_lem.others j other, new-meter.others j other) (b.parts j g)

      records : (j : ℕ) → j < s.network.senders → Dec (j ≡ i)
          → (get_or ms j no_meter).records + all_under_way s j ≤ (get_or xs j no_sender).packets_sent
      records j g (yes same) = rw (same, new_sender_lem.at, new-meter.at) room
      records j g (no other) = rw (new_sender_lem.others j other, new-meter.others j other) (b.records j g)

      pub store : Body (with_meters (with_togglers (with_senders s xs) ts) ms)
      store =
          record {
            full = record {
              lines = b.full.lines;
              waiting = b.full.waiting;
              moving = b.full.moving;
              senders = new_sender_lem.size ∙ b.full.senders;
              togglers = new_toggler_lem.size ∙ b.full.togglers;
              meters = new-meter.size ∙ b.full.meters;
              queue = b.full.queue;
            };
            network = b.network;
            clock = b.clock;
            held = b.held;
            lines = λ l g.
                line-more s.network (sent_of s) (λ j. (get_or xs j no_sender).packets_sent) (λ j. sent_more j (ℕ_discrete j i)) s.head.clock l (line_at s l) s.waiting s.on_line
                (b.lines l g);
            parts = λ j g. parts j g (ℕ_discrete j i);
            records = λ j g. records j g (ℕ_discrete j i);
          }
