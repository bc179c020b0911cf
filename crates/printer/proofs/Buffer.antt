-- Bytes put into a buffer one after the other. Assumes nothing.
use Prim.Native.Nat.{ℕ, suc, ◌+◌, ◌-◌, ◌/◌, ◌%◌, ◌^◌, ◌≤◌, ◌<◌}
use mathlib.Core.List.{List, [], ◌∷◌, ◌++◌, append_assoc, append-nil}
use mathlib.Core.Path.{◌≡◌, sym, ap, ◌∙◌}
use native.Mathlib.Numerals.{add-one}
use native.Mathlib.Omega.{arith}
use lib.ListN.{length, take, drop, get_or, set, length-append, length-drop}
use lib.Seq.{paste, paste-zero, take-length, take-suc, set_split, set_at, take_at, drop-drop, length-take-le, drop-append-add}
use borrow.Author.Tests.{le-leb, lt-leb}
use Rattle.notation.specs.Notation.{digit_byte, digits_of, decimal_of}
use Rattle.printer.specs.Printing.{written, Wrote, PutIs}
use Rattle.printer.specs.Pens.{HasRoom, PenWrote}
use Rattle.printer.specs.declared.Pen.{Pen}
use Rattle.std.specs.Prelude.{Some, None}
use Rattle.notation.proofs.Written.{decimal-length_le}

-- nothing, a copy, one byte, and one byte in front
pub written_none : (d : List ℕ) (at : ℕ) → d ≡ written d at []
unfolding written
written_none d at = paste-zero d at []

pub written_copy : (d : List ℕ) (at : ℕ) (s : List ℕ) → paste d at s (length s) ≡ written d at s
unfolding written
written_copy d at s = ap (λ (t : List ℕ). take at d ++ t ++ drop (at + length s) d) (take-length s)

pub written_byte : (d : List ℕ) (at x : ℕ) → at < length d → set d at x ≡ written d at (x ∷ [])
unfolding written
written_byte d at x h =
    set_split d at x h
    ∙ sym (append_assoc (take at d) (x ∷ []) (drop (suc at) d))
    ∙ ap (λ (k : ℕ). take at d ++ (x ∷ []) ++ drop k d) (sym (add-one at))

pub written_length : (d : List ℕ) (at : ℕ) (s : List ℕ) → at + length s ≤ length d → length (written d at s) ≡ length d
unfolding written
written_length d at s h = simp (length-append, length-drop) (omega (arith, length-take-le at d (omega arith)))

pub written-front : (d : List ℕ) (at x : ℕ) (s : List ℕ) → at < length d → set (written d (at + 1) s) at x ≡ written d at (x ∷ s)
unfolding written
written-front d at x s h =
    let rest : List ℕ = s ++ drop (at + 1 + length s) d in
    let e : at + 1 + length s ≡ at + suc (length s) = omega arith in
    ap (λ (t : List ℕ). set t at x)
    (append_assoc (take (at + 1) d) s (drop (at + 1 + length s) d)
    ∙ ap (λ (k : ℕ). take k d ++ rest) (add-one at)
    ∙ ap (λ (t : List ℕ). t ++ rest) (take-suc d at 0 h)
    ∙ append_assoc (take at d) (get_or d at 0 ∷ []) rest)
    ∙ set_at (take at d) (get_or d at 0) rest x at (length-take-le at d (omega arith))
    ∙ sym (append_assoc (take at d) (x ∷ s) (drop (at + 1 + length s) d))
    ∙ ap (λ (k : ℕ). take at d ++ (x ∷ s) ++ drop k d) e

-- two runs of bytes, one after the other
written_then : (d : List ℕ) (at : ℕ) (s t : List ℕ) → at + length s ≤ length d → written (written d at s) (at + length s) t ≡ written d at (s ++ t)
unfolding written
written_then d at s t h =
    let front : List ℕ = take at d ++ s in
    let long : length front ≡ at + length s = length-append (take at d) s ∙ ap (λ (k : ℕ). k + length s) (length-take-le at d (omega arith)) in
    let e : at + length s + length t ≡ at + length (s ++ t) = omega (arith, length-append s t) in
    ap (λ (x : List ℕ). x ++ t ++ drop (at + length s + length t) (front ++ drop (at + length s) d)) (take_at front (drop (at + length s) d) (at + length s) long)
    ∙ ap (λ (k : ℕ). front ++ t ++ drop (k + length t) (front ++ drop (at + length s) d)) (sym long)
    ∙ ap (λ (x : List ℕ). front ++ t ++ x) (drop-append-add front (drop (at + length s) d) (length t) ∙ drop-drop (length t) (at + length s) d)
    ∙ ap (λ (k : ℕ). front ++ t ++ drop k d) e
    ∙ ap (λ (x : List ℕ). x ++ drop (at + length (s ++ t)) d) (append_assoc (take at d) s t)

pub wrote_then : {m k : ℕ} {s t d mid after : List ℕ} {at next last : ℕ} → Wrote m s d at next mid → Wrote k t mid next last after → at + m ≤ length d
    → Wrote (m + k) (s ++ t) d at last after
wrote_then {s = s} {t = t} {d = d} {at = at} {next = next} f g h = record {
  small = omega (arith, length-append s t, f.small, g.small);
  place = omega (arith, length-append s t, f.place, g.place);
  bytes = g.bytes
      ∙ ap (λ (x : List ℕ). written x next t) f.bytes
      ∙ ap (λ (k : ℕ). written (written d at s) k t) f.place
      ∙ written_then d at s t (omega (arith, f.small));
}

-- the same bytes, by another name or under a larger bound
pub wrote_as : {m k : ℕ} {s t : List ℕ} {p q : Pen} → s ≡ t → m ≤ k → PenWrote m s p q → PenWrote k t p q
wrote_as {p = p} e h f = record {
  wrote = record {
    small = omega (arith, ap length e, f.wrote.small);
    place = omega (arith, ap length e, f.wrote.place);
    bytes = f.wrote.bytes ∙ ap (written p.out.now p.at) e;
  };
  long = f.long;
  same = f.same;
}

-- runs of bytes, one put after the other: a ▸ b of two, and r ▸▸ s of two rows
infix 40 ◌▸◌
infixl 30 ◌▸▸◌
pub data Row : ℕ → List ℕ → Pen → Pen → Type 0 where
  one : {m : ℕ} {s : List ℕ} {p q : Pen} → PenWrote m s p q → Row m s p q
  ◌▸◌ : {m k : ℕ} {s t : List ℕ} {p q r : Pen} → PenWrote m s p q → PenWrote k t q r → Row (m + k) (s ++ t) p r
  ◌▸▸◌ : {m k : ℕ} {s t : List ℕ} {p q r : Pen} → Row m s p q → Row k t q r → Row (m + k) (s ++ t) p r

pen_then : {m k : ℕ} {s t : List ℕ} {p q r : Pen} → PenWrote m s p q → PenWrote k t q r → HasRoom m p → PenWrote (m + k) (s ++ t) p r
pen_then f g h = record { wrote = wrote_then f.wrote g.wrote (omega arith); long = g.long ∙ f.long; same = g.same ∙ f.same }

row : {m : ℕ} {s : List ℕ} {p q : Pen} → Row m s p q → HasRoom m p → PenWrote m s p q
row (one f) h = f
row (f ▸ g) h = pen_then f g (omega arith)
row (a ▸▸ b) h =
    let f = row a (omega arith) in
    pen_then f (row b (omega (arith, f.wrote.place, f.wrote.small, f.long))) (omega arith)

pub wrote_row : {m k : ℕ} {s t : List ℕ} {p q : Pen} → Row m s p q → s ≡ t → m ≤ k → HasRoom m p → PenWrote k t p q
wrote_row r e l h = wrote_as e l (row r h)

-- the k digits of n from the lowest on: those put stand from at + i, and the first i are still to come, as the digits of rest
pub record Lower (b k n : ℕ) (d : List ℕ) (at i rest : ℕ) (out : List ℕ) : Type 0 where
  pub within : i ≤ k
  pub put : List ℕ
  pub whole : digits_of b i rest ++ put ≡ digits_of b k n
  pub bytes : out ≡ written d (at + i) put

pub lower_none : (b k n : ℕ) (d : List ℕ) (at : ℕ) → Lower b k n d at k n d
lower_none b k n d at = record { within = omega arith; put = []; whole = append-nil (digits_of b k n); bytes = written_none d (at + k) }

pub lower_more : {b k n : ℕ} {d : List ℕ} {at i rest : ℕ} {out : List ℕ} → Lower b k n d at i rest out → 0 < i → at + i ≤ length d
    → (x : ℕ) → x ≡ digit_byte (rest % b) → Lower b k n d at (i - 1) (rest / b) (set out (at + (i - 1)) x)
unfolding digits_of
lower_more {b} {d = d} {at = at} {i = i} {rest = rest} p h l x e =
    let one : suc (i - 1) ≡ i = omega arith in
    let place : at + i ≡ at + (i - 1) + 1 = omega arith in
    record {
      within = omega (arith, p.within);
      put = x ∷ p.put;
      whole = ap (λ (y : ℕ). digits_of b (i - 1) (rest / b) ++ (y ∷ p.put)) e
          ∙ sym (append_assoc (digits_of b (i - 1) (rest / b)) (digit_byte (rest % b) ∷ []) p.put)
          ∙ ap (λ (j : ℕ). digits_of b j rest ++ p.put) one
          ∙ p.whole;
      bytes = ap (λ (t : List ℕ). set t (at + (i - 1)) x) (p.bytes ∙ ap (λ (k : ℕ). written d k p.put) place)
          ∙ written-front d (at + (i - 1)) x p.put (omega arith);
    }

pub lower_all : {b k n : ℕ} {d : List ℕ} {at i rest : ℕ} {out : List ℕ} → Lower b k n d at i rest out → i ≤ 0 → out ≡ written d at (digits_of b k n)
unfolding digits_of
lower_all {b} {d = d} {at = at} {i = i} {rest = rest} p h =
    let zero_left : i ≡ 0 = omega arith in
    let place : at + i ≡ at = omega arith in
    p.bytes ∙ ap (λ (k : ℕ). written d k p.put) place ∙ ap (written d at) (ap (λ (j : ℕ). digits_of b j rest ++ p.put) (sym zero_left) ∙ p.whole)

-- a whole number of 32 bits has at most 10 digits
pub wrote_short : (n : ℕ) {m : ℕ} {p q : Pen} → n < 10 ^ 10 → PenWrote m (decimal_of n) p q → PenWrote 10 (decimal_of n) p q
wrote_short n h f = record {
  wrote = record { small = decimal-length_le 9 n h; place = f.wrote.place; bytes = f.wrote.bytes };
  long = f.long;
  same = f.same;
}

-- what a line's function answers: without room, and with room for its bytes
pub no_room : (line d : List ℕ) (at : ℕ) → length d < at + 128 → PutIs line d at None d
no_room line d at h = record { answer = rw (lt-leb _ _ h); bytes = rw (lt-leb _ _ h); short = λ room. absurd (omega (arith, room)) }

pub line_put : {most : ℕ} {s line after : List ℕ} {p q : Pen} → HasRoom 128 p → Row most s p q → most ≤ 128 → s ≡ line → after ≡ q.out.now
    → PutIs line p.out.now p.at (Some q.at) after
line_put {p = p} h r m e final =
    let f = wrote_row r e m (omega arith) in
    record { answer = rw (le-leb _ _ h) (ap Some f.wrote.place); bytes = rw (le-leb _ _ h) (final ∙ f.wrote.bytes); short = λ room. f.wrote.small }

-- the same of bytes put into a list, without pens; a line of five parts and its end
pub put_done : {line d after : List ℕ} {at most next : ℕ} → at + 128 ≤ length d → most ≤ 128 → Wrote most line d at next after
    → PutIs line d at (Some next) after
put_done h m w = record { answer = rw (le-leb _ _ h) (ap Some w.place); bytes = rw (le-leb _ _ h) w.bytes; short = λ room. omega (arith, w.small) }

pub put_five : {m₁ m₂ m₃ m₄ m₅ k : ℕ} {s₁ s₂ s₃ s₄ s₅ t d d₁ d₂ d₃ d₄ d₅ after : List ℕ} {at a b c e f last : ℕ} → at + 128 ≤ length d
    → m₁ + m₂ + m₃ + m₄ + m₅ + k ≤ 128
    → Wrote m₁ s₁ d at a d₁ → Wrote m₂ s₂ d₁ a b d₂ → Wrote m₃ s₃ d₂ b c d₃ → Wrote m₄ s₄ d₃ c e d₄ → Wrote m₅ s₅ d₄ e f d₅ → Wrote k t d₅ f last after
    → PutIs (s₁ ++ s₂ ++ s₃ ++ s₄ ++ s₅ ++ t) d at (Some last) after
put_five h l w₁ w₂ w₃ w₄ w₅ w =
    put_done h l
    (wrote_then (wrote_then (wrote_then (wrote_then (wrote_then w₁ w₂ (omega arith)) w₃ (omega arith)) w₄ (omega arith)) w₅ (omega arith)) w (omega arith))
