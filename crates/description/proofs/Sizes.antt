-- The values of the `bits` line, read one by one: they are the list that the line says, and those kept are its first. Assumes nothing.
use Prim.Native.Nat.{ℕ, ◌+◌, ◌-◌, ◌≤◌, ◌<◌}
use mathlib.Core.Bool.{Bool, true, false}
use mathlib.Core.List.{List, [], ◌∷◌, ◌++◌, append_assoc}
use mathlib.Core.Logic.{◌⊎◌, inl, inr}
use mathlib.Core.Path.{◌≡◌, refl, sym, ap, ◌∙◌, subst}
use native.Mathlib.Omega.{arith}
use lib.Dec.{ltb}
use lib.ListN.{length, drop, take, set, replicate, length-append, length-take}
use lib.Seq.{set_out, take-set-lt, set-append_seam, take-append-le}
use borrow.Author.Tests.{ltb-true, ltb-false}
use Rattle.std.specs.Prelude.{Option, Some, None, unwrap_or}
use Rattle.notation.specs.Notation.{lf, decimal_of}
use Rattle.notation.specs.Reading.{Form, Reads, told, Found, Absent, word_form, decimal_form, pair, either, keyed}
use Rattle.description.specs.declared.lines.Sizes.{Sizes}
use Rattle.description.specs.Words.{bits_key}
use Rattle.description.specs.Text.{comma, bits_text, kept_of, places_of}
use Rattle.description.specs.Lines.{most64, sizes_form, bits_form, with_value, sizes_of, ReadsBits}
use Rattle.description.proofs.Forms.{pair-first, pair_second, pair_found, key_open, key_found, key_absent, either-none, either_first, either_second, such-absent, such-not, such-found}
use Rattle.description.proofs.Cases.{comma_alone}

-- ---- the values from a position on: the last, or a value, a comma and the others

abbrev Step : Type 0
Step = ℕ ⊎ (ℕ × List ℕ)

abbrev last_form : Form ℕ
last_form = decimal_form most64 lf

abbrev more_form : Form (ℕ × List ℕ)
more_form = pair (decimal_form most64 comma) sizes_form

abbrev step_form : Form Step
step_form = either last_form more_form

abbrev listed : Step → List ℕ
listed (inl v) = v ∷ []
listed (inr p) = p.0 ∷ p.1

step_text : (c : Step) → step_form.fits c → step_form.text c ≡ sizes_form.text (listed c)
step_text (inl v) h = refl
step_text (inr (v, [])) h = absurd (omega (arith, h.1.0))
step_text (inr (v, (w ∷ vs))) h = simp append_assoc

step_fits : (c : Step) → step_form.fits c → sizes_form.fits (listed c)
step_fits (inl v) h = (omega arith, (omega (arith, h), tt))
step_fits (inr (v, vs)) h = (omega arith, (omega (arith, h.0), h.1.1))

step_of : (vs : List ℕ) → sizes_form.fits vs → (c : Step) × (listed c ≡ vs) × step_form.fits c
step_of [] h = absurd (omega (arith, h.0))
step_of (v ∷ []) h = (inl v, refl, omega (arith, h.1.0))
step_of (v ∷ (w ∷ vs)) h = (inr (v, w ∷ vs), refl, (omega (arith, h.1.0), (omega arith, h.1.1)))

-- values that stand somewhere, as a step
stepped : (s vs rest : List ℕ) (h : sizes_form.fits vs) → s ≡ sizes_form.text vs ++ rest → s ≡ step_form.text (step_of vs h).0 ++ rest
stepped s vs rest h e = let c = step_of vs h in e ∙ ap (λ (t : List ℕ). t ++ rest) (ap sizes_form.text (sym c.1) ∙ sym (step_text c.0 c.2))

module _ {text : List ℕ} {at : ℕ} where
  step_absent : Absent step_form text at → Absent sizes_form text at
  step_absent f = record { none = λ vs rest e h. f.none (step_of vs h).0 rest (stepped (drop at text) vs rest h e) (step_of vs h).2 }

  step_found : {c : Step} {next : ℕ} → Found step_form text at c next → Found sizes_form text at (listed c) next
  step_found {c} {next} f =
      let same = step_text c f.fits in
      record {
        fits = step_fits c f.fits;
        here = f.here ∙ ap (λ (s : List ℕ). s ++ drop next text) same;
        count = f.count ∙ ap (λ (s : List ℕ). at + length s) same;
        only = λ vs rest e h.
            let q = f.only (step_of vs h).0 rest (stepped (drop at text) vs rest h e) (step_of vs h).2 in
            (sym (step_of vs h).1 ∙ ap listed q.0, q.1);
      }

  pub last_found : {v next : ℕ} → Absent (decimal_form most64 comma) text at → Found last_form text at v next → Found sizes_form text at (v ∷ []) next
  last_found none f = step_found (either_first last_form more_form f (pair-first sizes_form none))

  pub last_absent : Absent (decimal_form most64 comma) text at → Absent last_form text at → Absent sizes_form text at
  last_absent none f = step_absent (either-none last_form more_form f (pair-first sizes_form none))

-- what is read after so many values
abbrev after : List ℕ → Option (List ℕ × ℕ) → Option (List ℕ × ℕ)
after vs = told (λ ws. vs ++ ws)

after_both : (vs ws : List ℕ) (o : Option (List ℕ × ℕ)) → after vs (after ws o) ≡ after (vs ++ ws) o
after_both vs ws (Some r) = ap (λ (s : List ℕ). Some (s, r.1)) (sym (append_assoc vs ws r.0))
after_both vs ws None = refl

value_then : {text : List ℕ} {at v next : ℕ} → Found (decimal_form most64 comma) text at v next
    → (o : Option (List ℕ × ℕ)) → Reads sizes_form text next o → Reads sizes_form text at (after (v ∷ []) o)
value_then f (Some r) g = step_found (either_second last_form more_form (comma_alone f) (pair_found f g))
value_then f None g = step_absent (either-none last_form more_form (comma_alone f) (pair_second f g))

-- ---- the values that are kept

-- the next value takes the first place that has none, if there is one
kept_more : (vs : List ℕ) (v : ℕ) → set (kept_of vs) (length vs) v ≡ kept_of (vs ++ (v ∷ []))
kept_more vs v = cases (ltb (length vs) 16) refl
  where
    room : 16 ≤ length (vs ++ (v ∷ replicate 15 0))
    room = omega (arith, length-append vs (v ∷ replicate 15 0))

    cases : (t : Bool) → ltb (length vs) 16 ≡ t → set (kept_of vs) (length vs) v ≡ kept_of (vs ++ (v ∷ []))
    cases true e =
        sym (take-set-lt 16 (vs ++ replicate 16 0) (length vs) v (ltb-true _ _ e))
        ∙ ap (take 16) (set-append_seam vs 0 (replicate 15 0) v)
        ∙ sym (take-append-le 16 (vs ++ (v ∷ replicate 15 0)) (0 ∷ []) room)
        ∙ ap (take 16) (append_assoc vs (v ∷ replicate 15 0) (0 ∷ []) ∙ sym (append_assoc vs (v ∷ []) (replicate 16 0)))
    cases false e =
        let h : 16 ≤ length vs = ltb-false _ _ e in
        set_out (kept_of vs) (length vs) v (omega (arith, length-take 16 (vs ++ replicate 16 0)))
        ∙ take-append-le 16 vs (replicate 16 0) h
        ∙ sym (take-append-le 16 vs ((v ∷ []) ++ replicate 16 0) h)
        ∙ ap (take 16) (sym (append_assoc vs (v ∷ []) (replicate 16 0)))

-- after a value the places are those kept
places-more : (vs : List ℕ) (v : ℕ) → 0 < length vs → places_of (vs ++ (v ∷ [])) ≡ kept_of (vs ++ (v ∷ []))
places-more [] v h = absurd (omega arith)
places-more (u ∷ []) v h = refl
places-more (u ∷ (w ∷ vs)) v h = refl

-- ---- the values passed from one position on to another: what is read from here on is read after them

pub record Passed (text : List ℕ) (from : ℕ) (s : Sizes) (last : ℕ) : Type 0 where
  pub values : List ℕ
  pub count : s.count ≡ length values
  pub kept : s.values ≡ kept_of values
  pub far : from + s.count ≤ last
  pub onward : (o : Option (List ℕ × ℕ)) → Reads sizes_form text last o → Reads sizes_form text from (after values o)

pub passed_none : (text : List ℕ) (from : ℕ) → Passed text from (record { count = 0; values = replicate 16 0 }) from
passed_none text from = record { values = []; count = refl; kept = refl; far = omega arith; onward = same }
  where
    same : (o : Option (List ℕ × ℕ)) → Reads sizes_form text from o → Reads sizes_form text from (after [] o)
    same (Some r) g = g
    same None g = g

module _ {text : List ℕ} {from : ℕ} (s : Sizes) {last : ℕ} (p : Passed text from s last) where
  -- a value more, whatever ends it
  kept_next : (v : ℕ) → set s.values s.count v ≡ kept_of (p.values ++ (v ∷ []))
  kept_next v = rw (p.kept, p.count) (kept_more p.values v)

  count_next : (v : ℕ) → s.count + 1 ≡ length (p.values ++ (v ∷ []))
  count_next v = omega (arith, p.count, length-append p.values (v ∷ []))

  pub passed-more : {v next : ℕ} → Found (decimal_form most64 comma) text last v next → Passed text from (with_value s v) next
  passed-more {v} {next} f = record {
    values = p.values ++ (v ∷ []);
    count = count_next v;
    kept = kept_next v;
    far = omega (arith, p.far, f.count, length-append (decimal_of v) (comma ∷ []));
    onward = λ o r. subst (Reads sizes_form text from) (after_both p.values (v ∷ []) o) (p.onward (after (v ∷ []) o) (value_then f o r));
  }

  -- where no value with a comma stands, the line ends with a value and LF or is no such line
  module _ {at : ℕ} (key : Found (word_form bits_key) text at tt from) (none : Absent (decimal_form most64 comma) text last) where
    pub bits_absent : Absent last_form text last → ReadsBits text at None
    bits_absent f = record { outcome = None; reads = such-absent _ (key_open key (p.onward None (last_absent none f))); answer = refl }

    module _ {v next : ℕ} (f : Found last_form text last v next) where
      whole : Found (keyed bits_key sizes_form) text at (p.values ++ (v ∷ [])) next
      whole = key_found key (p.onward (Some (v ∷ [], next)) (last_found none f))

      -- the bytes of the line, its LF last
      pub line-length : next ≡ at + length (bits_text (p.values ++ (v ∷ []))) + 1
      line-length = omega (arith, whole.count, length-append (bits_text (p.values ++ (v ∷ []))) (lf ∷ []))

      pub bits_long : 512 < next - at - 1 → ReadsBits text at None
      bits_long h = record { outcome = None; reads = such-not _ whole (λ k. omega (arith, h, k, line-length)); answer = refl }

      module _ (h : next - at - 1 ≤ 512) where
        short : Found bits_form text at (p.values ++ (v ∷ [])) next
        short = such-found _ whole (omega (arith, h, line-length))

        pub bits_one : s.count ≡ 0 → ReadsBits text at (Some (record { count = 1; values = replicate 16 v }, next))
        bits_one e = record {
          outcome = Some (p.values ++ (v ∷ []), next);
          reads = short;
          answer = ap (λ (vs : List ℕ). Some (sizes_of (vs ++ (v ∷ [])), next)) (sym (empty p.values (sym p.count ∙ e)));
        }
          where
            empty : (vs : List ℕ) → length vs ≡ 0 → vs ≡ []
            empty [] q = refl
            empty (u ∷ vs) q = absurd (omega (arith, q))

        pub bits_many : (s.count ≡ 0 → ⊥) → ReadsBits text at (Some (with_value s v, next))
        bits_many e = record {
          outcome = Some (p.values ++ (v ∷ []), next);
          reads = short;
          answer = (λ i. Some (record { count = count_next v i; values = (kept_next v ∙ sym (places-more p.values v (omega (arith, p.count, e)))) i }, next));
        }

-- where the line is none
pub bits_none : {text : List ℕ} {at : ℕ} → Absent (word_form bits_key) text at → ReadsBits text at None
bits_none f = record { outcome = None; reads = such-absent _ (key_absent sizes_form f); answer = refl }

-- ---- what the line's reader answers: the line's values, or that there is no line

pub record SomeBits (text : List ℕ) (at : ℕ) (r : Sizes) (next : ℕ) : Type 0 where
  pub values : List ℕ
  pub found : Found bits_form text at values next
  pub count : r.count ≡ length values
  pub places : r.values ≡ places_of values

module _ {text : List ℕ} {at : ℕ} where
  pub no_bits : ReadsBits text at None → Absent bits_form text at
  no_bits b = by b.outcome b.reads b.answer
    where
      by : (o : Option (List ℕ × ℕ)) → Reads bits_form text at o → None ≡ told sizes_of o → Absent bits_form text at
      by (Some r) g q = cc
      by None g q = g

  pub some_bits : {s : Sizes} {next : ℕ} → ReadsBits text at (Some (s, next)) → SomeBits text at s next
  some_bits {s} {next} b = by b.outcome b.reads b.answer
    where
      by : (o : Option (List ℕ × ℕ)) → Reads bits_form text at o → Some (s, next) ≡ told sizes_of o → SomeBits text at s next
      by (Some r) g q =
          let same : s ≡ sizes_of r.0 = ap (λ (o : Option (Sizes × ℕ)). (unwrap_or o (s, next)).0) q in
          let end : next ≡ r.1 = ap (λ (o : Option (Sizes × ℕ)). (unwrap_or o (s, next)).1) q in
          record {
            values = r.0;
            found = subst (Found bits_form text at r.0) (sym end) g;
            count = ap (λ x. x.count) same;
            places = ap (λ x. x.values) same;
          }
      by None g q = cc
