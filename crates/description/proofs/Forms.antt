-- A form after a key, two forms one after the other, one or the other, and one with a further condition: what their readers answer. Assumes nothing.
use Prim.Native.Nat.{ℕ, ◌<◌, ◌^◌}
use mathlib.Core.List.{List, ◌++◌, append_assoc}
use mathlib.Core.Logic.{◌⊎◌, inl, inr}
use mathlib.Core.Path.{◌≡◌, sym, ap, ◌∙◌, subst}
use native.Mathlib.Omega.{arith}
use lib.ListN.{drop, length-append}
use Rattle.std.specs.Prelude.{Option, Some, None}
use Rattle.notation.specs.Reading.{Form, Reads, Found, Absent, word_form, keyed, pair, either, Spells, SomeWord, NoWord}
use Rattle.notation.proofs.Words.{key_other, key_none}
use Rattle.description.specs.Lines.{such}

-- a value of the first form, then one of the second
module _ {A B : Type 0} {F : Form A} {text : List ℕ} {at : ℕ} where
  pub pair-first : (G : Form B) → Absent F text at → Absent (pair F G) text at
  pair-first G f = record { none = λ w rest e h. f.none w.0 (G.text w.1 ++ rest) (e ∙ append_assoc (F.text w.0) (G.text w.1) rest) h.0 }

module _ {A B : Type 0} {F : Form A} {G : Form B} {text : List ℕ} {at : ℕ} where
  pub pair_second : {a : A} {next : ℕ} → Found F text at a next → Absent G text next → Absent (pair F G) text at
  pair_second f g = record {
    none = λ w rest e h. g.none w.1 rest (sym (f.only w.0 (G.text w.1 ++ rest) (e ∙ append_assoc (F.text w.0) (G.text w.1) rest) h.0).1) h.1;
  }

  pub pair_found : {a : A} {b : B} {next last : ℕ} → Found F text at a next → Found G text next b last → Found (pair F G) text at (a, b) last
  pair_found {a} {b} {last = last} f g = record {
    fits = (f.fits, g.fits);
    here = f.here ∙ ap (λ (s : List ℕ). F.text a ++ s) g.here ∙ sym (append_assoc (F.text a) (G.text b) (drop last text));
    count = omega (arith, f.count, g.count, length-append (F.text a) (G.text b));
    only = λ w rest e h.
        let u = f.only w.0 (G.text w.1 ++ rest) (e ∙ append_assoc (F.text w.0) (G.text w.1) rest) h.0 in
        let v = g.only w.1 rest (sym u.1) h.1 in
        ((λ i. (u.0 i, v.0 i)), v.1);
  }

-- a key, then a value
module _ {A : Type 0} {key : List ℕ} {text : List ℕ} {at : ℕ} where
  pub key_absent : (F : Form A) → Absent (word_form key) text at → Absent (keyed key F) text at
  key_absent F f = let p = pair-first F f in record { none = λ w rest e h. p.none (tt, w) rest e (tt, h) }

  pub key_open : {F : Form A} {next : ℕ} → Found (word_form key) text at tt next → Absent F text next → Absent (keyed key F) text at
  key_open f g = let p = pair_second f g in record { none = λ w rest e h. p.none (tt, w) rest e (tt, h) }

  pub key_found : {F : Form A} {v : A} {next last : ℕ} → Found (word_form key) text at tt next → Found F text next v last → Found (keyed key F) text at v last
  key_found f g =
      let p = pair_found f g in
      record {
        fits = g.fits;
        here = p.here;
        count = p.count;
        only = λ w rest e h. let u = p.only (tt, w) rest e (tt, h) in (ap (λ x. x.1) u.0, u.1);
      }

  pub key_then : (F : Form A) {next : ℕ} → Found (word_form key) text at tt next → (o : Option (A × ℕ)) → Reads F text next o → Reads (keyed key F) text at o
  key_then F f (Some r) g = key_found f g
  key_then F f None g = key_open f g

-- a word was read that is not the key, or there is no word
module _ {A : Type 0} {text : List ℕ} {at key : ℕ} {w : List ℕ} (F : Form A) (r : Spells 0 w key) where
  pub word_other : {v next : ℕ} → SomeWord text at v next → (v ≡ key → ⊥) → Absent (keyed w F) text at
  word_other read other = key_absent F (key_other r read other)

  pub word_none : NoWord text at → key < 2 ^ 64 → Absent (keyed w F) text at
  word_none none h = key_absent F (key_none r none h)

-- a value of the first form or of the second
module _ {A B : Type 0} (F : Form A) (G : Form B) {text : List ℕ} {at : ℕ} where
  pub either-none : Absent F text at → Absent G text at → Absent (either F G) text at
  either-none f g = record { none = no }
    where
      no : (w : A ⊎ B) (rest : List ℕ) → drop at text ≡ (either F G).text w ++ rest → (either F G).fits w → ⊥
      no (inl a) rest e h = f.none a rest e h
      no (inr b) rest e h = g.none b rest e h

  pub either_first : {a : A} {next : ℕ} → Found F text at a next → Absent G text at → Found (either F G) text at (inl a) next
  either_first {a} {next} f g = record { fits = f.fits; here = f.here; count = f.count; only = one }
    where
      one : (w : A ⊎ B) (rest : List ℕ) → drop at text ≡ (either F G).text w ++ rest → (either F G).fits w → (w ≡ inl a) × (rest ≡ drop next text)
      one (inl x) rest e h = let u = f.only x rest e h in (ap inl u.0, u.1)
      one (inr y) rest e h = absurd (g.none y rest e h)

  pub either_second : {b : B} {next : ℕ} → Absent F text at → Found G text at b next → Found (either F G) text at (inr b) next
  either_second {b} {next} f g = record { fits = g.fits; here = g.here; count = g.count; only = one }
    where
      one : (w : A ⊎ B) (rest : List ℕ) → drop at text ≡ (either F G).text w ++ rest → (either F G).fits w → (w ≡ inr b) × (rest ≡ drop next text)
      one (inl x) rest e h = absurd (f.none x rest e h)
      one (inr y) rest e h = let u = g.only y rest e h in (ap inr u.0, u.1)

-- a value of a form of which a further condition is asked
module _ {A : Type 0} {F : Form A} (P : A → Type 0) {text : List ℕ} {at : ℕ} where
  pub such-absent : Absent F text at → Absent (such F P) text at
  such-absent f = record { none = λ w rest e h. f.none w rest e h.0 }

  pub such-not : {v : A} {next : ℕ} → Found F text at v next → (P v → ⊥) → Absent (such F P) text at
  such-not f other = record { none = λ w rest e h. other (subst P (f.only w rest e h.0).0 h.1) }

  pub such-found : {v : A} {next : ℕ} → Found F text at v next → P v → Found (such F P) text at v next
  such-found f p = record { fits = (f.fits, p); here = f.here; count = f.count; only = λ w rest e h. f.only w rest e h.0 }
