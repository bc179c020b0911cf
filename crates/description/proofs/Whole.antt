-- The lines as a form are the text of what is written, and what `read` answers follows from what the lines' readers answer. Assumes nothing.
use Prim.Native.Nat.{ℕ, ◌≤◌, ◌<◌}
use mathlib.Core.Bool.{false≢true}
use mathlib.Core.List.{List, [], ◌∷◌, ◌++◌, append_assoc, append-nil}
use mathlib.Core.Logic.{◌⊎◌, inl, inr}
use mathlib.Core.Path.{◌≡◌, refl, sym, ap, ◌∙◌, subst}
use native.Mathlib.Omega.{arith}
use lib.ListN.{length, length-drop, drop_of_length-le}
use Rattle.std.specs.Prelude.{Option, Some, None, Result, Ok, Err, IsErr}
use Rattle.description.specs.declared.Description.{Description}
use Rattle.description.specs.declared.Malformed.{Malformed}
use Rattle.notation.specs.Notation.{lf}
use Rattle.description.specs.Words.{none_line, delay_key, rate_key, loss_key, limit_key, senders_key, on_key, off_key, policy_key, seed_key, ticks_key}
use Rattle.description.specs.Text.{Written, text_of, limit_text, bits_text, distribution_text, policy_text, InWidth, LimitInWidth, DistributionInWidth, PolicyInWidth, Counted, given, malformed, answer_of, ReadIs, double_text, whole_text}
use Rattle.notation.specs.Reading.{Found, Absent, word_form, decimal_form, either}
use Rattle.description.specs.Lines.{most64, WholeCases, limit_case, distribution_case, policy_case, always_form, uniform_form, held_form, grown_form, timed_form, limit_form, distribution_form, policy_form, whole_form}
use Rattle.description.specs.declared.Distribution.{Distribution}
use Rattle.description.specs.declared.Distribution.TheVariants.{Always, Uniform}
use Rattle.description.specs.declared.Policy.{Policy}
use Rattle.description.specs.declared.Policy.TheVariants.{Held, Grown, Timed}
use Rattle.description.specs.declared.lines.Link.{Link}
use Rattle.description.specs.declared.lines.Load.{Load}
use Rattle.description.specs.declared.lines.Course.{Course}

-- what the groups of lines and the values of `bits` say
abbrev pub written_of : Link → List ℕ → Load → Course → Written
written_of k bits o c = record {
  delay = k.delay;
  rate = k.rate;
  loss = k.loss;
  limit = k.limit;
  bits = bits;
  senders = o.senders;
  on = o.on;
  off = o.off;
  policy = c.policy;
  seed = c.seed;
  ticks = c.ticks;
}

abbrev pub cases_of : Written → WholeCases
cases_of w = (
  (w.delay, (w.rate, (w.loss, limit_case w.limit))),
  (
    w.bits,
    (
      (w.senders, (distribution_case w.on, distribution_case w.off)),
      (policy_case w.policy, (w.seed, w.ticks)),
    ),
  ),
)

-- what is written is known by its cases
abbrev limit_on : Unit {0} ⊎ ℕ → Option ℕ
limit_on (inl u) = None
limit_on (inr n) = Some n

abbrev distribution_on : ℕ ⊎ (ℕ × ℕ) → Distribution
distribution_on (inl v) = Always v
distribution_on (inr p) = Uniform p.0 p.1

abbrev policy_on : ℕ ⊎ ((ℕ × ℕ) ⊎ (ℕ × ℕ)) → Policy
policy_on (inl w) = Held w
policy_on (inr (inl p)) = Grown p.0 p.1
policy_on (inr (inr p)) = Timed p.0 p.1

limit-on : (x : Option ℕ) → limit_on (limit_case x) ≡ x
limit-on None = refl
limit-on (Some n) = refl

distribution_on_lem : (x : Distribution) → distribution_on (distribution_case x) ≡ x
distribution_on_lem (Always v) = refl
distribution_on_lem (Uniform a b) = refl

policy_on_lem : (x : Policy) → policy_on (policy_case x) ≡ x
policy_on_lem (Held w) = refl
policy_on_lem (Grown f m) = refl
policy_on_lem (Timed m h) = refl

abbrev written_on : WholeCases → Written
written_on c = record {
  delay = c.0.0;
  rate = c.0.1.0;
  loss = c.0.1.1.0;
  limit = limit_on c.0.1.1.1;
  bits = c.1.0;
  senders = c.1.1.0.0;
  on = distribution_on c.1.1.0.1.0;
  off = distribution_on c.1.1.0.1.1;
  policy = policy_on c.1.1.1.0;
  seed = c.1.1.1.1.0;
  ticks = c.1.1.1.1.1;
}

written_on_lem : (w : Written) → written_on (cases_of w) ≡ w
written_on_lem w = λ i. record {
  delay = w.delay;
  rate = w.rate;
  loss = w.loss;
  limit = limit-on w.limit i;
  bits = w.bits;
  senders = w.senders;
  on = distribution_on_lem w.on i;
  off = distribution_on_lem w.off i;
  policy = policy_on_lem w.policy i;
  seed = w.seed;
  ticks = w.ticks;
}

same_cases : (w u : Written) → cases_of w ≡ cases_of u → w ≡ u
same_cases w u q = sym (written_on_lem w) ∙ ap written_on q ∙ written_on_lem u

-- the text of each case
limit-text : (x : Option ℕ) → (either (word_form none_line) (decimal_form most64 lf)).text (limit_case x) ≡ limit_text x
limit-text None = refl
limit-text (Some n) = refl

distribution_text_lem : (x : Distribution) → (either always_form uniform_form).text (distribution_case x) ≡ distribution_text x
distribution_text_lem (Always v) = refl
distribution_text_lem (Uniform a b) = refl

policy_text_lem : (x : Policy) → (either held_form (either grown_form timed_form)).text (policy_case x) ≡ policy_text x
policy_text_lem (Held w) = refl
policy_text_lem (Grown f m) = refl
policy_text_lem (Timed m h) = refl

-- eleven lines, in groups and in a row
in_a_row : (a b c d e f g h i j k : List ℕ)
    → (a ++ (b ++ (c ++ d))) ++ (e ++ ((f ++ (g ++ h)) ++ (i ++ (j ++ k)))) ≡ a ++ b ++ c ++ d ++ e ++ f ++ g ++ h ++ i ++ j ++ k
in_a_row a b c d e f g h i j k = simp append_assoc

pub whole-text : (w : Written) → whole_form.text (cases_of w) ≡ text_of w
unfolding text_of
whole-text w =
    in_a_row
    (double_text delay_key w.delay lf) (double_text rate_key w.rate lf) (double_text loss_key w.loss lf) (limit_form.text (limit_case w.limit))
    (bits_text w.bits ++ (lf ∷ [])) (whole_text senders_key w.senders lf)
    ((distribution_form on_key).text (distribution_case w.on)) ((distribution_form off_key).text (distribution_case w.off))
    (policy_form.text (policy_case w.policy)) (whole_text seed_key w.seed lf) (whole_text ticks_key w.ticks lf)
    ∙ (λ i.
    double_text delay_key w.delay lf
    ++ double_text rate_key w.rate lf
    ++ double_text loss_key w.loss lf
    ++ (limit_key ++ limit-text w.limit i)
    ++ (bits_text w.bits ++ (lf ∷ []))
    ++ whole_text senders_key w.senders lf
    ++ (on_key ++ distribution_text_lem w.on i)
    ++ (off_key ++ distribution_text_lem w.off i)
    ++ (policy_key ++ policy_text_lem w.policy i)
    ++ whole_text seed_key w.seed lf
    ++ whole_text ticks_key w.ticks lf)

-- the widths of each case
limit-fits : (x : Option ℕ) → LimitInWidth x → limit_form.fits (limit_case x)
limit-fits None h = tt
limit-fits (Some n) h = omega arith

limit_fitted : (x : Option ℕ) → limit_form.fits (limit_case x) → LimitInWidth x
limit_fitted None h = tt
limit_fitted (Some n) h = omega arith

distribution_fits : (key : List ℕ) (x : Distribution) → DistributionInWidth x → (distribution_form key).fits (distribution_case x)
distribution_fits key (Always v) h = h
distribution_fits key (Uniform a b) h = h

distribution_fitted : (key : List ℕ) (x : Distribution) → (distribution_form key).fits (distribution_case x) → DistributionInWidth x
distribution_fitted key (Always v) h = h
distribution_fitted key (Uniform a b) h = h

policy_fits : (x : Policy) → PolicyInWidth x → policy_form.fits (policy_case x)
policy_fits (Held w) h = omega arith
policy_fits (Grown f m) h = omega arith
policy_fits (Timed m g) h = omega arith

policy_fitted : (x : Policy) → policy_form.fits (policy_case x) → PolicyInWidth x
policy_fitted (Held w) h = omega arith
policy_fitted (Grown f m) h = omega arith
policy_fitted (Timed m g) h = omega arith

-- so many values are some
counted_some : (count senders : ℕ) → Counted count senders → 0 < count
counted_some count senders (inl e) = omega arith
counted_some count senders (inr e) = omega arith

pub whole-fits : (w : Written) → InWidth w → whole_form.fits (cases_of w)
whole-fits w h = (
  (
    (h.delay, (h.rate, (h.loss, limit-fits w.limit h.limit))),
    (
      ((counted_some _ _ h.count, h.bits), h.line),
      (
        (omega (arith, h.senders), (distribution_fits on_key w.on h.on, distribution_fits off_key w.off h.off)),
        (policy_fits w.policy h.policy, (omega (arith, h.seed), h.ticks)),
      ),
    ),
  ),
  h.count,
)

pub whole_fitted : (w : Written) → whole_form.fits (cases_of w) → InWidth w
whole_fitted w h = record {
  delay = h.0.0.0;
  rate = h.0.0.1.0;
  loss = h.0.0.1.1.0;
  limit = limit_fitted w.limit h.0.0.1.1.1;
  bits = h.0.1.0.0.1;
  count = h.1;
  line = h.0.1.0.1;
  senders = omega (arith, h.0.1.1.0.0);
  on = distribution_fitted on_key w.on h.0.1.1.0.1.0;
  off = distribution_fitted off_key w.off h.0.1.1.0.1.1;
  policy = policy_fitted w.policy h.0.1.1.1.0;
  seed = omega (arith, h.0.1.1.1.1.0);
  ticks = h.0.1.1.1.1.1;
}

-- what `read` answers
module _ (text : List ℕ) where
  -- a whole text of what is written, as one of the form
  in_form : (w : Written) → text ≡ text_of w → text ≡ whole_form.text (cases_of w) ++ []
  in_form w e = e ∙ sym (whole-text w) ∙ sym (append-nil (whole_form.text (cases_of w)))

  pub read-malformed : ((w : Written) → text ≡ text_of w → InWidth w → ⊥) → ReadIs text (answer_of malformed)
  unfolding answer_of
  read-malformed none = record { sound = λ d e. absurd (cc); complete = λ w e h. absurd (none w e h); other = λ _. refl }

  pub read-absent : Absent whole_form text 0 → ReadIs text (answer_of malformed)
  read-absent f = read-malformed (λ w e h. f.none (cases_of w) [] (in_form w e) (whole-fits w h))

  -- what is refused is malformed
  pub refused-read : {r : Result Description Malformed} → IsErr r → Absent whole_form text 0 → ReadIs text r
  unfolding answer_of
  refused-read {r} e f = subst (ReadIs text) (sym (by r e)) (read-absent f)
    where
      by : (o : Result Description Malformed) → IsErr o → o ≡ answer_of malformed
      by (Ok d) h = absurd (false≢true h)
      by (Err m) h = refl

  pub read-long : (v : WholeCases) (next : ℕ) → Found whole_form text 0 v next → next < length text → ReadIs text (answer_of malformed)
  read-long v next f l =
      read-malformed
      (λ w e h.
      let u = f.only (cases_of w) [] (in_form w e) (whole-fits w h) in
      omega (arith, l, length-drop next text, ap length u.1))

  pub read-given : (w : Written) (next : ℕ) → Found whole_form text 0 (cases_of w) next → length text ≤ next → ReadIs text (answer_of (given w))
  read-given w next f l =
      let here : text ≡ text_of w =
      f.here ∙ ap (λ (s : List ℕ). whole_form.text (cases_of w) ++ s) (drop_of_length-le text l) ∙ append-nil (whole_form.text (cases_of w)) ∙ whole-text w in
      record {
        sound = λ _ _. (w, here, whole_fitted w f.fits, refl);
        complete = λ u e h. ap (λ (x : Written). answer_of (given x)) (sym (same_cases u w (f.only (cases_of u) [] (in_form u e) (whole-fits u h)).0));
        other = λ nothing. absurd (nothing w here (whole_fitted w f.fits));
      }
