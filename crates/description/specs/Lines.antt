-- The lines of a description as forms, and the cases of a form that what was read is. Definitions only.
use Rattle.std.specs.Prelude.{ℕ, ◌+◌, ◌-◌, ◌^◌, ◌≤◌, ◌<◌, Bool, true, false, List, [], ◌∷◌, ◌++◌, Option, Some, None, ◌⊎◌, ◌≡◌, length, set}
use Rattle.std.proofs.Common.{inl, inr}
use Rattle.notation.specs.Notation.{lf, colon}
use Rattle.description.specs.Words.{delay_key, rate_key, loss_key, limit_key, bits_key, senders_key, on_key, off_key, policy_key, seed_key, ticks_key, none_line, always_key, uniform_key, held_key, grown_key, timed_key}
use Rattle.description.specs.Text.{joined, bits_text, BitsInWidth, Counted, places_of}
use Rattle.notation.specs.Reading.{Form, Reads, told, word_form, hex_form, decimal_form, keyed, pair, either, Spells}
use Rattle.description.specs.declared.Distribution.{Distribution}
use Rattle.description.specs.declared.Distribution.TheVariants.{Always, Uniform}
use Rattle.description.specs.declared.Policy.{Policy}
use Rattle.description.specs.declared.Policy.TheVariants.{Held, Grown, Timed}
use Rattle.description.specs.declared.Description.{Description}
use Rattle.description.specs.declared.lines.Link.{Link}
use Rattle.description.specs.declared.lines.Sizes.{Sizes}
use Rattle.description.specs.declared.lines.Load.{Load}
use Rattle.description.specs.declared.lines.Course.{Course}
use Rattle.description.specs.declared.lines.Kind.{Kind}
use Rattle.description.specs.declared.lines.Kind.TheVariants as E

-- what is said of each word that a number is the value of
abbrev pub ForWord : ℕ → (List ℕ → Type 0) → Type 0
ForWord word P = (w : List ℕ) → Spells 0 w word → P w

-- a form of which a further condition is asked
abbrev pub such : {A : Type 0} → Form A → (A → Type 0) → Form A
such F P = record { text = F.text; fits = λ v. F.fits v × P v }

-- a test's answer is whether P holds
pub record Tells (P : Type 0) (answer : Bool) : Type 0 where
  pub yes : answer ≡ true → P
  pub no : answer ≡ false → P → ⊥

-- the greatest number of 64 and of 32 bits
abbrev pub most64 : ℕ
most64 = 2 ^ 64 - 1

abbrev pub most32 : ℕ
most32 = 2 ^ 32 - 1

-- a number of a kind and what ends it; two numbers
abbrev pub kind_form : Kind → ℕ → Form ℕ
kind_form E.Double end = hex_form end
kind_form (E.Whole most) end = decimal_form most end

abbrev pub two_form : Kind → Kind → Form (ℕ × ℕ)
two_form first second = pair (kind_form first colon) (kind_form second lf)

-- limit
abbrev pub limit_form : Form (Unit {0} ⊎ ℕ)
limit_form = keyed limit_key (either (word_form none_line) (decimal_form most64 lf))

abbrev pub limit_case : Option ℕ → Unit {0} ⊎ ℕ
limit_case None = inl tt
limit_case (Some n) = inr n

-- bits
abbrev pub sizes_form : Form (List ℕ)
sizes_form = record { text = λ vs. joined vs ++ (lf ∷ []); fits = λ vs. (0 < length vs) × BitsInWidth vs }

abbrev pub bits_form : Form (List ℕ)
bits_form = such (keyed bits_key sizes_form) (λ vs. length (bits_text vs) ≤ 512)

-- on and off
abbrev pub always_form : Form ℕ
always_form = keyed always_key (hex_form lf)

abbrev pub uniform_form : Form (ℕ × ℕ)
uniform_form = keyed uniform_key (two_form E.Double E.Double)

abbrev pub distribution_value : Form (ℕ ⊎ (ℕ × ℕ))
distribution_value = either always_form uniform_form

abbrev pub distribution_form : List ℕ → Form (ℕ ⊎ (ℕ × ℕ))
distribution_form key = keyed key distribution_value

abbrev pub distribution_case : Distribution → ℕ ⊎ (ℕ × ℕ)
distribution_case (Always v) = inl v
distribution_case (Uniform a b) = inr (a, b)

-- policy
abbrev pub held_form : Form ℕ
held_form = keyed held_key (decimal_form most32 lf)

abbrev pub grown_form : Form (ℕ × ℕ)
grown_form = keyed grown_key (two_form (E.Whole most32) (E.Whole most32))

abbrev pub timed_form : Form (ℕ × ℕ)
timed_form = keyed timed_key (two_form (E.Whole most32) E.Double)

abbrev pub policy_value : Form (ℕ ⊎ ((ℕ × ℕ) ⊎ (ℕ × ℕ)))
policy_value = either held_form (either grown_form timed_form)

abbrev pub policy_form : Form (ℕ ⊎ ((ℕ × ℕ) ⊎ (ℕ × ℕ)))
policy_form = keyed policy_key policy_value

abbrev pub policy_case : Policy → ℕ ⊎ ((ℕ × ℕ) ⊎ (ℕ × ℕ))
policy_case (Held w) = inl w
policy_case (Grown f m) = inr (inl (f, m))
policy_case (Timed m h) = inr (inr (m, h))

-- the link's lines, the load's and the run's
abbrev pub LinkCases : Type 0
LinkCases = ℕ × (ℕ × (ℕ × (Unit {0} ⊎ ℕ)))

abbrev pub link_form : Form LinkCases
link_form = pair (keyed delay_key (hex_form lf)) (pair (keyed rate_key (hex_form lf)) (pair (keyed loss_key (hex_form lf)) limit_form))

abbrev pub link_case : Link → LinkCases
link_case k = (k.delay, (k.rate, (k.loss, limit_case k.limit)))

abbrev pub LoadCases : Type 0
LoadCases = ℕ × ((ℕ ⊎ (ℕ × ℕ)) × (ℕ ⊎ (ℕ × ℕ)))

abbrev pub load_form : Form LoadCases
load_form = pair (keyed senders_key (decimal_form most32 lf)) (pair (distribution_form on_key) (distribution_form off_key))

abbrev pub load_case : Load → LoadCases
load_case o = (o.senders, (distribution_case o.on, distribution_case o.off))

abbrev pub CourseCases : Type 0
CourseCases = (ℕ ⊎ ((ℕ × ℕ) ⊎ (ℕ × ℕ))) × (ℕ × ℕ)

abbrev pub course_form : Form CourseCases
course_form = pair policy_form (pair (keyed seed_key (decimal_form most64 lf)) (keyed ticks_key (decimal_form 65536 lf)))

abbrev pub course_case : Course → CourseCases
course_case c = (policy_case c.policy, (c.seed, c.ticks))

-- the values of `bits` with one more; those of a line
abbrev pub with_value : Sizes → ℕ → Sizes
with_value s v = record { count = s.count + 1; values = set s.values s.count v }

abbrev pub sizes_of : List ℕ → Sizes
sizes_of vs = record { count = length vs; values = places_of vs }

pub record ReadsBits (text : List ℕ) (at : ℕ) (r : Option (Sizes × ℕ)) : Type 0 where
  pub outcome : Option (List ℕ × ℕ)
  pub reads : Reads bits_form text at outcome
  pub answer : r ≡ told sizes_of outcome

-- the whole description
abbrev pub WholeCases : Type 0
WholeCases = LinkCases × (List ℕ × (LoadCases × CourseCases))

abbrev pub whole_form : Form WholeCases
whole_form = such (pair link_form (pair bits_form (pair load_form course_form))) (λ v. Counted (length v.1.0) v.1.1.0.0)

abbrev pub gathered_of : Link → List ℕ → Load → Course → Description
gathered_of k bits o c = record {
  delay = k.delay;
  rate = k.rate;
  loss = k.loss;
  limit = k.limit;
  bits = bits;
  senders = o.senders;
  on = o.on;
  off = o.off;
  policy = c.policy;
  seed = c.seed;
  ticks = c.ticks;
}
