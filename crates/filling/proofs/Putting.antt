-- Lines put one after the other, and what is answered of them. Assumes nothing.
use Rattle.std.proofs.Common.{Option, Some, None}
use Prim.Native.Nat.{ℕ, suc, ◌+◌, ◌*◌, ◌≤◌}
use native.Mathlib.Omega.{arith}
use native.Mathlib.Nat.{zero-add}
use mathlib.Core.Bool.{Bool, true, false, cond, true≢false}
use mathlib.Core.List.{List, [], ◌∷◌, ◌++◌}
use mathlib.Core.Path.{◌≡◌, refl, sym, ap, ◌∙◌, subst}
use lib.Dec.{leb}
use borrow.Author.Tests.{leb-true}
use lib.ListN.{length, drop}
use Rattle.remy.proofs.Steps.{cond_elim}
use Rattle.printer.specs.Printing.{written, PutIs}
use Rattle.report.specs.declared.run.Report.{Report}
use Rattle.filling.specs.declared.Filled.{Filled}
use Rattle.filling.specs.Filling.{Puts, puts, none_left, PutBy, filled_by}

abbrev is_at : Option ℕ → Bool
is_at (Some n) = true
is_at None = false

-- k lines were put before
abbrev pub further : ℕ → Puts → Puts
further k p = record { at = p.at; count = k + p.count; out = p.out; rest = p.rest }

-- ---- one line

module _ (l : List ℕ) (ls : List (List ℕ)) (d : List ℕ) (at : ℕ) (r : Option ℕ) (after : List ℕ) (p : PutIs l d at r after) where
  -- it was put: the others follow it
  pub line_put : (next : ℕ) → r ≡ Some next → (puts (l ∷ ls) d at ≡ further 1 (puts ls after next)) × (next ≤ at + 128)
  unfolding puts
  line_put next q = goes (leb (at + 128) (length d)) refl (sym q ∙ p.answer) p.bytes
    where
      goes : (b : Bool) → leb (at + 128) (length d) ≡ b → Some next ≡ cond b (Some (at + length l)) None → after ≡ cond b (written d at l) d
          → (cond b (further 1 (puts ls (written d at l) (at + length l))) (record { at = at; count = 0; out = d; rest = l ∷ ls }) ≡ further 1 (puts ls after next)) × (next ≤ at + 128)
      goes true e a o =
          let place : next ≡ at + length l = cc in
          let small : length l ≤ 128 = p.short (leb-true _ _ e) in
          (rw (o, place) refl, omega (arith, place, small))
      goes false e a o = absurd (true≢false (ap is_at a))

  -- it was not: it is the first that is left
  pub line-left : r ≡ None → puts (l ∷ ls) d at ≡ record { at = at; count = 0; out = after; rest = l ∷ ls }
  unfolding puts
  line-left q = stays (leb (at + 128) (length d)) (sym q ∙ p.answer) p.bytes
    where
      stays : (b : Bool) → None ≡ cond b (Some (at + length l)) None → after ≡ cond b (written d at l) d
          → cond b (further 1 (puts ls (written d at l) (at + length l))) (record { at = at; count = 0; out = d; rest = l ∷ ls }) ≡ record { at = at; count = 0; out = after; rest = l ∷ ls }
      stays true a o = absurd (true≢false (sym (ap is_at a)))
      stays false a o = ap (λ (x : List ℕ). record { at = at; count = 0; out = x; rest = l ∷ ls }) (sym o)

pub puts_none : (d : List ℕ) (at : ℕ) → puts [] d at ≡ record { at = at; count = 0; out = d; rest = [] }
unfolding puts
puts_none d at = refl

-- ---- lines and then others

module _ (b : List (List ℕ)) where
  pub puts_then : (a : List (List ℕ)) (d : List ℕ) (at : ℕ) → (puts a d at).rest ≡ []
      → puts (a ++ b) d at ≡ further (puts a d at).count (puts b (puts a d at).out (puts a d at).at)
  unfolding puts
  puts_then [] d at e = let z = zero-add (puts b d at).count in rw z
  puts_then (l ∷ ls) d at e = goes (leb (at + 128) (length d)) e (puts_then ls (written d at l) (at + length l))
    where
      next : Puts
      next = puts ls (written d at l) (at + length l)

      stuck : Puts
      stuck = record { at = at; count = 0; out = d; rest = l ∷ ls }

      goes : (c : Bool) → (cond c (further 1 next) stuck).rest ≡ []
          → (next.rest ≡ [] → puts (ls ++ b) (written d at l) (at + length l) ≡ further next.count (puts b next.out next.at))
          → cond c (further 1 (puts (ls ++ b) (written d at l) (at + length l))) (record { at = at; count = 0; out = d; rest = (l ∷ ls) ++ b })
          ≡ further (cond c (further 1 next) stuck).count (puts b (cond c (further 1 next) stuck).out (cond c (further 1 next) stuck).at)
      goes true f more =
          let q = puts b next.out next.at in
          let all : 1 + (next.count + q.count) ≡ 1 + next.count + q.count = omega arith in
          ap (further 1) (more f) ∙ ap (λ (k : ℕ). record { at = q.at; count = k; out = q.out; rest = q.rest }) all
      goes false f more = absurd (true≢false (sym (ap none_left f)))

  pub puts-short : (a : List (List ℕ)) (d : List ℕ) (at : ℕ) → none_left (puts a d at).rest ≡ false
      → puts (a ++ b) d at ≡ record { at = (puts a d at).at; count = (puts a d at).count; out = (puts a d at).out; rest = (puts a d at).rest ++ b }
  unfolding puts
  puts-short [] d at e = absurd (true≢false e)
  puts-short (l ∷ ls) d at e = goes (leb (at + 128) (length d)) e (puts-short ls (written d at l) (at + length l))
    where
      next : Puts
      next = puts ls (written d at l) (at + length l)

      stuck : Puts
      stuck = record { at = at; count = 0; out = d; rest = l ∷ ls }

      with_others : Puts → Puts
      with_others p = record { at = p.at; count = p.count; out = p.out; rest = p.rest ++ b }

      goes : (c : Bool) → none_left (cond c (further 1 next) stuck).rest ≡ false
          → (none_left next.rest ≡ false → puts (ls ++ b) (written d at l) (at + length l) ≡ with_others next)
          → cond c (further 1 (puts (ls ++ b) (written d at l) (at + length l))) (record { at = at; count = 0; out = d; rest = (l ∷ ls) ++ b })
          ≡ with_others (cond c (further 1 next) stuck)
      goes true f more = ap (further 1) (more f)
      goes false f more = refl

-- ---- how many lines are put, and which are left

pub puts-count : (ls : List (List ℕ)) (d : List ℕ) (at : ℕ) → (puts ls d at).count + length (puts ls d at).rest ≡ length ls
unfolding puts
puts-count [] d at = refl
puts-count (l ∷ ls) d at =
    let next = puts ls (written d at l) (at + length l) in
    let more : next.count + length next.rest ≡ length ls = puts-count ls (written d at l) (at + length l) in
    cond_elim (λ (p : Puts). p.count + length p.rest ≡ suc (length ls)) (leb (at + 128) (length d)) _ _ (λ e. omega (arith, more)) (λ e. omega arith)

pub puts-rest : (ls : List (List ℕ)) (d : List ℕ) (at : ℕ) → (puts ls d at).rest ≡ drop (puts ls d at).count ls
unfolding puts
puts-rest [] d at = refl
puts-rest (l ∷ ls) d at =
    let next = puts ls (written d at l) (at + length l) in
    let one : 1 + next.count ≡ suc next.count = omega arith in
    cond_elim (λ (p : Puts). p.rest ≡ drop p.count (l ∷ ls)) (leb (at + 128) (length d)) _ _ (λ e. puts-rest ls (written d at l) (at + length l) ∙ rw one) (λ e. refl)

-- ---- what is answered

module _ {A : Type 0} (f : Puts → A) (ls : List (List ℕ)) (d : List ℕ) (at : ℕ) where
  -- what the lines put is known
  pub put_known : (p : Puts) → puts ls d at ≡ p → p.at ≤ at + 128 * p.count → (r : A) → r ≡ f p → PutBy f ls d at r p.out
  put_known p e h r g = record { answer = g ∙ ap f (sym e); bytes = ap (λ (q : Puts). q.out) (sym e); short = subst (λ (q : Puts). q.at ≤ at + 128 * q.count) (sym e) h }

  -- k lines are put, and others follow
  pub put_further : (k : ℕ) (rest : List (List ℕ)) (mid : List ℕ) (next : ℕ) → puts ls d at ≡ further k (puts rest mid next) → next ≤ at + 128 * k
      → (r : A) (after : List ℕ) → PutBy (λ (p : Puts). f (further k p)) rest mid next r after → PutBy f ls d at r after
  put_further k rest mid next e h r after w = record {
    answer = w.answer ∙ ap f (sym e);
    bytes = w.bytes ∙ ap (λ (q : Puts). q.out) (sym e);
    short = let s = w.short in subst (λ (q : Puts). q.at ≤ at + 128 * q.count) (sym e) (omega (arith, s, h));
  }

  -- the same is answered, by another name
  pub put_as : (g : Puts → A) → ((p : Puts) → f p ≡ g p) → (r : A) (after : List ℕ) → PutBy f ls d at r after → PutBy g ls d at r after
  put_as g e r after w = record { answer = w.answer ∙ e (puts ls d at); bytes = w.bytes; short = w.short }

module _ {A : Type 0} (f : Puts → A) (l : List ℕ) (ls : List (List ℕ)) (d : List ℕ) (at : ℕ) (x : Option ℕ) (mid : List ℕ) (p : PutIs l d at x mid) where
  pub put_line : (next : ℕ) → x ≡ Some next → (r : A) (after : List ℕ) → PutBy (λ (q : Puts). f (further 1 q)) ls mid next r after → PutBy f (l ∷ ls) d at r after
  put_line next e = let w = line_put l ls d at x mid p next e in let h = w.1 in put_further f (l ∷ ls) d at 1 ls mid next w.0 (omega (arith, h))

  pub put_full : x ≡ None → (r : A) → r ≡ f (record { at = at; count = 0; out = mid; rest = l ∷ ls }) → PutBy f (l ∷ ls) d at r mid
  put_full e = put_known f (l ∷ ls) d at _ (line-left l ls d at x mid p e) (omega arith)

pub put_none : {A : Type 0} (f : Puts → A) (ls : List (List ℕ)) (d : List ℕ) (at : ℕ) → ls ≡ []
    → (r : A) → r ≡ f (record { at = at; count = 0; out = d; rest = [] }) → PutBy f ls d at r d
unfolding puts
put_none f ls d at e = put_known f ls d at _ (ap (λ (x : List (List ℕ)). puts x d at) e) (omega arith)

pub filled_known : (f : ℕ → Report) (ls : List (List ℕ)) (d : List ℕ) (at : ℕ) (p : Puts) → puts ls d at ≡ p → p.at ≤ at + 128 * p.count
    → (done : Bool) → done ≡ none_left p.rest → (report : Report) → report ≡ f p.count
    → PutBy (filled_by f) ls d at (record { at = p.at; done = done; report = report }) p.out
filled_known f ls d at p e h done n report g = put_known (filled_by f) ls d at p e h _ (rw (n, g))

-- a report that is the same after each count
pub filled_as : (f g : ℕ → Report) (ls : List (List ℕ)) (d : List ℕ) (at : ℕ) (r : Filled) (after : List ℕ) → ((k : ℕ) → f k ≡ g k)
    → PutBy (filled_by f) ls d at r after → PutBy (filled_by g) ls d at r after
filled_as f g ls d at r after e =
    put_as (filled_by f) ls d at (filled_by g) (λ (p : Puts). ap (λ (x : Report). record { at = p.at; done = none_left p.rest; report = x }) (e p.count)) r after

-- what is answered from here, after some lines, is answered from the start
abbrev pub From : {A : Type 0} → (Puts → A) → List (List ℕ) → List ℕ → ℕ → (Puts → A) → List (List ℕ) → List ℕ → ℕ → Type 0
From {A} f all d at g rest mid next = (r : A) (after : List ℕ) → PutBy g rest mid next r after → PutBy f all d at r after
