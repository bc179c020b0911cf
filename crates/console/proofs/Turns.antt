-- The bytes put into a buffer, then those of the lines left, are those of all the lines; and what the loop of turns keeps. Assumes nothing.
use Prim.Native.Nat.{ℕ, ◌+◌, ◌-◌, ◌*◌, ◌^◌, ◌≤◌, ◌<◌}
use Rattle.std.proofs.Common.{Result, Ok}
use mathlib.Core.Bool.{true, false, true≢false}
use mathlib.Core.List.{List, [], ◌∷◌, ◌++◌, flatten, append_assoc}
use mathlib.Core.Path.{◌≡◌, refl, sym, ap, ◌∙◌, subst}
use native.Mathlib.Omega.{arith}
use lib.Dec.{leb}
use lib.ListN.{length, take, drop, length-append}
use lib.Seq.{length-take-le, take_at}
use Rattle.remy.proofs.Steps.{cond_elim}
use Rattle.printer.specs.Printing.{written}
use Rattle.report.specs.declared.run.Report.{Report}
use Rattle.filling.specs.declared.Filled.{Filled}
use Rattle.report.specs.Report.{left_of}
use Rattle.filling.specs.Filling.{Puts, puts, none_left, FilledIs}
use Rattle.filling.proofs.Left.{left_is}
use Rattle.filling.proofs.Few.{fills}
use Rattle.console.specs.declared.Turn.{Turn}
use Rattle.console.specs.declared.output.Tally.{Tally}
use Rattle.console.specs.declared.output.WriteFailed.{WriteFailed}
use Rattle.console.specs.Turns.{TurnIs, HandedIs}

-- ---- lines in a buffer

record Split (before : List ℕ) (at : ℕ) (out : List ℕ) (rest : List (List ℕ)) : Type 0 where
  within : at ≤ length out
  bytes : take at out ++ flatten rest ≡ before

abbrev SplitBy : List ℕ → Puts → Type 0
SplitBy before p = Split before p.at p.out p.rest

puts_split : (ls : List (List ℕ)) (out : List ℕ) (at : ℕ) → at ≤ length out → SplitBy (take at out ++ flatten ls) (puts ls out at)
unfolding puts written flatten
puts_split [] out at h = record { within = h; bytes = refl }
puts_split (l ∷ ls) out at h =
    let front = take at out ++ l in
    let tail = drop (at + length l) out in
    let long : length front ≡ at + length l = length-append (take at out) l ∙ ap (λ (k : ℕ). k + length l) (length-take-le at out h) in
    let all : length (front ++ tail) ≡ length front + length tail = length-append front tail in
    let put : take (at + length l) (front ++ tail) ++ flatten ls ≡ take at out ++ (l ++ flatten ls) =
    ap (λ (b : List ℕ). b ++ flatten ls) (take_at front tail (at + length l) long) ∙ append_assoc (take at out) l (flatten ls) in
    cond_elim (SplitBy (take at out ++ (l ++ flatten ls))) (leb (at + 128) (length out)) _ _
    (λ e. subst (λ (b : List ℕ). SplitBy b (puts ls (front ++ tail) (at + length l))) put (puts_split ls (front ++ tail) (at + length l) (omega (arith, long, all))))
    (λ e. record { within = h; bytes = refl })

pub turn_is : (rep : Report) (out after : List ℕ) (f : Filled) → 65536 ≡ length out → 65536 ≡ length after → FilledIs rep out f after
    → TurnIs rep (record { bytes = after; count = f.at; done = f.done; report = f.report })
turn_is rep out after f long same w =
    let s = puts_split (left_of rep) out 0 (omega arith) in
    let place : f.at ≡ (puts (left_of rep) out 0).at = ap (λ (x : Filled). x.at) w.answer in
    let left : left_of f.report ≡ (puts (left_of rep) out 0).rest = left_is rep out after f w in
    record {
      long = same;
      within = omega (arith, same, s.within, ap length w.bytes, place);
      bytes = ap (λ (b : List ℕ). take f.at b ++ flatten (left_of f.report)) w.bytes
          ∙ ap (λ (k : ℕ). take k (puts (left_of rep) out 0).out ++ flatten (left_of f.report)) place
          ∙ ap (λ (ls : List (List ℕ)). take (puts (left_of rep) out 0).at (puts (left_of rep) out 0).out ++ flatten ls) left
          ∙ s.bytes;
      done = ap (λ (x : Filled). x.done) w.answer ∙ ap none_left (sym left);
      fewer = fills rep out after f (omega (arith, long)) w;
    }

-- ---- the loop of turns

no_bytes : (ls : List (List ℕ)) → length ls ≤ 0 → length (flatten ls) ≡ 0
unfolding flatten
no_bytes [] h = refl
no_bytes (l ∷ ls) h = absurd (omega (arith, h))

no_lines : (ls : List (List ℕ)) → none_left ls ≡ true → length ls ≤ 0
no_lines [] e = omega arith
no_lines (l ∷ ls) e = absurd (true≢false (sym e))

-- there are turns for all lines that are left, the bytes handed over and those left are the report's, and a turn has at most 65,536
pub record Kept (report left : Report) (handed turns : ℕ) : Type 0 where
  pub enough : length (left_of left) ≤ turns
  pub tally : handed + length (flatten (left_of left)) ≡ length (flatten (left_of report))
  pub small : handed + 65536 * turns ≤ 65536 * 65553

pub kept_first : (report : Report) (handed : ℕ) → length (left_of report) ≤ 65553 → handed ≡ 0 → Kept report report handed 65553
kept_first report handed h z = record { enough = h; tally = omega arith; small = omega arith }

-- after a turn whose bytes were all taken
pub record Next (report : Report) (t : Turn) (handed turns : ℕ) : Type 0 where
  pub goes : t.done ≡ false → Kept report t.report handed (turns - 1)
  pub ends : t.done ≡ true → handed ≡ length (flatten (left_of report))

module _ (report left : Report) (handed turns : ℕ) (h : Kept report left handed turns) where
  pub all_handed : turns ≤ 0 → handed ≡ length (flatten (left_of report))
  all_handed z = omega (arith, no_bytes (left_of left) (omega (arith, h.enough)), h.tally)

  module _ (some : 0 < turns) (t : Turn) (w : TurnIs left t) where
    few : length (take t.count t.bytes) ≡ t.count
    few = length-take-le t.count t.bytes (omega (arith, w.within, w.long))

    pub fits : handed + length (take t.count t.bytes) < 2 ^ 64
    fits = omega (arith, h.small, w.within, few)

    pub next : (r : Result Tally WriteFailed) → HandedIs (handed + length (take t.count t.bytes)) r → (after : Tally) → r ≡ Ok after → Next report t after.0 turns
    next r q after e =
        let put = take t.count t.bytes in
        let rest = flatten (left_of t.report) in
        let all : after.0 ≡ handed + length put = subst (HandedIs (handed + length put)) e q in
        let both : length put + length rest ≡ length (flatten (left_of left)) = sym (length-append put rest) ∙ ap length w.bytes in
        record {
          goes = λ f.
              record {
                enough = omega (arith, w.fewer f, h.enough);
                tally = omega (arith, all, both, h.tally);
                small = omega (arith, h.small, w.within, all, few);
              };
          ends = λ d. omega (arith, no_bytes (left_of t.report) (no_lines (left_of t.report) (sym w.done ∙ d)), all, both, h.tally);
        }
