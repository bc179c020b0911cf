-- `description::read` meets its contract: four groups of lines, one after the other, one value of `bits` or one for each sender, and nothing after the lines.
-- Assumes nothing.
use Prim.Native.Nat.{ℕ}
use mathlib.Core.Path.{refl, sym, subst}
use mathlib.Core.List.{List}
use Rattle.notation.specs.Reading.{Found, Absent, pair}
use Rattle.description.specs.declared.lines.Link.{Link}
use Rattle.description.specs.declared.lines.Sizes.{Sizes}
use Rattle.description.specs.declared.lines.Load.{Load}
use Rattle.description.specs.declared.lines.Course.{Course}
use Rattle.description.specs.Text.{Written, Counted, answer_of}
use Rattle.description.specs.Lines.{link_case, load_case, course_case, link_form, bits_form, load_form, course_form, whole_form}
use Rattle.description.proofs.Forms.{pair-first, pair_second, pair_found, such-absent, such-not, such-found}
use Rattle.description.proofs.Sizes.{SomeBits, no_bits, some_bits}
use Rattle.description.proofs.Whole.{written_of, cases_of, refused-read, read-absent, read-long, read-given}
use Rattle.notation.specs.InPlace.{NoBytes}
use Rattle.description.proofs.read.Code as code
use Rattle.description.proofs.read.Goals as goal

-- the link's lines were read, then the `bits` line, the load's and the run's
module _ {text : List ℕ} (link : Link) {a : ℕ} {sizes : Sizes} {b : ℕ} (load : Load) {d : ℕ} (course : Course) {end : ℕ}
    (k : Found link_form text 0 (link_case link) a)
    (s : SomeBits text a sizes b)
    (l : Found load_form text b (load_case load) d)
    (r : Found course_form text d (course_case course) end) where
  abbrev said : Written
  said = written_of link s.values load course

  lines-read : Found (pair link_form (pair bits_form (pair load_form course_form))) text 0 (cases_of said) end
  lines-read = pair_found k (pair_found s.found (pair_found l r))

  -- and the values of `bits` are one, or one for each sender
  whole-read : Counted sizes.count load.senders → Found whole_form text 0 (cases_of said) end
  whole-read h = such-found _ lines-read (subst (λ (n : ℕ). Counted n load.senders) s.count h)

  not-whole : (Counted sizes.count load.senders → ⊥) → Absent whole_form text 0
  not-whole h = such-not _ lines-read (λ q. h (subst (λ (n : ℕ). Counted n load.senders) (sym s.count) q))

pub returns-in_err-link : goal.returns-in_err-link
returns-in_err-link c =
    refused-read c.args.text.now c.from_residual.ensures.0
    (such-absent _ (pair-first (pair bits_form (pair load_form course_form)) (rw c.in_err-link.ensures.ok_part at c.link_lines.ensures)))

pub returns-in_err-sizes : goal.returns-in_err-sizes
returns-in_err-sizes c =
    let link = rw c.in_ok-link.ensures.ok_part at c.link_lines.ensures in
    refused-read c.args.text.now c.from_residual-in_err-sizes.ensures.0
    (such-absent _ (pair_second link (pair-first (pair load_form course_form) (no_bits (rw c.in_err-sizes.ensures.ok_part at c.bits_line.ensures)))))

pub returns-in_err-load : goal.returns-in_err-load
returns-in_err-load c =
    let link = rw c.in_ok-link.ensures.ok_part at c.link_lines.ensures in
    let bits = some_bits (rw c.in_ok-sizes.ensures.ok_part at c.bits_line.ensures) in
    refused-read c.args.text.now c.from_residual-in_err-load.ensures.0
    (such-absent _ (pair_second link (pair_second bits.found (pair-first course_form (rw c.in_err-load.ensures.ok_part at c.load_lines.ensures)))))

pub returns-in_err-course : goal.returns-in_err-course
returns-in_err-course c =
    let link = rw c.in_ok-link.ensures.ok_part at c.link_lines.ensures in
    let bits = some_bits (rw c.in_ok-sizes.ensures.ok_part at c.bits_line.ensures) in
    let load = rw c.in_ok-load.ensures.ok_part at c.load_lines.ensures in
    refused-read c.args.text.now c.from_residual-in_err-course.ensures.0
    (such-absent _ (pair_second link (pair_second bits.found (pair_second load (rw c.in_err-course.ensures.ok_part at c.course_lines.ensures)))))

pub returns-then-not-counted : goal.returns-then-not-counted
unfolding answer_of
returns-then-not-counted c =
    let link = rw c.in_ok-link.ensures.ok_part at c.link_lines.ensures in
    let bits = some_bits (rw c.in_ok-sizes.ensures.ok_part at c.bits_line.ensures) in
    let load = rw c.in_ok-load.ensures.ok_part at c.load_lines.ensures in
    let course = rw c.in_ok-course.ensures.ok_part at c.course_lines.ensures in
    read-absent c.args.text.now (not-whole _ _ _ link bits load course (c.counted.ensures.no c.if-not-counted.true))

pub returns-then-end-text : goal.returns-then-end-text
unfolding answer_of
returns-then-end-text c =
    let link = rw c.in_ok-link.ensures.ok_part at c.link_lines.ensures in
    let bits = some_bits (rw c.in_ok-sizes.ensures.ok_part at c.bits_line.ensures) in
    let load = rw c.in_ok-load.ensures.ok_part at c.load_lines.ensures in
    let course = rw c.in_ok-course.ensures.ok_part at c.course_lines.ensures in
    read-long c.args.text.now _ _ (whole-read _ _ _ link bits load course (c.counted.ensures.yes c.if-not-counted.false)) c.if-end-text.true

pub returns : goal.returns
unfolding answer_of
returns c =
    let link = rw c.in_ok-link.ensures.ok_part at c.link_lines.ensures in
    let bits = some_bits (rw c.in_ok-sizes.ensures.ok_part at c.bits_line.ensures) in
    let load = rw c.in_ok-load.ensures.ok_part at c.load_lines.ensures in
    let course = rw c.in_ok-course.ensures.ok_part at c.course_lines.ensures in
    rw (c.gathered.ensures, bits.places)
    (read-given c.args.text.now _ _ (whole-read _ _ _ link bits load course (c.counted.ensures.yes c.if-not-counted.false)) c.if-end-text.false)

in_place : NoBytes code.function
in_place = refl
