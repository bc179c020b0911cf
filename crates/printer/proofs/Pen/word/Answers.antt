-- `printer::Pen::word` meets its contract: one copy.
-- Assumes nothing.
use Prim.Native.Nat.{◌+◌, ◌-◌}
use mathlib.Core.Path.{◌≡◌, refl, sym, ap, ◌∙◌}
use native.Mathlib.Omega.{arith}
use lib.ListN.{length}
use Rattle.std.proofs.lemmas.Slice.{put_mid-paste}
use Rattle.printer.proofs.Buffer.{written_copy, written_length}
use Rattle.printer.proofs.Pen.word.Goals as goal

pub returns : goal.returns
returns c =
    let p = c.args.self.now in
    let w = c.args.w.now in
    let count : p.at + length w - p.at ≡ length w = omega arith in
    let e = put_mid-paste p.at (p.at + length w - p.at) p.out.now c.copy_from_slice.new.self w (length w) c.copy_from_slice.ensures.after (sym count) refl ∙ written_copy p.out.now p.at w in
    record {
      wrote = record { small = omega arith; place = omega arith; bytes = e };
      long = ap length e ∙ written_length p.out.now p.at w c.requires;
      same = refl;
    }
