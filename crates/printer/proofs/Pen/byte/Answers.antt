-- `printer::Pen::byte` meets its contract: one store.
-- Assumes nothing.
use mathlib.Core.Path.{refl}
use native.Mathlib.Omega.{arith}
use lib.ListN.{length-set}
use Rattle.printer.proofs.Buffer.{written_byte}
use Rattle.printer.proofs.Pen.byte.Goals as goal

pub returns : goal.returns
returns c =
    let p = c.args.self.now in
    record {
      wrote = record { small = omega arith; place = omega arith; bytes = written_byte p.out.now _ _ (omega arith) };
      long = length-set p.out.now p.at _;
      same = refl;
    }
