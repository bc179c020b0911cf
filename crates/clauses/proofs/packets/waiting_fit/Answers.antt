-- One packet more, with its sender's bits. Assumes nothing.
use mathlib.Core.Path.{sym, ◌∙◌}
use borrow.Author.Tests.{eq-eqb}
use Rattle.quantities.proofs.Tested.{passed}
use Rattle.remy.specs.State.{no_waiting}
use Rattle.clauses.specs.Tests.{waits_test}
use Rattle.clauses.proofs.Turns.{every_goes, summed-one}
use Rattle.clauses.proofs.Members.{packet_known, first_passes}
use Rattle.clauses.proofs.packets.waiting_fit.Goals as goal

pub loop-i-preserved : goal.loop-i-preserved
unfolding waits_test
loop-i-preserved c =
    let L = c.loop-i in
    let more = c.loop-i-test.true in
    let fit = passed c.packet_fit.ensures c.if-not-packet_fit.false in
    let small = c.requires.1.each _ (packet_known _ _ _ _ fit) in (
      every_goes _ no_waiting _ _ _ _ L.i more (first_passes _ _ fit _ (sym (eq-eqb _ _ c.if-waits-size.false))) ∙ L.invariant.0,
      summed-one no_waiting _ _ _ _ L.sum L.i L.invariant.1 more _ c.if-waits-size.false small,
    )
