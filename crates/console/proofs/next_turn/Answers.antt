-- What is filled is a turn. Assumes nothing.
use Rattle.std.proofs.Common.{ℕ, sym, ◌∙◌}
use Rattle.std.proofs.lemmas.List.{length-replicate}
use Rattle.console.proofs.Turns.{turn_is}
use Rattle.console.proofs.next_turn.Goals as goal

pub returns : goal.returns
returns c =
    let f = c.fill-filled in
    let long = sym (length-replicate {0} {A = ℕ} 65536 0) in
    turn_is _ _ f.new.out f.result long (long ∙ sym f.auto.out) f.ensures
