-- A state with another queue of as many places; and a built state, on whose lines nothing is. Assumes nothing.
use mathlib.Core.Path.{◌≡◌, refl}
use mathlib.Core.List.{List, [], ◌∷◌}
use Prim.Native.Nat.{ℕ, zero, suc}
use lib.Dec.{eqb}
use lib.ListN.{length, get_or}
use Rattle.draws.specs.declared.generator.Rng.{Rng}
use Rattle.draws.specs.Generator.{from_seed, child_of}
use Rattle.link.specs.declared.packet.Transit.{Transit}
use Rattle.link.specs.Ring.{items}
use Rattle.toggler.specs.declared.tick_queue.Queued.{Queued}
use Rattle.toggler.specs.Queue.{queue_places}
use Rattle.remy.specs.declared.network.RemyNetwork.{RemyNetwork}
use Rattle.remy.specs.declared.simulation.Head.{Head}
use Rattle.remy.specs.declared.simulation.Simulation.{Simulation}
use Rattle.remy.specs.declared.simulation.Built.{Built}
use Rattle.remy.specs.Network.{network_stop}
use Rattle.remy.specs.State.{no_transit, no_line, on_line_items, with_head, with_queue}
use Rattle.remy.specs.Queue.{picked}
use Rattle.remy.specs.Build.{new_line, blank_words, no_parts, populate, back_words, unqueued, queued_all, empty_words, empty_simulation, not_built, build_from, build_of}
use Rattle.remy.specs.HeldTimes.{Full}
use Rattle.remy.proofs.Steps.{cond_elim}

-- another head, and as many places in the queue
pub full_queue : (s : Simulation) (head : Head) (queue : List Queued) → length queue ≡ queue_places → Full s → Full (with_head (with_queue s queue) head)
full_queue s head queue e f = record { lines = f.lines; waiting = f.waiting; moving = f.moving; senders = f.senders; togglers = f.togglers; meters = f.meters; queue = e }

-- on no line that a build makes, nor past them
none-there : (slots : List Transit) (g h : Rng) (l : ℕ) → items no_transit slots l (get_or (new_line g ∷ (new_line h ∷ [])) l no_line).on_line ≡ []
none-there slots g h zero = refl
none-there slots g h (suc zero) = refl
none-there slots g h (suc (suc l)) = refl

pub built-none : (n : RemyNetwork) (seed l : ℕ) → on_line_items (build_of n seed).simulation l ≡ []
unfolding build_of queued_all picked empty_simulation
built-none n seed l =
    let F : Built → Type 0 = λ b. on_line_items b.simulation l ≡ [] in
    let c = child_of (from_seed seed) in
    let parts = populate n.senders 0 n.off (no_parts c.parent) in
    let back = back_words n parts.root in
    let refused : (number : ℕ) → F (not_built number) = λ number. none-there (not_built number).simulation.on_line empty_words blank_words l in
    cond_elim F (eqb (network_stop n) 0) (build_from n c.child parts) (not_built (network_stop n))
    (λ fine. cond_elim F (eqb parts.number 0) (record { number = 0; simulation = picked (queued_all (unqueued n c.child back parts)) }) (not_built parts.number)
    (λ drawn. none-there (picked (queued_all (unqueued n c.child back parts))).on_line c.child back l) (λ spent. refused parts.number))
    (λ stop. refused (network_stop n))
