-- A ring of 512 places: a start and a count over an array of slots, in which rings lie one after the other. Definitions only.
use Rattle.std.specs.Prelude.{List, [], ◌∷◌, ℕ, zero, suc, ◌+◌, ◌*◌, ◌-◌, ◌%◌, get_or}
use Rattle.link.specs.declared.ring.Ring.{Ring}

-- how many places a ring has
abbrev pub places : ℕ
places = 512

-- the slot of a ring's place: ring l has the slots from 512 l on
abbrev pub slot_of : ℕ → ℕ → ℕ
slot_of l p = places * l + p

-- where the next item goes
abbrev pub place_after : Ring → ℕ
place_after r = (r.start + r.count) % places

-- the ring with one item more at its end, and the ring without its first item
abbrev pub pushed : Ring → Ring
pushed r = record { start = r.start; count = r.count + 1 }

abbrev pub popped : Ring → Ring
popped r = record { start = (r.start + 1) % places; count = r.count - 1 }

-- The items that ring l stands for, in order: so many from the start on, around the end. `d` stands for a slot that is not there.
abbrev pub items_from : {A : Type 0} → A → List A → ℕ → ℕ → ℕ → List A
items_from d slots l at zero = []
items_from d slots l at (suc n) = get_or slots (slot_of l (at % places)) d ∷ items_from d slots l (at + 1) n

abbrev pub items : {A : Type 0} → A → List A → ℕ → Ring → List A
items d slots l r = items_from d slots l r.start r.count
