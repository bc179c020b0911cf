-- The outcome of a test that code makes, as that of the definition which the test equals. Assumes nothing.
use Rattle.std.proofs.Common.{◌≡◌, Bool, true, false, sym, ◌∙◌}

-- after `if !r { return .. }`
pub passed : {r t : Bool} → r ≡ t → r ≡ true → t ≡ true
passed e left = sym e ∙ left

-- within it
pub failed : {r t : Bool} → r ≡ t → r ≡ false → t ≡ false
failed e taken = sym e ∙ taken
