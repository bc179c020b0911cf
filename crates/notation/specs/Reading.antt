-- What the functions that read a part of a text answer. Definitions only.
use Rattle.std.specs.Prelude.{ℕ, ◌+◌, ◌*◌, ◌^◌, ◌≤◌, ◌<◌, List, [], ◌∷◌, ◌++◌, Bool, true, false, cond, Option, Some, None, option_map, ◌⊎◌, ◌≡◌, ◌↔◌, eqb, drop, length}
use Rattle.std.specs.Char.{is_ascii_lowercase}
use Rattle.std.proofs.Common.{⊎_elim}
use Rattle.notation.specs.Notation.{digit_byte, hex_of, decimal_of}

-- how a value is written, and which values may stand there
pub record Form (A : Type 0) : Type 1 where
  pub text : A → List ℕ
  pub fits : A → Type 0

-- at the position stands a value in the form, up to the position next, and no other reading is possible
pub record Found {A : Type 0} (F : Form A) (text : List ℕ) (at : ℕ) (v : A) (next : ℕ) : Type 0 where
  pub fits : F.fits v
  pub here : drop at text ≡ F.text v ++ drop next text
  pub count : next ≡ at + length (F.text v)
  pub only : (w : A) (rest : List ℕ) → drop at text ≡ F.text w ++ rest → F.fits w → (w ≡ v) × (rest ≡ drop next text)

-- at the position stands no value in the form
pub record Absent {A : Type 0} (F : Form A) (text : List ℕ) (at : ℕ) : Type 0 where
  pub none : (w : A) (rest : List ℕ) → drop at text ≡ F.text w ++ rest → F.fits w → ⊥

-- a value that is read, with the position after it, stands there; where there is none, none does
abbrev pub Reads : {A : Type 0} → Form A → List ℕ → ℕ → Option (A × ℕ) → Type 0
Reads F text at (Some r) = Found F text at r.0 r.1
Reads F text at None = Absent F text at

-- what is read, with the value in the cases of its form; of a fixed word only the position is told
abbrev pub told : {A B : Type 0} → (A → B) → Option (A × ℕ) → Option (B × ℕ)
told cases = option_map (λ r. (cases r.0, r.1))

abbrev pub placed : Option ℕ → Option (Unit {0} × ℕ)
placed = option_map (λ next. (tt, next))

-- the forms: a fixed word; a double and what ends it; a whole number, at most most, and what ends it
abbrev pub word_form : List ℕ → Form (Unit {0})
word_form w = record { text = λ _. w; fits = λ _. Unit }

abbrev pub hex_form : ℕ → Form ℕ
hex_form end = record { text = λ v. hex_of v ++ (end ∷ []); fits = λ v. v < 2 ^ 64 }

abbrev pub decimal_form : ℕ → ℕ → Form ℕ
decimal_form most end = record { text = λ v. decimal_of v ++ (end ∷ []); fits = λ v. v ≤ most }

-- a key, then a value; a value and then another; a value of one form or of the other
abbrev pub keyed : {A : Type 0} → List ℕ → Form A → Form A
keyed key F = record { text = λ v. key ++ F.text v; fits = F.fits }

abbrev pub pair : {A B : Type 0} → Form A → Form B → Form (A × B)
pair F G = record { text = λ p. F.text p.0 ++ G.text p.1; fits = λ p. F.fits p.0 × G.fits p.1 }

abbrev pub either : {A B : Type 0} → Form A → Form B → Form (A ⊎ B)
either F G = record { text = ⊎_elim F.text G.text; fits = ⊎_elim F.fits G.fits }

-- the digit that the byte b is, and none where b is no digit
abbrev pub DigitIs : ℕ → Option ℕ → Type 0
DigitIs b r = (d : ℕ) → (r ≡ Some d) ↔ ((d < 16) × (b ≡ digit_byte d))

-- of count digits, more than one, the first is a zero
abbrev pub led_by_zero : ℕ → ℕ → Bool
led_by_zero first count = cond (eqb count 1) false (eqb first 48)

-- the digits s to the base b, read after digits of the value n, give the value v
pub data Run (b : ℕ) : ℕ → List ℕ → ℕ → Type 0 where
  ends : {n : ℕ} → Run b n [] n
  digit : {n v : ℕ} {s : List ℕ} (d : ℕ) → d < b → Run b (n * b + d) s v → Run b n (digit_byte d ∷ s) v

-- no digit to the base b stands first
abbrev pub NoDigit : ℕ → List ℕ → Type 0
NoDigit b s = (d : ℕ) (rest : List ℕ) → d < b → s ≡ digit_byte d ∷ rest → ⊥

-- the digits from a position up to the position next, with a value that is at most most
pub record SomeDigits (b most : ℕ) (text : List ℕ) (at v next : ℕ) : Type 0 where
  pub digits : List ℕ
  pub run : Run b 0 digits v
  pub small : v ≤ most
  pub here : drop at text ≡ digits ++ drop next text
  pub count : next ≡ at + length digits

-- no digits with a value that is at most most stand there
pub record NoDigits (b most : ℕ) (text : List ℕ) (at : ℕ) : Type 0 where
  pub none : (s rest : List ℕ) (v : ℕ) → drop at text ≡ s ++ rest → Run b 0 s v → NoDigit b rest → v ≤ most → ⊥

-- all digits from a position are read, or their value is above most
abbrev pub ReadsDigits : ℕ → ℕ → List ℕ → ℕ → Option (ℕ × ℕ) → Type 0
ReadsDigits b most text at (Some r) = SomeDigits b most text at r.0 r.1 × NoDigit b (drop r.1 text)
ReadsDigits b most text at None = NoDigits b most text at

-- the word s, read after letters of the value n, has the value v: its bytes are digits to the base 256, the last is no letter, and the others are letters
pub data Spells : ℕ → List ℕ → ℕ → Type 0 where
  last : {n : ℕ} (b : ℕ) → b < 256 → is_ascii_lowercase b ≡ false → Spells n (b ∷ []) (n * 256 + b)
  more : {n v : ℕ} {s : List ℕ} (b : ℕ) → is_ascii_lowercase b ≡ true → Spells (n * 256 + b) s v → Spells n (b ∷ s) v

-- a word from a position up to the position next
pub record SomeWord (text : List ℕ) (at v next : ℕ) : Type 0 where
  pub word : List ℕ
  pub spells : Spells 0 word v
  pub here : drop at text ≡ word ++ drop next text
  pub count : next ≡ at + length word

-- no word with a value of 64 bits stands there
pub record NoWord (text : List ℕ) (at : ℕ) : Type 0 where
  pub none : (s rest : List ℕ) (v : ℕ) → drop at text ≡ s ++ rest → Spells 0 s v → v < 2 ^ 64 → ⊥

-- the word at a position is read, or there is none with a value of 64 bits
abbrev pub ReadsWord : List ℕ → ℕ → Option (ℕ × ℕ) → Type 0
ReadsWord text at (Some r) = SomeWord text at r.0 r.1
ReadsWord text at None = NoWord text at

-- the word with a given value is read, or it does not stand there
abbrev pub ReadsKey : ℕ → List ℕ → ℕ → Option ℕ → Type 0
ReadsKey key text at (Some next) = SomeWord text at key next
ReadsKey key text at None = (w : List ℕ) → Spells 0 w key → Absent (word_form w) text at
