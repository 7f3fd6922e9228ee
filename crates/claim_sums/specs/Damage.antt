-- What damage the sums find, and what they miss: a changed byte, and one or two turned bits.
use Rattle.std.specs.Prelude.{◌≡◌, cond, List, ◌↔◌, ◌⊎◌, ℕ, ◌+◌, ◌-◌, ◌/◌, ◌%◌, ◌^◌, ◌<◌, eqb, length, get_or, set, Ok}
use Rattle.shared_words.specs.Bytes.{Bytes}
use Rattle.slip_sums.specs.Fletcher.{sum_of}
use Rattle.slip_sums.specs.Passes.{other_sums, against}

-- bit number k of a byte, from the lowest
abbrev pub bit : ℕ → ℕ → ℕ
bit k b = b / 2 ^ k % 2

-- the byte with that bit turned
abbrev pub flip : ℕ → ℕ → ℕ
flip k b = cond (eqb (bit k b) 0) (b + 2 ^ k) (b - 2 ^ k)

-- the file with bit k of its byte i turned
abbrev pub turn : ℕ → ℕ → List ℕ → List ℕ
turn i k s = set s i (flip k (get_or s i 0))

-- it turns that bit and no other, and a byte stays a byte
abbrev pub TurnsOne : Type 0
TurnsOne = (k m b : ℕ) → bit m (flip k b) ≡ cond (eqb m k) (1 - bit m b) (bit m b)

abbrev pub StaysByte : Type 0
StaysByte = (k b : ℕ) → k < 8 → b < 256 → flip k b < 256

-- ONE TURNED BIT is always found.
abbrev pub OneBit : Type 0
OneBit = (s : List ℕ) (i k : ℕ) → i < length s → k < 8 → ¬ (sum_of (turn i k s) ≡ sum_of s)

-- ONE CHANGED BYTE is missed exactly when it is 0 turned into 255, or 255 into 0.
abbrev pub OneByte : Type 0
OneByte = (s : List ℕ) (i c : ℕ) → Bytes s → i < length s → c < 256 → ¬ (c ≡ get_or s i 0) →
    (sum_of (set s i c) ≡ sum_of s) ↔ (((get_or s i 0 ≡ 0) × (c ≡ 255)) ⊎ ((get_or s i 0 ≡ 255) × (c ≡ 0)))

-- TWO TURNED BITS OF ONE BYTE are always found.
abbrev pub TwoBitsOfAByte : Type 0
TwoBitsOfAByte = (s : List ℕ) (i k m : ℕ) → i < length s → k < 8 → m < 8 → ¬ (k ≡ m) → ¬ (sum_of (turn i m (turn i k s)) ≡ sum_of s)

-- TWO TURNED BITS OF TWO BYTES are missed exactly when it is the same bit of both, once set and once cleared, and the
-- distance of the bytes is a multiple of 255.
abbrev pub TwoBits : Type 0
TwoBits = (s : List ℕ) (i j k m : ℕ) → i < j → j < length s → k < 8 → m < 8 →
    (sum_of (turn j m (turn i k s)) ≡ sum_of s) ↔ ((k ≡ m) × ¬ (bit k (get_or s i 0) ≡ bit m (get_or s j 0)) × ((j - i) % 255 ≡ 0))

-- ---- against an entry

-- A FILE ONE BIT AWAY from the entry's original NEVER PASSES.
abbrev pub OneBitNeverPasses : Type 0
OneBitNeverPasses = (s : List ℕ) (i k : ℕ) → i < length s → k < 8 → against (turn i k s) (sum_of s) ≡ other_sums

-- A BYTE 0 TURNED INTO 255 DOES PASS.
abbrev pub ZeroTo255Passes : Type 0
ZeroTo255Passes = (s : List ℕ) (i : ℕ) → Bytes s → i < length s → get_or s i 0 ≡ 0 → against (set s i 255) (sum_of s) ≡ (Ok tt)
