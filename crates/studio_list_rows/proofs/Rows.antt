-- Records in a row: seven numbers after seven, and records after others.
use mathlib.Core.Path.{◌≡◌, refl, sym, ap, ◌∙◌}
use mathlib.Core.List.{List, [], ◌∷◌, ◌++◌}
use Prim.Native.Nat.{ℕ, suc, ◌+◌, ◌*◌, ◌≤◌, ◌<◌}
use native.Mathlib.Nat.{mul-add}
use native.Mathlib.Numerals.{towards_suc}
use native.Mathlib.Omega.{arith}
use lib.ListN.{length, set}
use lib.Seq.{sets, set_comm}
use Rattle.studio_rules.specs.declared.Record.{Record}
use Rattle.shared_words.specs.Bytes.{packed}
use Rattle.studio_rules.specs.Gives.{record_numbers, flat}
use Rattle.shared_words.proofs.Bytes.{length-packed, packed_append}
use Rattle.studio_list_rows.specs.Lent.{Lent, Room, written}
use Rattle.shared_numbers.proofs.Put.{sets_append}

-- seven stores, one after the other
pub seven_stores : (row : List ℕ) (i id at len depth parent own next : ℕ) →
    set (set (set (set (set (set (set row i id) (i + 1) at) (i + 2) len) (i + 3) depth) (i + 4) parent) (i + 5) own) (i + 6) next ≡
    sets row i (id ∷ at ∷ len ∷ depth ∷ parent ∷ own ∷ next ∷ [])
seven_stores row i id at len depth parent own next = simp towards_suc

-- an empty row stays empty
pub sets-empty : (i : ℕ) (xs : List ℕ) → sets [] i xs ≡ []
sets-empty i [] = refl
sets-empty i (x ∷ xs) = sets-empty (suc i) xs

-- ---- records as numbers and as bytes

-- one record after another, k elements each
pub record Even (k : ℕ) (f : List Record → List ℕ) : Type 0 where
  pub appends : (a b : List Record) → f (a ++ b) ≡ f a ++ f b
  pub size : (a : List Record) → length (f a) ≡ k * length a

pub flat_even : Even record_numbers flat
flat_even = record { appends = appends; size = size }
  where
    appends : (a b : List Record) → flat (a ++ b) ≡ flat a ++ flat b
    appends [] b = refl
    appends (r ∷ a) b = rw (appends a b)

    size : (a : List Record) → length (flat a) ≡ record_numbers * length a
    size [] = refl
    size (r ∷ a) = omega (arith, size a)

pub bytes_even : Even (4 * record_numbers) (λ rs. packed 4 (flat rs))
bytes_even = record {
  appends = λ a b. ap (packed 4) (flat_even.appends a b) ∙ packed_append 4 (flat a) (flat b);
  size = λ a. length-packed 4 (flat a) ∙ omega (arith, flat_even.size a);
}

-- records after n others, in a row
sets_even : {k : ℕ} {f : List Record → List ℕ} → Even k f → (row : List ℕ) (next : ℕ) (a b : List Record) (n : ℕ) → length a ≡ n →
    sets (sets row (k * next) (f a)) (k * (next + n)) (f b) ≡ sets row (k * next) (f (a ++ b))
sets_even {k} {f} even row next a b n e =
    let p : k * (next + n) ≡ k * next + length (f a) = mul-add k next n ∙ ap (λ (i : ℕ). k * next + i) (ap (λ (i : ℕ). k * i) (sym e) ∙ sym (even.size a)) in
    ap (λ (i : ℕ). sets (sets row (k * next) (f a)) i (f b)) p ∙ sym (sets_append row (k * next) (f a) (f b)) ∙ ap (sets row (k * next)) (sym (even.appends a b))

set-sets : (row : List ℕ) (i j x : ℕ) (b : List ℕ) → i < j → set (sets row j b) i x ≡ sets (set row i x) j b
set-sets row i j x [] h = refl
set-sets row i j x (y ∷ b) h = set-sets (set row j y) i (suc j) x b (omega arith) ∙ ap (λ (r : List ℕ). sets r (suc j) b) (set_comm row j i y x (λ e. omega arith))

-- what is stored behind may be stored first
sets-swap : (row : List ℕ) (i j : ℕ) (a b : List ℕ) → i + length a ≤ j → sets (sets row j b) i a ≡ sets (sets row i a) j b
sets-swap row i j [] b h = refl
sets-swap row i j (x ∷ a) b h = ap (λ (r : List ℕ). sets r (suc i) a) (set-sets row i j x b (omega arith)) ∙ sets-swap (set row i x) (suc i) j a b (omega arith)

-- records after n others, in both rows
pub written_on : (l : Lent) (next : ℕ) (a b : List Record) (n : ℕ) → length a ≡ n → written (written l next a) (next + n) b ≡ written l next (a ++ b)
written_on l next a b n e = rw (sets_even flat_even l.numbers next a b n e, sets_even bytes_even l.bytes next a b n e)

-- records before others, which are there already
pub written-before : (l : Lent) (next : ℕ) (a b : List Record) (n : ℕ) → length a ≡ n → written (written l (next + n) b) next a ≡ written l next (a ++ b)
written-before l next a b n e =
    rw (swap flat_even l.numbers, swap bytes_even l.bytes) (written_on l next a b n e)
  where
    swap : {k : ℕ} {f : List Record → List ℕ} → Even k f → (row : List ℕ) → sets (sets row (k * (next + n)) (f b)) (k * next) (f a) ≡ sets (sets row (k * next) (f a)) (k * (next + n)) (f b)
    swap {k} {f} even row = sets-swap row (k * next) (k * (next + n)) (f a) (f b) (omega (arith, even.size a, mul-add k next n, ap (λ (i : ℕ). k * i) e))

-- less room is asked of rows that are as long
pub room_less : {l l' : Lent} {m n : ℕ} → length l'.numbers ≡ length l.numbers → length l'.bytes ≡ length l.bytes → n ≤ m → Room l m → Room l' n
room_less e f h r = record { numbers = λ z. omega (arith, r.numbers (omega arith)); bytes = λ z. omega (arith, r.bytes (omega arith)) }
