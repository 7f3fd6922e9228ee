-- `<` on finite floats is an order: what is less than a is less than all that is not less than a.
use mathlib.Core.Path.{◌≡◌, refl}
use mathlib.Core.Bool.{Bool, true, false, ◌&&◌}
use Prim.Native.Nat.{ℕ, zero, suc, ◌+◌, ◌*◌, ◌<◌, ◌≤◌}
use native.Mathlib.Nat.{mul-pos, zero-mul}
use native.Mathlib.Omega.{arith}
use lib.Dec.{eqb, ltb}
use lib.Ieee.{Float, nan, inf, fin, up, down, below, level, lt, eq}
use lib.Ieee.Fits.{down_pos}
use lib.Ieee.Positive.{through, first_pos}
use borrow.Author.Tests.{ltb-true, ltb-false, lt-ltb, le-ltb, eqb-true, ne_eqb}

-- a finite float
abbrev pub Finite : Float → Type 0
Finite nan = ⊥
Finite (inf s) = ⊥
Finite (fin s m e) = Unit {0}

pub never : (b : Bool) → b ≡ true → b ≡ false → ⊥
never b p q = let z : true ≡ false = cc in let z' : ◌≡◌ {A = ℕ} 0 1 = cc in omega arith

-- the middle one is cancelled
cross : (x y z p q r : ℕ) → 0 < r → x * q < y * p → y * r ≤ z * q → ltb (x * r) (z * p) ≡ true
cross x y z p q r R h k = by (ltb (x * r) (z * p)) refl
  where
    by : (b : Bool) → ltb (x * r) (z * p) ≡ b → b ≡ true
    by true e = refl
    by false e = absurd (let l = ltb-false (x * r) (z * p) e in let w = through y z x q r p R k l in omega arith)

mixed : (sb sa sc : Bool) (B DB A DA C DC : ℕ) → 0 < DB → 0 < DA → 0 < DC
    → below sb (B * DA) sa (A * DB) ≡ true → below sc (C * DA) sa (A * DC) ≡ false → below sb (B * DC) sc (C * DB) ≡ true
mixed false false false B DB A DA C DC pb pa pc h k = cross B A C DB DA DC pc (ltb-true _ _ h) (ltb-false _ _ k)
mixed false false true B DB A DA C DC pb pa pc h k =
    let l = ltb-true (B * DA) (A * DB) h in
    let a = first_pos A DB (omega arith) in
    let w = mul-pos a pc in
    let z = ltb-false 0 (C * DA + A * DC) k in absurd (omega arith)
mixed false true sc B DB A DA C DC pb pa pc h k = absurd (never false h refl)
mixed true false false (suc B) DB A DA C DC pb pa pc h k =
    let p : 0 < suc B = omega arith in
    let w = mul-pos p pc in
    lt-ltb 0 (suc B * DC + C * DB) (omega arith)
mixed true false false zero DB A DA (suc C) DC pb pa pc h k =
    let p : 0 < suc C = omega arith in
    let w = mul-pos p pb in
    lt-ltb 0 (zero * DC + suc C * DB) (omega arith)
mixed true false false zero DB A DA zero DC pb pa pc h k =
    let l = ltb-true 0 (zero * DA + A * DB) h in
    let z = zero-mul DA in
    let a = first_pos A DB (omega arith) in
    let w = mul-pos a pc in
    let m = ltb-false (zero * DA) (A * DC) k in absurd (omega arith)
mixed true false true B DB A DA (suc C) DC pb pa pc h k =
    let p : 0 < suc C = omega arith in
    let w = mul-pos p pa in
    let z = ltb-false 0 (suc C * DA + A * DC) k in absurd (omega arith)
mixed true false true B DB (suc A) DA zero DC pb pa pc h k =
    let p : 0 < suc A = omega arith in
    let w = mul-pos p pc in
    let z = ltb-false 0 (zero * DA + suc A * DC) k in absurd (omega arith)
mixed true false true B DB zero DA zero DC pb pa pc h k =
    let l = ltb-true 0 (B * DA + zero * DB) h in
    let z = zero-mul DB in
    let b = first_pos B DA (omega arith) in
    let w = mul-pos b pc in
    lt-ltb (zero * DB) (B * DC) (omega arith)
mixed true true false B DB A DA C DC pb pa pc h k =
    let l = ltb-true (A * DB) (B * DA) h in
    let b = first_pos B DA (omega arith) in
    let w = mul-pos b pc in
    lt-ltb 0 (B * DC + C * DB) (omega arith)
mixed true true true B DB A DA C DC pb pa pc h k = by (ltb (C * DB) (B * DC)) refl
  where
    by : (b : Bool) → ltb (C * DB) (B * DC) ≡ b → b ≡ true
    by true e = refl
    by false e = absurd (let l = ltb-true (A * DB) (B * DA) h in let w = through B C A DB DC DA pc (ltb-false (C * DB) (B * DC) e) (ltb-false (A * DC) (C * DA) k) in omega arith)

-- what is less than a is less than what is not less than a
pub lt-mixed : (b a c : Float) → Finite b → Finite a → Finite c → lt b a ≡ true → lt c a ≡ false → lt b c ≡ true
unfolding lt
lt-mixed nan a c fb fa fc h k = elim fb [ ]
lt-mixed (inf _) a c fb fa fc h k = elim fb [ ]
lt-mixed (fin sb B eb) nan c fb fa fc h k = elim fa [ ]
lt-mixed (fin sb B eb) (inf _) c fb fa fc h k = elim fa [ ]
lt-mixed (fin sb B eb) (fin sa A ea) nan fb fa fc h k = elim fc [ ]
lt-mixed (fin sb B eb) (fin sa A ea) (inf _) fb fa fc h k = elim fc [ ]
lt-mixed (fin sb B eb) (fin sa A ea) (fin sc C ec) fb fa fc h k = mixed sb sa sc (B * up eb) (down eb) (A * up ea) (down ea) (C * up ec) (down ec) (down_pos eb) (down_pos ea) (down_pos ec) h k

irrefl : (s : Bool) (x : ℕ) → below s x s x ≡ false
irrefl false x = le-ltb x x (omega arith)
irrefl true x = le-ltb x x (omega arith)

pub lt_irrefl : (x : Float) → Finite x → lt x x ≡ false
unfolding lt
lt_irrefl nan f = elim f [ ]
lt_irrefl (inf _) f = elim f [ ]
lt_irrefl (fin s m e) f = irrefl s (m * up e * down e)

asym : (s t : Bool) (x y : ℕ) → below s x t y ≡ true → below t y s x ≡ false
asym false false x y h = let l = ltb-true x y h in le-ltb y x (omega arith)
asym false true x y h = absurd (never false h refl)
asym true false x y h = refl
asym true true x y h = let l = ltb-true y x h in le-ltb x y (omega arith)

pub lt_asym : (x y : Float) → Finite x → Finite y → lt x y ≡ true → lt y x ≡ false
unfolding lt
lt_asym nan y f g h = elim f [ ]
lt_asym (inf _) y f g h = elim f [ ]
lt_asym (fin s m e) nan f g h = elim g [ ]
lt_asym (fin s m e) (inf _) f g h = elim g [ ]
lt_asym (fin s m e) (fin t n d) f g h = asym s t (m * up e * down d) (n * up d * down e) h

apart : (s t : Bool) (x y : ℕ) → below s x t y ≡ true → (level t y s x ≡ false) × (level s x t y ≡ false)
apart false false x y h = let l = ltb-true x y h in (rw (ne_eqb y x (λ e. omega arith)), rw (ne_eqb x y (λ e. omega arith)))
apart false true x y h = absurd (never false h refl)
apart true false x y h = let l = ltb-true 0 (x + y) h in (nought y x (λ e z. omega arith), nought x y (λ e z. omega arith))
  where
    nought : (a b : ℕ) → (a ≡ b → a ≡ 0 → ⊥) → (eqb a b && eqb a 0) ≡ false
    nought a b n = by (eqb a b) refl (eqb a 0) refl
      where
        by : (p : Bool) → eqb a b ≡ p → (q : Bool) → eqb a 0 ≡ q → (p && q) ≡ false
        by false e q f = refl
        by true e false f = refl
        by true e true f = absurd (n (eqb-true a b e) (eqb-true a 0 f))
apart true true x y h = let l = ltb-true y x h in (rw (ne_eqb y x (λ e. omega arith)), rw (ne_eqb x y (λ e. omega arith)))

-- the lesser of two is equal to the other neither way
pub lt-apart : (x y : Float) → Finite x → Finite y → lt x y ≡ true → (eq y x ≡ false) × (eq x y ≡ false)
unfolding lt eq
lt-apart nan y f g h = elim f [ ]
lt-apart (inf _) y f g h = elim f [ ]
lt-apart (fin s m e) nan f g h = elim g [ ]
lt-apart (fin s m e) (inf _) f g h = elim g [ ]
lt-apart (fin s m e) (fin t n d) f g h = apart s t (m * up e * down d) (n * up d * down e) h
