-- One step up, and enough steps.
use mathlib.Core.Path.{◌≡◌, refl, ◌∙◌}
use mathlib.Core.Bool.{Bool, true, false, cond}
use mathlib.Core.List.{List}
use Prim.Native.Nat.{ℕ, zero, suc, ◌<◌, ◌≤◌}
use native.Mathlib.Nat.{not-suc-le-zero, le_refl}
use native.Mathlib.Omega.{arith}
use lib.ListN.{get_or, set, length}
use lib.Seq.{get_or-set_same, get_or-set_other}
use lib.Dec.{ltb}
use borrow.Author.Tests.{ltb-true, ltb-false, lt-ltb, le-ltb}
use Rattle.cob_owner.specs.Top.{top_within, top_of}

-- with k steps or more the answer is one
by-step : (b : Bool) (x y k : ℕ) → (b ≡ true → x ≡ y) → cond b x k ≡ cond b y k
by-step true x y k h = h refl
by-step false x y k h = refl

enough : (parents : List ℕ) (n m k : ℕ) → k ≤ n → k ≤ m → top_within n parents k ≡ top_within m parents k
unfolding top_within
enough ps zero zero k a b = refl
enough ps zero (suc m) k a b = let e : ltb (get_or ps k 0) k ≡ false = le-ltb (get_or ps k 0) k (omega arith) in rw e
enough ps (suc n) zero k a b = let e : ltb (get_or ps k 0) k ≡ false = le-ltb (get_or ps k 0) k (omega arith) in rw e
enough ps (suc n) (suc m) k a b =
    by-step (ltb (get_or ps k 0) k) _ _ k
    (λ e. let l = ltb-true (get_or ps k 0) k e in enough ps n m (get_or ps k 0) (omega arith) (omega arith))

pub up : (parents : List ℕ) (k : ℕ) → get_or parents k 0 < k → top_of parents k ≡ top_of parents (get_or parents k 0)
unfolding top_of top_within
up ps zero l = absurd (not-suc-le-zero l)
up ps (suc k) l = rw (lt-ltb _ _ l) (enough ps k (get_or ps (suc k) 0) (get_or ps (suc k) 0) (omega arith) (le_refl _))

pub stop : (parents : List ℕ) (k : ℕ) → k ≤ get_or parents k 0 → top_of parents k ≡ k
unfolding top_of top_within
stop ps zero l = refl
stop ps (suc k) l = rw (le-ltb _ _ l)

-- ---- the top

within-below : (ps : List ℕ) (n k : ℕ) → top_within n ps k ≤ k
unfolding top_within
within-below ps zero k = le_refl k
within-below ps (suc n) k = go (ltb (get_or ps k 0) k) refl (within-below ps n (get_or ps k 0))
  where
    go : (b : Bool) → ltb (get_or ps k 0) k ≡ b → top_within n ps (get_or ps k 0) ≤ get_or ps k 0 → cond b (top_within n ps (get_or ps k 0)) k ≤ k
    go true e l = let h = ltb-true (get_or ps k 0) k e in omega arith
    go false e l = le_refl k

pub top_below : (parents : List ℕ) (k : ℕ) → top_of parents k ≤ k
unfolding top_of
top_below ps k = within-below ps k k

within-top : (ps : List ℕ) (n k : ℕ) → k ≤ n → top_within n ps k ≤ get_or ps (top_within n ps k) 0
unfolding top_within
within-top ps zero k l = omega arith
within-top ps (suc n) k l = go (ltb (get_or ps k 0) k) refl (within-top ps n (get_or ps k 0))
  where
    go : (b : Bool) → ltb (get_or ps k 0) k ≡ b → (get_or ps k 0 ≤ n → top_within n ps (get_or ps k 0) ≤ get_or ps (top_within n ps (get_or ps k 0)) 0) →
        cond b (top_within n ps (get_or ps k 0)) k ≤ get_or ps (cond b (top_within n ps (get_or ps k 0)) k) 0
    go true e ih = let h = ltb-true (get_or ps k 0) k e in ih (omega arith)
    go false e ih = ltb-false (get_or ps k 0) k e

-- the topmost owner owns itself
pub top_again : (parents : List ℕ) (k : ℕ) → top_of parents (top_of parents k) ≡ top_of parents k
unfolding top_of
top_again ps k = stop ps (top_of ps k) (within-top ps k k (le_refl k))

-- ---- a later entry changes no top before it

within-set : (ps : List ℕ) (i v n k : ℕ) → k < i → top_within n (set ps i v) k ≡ top_within n ps k
unfolding top_within
within-set ps i v zero k l = refl
within-set ps i v (suc n) k l =
    let e : get_or (set ps i v) k 0 ≡ get_or ps k 0 = get_or-set_other ps i k v 0 (λ q. omega arith) in
    rw e (by-step (ltb (get_or ps k 0) k) _ _ k (λ t. let h = ltb-true (get_or ps k 0) k t in within-set ps i v n (get_or ps k 0) (omega arith)))

pub top_set : (parents : List ℕ) (i v k : ℕ) → k < i → top_of (set parents i v) k ≡ top_of parents k
unfolding top_of
top_set ps i v k l = within-set ps i v k k l

-- an entry that is a top before it, or itself
pub top-new : (parents : List ℕ) (i k : ℕ) → i < length parents → k < i → top_of (set parents i (top_of parents k)) i ≡ top_of parents k
top-new ps i k l h =
    let t = top_of ps k in
    let b = top_below ps k in
    let e : get_or (set ps i t) i 0 ≡ t = get_or-set_same ps i t 0 l in
    up (set ps i t) i (omega arith) ∙ rw e (top_set ps i t t (omega arith) ∙ top_again ps k)

pub top_self : (parents : List ℕ) (i : ℕ) → i < length parents → top_of (set parents i i) i ≡ i
top_self ps i l = stop (set ps i i) i (let e = get_or-set_same ps i i 0 l in omega arith)
