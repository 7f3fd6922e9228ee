-- Lists of conditions over things by number that are asked the same, and parts of rows.
use mathlib.Core.Path.{◌≡◌, refl, sym, ap, ◌∙◌}
use Prim.Native.Nat.{ℕ, zero, suc, ◌+◌, ◌-◌, ◌<◌, ◌≤◌}
use native.Mathlib.Omega.{arith}
use mathlib.Core.Bool.{Bool, true}
use mathlib.Core.List.{List, [], ◌∷◌, ◌++◌, append_assoc}
use lib.ListN.{take, drop}
use Rattle.shared_words.specs.Lists.{every, total}
use Rattle.shared_words.proofs.Bools.{and_parts, both}
use Rattle.studio_figure_rules.specs.Given.{over}
use Rattle.studio_figure_rows.specs.Rows.{entry, sum_to, run, part}
use Rattle.studio_figure_rows.proofs.Runs.{run-joined, sum-up}

pub over_append : {A B : Type 0} (give : A → List B) (xs ys : List A) → over give (xs ++ ys) ≡ over give xs ++ over give ys
over_append give [] ys = refl
over_append give (x ∷ xs) ys = ap (λ l. give x ++ l) (over_append give xs ys) ∙ sym (append_assoc (give x) (over give xs) (over give ys))

-- things from number a on, asked the same one by one
pub over_shift : {A B : Type 0} (give : A → List B) (thing : ℕ → A) (ask : ℕ → List B) (a i n : ℕ) →
    ((k : ℕ) → i ≤ k → k < i + n → give (thing (a + k)) ≡ ask (a + k)) → over give (run thing (a + i) n) ≡ over ask (run (λ k. a + k) i n)
over_shift give thing ask a i zero h = refl
over_shift give thing ask a i (suc n) h =
    let e : suc (a + i) ≡ a + suc i = omega arith in
    rw (h i (omega arith) (omega arith), e, over_shift give thing ask a (suc i) n (λ k p q. h k (omega arith) (omega arith)))

pub over-same : {A B : Type 0} (give : A → List B) (thing : ℕ → A) (ask : ℕ → List B) (i n : ℕ) →
    ((k : ℕ) → i ≤ k → k < i + n → give (thing k) ≡ ask k) → over give (run thing i n) ≡ over ask (run (λ k. k) i n)
over-same give thing ask i zero h = refl
over-same give thing ask i (suc n) h =
    rw (h i (omega arith) (omega arith), over-same give thing ask (suc i) n (λ k p q. h k (omega arith) (omega arith)))

pub total-same : {A : Type 0} (size : A → ℕ) (thing : ℕ → A) (f : ℕ → ℕ) (i n : ℕ) →
    ((k : ℕ) → i ≤ k → k < i + n → size (thing k) ≡ f k) → total size (run thing i n) ≡ total f (run (λ k. k) i n)
total-same size thing f i zero h = refl
total-same size thing f i (suc n) h =
    rw (h i (omega arith) (omega arith), total-same size thing f (suc i) n (λ k p q. h k (omega arith) (omega arith)))

-- runs one behind the other, each of as many things as a number says
pub runs_joined : {A B : Type 0} (give : A → List B) (thing : ℕ → A) (one : ℕ → B) (k j : ℕ) (s : List ℕ) →
    ((i : ℕ) → give (thing i) ≡ run one (sum_to k j s i) (entry k j s i)) →
    (i n : ℕ) → over give (run thing i n) ≡ run one (sum_to k j s i) (sum_to k j s (i + n) - sum_to k j s i)
runs_joined give thing one k j s e i zero =
    let a : i + 0 ≡ i = omega arith in
    let z : sum_to k j s i - sum_to k j s i ≡ 0 = omega arith in
    rw (a, z)
runs_joined give thing one k j s e i (suc n) =
    let a : suc i + n ≡ i + suc n = omega arith in
    let up = sum-up k j s (suc i) (i + suc n) (omega arith) in
    let m : sum_to k j s (i + suc n) - sum_to k j s i ≡ entry k j s i + (sum_to k j s (i + suc n) - sum_to k j s (suc i)) = omega arith in
    rw (e i, runs_joined give thing one k j s e (suc i) n, a, m)
    (sym (run-joined one (sum_to k j s i) (entry k j s i) (sum_to k j s (i + suc n) - sum_to k j s (suc i))))

-- a test that each element passes, of a part
every_drop : {A : Type 0} (p : A → Bool) (n : ℕ) (xs : List A) → every p xs ≡ true → every p (drop n xs) ≡ true
unfolding every
every_drop p zero xs h = h
every_drop p (suc n) [] h = h
every_drop p (suc n) (x ∷ xs) h = every_drop p n xs (and_parts (p x) (every p xs) h).1

every_take : {A : Type 0} (p : A → Bool) (n : ℕ) (xs : List A) → every p xs ≡ true → every p (take n xs) ≡ true
unfolding every
every_take p zero xs h = refl
every_take p (suc n) [] h = refl
every_take p (suc n) (x ∷ xs) h =
    let q = and_parts (p x) (every p xs) h in
    both (p x) (every p (take n xs)) q.0 (every_take p n xs q.1)

pub every-part : {A : Type 0} (p : A → Bool) (at n : ℕ) (xs : List A) → every p xs ≡ true → every p (part at n xs) ≡ true
every-part p at n xs h = every_take p n (drop at xs) (every_drop p at xs h)
