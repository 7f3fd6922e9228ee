-- The known chunk number i of a layout, as the list counts them, and the context that it stands in.
use mathlib.Core.Path.{◌≡◌, refl, ap, ◌∙◌}
use Prim.Native.Nat.{ℕ, zero, suc, ◌+◌, ◌-◌, ◌<◌}
use native.Mathlib.Omega.{arith}
use mathlib.Core.Bool.{Bool, true, false}
use mathlib.Core.List.{List}
use lib.Dec.{ltb}
use borrow.Author.Tests.{ltb-true, ltb-false}
use Rattle.studio_rules.specs.Layout.{Run, end, skip, known}
use Rattle.studio_rules.specs.Gives.{record_count}
use Rattle.claim_turned.specs.Exact.{from}
use Rattle.claim_turned.proofs.Context.{Context, behind, inner, plug}

-- how many known chunks stand before the place, the chunks that it stands in among them
abbrev pub number_in : Context → ℕ
number_in (behind a) = record_count a
number_in (inner a id own c rest) = record_count a + suc (number_in c)

-- a chunk more before it
abbrev past : (Run → Run) → Context → Context
past chunk (behind a) = behind (chunk a)
past chunk (inner a id own c rest) = inner (chunk a) id own c rest

past_skip : (id : ℕ) (body : List ℕ) (c : Context) (t : Run) → (plug (past (skip id body) c) t ≡ skip id body (plug c t)) × (number_in (past (skip id body) c) ≡ number_in c)
past_skip id body (behind a) t = (refl, refl)
past_skip id body (inner a id₁ own₁ c rest) t = (refl, refl)

past-known : (id : ℕ) (own : List ℕ) (kids : Run) (c : Context) (t : Run) →
    (plug (past (known id own kids) c) t ≡ known id own kids (plug c t)) × (number_in (past (known id own kids) c) ≡ suc (record_count kids + number_in c))
past-known id own kids (behind a) t = (refl, refl)
past-known id own kids (inner a id₁ own₁ c rest) t = (refl, omega arith)

pub record Found (i : ℕ) (t : Run) : Type 0 where
  pub context : Context
  pub id : ℕ
  pub own : List ℕ
  pub kids : Run
  pub rest : Run
  pub is : plug context (known id own kids rest) ≡ t
  pub number : number_in context ≡ i
  pub is-from : from i t ≡ known id own kids rest

pub find : (i : ℕ) (t : Run) → i < record_count t → Found i t
find i end l = absurd (omega arith)
find i (skip id body t) l =
    let f = find i t l in
    let q = past_skip id body f.context (known f.id f.own f.kids f.rest) in
    record { context = past (skip id body) f.context; id = f.id; own = f.own; kids = f.kids; rest = f.rest; is = q.0 ∙ ap (skip id body) f.is; number = q.1 ∙ f.number; is-from = f.is-from }
find zero (known id own kids t) l = record { context = behind end; id = id; own = own; kids = kids; rest = t; is = refl; number = refl; is-from = refl }
find (suc i) (known id own kids t) l = go (ltb i (record_count kids)) refl (find i kids) (find (i - record_count kids) t)
  where
    go : (b : Bool) → ltb i (record_count kids) ≡ b → (i < record_count kids → Found i kids) → (i - record_count kids < record_count t → Found (i - record_count kids) t) → Found (suc i) (known id own kids t)
    go true b in-kids in_rest =
        let f = in-kids (ltb-true _ _ b) in
        record { context = inner end id own f.context t; id = f.id; own = f.own; kids = f.kids; rest = f.rest; is = rw f.is; number = omega (arith, f.number); is-from = rw b f.is-from }
    go false b in-kids in_rest =
        let m = ltb-false i (record_count kids) b in
        let f = in_rest (omega arith) in
        let q = past-known id own kids f.context (known f.id f.own f.kids f.rest) in
        record { context = past (known id own kids) f.context; id = f.id; own = f.own; kids = f.kids; rest = f.rest; is = q.0 ∙ ap (known id own kids) f.is; number = q.1 ∙ omega (arith, f.number); is-from = rw b f.is-from }
