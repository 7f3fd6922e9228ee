-- The conditions at a chunk, in order; and that of the owner by what the search tree holds.
use mathlib.Core.Path.{◌≡◌, refl, sym, ap, ◌∙◌}
use Prim.Native.Nat.{ℕ, suc, ◌+◌, ◌<◌}
use native.Mathlib.Omega.{arith}
use mathlib.Core.Bool.{Bool, true, false, not, ◌&&◌, ◌||◌, cond, true≢false}
use mathlib.Core.List.{List, [], ◌∷◌}
use mathlib.Core.Option.{some}
use lib.Dec.{eqb, leb}
use lib.ListN.{length, drop, get_or, set, length-drop}
use lib.Seq.{get_or-set_same, get_or-set_other}
use borrow.Author.Tests.{leb-true, eqb-true, eqb-false, eq-eqb, ne_eqb}
use Rattle.shared_words.specs.declared.Refusal.TheVariants.{Overrun, Owner, Size, Length, Number, Index}
use Rattle.shared_words.specs.Conditions.{must, broken}
use Rattle.shared_words.specs.Bytes.{negative}
use Rattle.shared_words.proofs.Bools.{and_parts}
use Rattle.cob_rules.specs.Kinds.{is_end}
use Rattle.cob_rules.specs.Layout.{Chunk, kind, identifier, parent, size_field}
use Rattle.cob_rules.specs.Rules.{used, owner_known, size_allowed, body_exact, numbers_finite, holes_in_faces, indices_below}
use Rattle.std.specs.Prelude.{Option, Some, None, Ok, Err}
use Rattle.std.specs.Option.{is_some}
use Rattle.cob_seen.specs.Tree.{number_in}
use Rattle.cob_chunk.specs.declared.Fault.{Fault}
use Rattle.cob_chunk.specs.Chunks.{chunk_in, Stated, judged_of}
use Rattle.cob_step.specs.Steps.{within, fault_of, Holds, fault_at}

-- ---- in order

rest-fault : (at n : ℕ) (a b f h i : Bool) →
    broken (must a (Size at) ∷ must b (Length at) ∷ must f (Number at) ∷ must h (Index at) ∷ must i (Index at) ∷ []) ≡
    fault_of at (cond a (cond b (cond f (cond (h && i) (Ok n) (Err Fault.Index)) (Err Fault.Number)) (Err Fault.Length)) (Err Fault.Size))
unfolding broken
rest-fault at n false b f h i = refl
rest-fault at n true false f h i = refl
rest-fault at n true true false h i = refl
rest-fault at n true true true false i = refl
rest-fault at n true true true true false = refl
rest-fault at n true true true true true = refl

module _ (seen : List Chunk) (s : List ℕ) (at : ℕ) where
  abbrev here : Chunk
  here = chunk_in s at

  pub overruns : within s at ≡ false → fault_at seen s at ≡ some (Overrun at)
  unfolding broken
  overruns = go (leb 20 (length (drop at s))) refl (negative 4 (size_field here) || leb (20 + size_field here) (length (drop at s))) refl
    where
      go : (a : Bool) → leb 20 (length (drop at s)) ≡ a → (b : Bool) → (negative 4 (size_field here) || leb (20 + size_field here) (length (drop at s))) ≡ b →
          (a && b) ≡ false → fault_at seen s at ≡ some (Overrun at)
      go false e b f h = rw e
      go true e false f h = rw (e, f)
      go true e true f h = absurd (true≢false h)

  pub unowned : within s at ≡ true → (is_end (kind here) || owner_known seen here) ≡ false → fault_at seen s at ≡ some (Owner at)
  unfolding broken
  unowned w o =
      let p = and_parts (leb 20 (length (drop at s))) (negative 4 (size_field here) || leb (20 + size_field here) (length (drop at s))) w in
      rw (p.0, p.1, o)

  -- what is left is the judgement
  pub judged-fault : within s at ≡ true → (is_end (kind here) || owner_known seen here) ≡ true → fault_at seen s at ≡ fault_of at (judged_of here)
  unfolding broken
  judged-fault w o =
      let p = and_parts (leb 20 (length (drop at s))) (negative 4 (size_field here) || leb (20 + size_field here) (length (drop at s))) w in
      rw (p.0, p.1, o) (rest-fault at (length here.body) (size_allowed here) (body_exact here) (numbers_finite here) (holes_in_faces here) (indices_below here))

  pub stated : within s at ≡ true → Stated s at
  stated w =
      let p = and_parts (leb 20 (length (drop at s))) (negative 4 (size_field here) || leb (20 + size_field here) (length (drop at s))) w in
      let l = leb-true 20 (length (drop at s)) p.0 in
      record { header = omega (arith, length-drop at s); body = p.1 }

-- ---- owners, by the search tree

zero-first : (x : ℕ) → eqb 0 x ≡ eqb x 0
zero-first x = go (eqb x 0) refl
  where
    go : (b : Bool) → eqb x 0 ≡ b → eqb 0 x ≡ b
    go true e = eq-eqb 0 x (sym (eqb-true x 0 e))
    go false e = ne_eqb 0 x (λ q. eqb-false x 0 e (sym q))

found_or : (b : Bool) (k : ℕ) (q : Option ℕ) → is_some (cond b (Some k) q) ≡ (b || is_some q)
found_or true k q = refl
found_or false k q = refl

or_swap : (a b c : Bool) → (a || (b || c)) ≡ (b || (a || c))
or_swap true true c = refl
or_swap true false c = refl
or_swap false true c = refl
or_swap false false c = refl

-- the tree finds 0 and the identifiers used
pub known : (ids : List ℕ) (seen : List Chunk) (x : ℕ) → Holds ids seen → is_some (number_in ids (suc (length seen)) x) ≡ (eqb x 0 || used x seen)
unfolding number_in
known ids [] x h = found_or (eqb (get_or ids 0 0) x) 0 None ∙ rw h (ap (λ (b : Bool). b || false) (zero-first x))
known ids (c ∷ seen) x h =
    found_or (eqb (get_or ids (suc (length seen)) 0) x) (suc (length seen)) (number_in ids (suc (length seen)) x) ∙
    rw (h.0, known ids seen x h.1) (or_swap (eqb (identifier c) x) (eqb x 0) (used x seen))

owner_test : (p i u : Bool) → (p && not (i || u)) ≡ ((not i && not u) && p)
owner_test true true u = refl
owner_test true false true = refl
owner_test true false false = refl
owner_test false true u = refl
owner_test false false true = refl
owner_test false false false = refl

pub owner_by : (ids : List ℕ) (seen : List Chunk) (c : Chunk) → Holds ids seen →
    (is_some (number_in ids (suc (length seen)) (parent c)) && not (is_some (number_in ids (suc (length seen)) (identifier c)))) ≡ owner_known seen c
owner_by ids seen c h =
    rw (known ids seen (parent c) h, known ids seen (identifier c) h)
    (owner_test (eqb (parent c) 0 || used (parent c) seen) (eqb (identifier c) 0) (used (identifier c) seen))

-- a later node changes none that is held
holds-set : (ids : List ℕ) (seen : List Chunk) (n y : ℕ) → length seen < n → Holds ids seen → Holds (set ids n y) seen
holds-set ids [] n y l h = get_or-set_other ids n 0 y 0 (λ q. omega arith) ∙ h
holds-set ids (c ∷ seen) n y l h = (get_or-set_other ids n (suc (length seen)) y 0 (λ q. omega arith) ∙ h.0, holds-set ids seen n y (omega arith) h.1)

pub holds_more : (ids : List ℕ) (seen : List Chunk) (c : Chunk) → suc (length seen) < length ids → Holds ids seen → Holds (set ids (suc (length seen)) (identifier c)) (c ∷ seen)
holds_more ids seen c l h =
    (get_or-set_same ids (suc (length seen)) (identifier c) 0 l, holds-set ids seen (suc (length seen)) (identifier c) (omega arith) h)
