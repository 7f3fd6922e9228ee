-- Topmost owners by their nodes are those by identifier.
use mathlib.Core.Path.{◌≡◌, refl, sym, ◌∙◌}
use Prim.Native.Nat.{ℕ, suc, ◌<◌, ◌≤◌}
use native.Mathlib.Omega.{arith}
use mathlib.Core.Bool.{Bool, true, false, not, ◌&&◌, cond, false≢true, and-false}
use mathlib.Core.List.{List, [], ◌∷◌}
use lib.Dec.{eqb}
use lib.ListN.{length, get_or, set}
use borrow.Author.Tests.{eqb-true, eqb-false, eq-eqb}
use Rattle.shared_words.proofs.Bools.{or_second}
use Rattle.cob_rules.specs.Layout.{Chunk, identifier, parent}
use Rattle.cob_rules.specs.Rules.{used, owner_known}
use Rattle.cob_rules.specs.Gives.{topmost}
use Rattle.cob_rules.proofs.Owners.{new, topmost_unused}
use Rattle.std.specs.Prelude.{Option, Some, None}
use Rattle.std.specs.Option.{is_some}
use Rattle.cob_seen.specs.Tree.{number_in, Represents}
use Rattle.cob_seen.proofs.Numbers.{number_is, number_at}
use Rattle.cob_seen.proofs.Search.{unique}
use Rattle.cob_owner.specs.Top.{top_of}
use Rattle.cob_owner.proofs.Up.{top_below, top_set, top-new, top_self}
use Rattle.cob_step.specs.Steps.{Holds}
use Rattle.cob_step.proofs.Faults.{known}
use Rattle.cob_list.specs.Filling.{top_from, top_for}

-- node k of each chunk seen leads to its topmost owner
abbrev pub Owns : List ℕ → List ℕ → List Chunk → Type 0
Owns ids up [] = Unit
Owns ids up (c ∷ seen) = (get_or ids (top_of up (suc (length seen))) 0 ≡ topmost (c ∷ seen) (identifier c)) × Owns ids up seen

owns-set : (ids up : List ℕ) (seen : List Chunk) (k v : ℕ) → length seen < k → Owns ids up seen → Owns ids (set up k v) seen
owns-set ids up [] k v l h = tt
owns-set ids up (c ∷ seen) k v l h = (rw (top_set up k v (suc (length seen)) l) h.0, owns-set ids up seen k v (omega arith) h.1)

-- from the node of an identifier
owns-at : (ids up : List ℕ) (seen : List Chunk) (x p : ℕ) → Holds ids seen → Owns ids up seen → (x ≡ 0 → ⊥) → number_in ids (suc (length seen)) x ≡ Some p →
    get_or ids (top_of up p) 0 ≡ topmost seen x
unfolding number_in topmost
owns-at ids up [] x p h o n e = go (eqb (get_or ids 0 0) x) refl e
  where
    go : (b : Bool) → eqb (get_or ids 0 0) x ≡ b → cond b (Some 0) None ≡ Some p → get_or ids (top_of up p) 0 ≡ x
    go true t q = absurd (n (sym (eqb-true (get_or ids 0 0) x t) ∙ h))
    go false t q = let z : ◌≡◌ {A = ℕ} 0 1 = cc in absurd (omega arith)
owns-at ids up (c ∷ seen) x p h o n e = go (eqb (identifier c) x) refl (rw h.0 at e) (owns-at ids up seen x p h.1 o.1 n)
  where
    go : (b : Bool) → eqb (identifier c) x ≡ b → cond b (Some (suc (length seen))) (number_in ids (suc (length seen)) x) ≡ Some p →
        (number_in ids (suc (length seen)) x ≡ Some p → get_or ids (top_of up p) 0 ≡ topmost seen x) →
        get_or ids (top_of up p) 0 ≡ topmost seen (cond (b && not (eqb (parent c) 0)) (parent c) x)
    go true t q before =
        let z : p ≡ suc (length seen) = cc in
        let y : identifier c ≡ x = eqb-true (identifier c) x t in
        rw (z, ← y) (o.0 ∙ rw (eq-eqb (identifier c) (identifier c) refl))
    go false t q before = before q

found : (q : Option ℕ) → is_some q ≡ true → (p : ℕ) × (q ≡ Some p)
found (Some p) h = (p, refl)
found None h = absurd (false≢true h)

-- ---- one chunk more

pub record Topped (ids up : List ℕ) (seen : List Chunk) (c : Chunk) (t : ℕ) : Type 0 where
  pub below : t < suc (suc (length seen))
  pub owner_is : get_or ids t 0 ≡ topmost (c ∷ seen) (identifier c)
  pub owns : Owns ids (set up (suc (length seen)) t) (c ∷ seen)

module _ {ids links : List ℕ} {count : ℕ} (tree : Represents ids links count) (up : List ℕ) (seen : List Chunk) (c : Chunk) (h : Holds ids (c ∷ seen)) (o : Owns ids up seen)
    (k : owner_known seen c ≡ true) (l : suc (length seen) < count) (m : count ≤ length up) where
  abbrev node : ℕ
  node = suc (length seen)

  -- it owns itself
  root : eqb (parent c) 0 ≡ true → Topped ids up seen c node
  unfolding topmost
  root z =
      let e : get_or ids node 0 ≡ topmost (c ∷ seen) (identifier c) =
      h.0 ∙ sym (rw (z, and-false (eqb (identifier c) (identifier c))) (topmost_unused seen (identifier c) (new seen c k).fresh)) in
      record {
        below = omega arith;
        owner_is = e;
        owns = (rw (top_self up node (omega arith)) e, owns-set ids up seen node node (omega arith) o);
      }

  -- or has the owner of its parent
  inner : eqb (parent c) 0 ≡ false → Topped ids up seen c (top_from up node (number_in ids count (parent c)))
  unfolding topmost
  inner z =
      let x = parent c in
      let nz = eqb-false x 0 z in
      let u : used x seen ≡ true = or_second (eqb x 0) (used x seen) (new seen c k).known z in
      let f = found (number_in ids node x) (known ids seen x h.1 ∙ rw (z, u)) in
      let p = f.0 in
      let a = number_at ids node x p f.1 in
      let y : number_in ids count x ≡ Some p =
      number_is ids count x p (omega arith) a.1 (λ j b q. unique tree j p b (omega arith) (q ∙ sym a.1)) in
      let b = top_below up p in
      let e : get_or ids (top_of up p) 0 ≡ topmost seen x = owns-at ids up seen x p h.1 o nz f.1 in
      let g : get_or ids (top_of up p) 0 ≡ topmost (c ∷ seen) (identifier c) = e ∙ sym (rw (eq-eqb (identifier c) (identifier c) refl, z)) in
      rw y record {
        below = omega arith;
        owner_is = g;
        owns = (rw (top-new up node p (omega arith) (omega arith)) g, owns-set ids up seen node (top_of up p) (omega arith) o);
      }

  pub topped : Topped ids up seen c (top_for ids count up node (parent c))
  topped = go (eqb (parent c) 0) refl
    where
      go : (b : Bool) → eqb (parent c) 0 ≡ b → Topped ids up seen c (cond b node (top_from up node (number_in ids count (parent c))))
      go true e = root e
      go false e = inner e
