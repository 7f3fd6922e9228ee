-- The verdict accepts a file, with a layout, exactly when the file meets the rules with it.
use mathlib.Core.Path.{◌≡◌, refl, sym, ap, ◌∙◌, subst}
use Prim.Native.Nat.{ℕ, suc, ◌≤◌}
use native.Mathlib.Omega.{arith}
use mathlib.Core.List.{List, [], ◌++◌}
use mathlib.Core.Option.{Option, none, some}
use lib.ListN.{length, take, drop, take-append-drop}
use borrow.Author.Tests.{leb-true, le-leb}
use Rattle.shared_words.specs.Conditions.{broken, refused, accepted, unless}
use Rattle.shared_words.specs.Refusals.{limit}
use Rattle.shared_words.proofs.Conditions.{met, unbroken}
use Rattle.shared_words.specs.declared.Refusal.{Refusal}
use Rattle.cob_rules.specs.Layout.{Layout, file_header, chunk_bytes, all_bytes, bytes}
use Rattle.cob_rules.specs.Rules.{Meets}
use Rattle.cob_rules.specs.Walk.{Verdict, file_conditions, walk, verdict}
use Rattle.cob_rules.specs.Theorems.{AcceptedExactly, OneLayout}
use Rattle.shared_words.proofs.Lists.{same_true, same_refl}
use Rattle.cob_rules.proofs.Sound.{Tells, run-tells}
use Rattle.cob_rules.proofs.Complete.{run_complete}

-- ---- accepted, so it meets the rules

abbrev MeetsIf : List ℕ → Verdict → Type 0
MeetsIf s (refused r) = Unit
MeetsIf s (accepted l) = Meets s l

told-meets : (s : List ℕ) → length s ≤ limit → take 32 s ≡ file_header → (a : Verdict) → Tells [] (drop 32 s) a → MeetsIf s a
told-meets s n e (refused r) h = tt
told-meets s n e (accepted l) h =
    let w : file_header ++ drop 32 s ≡ s = ap (λ (x : List ℕ). x ++ drop 32 s) (sym e) ∙ take-append-drop 32 s in
    record { is = rw h.is w; within-limit = n; chunks = h.chunks; last = h.last; ends = h.ends }

verdict-meets : (s : List ℕ) → MeetsIf s (verdict s)
unfolding verdict walk
verdict-meets s = go (broken (file_conditions s)) refl
  where
    go : (r : Option Refusal) → broken (file_conditions s) ≡ r → MeetsIf s (unless r (walk [] 32 (drop 32 s)))
    go (some r) e = tt
    go none e =
        let t = met _ e in
        told-meets s (leb-true _ _ t.0) (same_true (take 32 s) file_header t.1.0) (walk [] 32 (drop 32 s)) (run-tells (suc (length (drop 32 s))) [] 32 (drop 32 s))

-- ---- it meets the rules, so it is accepted

good-bytes : (l : Layout) → Meets (bytes l) l → verdict (bytes l) ≡ accepted l
unfolding verdict walk
good-bytes l m =
    let t : broken (file_conditions (bytes l)) ≡ none = unbroken _ (le-leb (length (bytes l)) limit m.within-limit, (same_refl file_header, tt)) in
    let left = all_bytes l.chunks ++ chunk_bytes l.last in
    let k : walk [] 32 left ≡ accepted l = run_complete l.chunks l.last (suc (length left)) [] 32 (omega arith) m.chunks m.last m.ends in
    rw t k

pub verdict-good : (s : List ℕ) (l : Layout) → Meets s l → verdict s ≡ accepted l
verdict-good s l m =
    let n = ap length m.is in
    let w = m.within-limit in
    subst (λ (x : List ℕ). verdict x ≡ accepted l) m.is
    (good-bytes l record { is = refl; within-limit = omega arith; chunks = m.chunks; last = m.last; ends = m.ends })

-- ---- the theorems

pub accepted_exactly : AcceptedExactly
accepted_exactly s l = (λ e. subst (MeetsIf s) e (verdict-meets s), verdict-good s l)

pub one-layout : OneLayout
one-layout s l l' m m' =
    let a = verdict-good s l m in
    let b = verdict-good s l' m' in
    cc

-- a file is accepted with one layout only
pub one-accepted : (s : List ℕ) {l l' : Layout} → verdict s ≡ accepted l → verdict s ≡ accepted l' → l ≡ l'
one-accepted s a b = cc
