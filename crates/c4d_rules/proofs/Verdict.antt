-- The verdict accepts a file, with a layout, exactly when the file meets the rules with it.
use mathlib.Core.Path.{◌≡◌, refl, sym, ap, ◌∙◌, subst}
use Prim.Native.Nat.{ℕ, ◌+◌, ◌-◌, ◌≤◌}
use native.Mathlib.Omega.{arith}
use mathlib.Core.List.{List, ◌++◌}
use mathlib.Core.Option.{none}
use lib.ListN.{length, take, drop, length-take, length-drop, take-append-drop}
use borrow.Author.Tests.{leb-true, le-leb}
use Rattle.shared_words.specs.Refusals.{limit}
use Rattle.c4d_rules.specs.Blocks.{all_bytes}
use Rattle.c4d_rules.specs.Layout.{Layout, block, file_header, bytes}
use Rattle.c4d_rules.specs.Rules.{start, ChunkRules, Meets}
use Rattle.shared_words.specs.Conditions.{broken, Answer, refused, accepted}
use Rattle.shared_words.proofs.Lists.{same_true, same_refl}
use Rattle.shared_words.proofs.Conditions.{unbroken}
use Rattle.c4d_rules.specs.Read.{walk}
use Rattle.c4d_rules.specs.Walk.{file_conditions, chunk_grammar, verdict}
use Rattle.c4d_rules.specs.Theorems.{AcceptedExactly, OneLayout}
use Rattle.c4d_rules.proofs.Conditions.{If, guarded}
use Rattle.c4d_rules.proofs.Read.{Whole, walk-tells, walk_complete}
use Rattle.c4d_rules.proofs.Chunks.{chunks_right}

-- ---- accepted, so it meets the rules

told-meets : (s : List ℕ) → length s ≤ limit → take 12 s ≡ file_header (length s - 8) → (x : Answer Layout) →
    If (Whole chunk_grammar block ChunkRules start (drop 12 s)) x → If (Meets s) x
told-meets s w e (refused r) h = tt
told-meets s w e (accepted l) h =
    let t = ap length e in
    let n : 4 + length (drop 12 s) ≡ length s - 8 = omega (arith, length-take 12 s, length-drop 12 s) in
    let whole : file_header (length s - 8) ++ drop 12 s ≡ s = ap (λ (x : List ℕ). x ++ drop 12 s) (sym e) ∙ take-append-drop 12 s in
    record { is = rw (h.is, n) whole; within-limit = w; chunks = h.obey }

verdict-meets : (s : List ℕ) → If (Meets s) (verdict s)
unfolding verdict
verdict-meets s =
    guarded (Meets s) (file_conditions s) (walk chunk_grammar start 12 (drop 12 s))
    (λ t. told-meets s (leb-true _ _ t.0) (same_true (take 12 s) (file_header (length s - 8)) t.1.0) (walk chunk_grammar start 12 (drop 12 s))
    (walk-tells chunk_grammar block ChunkRules chunks_right start 12 (drop 12 s)))

-- ---- it meets the rules, so it is accepted

good-bytes : (l : Layout) → Meets (bytes l) l → verdict (bytes l) ≡ accepted l
unfolding verdict
good-bytes l m =
    let n : length (bytes l) - 8 ≡ 4 + length (all_bytes block l) = omega arith in
    let t : broken (file_conditions (bytes l)) ≡ none =
    unbroken _ (le-leb (length (bytes l)) limit m.within-limit, (rw n (same_refl (file_header (4 + length (all_bytes block l)))), tt)) in
    rw t (walk_complete chunk_grammar block ChunkRules chunks_right l start 12 m.chunks tt)

pub verdict-good : (s : List ℕ) (l : Layout) → Meets s l → verdict s ≡ accepted l
verdict-good s l m =
    let n = ap length m.is in
    let w = m.within-limit in
    subst (λ (x : List ℕ). verdict x ≡ accepted l) m.is (good-bytes l record { is = refl; within-limit = omega arith; chunks = m.chunks })

-- ---- the theorems

pub accepted_exactly : AcceptedExactly
accepted_exactly s l = (λ e. subst (If (Meets s)) e (verdict-meets s), verdict-good s l)

pub one-layout : OneLayout
one-layout s l l' m m' =
    let a = verdict-good s l m in
    let b = verdict-good s l' m' in
    cc
