-- Demand 2: the verdict accepts a file, with a layout, exactly when the file meets the rules with it.
use mathlib.Core.Path.{◌≡◌, refl, sym, ap, ◌∙◌, subst}
use Prim.Native.Nat.{ℕ, suc, ◌+◌, ◌≤◌}
use native.Mathlib.Omega.{arith}
use mathlib.Core.Bool.{true}
use mathlib.Core.List.{List, [], append-nil}
use mathlib.Core.Option.{Option, none, some}
use lib.ListN.{length, take, drop, length-drop}
use borrow.Author.Tests.{leb-true, le-leb, eqb-true, eq-eqb}
use Rattle.shared_words.specs.declared.Refusal.{Refusal}
use Rattle.shared_words.specs.Bytes.{value, Bytes}
use Rattle.shared_words.specs.Lists.{every}
use Rattle.shared_words.specs.Refusals.{limit}
use Rattle.studio_rules.specs.Table.{under, plus, shape, rows, limits, at_most_one_ids}
use Rattle.studio_rules.specs.Layout.{Run, figure, size, bytes}
use Rattle.studio_rules.specs.Rules.{Parent, file, children_in_plus, Own, Children, Obeys, version, Meets}
use Rattle.shared_words.specs.Conditions.{broken, Answer, refused, accepted, unless}
use Rattle.studio_rules.specs.Walk.{file_conditions, length_field, walk, version_in, top, figure_at, verdict}
use Rattle.shared_words.proofs.Bytes.{bytes_drop, value-le}
use Rattle.studio_rules.proofs.Headers.{header_is}
use Rattle.shared_words.proofs.Conditions.{met, unbroken}
use Rattle.studio_rules.proofs.Sound.{length-bytes, Closes, ended_closes, run-tells}
use Rattle.studio_rules.proofs.Version.{version-of-bytes}
use Rattle.studio_rules.proofs.Complete.{ended-good, run_complete}
use Rattle.studio_rules.specs.Theorems.{AcceptedExactly, VersionAgrees, OneLayout}

-- what its row says of 4D4D itself, whatever it holds
pub top_own : (version : ℕ) → Own (file version) [] 0x4D4D []
unfolding under shape rows limits at_most_one_ids every
top_own version = record { in_place = refl; not_twice_lem = refl; names_fit_lem = refl; own_data_exact_lem = refl; numbers-finite = refl; face-numbers-below = refl; father_earlier_lem = refl }

pub top-plus : (version : ℕ) (kids : Run) → children_in_plus (top version) kids ≡ true
unfolding plus rows
top-plus version kids = refl

-- ---- accepted, so it meets the rules

abbrev MeetsIf : List ℕ → Answer Run → Type 0
MeetsIf s (refused r) = Unit
MeetsIf s (accepted kids) = Meets s kids

closed-meets : (s : List ℕ) → Bytes s → (n : ℕ) → length_field s ≡ n → value (take 2 s) ≡ 0x4D4D → 6 ≤ length s → n ≡ length s → length s ≤ limit → (a : Answer Run) →
    Closes (top (version_in (drop 6 s))) (drop 6 s) a → MeetsIf s a
closed-meets s b n v i l m w (refused r) q = tt
closed-meets s b n v i l m w (accepted kids) q =
    let z : size kids ≡ length (drop 6 s) = sym (length-bytes kids) ∙ ap length q.is in
    let y : 6 + 0 + size kids ≡ n = omega (arith, length-drop 6 s) in
    let h = rw (i, v) at (header_is s b l) in
    let told = version-of-bytes kids (drop 6 s) (top (version_in (drop 6 s))) q.is (omega (arith, length-drop 6 s)) q.obeys in
    record {
      is = rw (y, q.is, append-nil (drop 6 s)) h;
      within-limit = w;
      chunks = subst (λ (v : ℕ). Obeys (file v) [] (figure kids)) told (top_own (version_in (drop 6 s)), q.lawful (top-plus (version_in (drop 6 s)) kids), q.obeys, tt);
    }

verdict-meets : (s : List ℕ) → Bytes s → MeetsIf s (verdict s)
unfolding verdict walk
verdict-meets s b = go (broken (file_conditions s (length_field s))) refl
  where
    go : (r : Option Refusal) → broken (file_conditions s (length_field s)) ≡ r → MeetsIf s (unless r (figure_at (top (version_in (drop 6 s))) (drop 6 s)))
    go (some r) e = tt
    go none e =
        let t = met _ e in
        let l₁ = leb-true _ _ t.0 in
        let l₂ = leb-true _ _ t.1.0 in
        let l₃ : length_field s ≤ length s = leb-true _ _ t.1.1.1.1.0 in
        let l₄ : length s ≤ length_field s = leb-true _ _ t.1.1.1.1.1.0 in
        let q : Parent = top (version_in (drop 6 s)) in
        closed-meets s b (length_field s) refl (eqb-true _ _ t.1.1.0) l₂ (omega arith) l₁
        (figure_at q (drop 6 s))
        (ended_closes q 0 (drop 6 s) (walk q [] 6 (drop 6 s)) (run-tells (suc (length (drop 6 s))) q [] 6 (drop 6 s) (bytes_drop 6 s b)))

-- ---- it meets the rules, so it is accepted

good-at : (kids : Run) (s : List ℕ) → value (take 2 s) ≡ 0x4D4D → length_field s ≡ length s → drop 6 s ≡ bytes kids → length s ≡ 6 + size kids → length s ≤ limit →
    Children (top (version kids)) kids → Obeys (top (version kids)) [] kids → verdict s ≡ accepted kids
unfolding verdict walk
good-at kids s i v d l w h r =
    let t : broken (file_conditions s (length s)) ≡ none =
    unbroken _ (
      le-leb (length s) limit w,
      (
        le-leb 6 (length s) (omega arith),
        (
          eq-eqb (value (take 2 s)) 0x4D4D i,
          (
            le-leb 6 (length s) (omega arith),
            (le-leb (length s) (length s) (omega arith), (le-leb (length s) (length s) (omega arith), tt)),
          ),
        ),
      ),
    ) in
    let q : Parent = top (version kids) in
    let told : version_in (bytes kids) ≡ version kids = version-of-bytes kids (bytes kids) q refl (omega arith) r in
    let k : walk q [] 6 (bytes kids) ≡ accepted kids = run_complete kids (suc (length (bytes kids))) q [] 6 (omega (arith, length-bytes kids)) (omega arith) r in
    rw (v, t, d, told, k) (ended-good q 0 kids h)

pub length-figure : (kids : Run) → length (bytes (figure kids)) ≡ 6 + size kids
length-figure kids = omega (arith, length-bytes (figure kids))

pub verdict-good : (s : List ℕ) (kids : Run) → Meets s kids → verdict s ≡ accepted kids
verdict-good s kids m =
    let n = ap length m.is in
    let w = m.within-limit in
    let z = length-figure kids in
    let q = good-at kids (bytes (figure kids)) (value-le 2 0x4D4D (omega arith)) (value-le 4 (6 + 0 + size kids) (omega arith) ∙ omega arith)
    (append-nil (bytes kids)) z (omega arith) m.chunks.1 m.chunks.2 in
    subst (λ (x : List ℕ). verdict x ≡ accepted kids) m.is q

-- ---- the theorems

pub accepted_exactly : AcceptedExactly
accepted_exactly s b kids = (λ e. subst (MeetsIf s) e (verdict-meets s b), verdict-good s kids)

pub version-agrees : VersionAgrees
version-agrees s kids m =
    let n = ap length m.is in
    let w = m.within-limit in
    let d : bytes kids ≡ drop 6 s = sym (append-nil (bytes kids)) ∙ ap (drop 6) m.is in
    version-of-bytes kids (drop 6 s) (top (version kids)) d (omega (arith, length-figure kids)) m.chunks.2

pub one-layout : OneLayout
one-layout s kids kids' m m' =
    let a = verdict-good s kids m in
    let b = verdict-good s kids' m' in
    cc
