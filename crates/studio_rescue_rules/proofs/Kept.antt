-- Children of 3D3D that obey the rules are all kept. By the layout: each is a run of one, and the walk accepts that.
use mathlib.Core.Path.{◌≡◌, refl, ap, ◌∙◌}
use Prim.Native.Nat.{ℕ, zero, suc, ◌+◌, ◌^◌, ◌≤◌, ◌<◌}
use native.Mathlib.Omega.{arith}
use mathlib.Core.List.{List, [], ◌∷◌, ◌++◌}
use mathlib.Core.Option.{none}
use lib.ListN.{length, take, drop, length-append}
use lib.Seq.{take_at, drop_at}
use borrow.Author.Tests.{le-leb}
use Rattle.studio_rules.specs.Layout.{Run, end, skip, known, size, bytes}
use Rattle.studio_rules.specs.Rules.{Parent, Obeys}
use Rattle.shared_words.specs.Conditions.{broken, accepted}
use Rattle.studio_rules.specs.Walk.{header_conditions, walk}
use Rattle.shared_words.proofs.Bytes.{value-le}
use Rattle.shared_words.proofs.Conditions.{unbroken}
use Rattle.studio_rules.proofs.Sound.{length-bytes}
use Rattle.studio_rules.proofs.Complete.{run_complete}
use Rattle.studio_rules.proofs.Then.{bytes_then}
use Rattle.studio_scene.proofs.Children.{obeys-anywhere}
use Rattle.studio_rescue_rules.specs.Rescue.{scene, Sifted, judged, sifted, sift_run, sift}

walk-good : (p : Parent) (seen : List ℕ) (o : ℕ) (t : Run) → size t < 2 ^ 32 → Obeys p seen t → walk p seen o (bytes t) ≡ accepted t
unfolding walk
walk-good p seen o t l h = run_complete t (suc (length (bytes t))) p seen o (omega (arith, length-bytes t)) l h

abbrev whole : Run → Sifted
whole t = record { kept = t; cuts = [] }

-- the first child is kept
kept-first : (v : ℕ) (go : ℕ → List ℕ → Sifted) (o n : ℕ) (c rest : Run) (s : List ℕ) → s ≡ bytes c ++ bytes rest → n ≡ size c → 6 ≤ n → n < 2 ^ 32 → Obeys (scene v) [] c →
    sifted v go o s n (broken (header_conditions o s n)) ≡ judged o (bytes c) (accepted c) (go (o + n) (bytes rest))
kept-first v go o n c rest s e m l u h =
    let i : length (bytes c) ≡ n = omega (arith, length-bytes c) in
    let z : length s ≡ n + length (bytes rest) = ap length e ∙ omega (arith, length-append (bytes c) (bytes rest)) in
    let q : broken (header_conditions o s n) ≡ none = unbroken _ (le-leb 6 (length s) (omega arith), (le-leb 6 n l, (le-leb n (length s) (omega arith), tt))) in
    let t : take n s ≡ bytes c = ap (take n) e ∙ take_at (bytes c) (bytes rest) n i in
    let d : drop n s ≡ bytes rest = ap (drop n) e ∙ drop_at (bytes c) (bytes rest) n i in
    rw (q, t, d, walk-good (scene v) [] o c (omega arith) h)

all-kept : (v : ℕ) (t : Run) (k o : ℕ) → size t < k → size t < 2 ^ 32 → Obeys (scene v) [] t → sift_run v k o (bytes t) ≡ whole t
all-kept v t zero o hk hs h = absurd (omega arith)
all-kept v end (suc k) o hk hs h = refl
all-kept v (skip id body rest) (suc k) o hk hs h =
    let s : List ℕ = bytes (skip id body rest) in
    let n : ℕ = 6 + length body in
    let c : Run = skip id body end in
    ap (λ (m : ℕ). sifted v (sift_run v k) o s m (broken (header_conditions o s m))) (value-le 4 n (omega arith)) ∙
    kept-first v (sift_run v k) o n c rest s (bytes_then c rest) (omega arith) (omega arith) (omega arith) (h.0, tt) ∙
    ap (judged o (bytes c) (accepted c)) (all-kept v rest k (o + n) (omega arith) (omega arith) h.1)
all-kept v (known id own kids rest) (suc k) o hk hs h =
    let s : List ℕ = bytes (known id own kids rest) in
    let n : ℕ = 6 + length own + size kids in
    let c : Run = known id own kids end in
    ap (λ (m : ℕ). sifted v (sift_run v k) o s m (broken (header_conditions o s m))) (value-le 4 n (omega arith)) ∙
    kept-first v (sift_run v k) o n c rest s (bytes_then c rest) (omega arith) (omega arith) (omega arith) (h.0, h.1, h.2, tt) ∙
    ap (judged o (bytes c) (accepted c)) (all-kept v rest k (o + n) (omega arith) (omega arith) (obeys-anywhere 0 v (id ∷ []) [] rest h.3))

pub sift-good : (v o : ℕ) (t : Run) → size t < 2 ^ 32 → Obeys (scene v) [] t → sift v o (bytes t) ≡ whole t
unfolding sift
sift-good v o t l h = all-kept v t (suc (length (bytes t))) o (omega (arith, length-bytes t)) l h
