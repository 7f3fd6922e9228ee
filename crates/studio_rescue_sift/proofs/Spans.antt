-- The first child, and those that follow: one equation for a child and for a bad header.
use mathlib.Core.Path.{◌≡◌, refl, sym, ap, ◌∙◌}
use Prim.Native.Nat.{ℕ, suc, ◌+◌, ◌-◌, ◌≤◌, ◌<◌}
use native.Mathlib.Omega.{arith}
use mathlib.Core.List.{List, [], ◌∷◌}
use mathlib.Core.Option.{Option, none, some}
use lib.ListN.{length, take, drop, get_or, drop_of_length-le, length-take}
use lib.Seq.{slice, slice-cons, length-slice, take-length}
use Rattle.shared_words.specs.declared.Refusal.{Refusal}
use Rattle.shared_words.specs.Bytes.{value}
use Rattle.shared_words.specs.Conditions.{broken}
use Rattle.studio_rules.specs.Walk.{header_conditions, length_field, walk}
use Rattle.shared_numbers.specs.Numbers.{long_at}
use Rattle.shared_numbers.proofs.Slices.{drop-slice, take-slice, long-slice}
use Rattle.studio_head.specs.declared.Header.{Header}
use Rattle.studio_head.specs.Heads.{HeaderIs, header_of}
use Rattle.studio_head.proofs.Opens.{header-fault, header_read}
use Rattle.studio_rescue_rules.specs.Rescue.{scene, judged, sifted, nothing, sift}
use Rattle.studio_rescue_rules.proofs.Fuel.{sift_nil, sift_cons}
use Rattle.studio_rescue_rules.proofs.Sift.{bad-header}
use Rattle.studio_rescue_sift.specs.Children.{span_by, span}
use Rattle.std.specs.Prelude.{Err}

module _ (v o x : ℕ) (u : List ℕ) where
  abbrev s : List ℕ
  s = x ∷ u

  sift-span : sift v o s ≡ judged o (take (span o s) s) (walk (scene v) [] o (take (span o s) s)) (sift v (o + span o s) (drop (span o s) s))
  unfolding span
  sift-span = sift_cons v o x u ∙ go (broken (header_conditions o s (length_field s))) refl
    where
      go : (r : Option Refusal) → broken (header_conditions o s (length_field s)) ≡ r →
          sifted v (sift v) o s (length_field s) r ≡ judged o (take (span_by s r) s) (walk (scene v) [] o (take (span_by s r) s)) (sift v (o + span_by s r) (drop (span_by s r) s))
      go none e = refl
      go (some r) e =
          let d : drop (length s) s ≡ [] = drop_of_length-le s {i = length s} (omega arith) in
          sym (rw (take-length s, d, bad-header v o x u r e, sift_nil v (o + length s)))

-- the same of a part of the file: the child ends at `stop`
pub child-first : (v : ℕ) (s : List ℕ) (at to stop : ℕ) → at < to → to ≤ length s → stop ≡ at + span at (slice at to s) → stop ≤ to →
    sift v at (slice at to s) ≡ judged at (slice at stop s) (walk (scene v) [] at (slice at stop s)) (sift v stop (slice stop to s))
child-first v s at to stop h l e m =
    let n : ℕ = span at (slice at to s) in
    let q : slice at to s ≡ get_or s at 0 ∷ slice (suc at) to s = slice-cons at to s 0 h l in
    let k : sift v at (slice at to s) ≡ judged at (take n (slice at to s)) (walk (scene v) [] at (take n (slice at to s))) (sift v (at + n) (drop n (slice at to s))) =
    rw q (sift-span v at (get_or s at 0) (slice (suc at) to s)) in
    k ∙ rw (take-slice n at to s (omega arith), drop-slice n at to s, ← e)

pub no-child : (v : ℕ) (s : List ℕ) (at to : ℕ) → to ≤ at → sift v at (slice at to s) ≡ nothing
no-child v s at to h =
    let e : slice at to s ≡ [] = drop_of_length-le (take to s) {i = at} (omega (arith, length-take to s)) in
    rw e (sift_nil v at)

-- ---- where it ends, by its header

module _ (s : List ℕ) (at end : ℕ) (h : at < end) (l : end ≤ length s) where
  abbrev bad : Option Refusal
  bad = broken (header_conditions at (slice at end s) (length_field (slice at end s)))

  pub ends-with-all : (y : Refusal) → HeaderIs s at (broken (header_conditions at (slice at end s) (length_field (slice at end s)))) (Err y) → end ≡ at + span at (slice at end s)
  unfolding span
  ends-with-all y i =
      let e : bad ≡ some y = header-fault s at end h l bad y i in
      let n : end ≡ at + length (slice at end s) = omega (arith, length-slice at end s l) in
      n ∙ ap (λ (r : Option Refusal). at + span_by (slice at end s) r) (sym e)

  pub ends-by-length : (id past : ℕ) → 6 ≤ end - at → HeaderIs s at (broken (header_conditions at (slice at end s) (length_field (slice at end s)))) (header_of id past) → past ≡ at + span at (slice at end s)
  unfolding span
  ends-by-length id past m i =
      let r = header_read s at end h l bad id past i in
      let f : length_field (slice at end s) ≡ long_at s (at + 2) = ap (λ (y : List ℕ). value (take 4 y)) (drop-slice 2 at end s) ∙ long-slice (at + 2) end s (omega arith) in
      r.past_is ∙ ap (λ (n : ℕ). at + n) (sym f) ∙ ap (λ (x : Option Refusal). at + span_by (slice at end s) x) (sym r.fine)
