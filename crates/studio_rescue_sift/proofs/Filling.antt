-- The loops over the children: what is left gives what is still to be counted, or put.
use mathlib.Core.Path.{◌≡◌, refl, sym, ap, ◌∙◌, subst}
use Prim.Native.Nat.{ℕ, ◌+◌, ◌-◌, ◌*◌, ◌≤◌, ◌<◌}
use native.Mathlib.Omega.{arith}
use mathlib.Core.List.{List, [], ◌∷◌, ◌++◌, append_assoc, append-nil}
use lib.ListN.{length, take, drop, length-append}
use lib.Seq.{slice, length-slice}
use Rattle.shared_words.specs.Bytes.{Bytes, packed}
use Rattle.shared_words.specs.Conditions.{Answer, refused, accepted}
use Rattle.shared_words.specs.Refusals.{number_of}
use Rattle.shared_words.proofs.Bytes.{length-packed, packed_append}
use Rattle.shared_numbers.specs.Put.{Put}
use Rattle.shared_numbers.proofs.Put.{put-none, put_then, put_front}
use Rattle.shared_numbers.proofs.Slices.{drop-take}
use Rattle.studio_rules.specs.Layout.{Run, size, bytes, ◌then◌}
use Rattle.studio_rules.specs.Walk.{walk}
use Rattle.studio_rules.proofs.Sound.{length-bytes, Tells, walk-tells}
use Rattle.studio_rules.proofs.Then.{bytes_then}
use Rattle.studio_walk.proofs.Chunks.{clash}
use Rattle.studio_walk.proofs.Parts.{bytes-slice}
use Rattle.studio_rescue_rules.specs.Rescue.{scene, Cut, Sifted, cutting, judged, sift, gone}
use Rattle.studio_rescue_rules.specs.Call.{flat}
use Rattle.studio_rescue_sift.specs.Children.{span, child_of, FilledIs}
use Rattle.studio_rescue_sift.proofs.Spans.{child-first, no-child}
use Rattle.std.specs.Prelude.{Option, Some, None}

-- ---- one child

abbrev the_cut : ℕ → ℕ → List ℕ → Cut
the_cut o n piece = record { at = o; number = n; piece = piece }

cut_by : (a : Answer Run) (n o : ℕ) (piece : List ℕ) (x : Sifted) → Some n ≡ child_of a → judged o piece a x ≡ cutting (the_cut o n piece) x
cut_by (refused r) n o piece x e = let z : n ≡ number_of r = cc in rw z
cut_by (accepted t) n o piece x e = absurd (clash (cc))

-- a child that is kept, before x
pub record KeptBefore (piece : List ℕ) (x y : Sifted) : Type 0 where
  pub t : Run
  pub bytes_are : bytes t ≡ piece
  pub is : y ≡ record { kept = t then x.kept; cuts = x.cuts }

kept_by : (v : ℕ) (a : Answer Run) (o : ℕ) (piece : List ℕ) (x : Sifted) → Tells (scene v) [] piece a → ◌≡◌ {A = Option ℕ} None (child_of a) → KeptBefore piece x (judged o piece a x)
kept_by v (refused r) o piece x g e = absurd (clash (cc))
kept_by v (accepted t) o piece x g e = record { t = t; bytes_are = g.is; is = refl }

module _ (v : ℕ) (s : List ℕ) (from to : ℕ) (ends : to ≤ length s) where
  -- what becomes of the children from `at` on
  abbrev pub rest : ℕ → Sifted
  rest at = sift v at (slice at to s)

  -- a child stands from `at` to `stop`
  pub record Here (at stop : ℕ) : Type 0 where
    pub more : at < to
    pub stop_is : stop ≡ at + span at (slice at to s)
    pub goes : at < stop
    pub stays : stop ≤ to

  module _ (at stop : ℕ) (h : Here at stop) where
    pub cut-here : (n : ℕ) → Some n ≡ child_of (walk (scene v) [] at (slice at stop s)) → rest at ≡ cutting (the_cut at n (slice at stop s)) (rest stop)
    cut-here n e =
        child-first v s at to stop h.more ends h.stop_is h.stays ∙
        cut_by (walk (scene v) [] at (slice at stop s)) n at (slice at stop s) (rest stop) e

    pub kept_here : Bytes s → ◌≡◌ {A = Option ℕ} None (child_of (walk (scene v) [] at (slice at stop s))) → KeptBefore (slice at stop s) (rest stop) (rest at)
    kept_here b e =
        subst (KeptBefore (slice at stop s) (rest stop)) (sym (child-first v s at to stop h.more ends h.stop_is h.stays))
        (kept_by v (walk (scene v) [] at (slice at stop s)) at (slice at stop s) (rest stop) (walk-tells (scene v) [] at (slice at stop s) (bytes-slice s at stop b)) e)

    pub piece_length : length (slice at stop s) ≡ stop - at
    piece_length = let m = h.stays in length-slice at stop s (omega arith)

  -- ---- counted

  pub record Counting (at count lost : ℕ) : Type 0 where
    pub past : from ≤ at
    pub before : at ≤ to
    pub counts : length (rest from).cuts ≡ count + length (rest at).cuts
    pub bytes_lost : gone (rest from).cuts ≡ lost + gone (rest at).cuts
    pub few : count ≤ at - from
    pub near : lost ≤ at - from

  pub counting_start : from ≤ to → Counting from 0 0
  counting_start o = record { past = omega arith; before = o; counts = omega arith; bytes_lost = omega arith; few = omega arith; near = omega arith }

  module _ (at stop count lost : ℕ) (c : Counting at count lost) (h : Here at stop) where
    pub counting_cut : (n : ℕ) → Some n ≡ child_of (walk (scene v) [] at (slice at stop s)) → Counting stop (count + 1) (lost + (stop - at))
    counting_cut n e =
        let q = cut-here at stop h n e in
        let m = h.goes in
        let p = c.past in
        let i = c.few in
        let j = c.near in
        record {
          past = omega arith;
          before = h.stays;
          counts = omega (arith, c.counts, ap (λ (x : Sifted). length x.cuts) q);
          bytes_lost = omega (arith, c.bytes_lost, ap (λ (x : Sifted). gone x.cuts) q, piece_length at stop h);
          few = omega arith;
          near = omega arith;
        }

    pub counting_kept : Bytes s → ◌≡◌ {A = Option ℕ} None (child_of (walk (scene v) [] at (slice at stop s))) → Counting stop count lost
    counting_kept b e =
        let k = kept_here at stop h b e in
        let m = h.goes in
        let p = c.past in
        let i = c.few in
        let j = c.near in
        record {
          past = omega arith;
          before = h.stays;
          counts = omega (arith, c.counts, ap (λ (x : Sifted). length x.cuts) k.is);
          bytes_lost = omega (arith, c.bytes_lost, ap (λ (x : Sifted). gone x.cuts) k.is);
          few = omega arith;
          near = omega arith;
        }

  pub counted : (at count lost : ℕ) → Counting at count lost → to ≤ at → (length (rest from).cuts ≡ count) × (gone (rest from).cuts ≡ lost)
  counted at count lost c l =
      let z = no-child v s at to l in
      (omega (arith, c.counts, ap (λ (x : Sifted). length x.cuts) z), omega (arith, c.bytes_lost, ap (λ (x : Sifted). gone x.cuts) z))

  -- ---- put

  pub record Filling (cuts₀ : List ℕ) (into : ℕ) (out₀ cuts out : List ℕ) (at row next : ℕ) : Type 0 where
    pub past : from ≤ at
    pub before : at ≤ to
    pub cuts-long : length cuts ≡ length cuts₀
    pub out_long : length out ≡ length out₀
    pub cuts-done : List ℕ
    pub kept-done : List ℕ
    pub cuts_are : flat (rest from).cuts ≡ cuts-done ++ flat (rest at).cuts
    pub kept_are : bytes (rest from).kept ≡ kept-done ++ bytes (rest at).kept
    pub cuts-put : Put cuts₀ 0 (packed 4 cuts-done) cuts row
    pub kept_put : Put out₀ into kept-done out next

  pub filling_start : (cuts₀ : List ℕ) (into : ℕ) (out₀ : List ℕ) → from ≤ to → Filling cuts₀ into out₀ cuts₀ out₀ from 0 into
  filling_start cuts₀ into out₀ o = record {
    past = omega arith;
    before = o;
    cuts-long = refl;
    out_long = refl;
    cuts-done = [];
    kept-done = [];
    cuts_are = refl;
    kept_are = refl;
    cuts-put = put-none cuts₀ 0;
    kept_put = put-none out₀ into;
  }

  length-flat : (cs : List Cut) → length (flat cs) ≡ 3 * length cs
  length-flat [] = refl
  length-flat (c ∷ cs) = omega (arith, length-flat cs)

  module _ (cuts₀ : List ℕ) (into : ℕ) (out₀ cuts out : List ℕ) (at row next : ℕ) (f : Filling cuts₀ into out₀ cuts out at row next) where
    module _ (stop : ℕ) (h : Here at stop) where
      module _ (n : ℕ) (e : Some n ≡ child_of (walk (scene v) [] at (slice at stop s))) where
        flat-is : flat (rest at).cuts ≡ at ∷ n ∷ (stop - at) ∷ flat (rest stop).cuts
        flat-is =
            ap (λ (x : Sifted). flat x.cuts) (cut-here at stop h n e) ∙
            ap (λ (m : ℕ). at ∷ n ∷ m ∷ flat (rest stop).cuts) (piece_length at stop h)

        pub cut-room : 12 * length (rest from).cuts ≤ length cuts₀ → row + 12 ≤ length cuts
        cut-room r =
            let a = ap length f.cuts_are ∙ length-append f.cuts-done (flat (rest at).cuts) in
            let b = ap length flat-is in
            omega (arith, f.cuts-put.ends, length-packed 4 f.cuts-done, length-flat (rest from).cuts, f.cuts-long)

        pub filling_cut : (cuts' : List ℕ) (row' : ℕ) → length cuts' ≡ length cuts → Put cuts row (packed 4 (at ∷ n ∷ (stop - at) ∷ [])) cuts' row' → Filling cuts₀ into out₀ cuts' out stop row' next
        filling_cut cuts' row' l p =
            let m = h.goes in
            let o = f.past in
            let q = cut-here at stop h n e in
            let three : List ℕ = at ∷ n ∷ (stop - at) ∷ [] in
            record {
              past = omega arith;
              before = h.stays;
              cuts-long = l ∙ f.cuts-long;
              out_long = f.out_long;
              cuts-done = f.cuts-done ++ three;
              kept-done = f.kept-done;
              cuts_are = f.cuts_are ∙ ap (λ (y : List ℕ). f.cuts-done ++ y) flat-is ∙ sym (append_assoc f.cuts-done three (flat (rest stop).cuts));
              kept_are = f.kept_are ∙ ap (λ (x : Sifted). f.kept-done ++ bytes x.kept) q;
              cuts-put = rw (packed_append 4 f.cuts-done three) (put_then (omega arith) f.cuts-put p);
              kept_put = f.kept_put;
            }

      module _ (b : Bytes s) (e : ◌≡◌ {A = Option ℕ} None (child_of (walk (scene v) [] at (slice at stop s)))) where
        k : KeptBefore (slice at stop s) (rest stop) (rest at)
        k = kept_here at stop h b e

        kept-bytes : bytes (rest at).kept ≡ slice at stop s ++ bytes (rest stop).kept
        kept-bytes =
            ap (λ (x : Sifted). bytes x.kept) k.is ∙ bytes_then k.t (rest stop).kept ∙
            ap (λ (y : List ℕ). y ++ bytes (rest stop).kept) k.bytes_are

        pub kept-room : into + size (rest from).kept ≤ length out₀ → next + (stop - at) ≤ length out
        kept-room r =
            let a = ap length f.kept_are ∙ length-append f.kept-done (bytes (rest at).kept) in
            let c = ap length kept-bytes ∙ length-append (slice at stop s) (bytes (rest stop).kept) in
            omega (arith, f.kept_put.ends, length-bytes (rest from).kept, f.out_long, piece_length at stop h)

        pub filling_kept : into ≤ length out₀ → (out' : List ℕ) (next' : ℕ) → length out' ≡ length out → Put out next (take (stop - at) (drop at s)) out' next' → Filling cuts₀ into out₀ cuts out' stop row next'
        filling_kept i out' next' l p =
            let m = h.goes in
            let o = f.past in
            let d : at + (stop - at) ≡ stop = omega arith in
            let piece : take (stop - at) (drop at s) ≡ slice at stop s = sym (drop-take at (stop - at) s) ∙ ap (λ (z : ℕ). slice at z s) d in
            record {
              past = omega arith;
              before = h.stays;
              cuts-long = f.cuts-long;
              out_long = l ∙ f.out_long;
              cuts-done = f.cuts-done;
              kept-done = f.kept-done ++ slice at stop s;
              cuts_are = f.cuts_are ∙ ap (λ (x : Sifted). f.cuts-done ++ flat x.cuts) k.is;
              kept_are = f.kept_are ∙ ap (λ (y : List ℕ). f.kept-done ++ y) kept-bytes ∙ sym (append_assoc f.kept-done (slice at stop s) (bytes (rest stop).kept));
              cuts-put = f.cuts-put;
              kept_put = put_then i f.kept_put (rw piece at p);
            }

    pub filling_ends : to ≤ at → FilledIs (rest from) cuts₀ cuts into out₀ out next
    filling_ends l =
        let z = no-child v s at to l in
        let c : flat (rest from).cuts ≡ f.cuts-done = f.cuts_are ∙ ap (λ (x : Sifted). f.cuts-done ++ flat x.cuts) z ∙ append-nil f.cuts-done in
        let d : bytes (rest from).kept ≡ f.kept-done = f.kept_are ∙ ap (λ (x : Sifted). f.kept-done ++ bytes x.kept) z ∙ append-nil f.kept-done in
        record { cuts_are = rw c (put_front f.cuts-put); kept-is = rw d f.kept_put }
