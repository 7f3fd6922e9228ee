-- The mended file by its parts, and the call by what the code found.
use mathlib.Core.Path.{◌≡◌, refl, sym, ap, ◌∙◌}
use Prim.Native.Nat.{ℕ, ◌+◌, ◌-◌, ◌/◌, ◌≤◌, ◌<◌}
use native.Mathlib.Omega.{arith}
use mathlib.Core.List.{List, ◌++◌, append_assoc}
use lib.ListN.{length, take, drop, length-append, length-drop}
use lib.Seq.{slice, length-slice, length-take-le, take-append-add, drop-drop, drop-append-add, drop_at}
use borrow.Author.Tests.{le-leb, lt-leb}
use Rattle.shared_words.specs.declared.Refusal.{Refusal}
use Rattle.shared_words.specs.declared.Refusal.TheVariants.{NoRoom}
use Rattle.shared_words.specs.Bytes.{Bytes, le, packed}
use Rattle.shared_words.specs.Conditions.{Answer, refused, accepted}
use Rattle.shared_words.specs.Effects.{leaving, filled}
use Rattle.shared_words.specs.Refusals.{limit}
use Rattle.shared_numbers.proofs.Slices.{drop-take}
use Rattle.studio_rules.specs.Layout.{Run, figure, size, bytes, offset_of, header}
use Rattle.studio_rules.specs.Walk.{length_field}
use Rattle.studio_rules.proofs.Sound.{length-bytes}
use Rattle.studio_rules.proofs.Verdict.{length-figure}
use Rattle.studio_walk.proofs.Chunks.{clash}
use Rattle.studio_walk.proofs.Parts.{bytes-slice}
use Rattle.studio_rescue_rules.specs.Rescue.{version_of, Cut, Sifted, sift, sifted_at, mended, saved, rescue, gone}
use Rattle.studio_rescue_rules.specs.Call.{flat, cut_bytes, rescue_call, mended_answer}
use Rattle.studio_rescue_rules.proofs.Sift.{sift-says}
use Rattle.studio_rescue_rules.proofs.Mend.{Torn}
use Rattle.studio_rescue_rules.proofs.File.{MendedFile, file-mended}
use Rattle.studio_rescue_rules.proofs.Back.{damaged, result, old-length, len_lowered, sizes, body_is, sifted-is}
use Rattle.studio_rescue_around.specs.declared.Scene.{Scene}
use Rattle.studio_rescue_around.specs.Around.{outside_of, scene_from}
use Rattle.studio_rescue_sift.specs.declared.Cuts.{Cuts}
use Rattle.studio_rescue_sift.specs.Children.{cuts_of}
use Rattle.studio_rescue.specs.Parts.{rescue_rows, front_of, PutIs}
use Rattle.std.specs.Prelude.{Err}

pub front_length : (s : List ℕ) (at n m : ℕ) → 6 ≤ at → at + 6 ≤ length s → length (front_of s at n m) ≡ at + 6
front_length s at n m h l =
    omega (
      arith,
      length-append ((take 2 s ++ le 4 n) ++ take (at - 4) (drop 6 s)) (le 4 m),
      length-append (take 2 s ++ le 4 n) (take (at - 4) (drop 6 s)),
      length-append (take 2 s) (le 4 n),
      length-take-le 2 s (omega arith),
      length-take-le (at - 4) (drop 6 s) (omega (arith, length-drop 6 s)),
    )

-- each byte of 3D3D's children is kept or cut
pub kept_or_cut : (v : ℕ) (s : List ℕ) (from to : ℕ) → Bytes s → to ≤ length s → size (sift v from (slice from to s)).kept + gone (sift v from (slice from to s)).cuts ≡ to - from
kept_or_cut v s from to b l = (sift-says v from (slice from to s) (bytes-slice s from to b)).sizes ∙ length-slice from to s l

-- ---- 3D3D was found

pub record Found (s : List ℕ) (at stop : ℕ) : Type 0 where
  pub kids : Run
  pub is : mended s ≡ accepted kids
  pub at-is : at ≡ offset_of 0x3D3D 6 kids
  pub stop_is : stop ≡ at + length_field (drop at s)

pub outside-beyond : (s : List ℕ) (a : Answer Run) (r : Refusal) → Err r ≡ outside_of s a → a ≡ refused r
outside-beyond s (refused q) r e = cc
outside-beyond s (accepted kids) r e = absurd (clash (cc))

pub outside-scene : (s : List ℕ) (at stop : ℕ) → scene_from at stop ≡ outside_of s (mended s) → Found s at stop
outside-scene s at stop e = go (mended s) refl e
  where
    go : (a : Answer Run) → mended s ≡ a → scene_from at stop ≡ outside_of s a → Found s at stop
    go (refused q) m e = absurd (clash (cc))
    go (accepted kids) m e =
        let r : ◌≡◌ {A = Scene} record { at = at; stop = stop } record { at = offset_of 0x3D3D 6 kids; stop = offset_of 0x3D3D 6 kids + length_field (drop (offset_of 0x3D3D 6 kids) s) } = cc in
        let i : at ≡ offset_of 0x3D3D 6 kids = ap (λ (x : Scene). x.at) r in
        let j : stop ≡ offset_of 0x3D3D 6 kids + length_field (drop (offset_of 0x3D3D 6 kids) s) = ap (λ (x : Scene). x.stop) r in
        record { kids = kids; is = m; at-is = i; stop_is = j ∙ rw i }

-- two headers in four parts, with what stands between and behind them
joined : (i n x j m y z : List ℕ) → ((i ++ n) ++ x) ++ ((j ++ m) ++ (y ++ z)) ≡ ((((i ++ n) ++ (x ++ j)) ++ m) ++ y) ++ z
joined i n x j m y z = simp append_assoc

module _ (s : List ℕ) (b : Bytes s) (at stop : ℕ) (g : Found s at stop) where
  abbrev f : MendedFile s g.kids
  f = file-mended s b g.kids g.is

  abbrev v : ℕ
  v = version_of s

  abbrev w : Torn v 6 (drop 6 s) g.kids
  w = f.torn

  there : at ≡ w.at
  there = g.at-is ∙ w.place

  stop-there : stop ≡ at + (6 + length w.body)
  stop-there = g.stop_is ∙ ap (λ (n : ℕ). at + n) (ap (λ (k : ℕ). length_field (drop k s)) there ∙ old-length s g.kids f)

  abbrev pub after : Sifted
  after = sift (version_of s) (at + 6) (slice (at + 6) stop s)

  front-is : s ≡ (header 0x4D4D (length s) ++ bytes w.before) ++ (header 0x3D3D (6 + length w.body) ++ (w.body ++ bytes w.after))
  front-is = damaged s g.kids f

  before-length : 6 + length (bytes w.before) ≡ at
  before-length = omega (arith, there, w.at-is, length-bytes w.before)

  pub places : (6 ≤ at) × (at + 6 ≤ stop) × (stop ≤ length s) × (length s ≤ limit)
  places =
      let l = ap length w.damaged in
      let y : List ℕ = header 0x3D3D (6 + length w.body) ++ (w.body ++ bytes w.after) in
      let h = f.long in
      (omega (arith, before-length), omega (arith, stop-there), omega (arith, stop-there, before-length, length-drop 6 s, length-append (bytes w.before) y, length-append w.body (bytes w.after)), f.within-limit)

  -- the children of 3D3D are those that are sifted
  body-there : slice (at + 6) stop s ≡ w.body
  body-there =
      let n : length_field (drop w.at s) - 6 ≡ length w.body = omega (arith, old-length s g.kids f) in
      let k : at + 6 + length w.body ≡ stop = omega (arith, stop-there) in
      ap (λ (z : ℕ). slice (at + 6) z s) (sym k) ∙ drop-take (at + 6) (length w.body) s ∙ ap (λ (j : ℕ). take j (drop (at + 6) s)) (sym n) ∙
      ap (λ (x : ℕ). take (length_field (drop w.at s) - 6) (drop (x + 6) s)) there ∙ body_is s g.kids f

  after_is : sift v (w.at + 6) w.body ≡ after
  after_is = ap (λ (x : ℕ). sift v (x + 6) w.body) (sym there) ∙ ap (sift v (at + 6)) (sym body-there)

  sifted-there : sifted_at (offset_of 0x3D3D 6 g.kids) s ≡ after
  sifted-there = ap (λ (e : ℕ). sifted_at e s) w.place ∙ sifted-is s g.kids f ∙ after_is

  -- what the code counted
  pub count-is : (x : ℕ) → x ≡ version_of s → (r : Cuts) → r ≡ cuts_of (sift x (at + 6) (slice (at + 6) stop s)).cuts → r.count ≡ length after.cuts
  count-is x e r h = ap (λ (c : Cuts). c.count) h ∙ ap (λ (y : ℕ). length (sift y (at + 6) (slice (at + 6) stop s)).cuts) e

  pub lost-is : (x : ℕ) → x ≡ version_of s → (r : Cuts) → r ≡ cuts_of (sift x (at + 6) (slice (at + 6) stop s)).cuts → r.gone ≡ gone after.cuts
  lost-is x e r h = ap (λ (c : Cuts). c.gone) h ∙ ap (λ (y : ℕ). gone (sift y (at + 6) (slice (at + 6) stop s)).cuts) e

  pub lost-within : (lost : ℕ) → lost ≡ gone after.cuts → lost ≤ length s
  lost-within lost e = omega (arith, kept_or_cut v s (at + 6) stop b places.2, places.2)

  pub rescue-is : rescue s ≡ saved (bytes (figure g.kids)) after.cuts
  unfolding rescue
  rescue-is = rw (g.is, sifted-there)

  -- ---- the mended file, part by part

  abbrev around : List ℕ
  around = header 0x3D3D (6 + length w.body) ++ (w.body ++ bytes w.after)

  first : take 2 s ≡ le 2 0x4D4D
  first = ap (take 2) front-is

  before-scene : take (at - 4) (drop 6 s) ≡ bytes w.before ++ le 2 0x3D3D
  before-scene =
      let n : at - 4 ≡ length (bytes w.before) + 2 = omega (arith, before-length) in
      ap (λ (k : ℕ). take k (drop 6 s)) n ∙ ap (take (length (bytes w.before) + 2)) w.damaged ∙ take-append-add (bytes w.before) around 2

  behind-scene : drop stop s ≡ bytes w.after
  behind-scene =
      let k : stop ≡ 6 + (length (bytes w.before) + (6 + length w.body)) = omega (arith, stop-there, before-length) in
      ap (λ (n : ℕ). drop n s) k ∙ sym (drop-drop (length (bytes w.before) + (6 + length w.body)) 6 s) ∙
      ap (drop (length (bytes w.before) + (6 + length w.body))) w.damaged ∙ drop-append-add (bytes w.before) around (6 + length w.body) ∙
      drop-append-add (header 0x3D3D (6 + length w.body)) (w.body ++ bytes w.after) (length w.body) ∙ drop_at w.body (bytes w.after) (length w.body) refl

  module _ (lost : ℕ) (lost_is : lost ≡ gone after.cuts) where
    lost_there : gone (sift v (w.at + 6) w.body).cuts ≡ lost
    lost_there = ap (λ (x : Sifted). gone x.cuts) after_is ∙ sym lost_is

    pub new-length : length (bytes (figure g.kids)) ≡ length s - lost
    new-length = omega (arith, length-figure g.kids, len_lowered s g.kids f, lost_there)

    abbrev m : ℕ
    m = stop - at - lost

    pub by_parts : bytes (figure g.kids) ≡ (front_of s at (length s - lost) (stop - at - lost) ++ bytes after.kept) ++ drop stop s
    by_parts =
        let n : 6 + 0 + size g.kids ≡ length s - lost = omega (arith, len_lowered s g.kids f, lost_there) in
        let k : 6 + size (sift v (w.at + 6) w.body).kept ≡ stop - at - lost = omega (arith, sizes s g.kids f, lost_there, stop-there) in
        let file : ℕ → ℕ → Sifted → List ℕ = λ n k x. (header 0x4D4D n ++ bytes w.before) ++ (header 0x3D3D k ++ (bytes x.kept ++ bytes w.after)) in
        let before : List ℕ → List ℕ → List ℕ = λ y z. ((y ++ le 4 (length s - lost)) ++ z) ++ le 4 m in
        result s g.kids f ∙ ap (λ (z : ℕ). file z (6 + size (sift v (w.at + 6) w.body).kept) (sift v (w.at + 6) w.body)) n ∙
        ap (λ (z : ℕ). file (length s - lost) z (sift v (w.at + 6) w.body)) k ∙ ap (file (length s - lost) m) after_is ∙
        joined (le 2 0x4D4D) (le 4 (length s - lost)) (bytes w.before) (le 2 0x3D3D) (le 4 m) (bytes after.kept) (bytes w.after) ∙
        ap (λ (y : List ℕ). (before y (bytes w.before ++ le 2 0x3D3D) ++ bytes after.kept) ++ bytes w.after) (sym first) ∙
        ap (λ (y : List ℕ). (before (take 2 s) y ++ bytes after.kept) ++ bytes w.after) (sym before-scene) ∙
        ap (λ (y : List ℕ). (before (take 2 s) (take (at - 4) (drop 6 s)) ++ bytes after.kept) ++ y) (sym behind-scene)

    -- what the code put is that
    pub rows_are : (cuts cuts' out out' : List ℕ) → PutIs s at stop lost (sift (version_of s) (at + 6) (slice (at + 6) stop s)) cuts cuts' out out' →
        rescue_rows cuts' out' ≡ rescue_rows (filled (packed 4 (flat after.cuts)) cuts) (filled (bytes (figure g.kids)) out)
    rows_are cuts cuts' out out' p =
        ap (λ (y : List ℕ). rescue_rows y out') p.cuts_are ∙
        ap (rescue_rows (filled (packed 4 (flat after.cuts)) cuts)) (p.out_is ∙ ap (λ (y : List ℕ). filled y out) (sym by_parts))

-- ---- the call

module _ (s cuts out : List ℕ) where
  pub call-beyond : (r : Refusal) → mended s ≡ refused r → rescue_call cut_bytes s (rescue_rows cuts out) ≡ leaving (Err r) (rescue_rows cuts out)
  unfolding rescue_call rescue
  call-beyond r e = rw e

  module _ (s' : List ℕ) (cs : List Cut) (e : rescue s ≡ saved s' cs) (n k : ℕ) (n-is : n ≡ length cs) (k-is : length s' ≡ k) where
    pub few-cuts : length cuts / 12 < n → rescue_call cut_bytes s (rescue_rows cuts out) ≡ leaving (Err (NoRoom n)) (rescue_rows cuts out)
    unfolding rescue_call
    few-cuts h = rw (e, n-is, lt-leb (length cs) (length cuts / 12) (omega arith))

    module _ (room : n ≤ length cuts / 12) where
      pub few_bytes : length out < k → rescue_call cut_bytes s (rescue_rows cuts out) ≡ leaving (Err (NoRoom k)) (rescue_rows cuts out)
      unfolding rescue_call
      few_bytes h = rw (e, ← k-is, le-leb (length cs) (length cuts / 12) (omega arith), lt-leb (length s') (length out) (omega arith))

      pub both-filled : k ≤ length out → rescue_call cut_bytes s (rescue_rows cuts out) ≡ leaving (mended_answer n k) (rescue_rows (filled (packed 4 (flat cs)) cuts) (filled s' out))
      unfolding rescue_call
      both-filled h = rw (e, n-is, ← k-is, le-leb (length cs) (length cuts / 12) (omega arith), le-leb (length s') (length out) (omega arith))
