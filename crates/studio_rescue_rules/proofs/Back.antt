-- The cuts put back into the mended file, with the old lengths, give the damaged one.
use mathlib.Core.Path.{◌≡◌, refl, sym, ap, ◌∙◌, subst}
use Prim.Native.Nat.{ℕ, ◌+◌, ◌-◌, ◌^◌, ◌<◌}
use native.Mathlib.Omega.{arith}
use mathlib.Core.List.{List, [], ◌++◌, append_assoc, append-nil}
use lib.ListN.{length, take, drop, length-append, length-drop}
use lib.Seq.{take_at, drop_at, take-append-add, drop-append-add}
use Rattle.shared_words.specs.Bytes.{le}
use Rattle.shared_words.specs.Lists.{All}
use Rattle.studio_rules.specs.Layout.{Run, known, figure, header, size, bytes, offset_of, with_length}
use Rattle.studio_rules.specs.Walk.{length_field}
use Rattle.shared_words.proofs.Bytes.{value-le}
use Rattle.studio_rules.proofs.Sound.{length-bytes}
use Rattle.studio_rules.proofs.Verdict.{length-figure}
use Rattle.studio_rules.proofs.Then.{bytes_then}
use Rattle.studio_rescue_rules.specs.Rescue.{version_of, Cut, sift, sifted_at, gone, put_in, put_back}
use Rattle.studio_rescue_rules.specs.Theorems.{Restored, Failed}
use Rattle.studio_rescue_rules.proofs.Sift.{sift-says}
use Rattle.studio_rescue_rules.proofs.Mend.{Torn}
use Rattle.studio_rescue_rules.proofs.File.{MendedFile, cuts_in, torn-sizes}

-- ---- the length field of the chunk behind p

module _ (p : List ℕ) (e : ℕ) (at : length p ≡ e) where
  field-read : (id m : ℕ) (q : List ℕ) → m < 2 ^ 32 → length_field (drop e (p ++ (header id m ++ q))) ≡ m
  field-read id m q h = rw (drop_at p (header id m ++ q) e at) (value-le 4 m h)

  field-set : (id m n : ℕ) (q : List ℕ) → with_length e n (p ++ (header id m ++ q)) ≡ p ++ (header id n ++ q)
  field-set id m n q =
      let y : List ℕ = header id m ++ q in
      rw (← at, take-append-add p y 2, drop-append-add p y 6) (append_assoc p (take 2 y) (le 4 n ++ q))

  behind : (id m : ℕ) (q : List ℕ) → drop (e + 6) (p ++ (header id m ++ q)) ≡ q
  behind id m q = rw (← at) (drop-append-add p (header id m ++ q) 6)

-- ---- the two files

module _ (s : List ℕ) (kids : Run) (f : MendedFile s kids) where
  abbrev pub v : ℕ
  v = version_of s

  abbrev pub w : Torn v 6 (drop 6 s) kids
  w = f.torn

  abbrev pub kept : Run
  kept = (sift v (w.at + 6) w.body).kept

  abbrev pub cuts : List Cut
  cuts = cuts_in v 6 (drop 6 s) kids w

  -- what stands before 3D3D, where n is the length of the file, and after it
  abbrev pub before : ℕ → List ℕ
  before n = header 0x4D4D n ++ bytes w.before

  abbrev pub after : List ℕ
  after = bytes w.after

  before-length : (n : ℕ) → length (before n) ≡ w.at
  before-length n = omega (arith, w.at-is, length-bytes w.before)

  pub damaged : s ≡ before (length s) ++ (header 0x3D3D (6 + length w.body) ++ (w.body ++ after))
  damaged = sym f.head ∙ ap (λ (y : List ℕ). header 0x4D4D (length s) ++ y) w.damaged

  -- the result's own length
  abbrev pub len : ℕ
  len = 6 + 0 + size kids

  pub result : bytes (figure kids) ≡ before len ++ (header 0x3D3D (6 + size kept) ++ (bytes kept ++ after))
  result = ap (λ (y : List ℕ). header 0x4D4D len ++ y) (append-nil (bytes kids) ∙ ap bytes w.is ∙ bytes_then w.before (known 0x3D3D [] kept w.after))

  pub sizes : size kept + gone cuts ≡ length w.body
  sizes = (sift-says v (w.at + 6) w.body w.body_bytes).sizes

  body_small : 6 + length w.body < 2 ^ 32
  body_small =
      let l = ap length w.damaged in
      let m = f.within-limit in
      omega (arith, length-drop 6 s, length-append (bytes w.before) (header 0x3D3D (6 + length w.body) ++ (w.body ++ after)), length-append w.body after)

  -- ---- the lengths

  pub old-length : length_field (drop w.at s) ≡ 6 + length w.body
  old-length =
      ap (λ (z : List ℕ). length_field (drop w.at z)) damaged ∙
      field-read (before (length s)) w.at (before-length (length s)) 0x3D3D (6 + length w.body) (w.body ++ after) body_small

  new-length : length_field (drop w.at (bytes (figure kids))) ≡ 6 + size kept
  new-length =
      let b = body_small in
      ap (λ (z : List ℕ). length_field (drop w.at z)) result ∙
      field-read (before len) w.at (before-length len) 0x3D3D (6 + size kept) (bytes kept ++ after) (omega (arith, sizes))

  pub len_lowered : len + gone cuts ≡ length s
  len_lowered = let l = f.long in omega (arith, torn-sizes v 6 (drop 6 s) kids w, length-drop 6 s)

  file-length : length_field (bytes (figure kids)) ≡ len
  file-length = let m = f.within-limit in value-le 4 len (omega (arith, len_lowered))

  -- ---- the cuts

  pub body_is : take (length_field (drop w.at s) - 6) (drop (w.at + 6) s) ≡ w.body
  body_is =
      let n : length_field (drop w.at s) - 6 ≡ length w.body = omega (arith, old-length) in
      let b : drop (w.at + 6) s ≡ w.body ++ after =
      ap (drop (w.at + 6)) damaged ∙ behind (before (length s)) w.at (before-length (length s)) 0x3D3D (6 + length w.body) (w.body ++ after) in
      ap (λ (k : ℕ). take k (drop (w.at + 6) s)) n ∙ ap (take (length w.body)) b ∙ take_at w.body after (length w.body) refl

  pub sifted-is : sifted_at w.at s ≡ sift v (w.at + 6) w.body
  sifted-is = ap (sift v (w.at + 6)) body_is

  put_in_lem : put_in cuts (bytes (figure kids)) ≡ before len ++ (header 0x3D3D (6 + size kept) ++ (w.body ++ after))
  put_in_lem =
      let h : List ℕ = header 0x3D3D (6 + size kept) in
      let l : length (before len ++ h) ≡ w.at + 6 = omega (arith, before-length len, length-append (before len) h) in
      ap (put_in cuts) (result ∙ sym (append_assoc (before len) h (bytes kept ++ after))) ∙
      (sift-says v (w.at + 6) w.body w.body_bytes).back (before len ++ h) after l ∙
      append_assoc (before len) h (w.body ++ after)

  cuts_failed : All (Failed v s (w.at + length_field (drop w.at s))) cuts
  cuts_failed =
      let h : List ℕ = header 0x3D3D (6 + length w.body) in
      let l : length (before (length s) ++ h) ≡ w.at + 6 = omega (arith, before-length (length s), length-append (before (length s)) h) in
      let q : s ≡ (before (length s) ++ h) ++ (w.body ++ after) = damaged ∙ sym (append_assoc (before (length s)) h (w.body ++ after)) in
      let z : w.at + 6 + length w.body ≡ w.at + length_field (drop w.at s) = omega (arith, old-length) in
      subst (λ (y : List ℕ). All (Failed v y (w.at + length_field (drop w.at s))) cuts) (sym q) (rw z at ((sift-says v (w.at + 6) w.body w.body_bytes).fail (before (length s) ++ h) after l))

  put-back : put_back w.at (length s) (6 + length w.body) cuts (bytes (figure kids)) ≡ s
  put-back =
      ap (λ (z : List ℕ). with_length 0 (length s) (with_length w.at (6 + length w.body) z)) put_in_lem ∙
      ap (with_length 0 (length s)) (field-set (before len) w.at (before-length len) 0x3D3D (6 + size kept) (6 + length w.body) (w.body ++ after)) ∙
      sym damaged

  at_place : Restored s (bytes (figure kids)) cuts w.at
  at_place = record {
    put-back = rw (f.field, old-length) put-back;
    length_lowered = omega (arith, length-figure kids, len_lowered);
    file_lowered = omega (arith, file-length, len_lowered, f.field);
    scene_lowered = omega (arith, new-length, old-length, sizes);
  }

  pub all_failed : All (Failed v s (offset_of 0x3D3D 6 kids + length_field (drop (offset_of 0x3D3D 6 kids) s))) (sifted_at (offset_of 0x3D3D 6 kids) s).cuts
  all_failed = rw (w.place, sifted-is) cuts_failed

  pub restored : Restored s (bytes (figure kids)) (sifted_at (offset_of 0x3D3D 6 kids) s).cuts (offset_of 0x3D3D 6 kids)
  restored = rw (w.place, sifted-is) at_place
