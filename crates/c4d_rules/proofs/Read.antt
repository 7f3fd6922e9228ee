-- Reading things one after another, for every grammar: from what it shows of one thing (`Right`) follows that the walk accepts
-- just the bytes of things that obey the rules, and gives these things back.
use mathlib.Core.Path.{◌≡◌, refl, sym, ◌∙◌}
use Prim.Native.Nat.{ℕ, zero, suc, ◌+◌, ◌<◌, ◌≤◌}
use native.Mathlib.Omega.{arith}
use mathlib.Core.List.{List, [], ◌∷◌, ◌++◌, append_assoc}
use mathlib.Core.Option.{none}
use lib.ListN.{length, take, drop, length-append, length-drop, take-append-drop}
use lib.Seq.{length-take-le, drop-drop, take_at, drop_at}
use borrow.Author.Tests.{leb-true, le-leb}
use Rattle.shared_flat.specs.Flat.{Obeys, after_all}
use Rattle.c4d_rules.specs.Blocks.{Block, Header, width, told, size, Framed, block_bytes, all_bytes}
use Rattle.shared_words.specs.Conditions.{broken, Answer, refused, accepted}
use Rattle.shared_words.proofs.Conditions.{Met, unbroken}
use Rattle.c4d_rules.specs.Read.{Grammar, block_of, block_at, block_conditions, with_more, taken, step, run, walk}
use Rattle.c4d_rules.proofs.Conditions.{If, guarded}

-- ---- the block that some bytes begin with

block_framed : (h : Header) (o : ℕ) (s : List ℕ) → Met (block_conditions h o (length s) (block_at h s)) → Framed h (block_at h s)
unfolding block_at
block_framed h o s t =
    let l : width h ≤ length s = leb-true _ _ t.0 in
    let k : width h + told h (take (width h) s) ≤ length s = leb-true _ _ t.1.0 in
    record {
      header-whole = length-take-le (width h) s l;
      size-told = sym (length-take-le (told h (take (width h) s)) (drop (width h) s) (omega (arith, length-drop (width h) s)));
    }

block-whole : (h : Header) (s : List ℕ) → Framed h (block_at h s) → block_bytes (block_at h s) ++ drop (size (block_at h s)) s ≡ s
unfolding block_at
block-whole h s f =
    let b = block_of h (take (width h) s) (drop (width h) s) in
    let l : length (take (width h) s) ≡ width h = f.header-whole in
    let n : length b.body ≡ told h (take (width h) s) = sym f.size-told in
    rw (
      append_assoc (take (width h) s) b.body (drop (size b) s),
      l,
      n,
      ← (drop-drop (told h (take (width h) s)) (width h) s),
      take-append-drop (told h (take (width h) s)) (drop (width h) s),
    ) (take-append-drop (width h) s)

pub block-found : (h : Header) (b : Block) (more : List ℕ) → Framed h b → block_at h (block_bytes b ++ more) ≡ b
unfolding block_at
block-found h b more f =
    rw (append_assoc b.head b.body more, take_at b.head (b.body ++ more) (width h) f.header-whole, drop_at b.head (b.body ++ more) (width h) f.header-whole)
    (rw (take_at b.body more (told h b.head) (sym f.size-told)))

-- ---- what a grammar has to show

-- a thing is the block b, and lawful
pub record Is {S A : Type 0} (block : A → Block) (Lawful : S → A → Type 0) (s : S) (b : Block) (a : A) : Type 0 where
  pub same_block : block a ≡ b
  pub lawful : Lawful s a

pub record Right {S A : Type 0} (G : Grammar S A) (block : A → Block) (Lawful : S → A → Type 0) : Type 0 where
  pub wide : 1 ≤ width G.header
  pub framed : (s : S) (a : A) → Lawful s a → Framed G.header (block a)
  pub sound : (s : S) (o : ℕ) (b : Block) → Framed G.header b → If (Is block Lawful s b) (G.look s o b)
  pub complete : (s : S) (o : ℕ) (a : A) → Lawful s a → G.look s o (block a) ≡ accepted a

pub record Whole {S A : Type 0} (G : Grammar S A) (block : A → Block) (Lawful : S → A → Type 0) (s : S) (bs : List ℕ) (things : List A) : Type 0 where
  pub is : all_bytes block things ≡ bs
  pub obey : Obeys G.after Lawful s things
  pub closed : Met (G.close (after_all G.after s things))

module _ {S A : Type 0} (G : Grammar S A) (block : A → Block) (Lawful : S → A → Type 0) (R : Right G block Lawful) where
  -- ---- what is accepted

  abbrev Tells : S → List ℕ → Answer (List A) → Type 0
  Tells s bs x = If (Whole G block Lawful s bs) x

  more-tells : (s : S) (bs : List ℕ) (b : Block) (left : List ℕ) → block_bytes b ++ left ≡ bs → (a : A) → Is block Lawful s b a →
      (x : Answer (List A)) → Tells (G.after s a) left x → Tells s bs (with_more a x)
  more-tells s bs b left e a i (refused r) h = tt
  more-tells s bs b left e a i (accepted rest) h = record { is = rw (i.same_block, h.is) e; obey = (i.lawful, h.obey); closed = h.closed }

  taken-tells : (go : S → ℕ → List ℕ → Answer (List A)) → ((s : S) (o : ℕ) (bs : List ℕ) → Tells s bs (go s o bs)) →
      (s : S) (o : ℕ) (bs : List ℕ) (b : Block) (left : List ℕ) → block_bytes b ++ left ≡ bs → (x : Answer A) → If (Is block Lawful s b) x →
      Tells s bs (taken G go s o left x)
  taken-tells go w s o bs b left e (refused r) i = tt
  taken-tells go w s o bs b left e (accepted a) i = more-tells s bs b left e a i (go (G.after s a) o left) (w (G.after s a) o left)

  run-tells : (k : ℕ) (s : S) (o : ℕ) (bs : List ℕ) → Tells s bs (run G k s o bs)
  run-tells zero s o bs = tt
  run-tells (suc k) s o [] = guarded (Whole G block Lawful s []) (G.close s) (accepted []) (λ t. record { is = refl; obey = tt; closed = t })
  run-tells (suc k) s o (x ∷ bs) =
      let b = block_at G.header (x ∷ bs) in
      guarded (Whole G block Lawful s (x ∷ bs)) (block_conditions G.header o (length (x ∷ bs)) b)
      (taken G (run G k) s (o + size b) (drop (size b) (x ∷ bs)) (G.look s o b))
      (λ t.
      let f = block_framed G.header o (x ∷ bs) t in
      taken-tells (run G k) (run-tells k) s (o + size b) (x ∷ bs) b (drop (size b) (x ∷ bs)) (block-whole G.header (x ∷ bs) f) (G.look s o b) (R.sound s o b f))

  pub walk-tells : (s : S) (o : ℕ) (bs : List ℕ) → Tells s bs (walk G s o bs)
  unfolding walk
  walk-tells s o bs = run-tells (suc (length bs)) s o bs

  -- ---- what obeys is accepted

  run-some : (k : ℕ) (s : S) (o : ℕ) (bs : List ℕ) → 1 ≤ length bs → run G (suc k) s o bs ≡ step G (run G k) s o bs (block_at G.header bs)
  run-some k s o [] l = absurd (omega arith)
  run-some k s o (b ∷ bs) l = refl

  length-here : (s : S) (a : A) (more : List ℕ) → Lawful s a → length (block_bytes (block a) ++ more) ≡ width G.header + length (block a).body + length more
  length-here s a more h = omega (arith, length-append (block_bytes (block a)) more, length-append (block a).head (block a).body, (R.framed s a h).header-whole)

  step-good : (go : S → ℕ → List ℕ → Answer (List A)) (s : S) (o : ℕ) (a : A) (more : List ℕ) → Lawful s a →
      step G go s o (block_bytes (block a) ++ more) (block_at G.header (block_bytes (block a) ++ more)) ≡ with_more a (go (G.after s a) (o + size (block a)) more)
  step-good go s o a more h =
      let f = R.framed s a h in
      let n = length-here s a more h in
      let z = f.size-told in
      let q : broken (block_conditions G.header o (length (block_bytes (block a) ++ more)) (block a)) ≡ none =
      unbroken _ (
        le-leb (width G.header) (length (block_bytes (block a) ++ more)) (omega arith),
        (le-leb (width G.header + told G.header (block a).head) (length (block_bytes (block a) ++ more)) (omega arith), tt),
      ) in
      let d : drop (size (block a)) (block_bytes (block a) ++ more) ≡ more = drop_at (block_bytes (block a)) more (size (block a)) (length-append (block a).head (block a).body) in
      rw (block-found G.header (block a) more f, q, d, R.complete s o a h)

  run_complete : (things : List A) (k : ℕ) (s : S) (o : ℕ) → length (all_bytes block things) < k → Obeys G.after Lawful s things →
      Met (G.close (after_all G.after s things)) → run G k s o (all_bytes block things) ≡ accepted things
  run_complete things zero s o l h c = absurd (omega arith)
  run_complete [] (suc k) s o l h c = rw (unbroken (G.close s) c)
  run_complete (a ∷ rest) (suc k) s o l h c =
      let w = R.wide in
      let n = length-here s a (all_bytes block rest) h.0 in
      run-some k s o (block_bytes (block a) ++ all_bytes block rest) (omega arith) ∙ step-good (run G k) s o a (all_bytes block rest) h.0 ∙
      rw (run_complete rest k (G.after s a) (o + size (block a)) (omega arith) h.1 c)

  pub walk_complete : (things : List A) (s : S) (o : ℕ) → Obeys G.after Lawful s things → Met (G.close (after_all G.after s things)) →
      walk G s o (all_bytes block things) ≡ accepted things
  unfolding walk
  walk_complete things s o h c = run_complete things (suc (length (all_bytes block things))) s o (omega arith) h c
