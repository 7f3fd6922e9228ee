-- What is told of a mesh stands where it is told.
use mathlib.Core.Path.{◌≡◌, refl, sym, ap, subst, ◌∙◌}
use mathlib.Core.Bool.{true, cond}
use mathlib.Core.List.{List, [], ◌∷◌, ◌++◌, append_assoc}
use Prim.Native.Nat.{ℕ, zero, suc, ◌+◌, ◌*◌, ◌≤◌}
use native.Mathlib.Nat.{mul-suc}
use native.Mathlib.Omega.{arith}
use lib.ListN.{length, take, drop, length-append, length-drop}
use lib.Seq.{drop-drop, drop_at, take-append-le, drop-append-le}
use Rattle.shared_words.specs.Bytes.{value, numbers}
use Rattle.shared_words.specs.Lists.{All}
use Rattle.cob_rules.specs.declared.Kind.{Kind}
use Rattle.cob_rules.specs.Fields.{field}
use Rattle.cob_rules.specs.Kinds.{is_mesh, listed}
use Rattle.cob_rules.specs.Body.{exact}
use Rattle.cob_rules.specs.Mesh.{count_of}
use Rattle.cob_rules.specs.Layout.{Chunk, kind, size, Layout, chunk_bytes, all_bytes}
use Rattle.cob_rules.specs.Rules.{Lawful, AllPlaced, Meets}
use Rattle.cob_rules.specs.Gives.{one_if}
use Rattle.cob_meshes_rules.specs.Standing.{Standing, standing_from, standing}
use Rattle.cob_meshes_rules.specs.Theorems.{ReadInPlace, InPlace}
use Rattle.cob_meshes_rules.proofs.Front.{front}

-- numbers that lie in the first of two lists
numbers-first : (w k : ℕ) (a b : List ℕ) → w * k ≤ length a → numbers w k (a ++ b) ≡ numbers w k a
numbers-first w zero a b l = refl
numbers-first w (suc k) a b l =
    let le : w ≤ length a = omega (arith, mul-suc w k) in
    let rest : w * k ≤ length (drop w a) = omega (arith, mul-suc w k, length-drop w a) in
    rw (take-append-le w a b le, drop-append-le w a b le, numbers-first w k (drop w a) b rest)

module _ (s : List ℕ) (o : ℕ) (body more : List ℕ) (here : drop (o + 20) s ≡ body ++ more) (inside : o + 20 + length body ≤ length s) (h : exact Kind.PolH body ≡ true) (number : ℕ) where
  -- what stands at an offset of the body
  at_offset : (k i : ℕ) → i ≡ o + 20 + k → k ≤ length body → drop i s ≡ drop k body ++ more
  at_offset k i e l = ap (λ (j : ℕ). drop j s) e ∙ sym (drop-drop k (o + 20) s) ∙ ap (drop k) here ∙ drop-append-le k body more l

  read : ReadInPlace s record { at = o; number = number; body = body }
  read =
      let f = front body h in
      let n : ℕ = field 2 2 body in
      let count : ℕ = count_of (drop (100 + n) body) in
      let whole = f.vertices-whole in
      let name = at_offset 4 (o + 24) (omega arith) (omega arith) in
      let position = at_offset (52 + n) (o + 24 + n + 48) (omega arith) (omega arith) in
      let vertices = at_offset (104 + n) (o + 24 + n + 48 + 52) (omega arith) (omega arith) in
      let four : 100 + n + 4 ≡ 104 + n = omega arith in
      record {
        name = ap (take n) name ∙ take-append-le n (drop 4 body) more (omega (arith, length-drop 4 body)) ∙ rw f.behind_dupecount (ap (take n) (sym (drop-drop 2 2 body)));
        position = ap (take 48) position ∙ take-append-le 48 (drop (52 + n) body) more (omega (arith, length-drop (52 + n) body)) ∙ rw f.behind_axes;
        vertices = rw (f.behind_position, vertices) (ap (numbers 4 (3 * count)) (drop-drop 4 (100 + n) body ∙ ap (λ (k : ℕ). drop k body) four) ∙
            sym (numbers-first 4 (3 * count) (drop (104 + n) body) more (omega (arith, length-drop (104 + n) body))));
        stays = rw f.behind_position (omega arith);
      }

module _ (s last : List ℕ) where
  all_read : (cs seen : List Chunk) (o n : ℕ) → drop o s ≡ all_bytes cs ++ last → o ≤ length s → AllPlaced seen cs → All (ReadInPlace s) (standing_from o n cs)
  all_read [] seen o n here inside placed = tt
  all_read (c ∷ cs) seen o n here inside placed =
      go (kind c) placed.0.lawful.body-exact (standing_from (o + size c) (n + cond (listed (kind c)) 1 0) cs)
      (all_read cs (c ∷ seen) (o + size c) (n + cond (listed (kind c)) 1 0) behind (omega (arith, long)) placed.1)
    where
      more : List ℕ
      more = all_bytes cs ++ last

      head : length c.head ≡ 20
      head = placed.0.lawful.header-whole

      bytes-here : drop o s ≡ c.head ++ (c.body ++ more)
      bytes-here = here ∙ append_assoc (chunk_bytes c) (all_bytes cs) last ∙ append_assoc c.head c.body more

      long : o + size c + length more ≡ length s
      long = omega (arith, ap length bytes-here, length-drop o s, length-append c.head (c.body ++ more), length-append c.body more, inside)

      behind : drop (o + size c) s ≡ more
      behind = sym (drop-drop (size c) o s) ∙ ap (drop (size c)) (bytes-here ∙ sym (append_assoc c.head c.body more)) ∙ drop_at (c.head ++ c.body) more (size c) (length-append c.head c.body)

      body-here : drop (o + 20) s ≡ c.body ++ more
      body-here = sym (drop-drop 20 o s) ∙ ap (drop 20) bytes-here ∙ drop_at c.head (c.body ++ more) 20 head

      go : (k : Kind) → exact k c.body ≡ true → (ms : List Standing) → All (ReadInPlace s) ms → All (ReadInPlace s) (one_if (is_mesh k) record { at = o; number = n; body = c.body } ++ ms)
      go Kind.End h ms r = r
      go Kind.Grou h ms r = r
      go Kind.PolH h ms r = (read s o c.body more body-here (omega (arith, long, head)) h n, r)
      go Kind.Mat1 h ms r = r
      go Kind.Other h ms r = r

pub in_place : InPlace
in_place s l m =
    all_read s (chunk_bytes l.last) l.chunks [] 32 0 (ap (drop 32) (sym m.is)) (omega (arith, ap length m.is)) m.chunks
