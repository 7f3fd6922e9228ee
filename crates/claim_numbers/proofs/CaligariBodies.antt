-- What a body of a Caligari file is read by takes bytes of it, a face at least 3; so what stands in a body is no longer than the body.
use mathlib.Core.Path.{◌≡◌, sym, ap, ◌∙◌}
use Prim.Native.Nat.{ℕ, zero, suc, ◌+◌, ◌*◌, ◌≤◌}
use native.Mathlib.Omega.{arith}
use mathlib.Core.Bool.{Bool, true, false, not, cond}
use mathlib.Core.List.{List, [], ◌∷◌, ◌++◌}
use mathlib.Core.Option.{some, some-injective, none-ne-some}
use lib.Dec.{leb}
use lib.ListN.{length, take, drop, length-drop}
use borrow.Author.Tests.{leb-true}
use Rattle.shared_words.specs.Bytes.{value, negative}
use Rattle.shared_words.specs.Lists.{same}
use Rattle.shared_words.proofs.Bools.{and_parts}
use Rattle.cob_rules.specs.Kinds.{Part, plain, natural, times, faces, optional, anything}
use Rattle.cob_rules.specs.Body.{Reading, and_then, skip, counted, hole, face, face_run, map_data, behind, behind_all, nothing}
use Rattle.cob_rules.specs.Mesh.{list_behind}
use Rattle.cob_rules.proofs.Body.{skip-left, counted-left, then_left, nothing_left}
use Rattle.cob_rules.proofs.Body.{behind_append}

-- ---- how many bytes a reading takes, at least

abbrev pub Takes : ℕ → Reading → Type 0
Takes k f = (s left : List ℕ) → f s ≡ some left → k + length left ≤ length s

none-taken : Takes 0 some
none-taken s left e = omega (arith, ap length (some-injective s left e))

skip_takes : (k : ℕ) → Takes k (skip k)
skip_takes k s left e = let p = skip-left k s left e in omega (arith, p.0, ap length p.1, length-drop k s)

skip-any : (k : ℕ) → Takes 0 (skip k)
skip-any k s left e = omega (arith, skip_takes k s left e)

counted_takes : (w k : ℕ) (f : ℕ → Reading) → ((n : ℕ) → Takes k (f n)) → Takes (w + k) (counted w f)
counted_takes w k f h s left e =
    let c = counted-left w f s left e in
    let l = leb-true w (length s) (and_parts (leb w (length s)) (not (negative w (value (take w s)))) c.0).0 in
    omega (arith, h (value (take w s)) (drop w s) left c.1, length-drop w s)

then_takes : (j k : ℕ) (f g : Reading) → Takes j f → Takes k g → Takes (j + k) (λ s. and_then (f s) g)
then_takes j k f g a b s left e = let p = then_left f g s left e in omega (arith, a s p.0 p.1, b p.0 left p.2)

-- ---- faces

face_takes : Takes 3 face
face_takes [] left e = absurd (none-ne-some left e)
face_takes (flags ∷ s) left e =
    let room : ℕ → ℕ = λ n. cond (hole flags) 0 2 + 8 * n in
    omega (arith, counted_takes 2 0 (λ n. skip (room n)) (λ n. skip-any (room n)) s left e)

pub run_takes : (n : ℕ) → Takes (3 * n) (face_run n)
run_takes zero s left e = omega (arith, none-taken s left e)
run_takes (suc n) s left e = omega (arith, then_takes 3 (3 * n) face (face_run n) face_takes (run_takes n) s left e)

-- ---- parts

map_takes : (k : ℕ) → Takes 0 (map_data k)
map_takes k s left e =
    let string : Reading = counted 2 (λ n. skip n) in
    let more : Takes 2 string = counted_takes 2 0 (λ n. skip n) skip-any in
    let rest : Reading = λ t. and_then (string t) (skip k) in
    omega (arith, then_takes 3 (2 + k) (skip 3) rest (skip_takes 3) (then_takes 2 k string (skip k) more (skip_takes k)) s left e)

part_takes : (p : Part) → Takes 0 (behind p)
part_takes (plain k) s left e = skip-any k s left e
part_takes (natural w) s left e = omega (arith, counted_takes w 0 (λ n t. some t) (λ n. none-taken) s left e)
part_takes (times w k) s left e = omega (arith, counted_takes w 0 (λ n. skip (k * n)) (λ n. skip-any (k * n)) s left e)
part_takes faces s left e = omega (arith, counted_takes 4 0 face_run (λ n t u q. omega (arith, run_takes n t u q)) s left e)
part_takes (optional letter k) s left e = go (same (take 2 s) (letter ∷ 0x3A ∷ [])) e
  where
    go : (b : Bool) → cond b (map_data k s) (some s) ≡ some left → 0 + length left ≤ length s
    go true q = map_takes k s left q
    go false q = none-taken s left q
part_takes anything s left e = omega (arith, ap length (some-injective [] left e))

parts-take : (ps : List Part) → Takes 0 (behind_all ps)
unfolding behind_all
parts-take [] = none-taken
parts-take (p ∷ ps) = then_takes 0 0 (behind p) (behind_all ps) (part_takes p) (parts-take ps)

-- ---- a part in a body that its parts fill

pub record Stands (ps : List Part) (p : Part) (body : List ℕ) : Type 0 where
  pub left : List ℕ
  pub is : behind p (list_behind ps body) ≡ some left
  pub short : length (list_behind ps body) ≤ length body

pub stands : (ps : List Part) (p : Part) (qs : List Part) (body : List ℕ) → nothing (behind_all (ps ++ (p ∷ qs)) body) ≡ true → Stands ps p body
unfolding behind_all
stands ps p qs body h =
    let f = then_left (behind_all ps) (behind_all (p ∷ qs)) body [] (sym (behind_append ps (p ∷ qs) body) ∙ nothing_left (behind_all (ps ++ (p ∷ qs)) body) h) in
    let g = then_left (behind p) (behind_all qs) f.0 [] f.2 in
    go f.0 g.0 f.1 g.1
  where
    go : (t left : List ℕ) → behind_all ps body ≡ some t → behind p t ≡ some left → Stands ps p body
    go t left e q = record { left = left; is = rw e q; short = rw e (omega (arith, parts-take ps body t e)) }
