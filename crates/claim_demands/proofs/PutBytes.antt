-- Between the two files stands one with the bytes of the old and the lengths of the new: the pieces taken out of the new file give it, and
-- so do the lengths raised in the old.
use mathlib.Core.Path.{◌≡◌, refl, sym, ap, ◌∙◌}
use mathlib.Core.List.{List, [], ◌∷◌, ◌++◌, append_assoc, append-nil}
use Prim.Native.Nat.{ℕ, suc, ◌+◌}
use native.Mathlib.Omega.{arith}
use lib.ListN.{length, take, drop, length-append}
use lib.Seq.{take_at, drop_at, take-append-add, drop-append-add}
use Rattle.shared_words.specs.Bytes.{le}
use Rattle.studio_rules.specs.declared.Record.{Record}
use Rattle.studio_rules.specs.Layout.{size, header, bytes, with_length}
use Rattle.studio_rules.specs.Gives.{record_count, records_of}
use Rattle.studio_rules.specs.Gaps.{Marked, end, put, skip, known, without, with, figure_of, Piece, pieces}
use Rattle.studio_rules.proofs.Gaps.{record_count-same}
use Rattle.studio_rules.proofs.Jumps.{length-records}
use Rattle.studio_rules.proofs.Sound.{length-bytes}
use Rattle.claim_demands.specs.PutBytes.{taken_out, raised, BytesPutIn}

-- the bytes of the old file, with the lengths of the new
abbrev middle : Marked → List ℕ
middle end = []
middle (put id body rest) = middle rest
middle (skip id body rest) = header id (6 + length body) ++ (body ++ middle rest)
middle (known id own kids rest) = header id (6 + length own + size (with kids)) ++ (own ++ (middle kids ++ middle rest))

length-middle : (m : Marked) → length (middle m) ≡ size (without m)
length-middle end = refl
length-middle (put id body rest) = length-middle rest
length-middle (skip id body rest) = omega (arith, length-middle rest, length-append body (middle rest))
length-middle (known id own kids rest) =
    omega (arith, length-middle kids, length-middle rest, length-append own (middle kids ++ middle rest), length-append (middle kids) (middle rest))

-- ---- the pieces taken out

taken_append : (ps qs : List Piece) (s : List ℕ) → taken_out (ps ++ qs) s ≡ taken_out ps (taken_out qs s)
taken_append [] qs s = refl
taken_append (p ∷ ps) qs s = rw (taken_append ps qs s)

out : (m : Marked) (o : ℕ) (pre post : List ℕ) → length pre ≡ o → taken_out (pieces o m) (pre ++ (bytes (with m) ++ post)) ≡ pre ++ (middle m ++ post)
out end o pre post e = refl
out (put id body rest) o pre post e =
    let chunk : List ℕ = header id (6 + length body) ++ body in
    let group : pre ++ (bytes (with (put id body rest)) ++ post) ≡ (pre ++ chunk) ++ (bytes (with rest) ++ post) = simp append_assoc in
    let l : length (pre ++ chunk) ≡ o + (6 + length body) = omega (arith, e, length-append pre chunk) in
    let i = ap (taken_out (pieces (o + (6 + length body)) rest)) group ∙ out rest (o + (6 + length body)) (pre ++ chunk) post l in
    let flat : (pre ++ chunk) ++ (middle rest ++ post) ≡ pre ++ (chunk ++ (middle rest ++ post)) = append_assoc pre chunk (middle rest ++ post) in
    ap (λ (x : List ℕ). take o x ++ drop (o + (6 + length body)) x) i ∙
    ap (λ (x : List ℕ). x ++ drop (o + (6 + length body)) ((pre ++ chunk) ++ (middle rest ++ post))) (ap (take o) flat ∙ take_at pre (chunk ++ (middle rest ++ post)) o e) ∙
    ap (λ (x : List ℕ). pre ++ x) (drop_at (pre ++ chunk) (middle rest ++ post) (o + (6 + length body)) l)
out (skip id body rest) o pre post e =
    let chunk : List ℕ = header id (6 + length body) ++ body in
    let group : pre ++ (bytes (with (skip id body rest)) ++ post) ≡ (pre ++ chunk) ++ (bytes (with rest) ++ post) = simp append_assoc in
    let l : length (pre ++ chunk) ≡ o + (6 + length body) = omega (arith, e, length-append pre chunk) in
    let back : (pre ++ chunk) ++ (middle rest ++ post) ≡ pre ++ (middle (skip id body rest) ++ post) = simp append_assoc in
    ap (taken_out (pieces (o + (6 + length body)) rest)) group ∙ out rest (o + (6 + length body)) (pre ++ chunk) post l ∙ back
out (known id own kids rest) o pre post e =
    let head : List ℕ = header id (6 + length own + size (with kids)) ++ own in
    let inner : ℕ = o + (6 + length own) in
    let outer : ℕ = o + (6 + length own + size (with kids)) in
    let l : length (pre ++ head) ≡ inner = omega (arith, e, length-append pre head) in
    let l₂ : length ((pre ++ head) ++ bytes (with kids)) ≡ outer = omega (arith, l, length-append (pre ++ head) (bytes (with kids)), length-bytes (with kids)) in
    let group : pre ++ (bytes (with (known id own kids rest)) ++ post) ≡ ((pre ++ head) ++ bytes (with kids)) ++ (bytes (with rest) ++ post) = simp append_assoc in
    let between : ((pre ++ head) ++ bytes (with kids)) ++ (middle rest ++ post) ≡ (pre ++ head) ++ (bytes (with kids) ++ (middle rest ++ post)) =
    append_assoc (pre ++ head) (bytes (with kids)) (middle rest ++ post) in
    let back : (pre ++ head) ++ (middle kids ++ (middle rest ++ post)) ≡ pre ++ (middle (known id own kids rest) ++ post) = simp append_assoc in
    taken_append (pieces inner kids) (pieces outer rest) (pre ++ (bytes (with (known id own kids rest)) ++ post)) ∙
    ap (λ (x : List ℕ). taken_out (pieces inner kids) (taken_out (pieces outer rest) x)) group ∙
    ap (taken_out (pieces inner kids)) (out rest outer ((pre ++ head) ++ bytes (with kids)) post l₂ ∙ between) ∙
    out kids inner (pre ++ head) (middle rest ++ post) l ∙ back

-- ---- the lengths raised

raised_append : (xs us ys vs : List Record) (s : List ℕ) → length us ≡ length xs → raised (xs ++ ys) (us ++ vs) s ≡ raised ys vs (raised xs us s)
raised_append [] [] ys vs s e = refl
raised_append [] (u ∷ us) ys vs s e = absurd (omega arith)
raised_append (x ∷ xs) [] ys vs s e = absurd (omega arith)
raised_append (x ∷ xs) (u ∷ us) ys vs s e = raised_append xs us ys vs (with_length x.offset u.len s) (omega arith)

-- the length field of the chunk behind `pre`
field-set : (pre : List ℕ) (o id k n : ℕ) (q : List ℕ) → length pre ≡ o → with_length o n (pre ++ (header id k ++ q)) ≡ pre ++ (header id n ++ q)
field-set pre o id k n q e =
    let y : List ℕ = header id k ++ q in
    rw (← e, take-append-add pre y 2, drop-append-add pre y 6) (append_assoc pre (take 2 y) (le 4 n ++ q))

raise : (m : Marked) (o o' depth depth' parent parent' next next' : ℕ) (pre post : List ℕ) → length pre ≡ o →
    raised (records_of o depth parent next (without m)) (records_of o' depth' parent' next' (with m)) (pre ++ (bytes (without m) ++ post)) ≡ pre ++ (middle m ++ post)
raise end o o' depth depth' parent parent' next next' pre post e = refl
raise (put id body rest) o o' depth depth' parent parent' next next' pre post e =
    raise rest o (o' + (6 + length body)) depth depth' parent parent' next next' pre post e
raise (skip id body rest) o o' depth depth' parent parent' next next' pre post e =
    let chunk : List ℕ = header id (6 + length body) ++ body in
    let group : pre ++ (bytes (without (skip id body rest)) ++ post) ≡ (pre ++ chunk) ++ (bytes (without rest) ++ post) = simp append_assoc in
    let l : length (pre ++ chunk) ≡ o + (6 + length body) = omega (arith, e, length-append pre chunk) in
    let back : (pre ++ chunk) ++ (middle rest ++ post) ≡ pre ++ (middle (skip id body rest) ++ post) = simp append_assoc in
    ap (raised (records_of (o + (6 + length body)) depth parent next (without rest)) (records_of (o' + (6 + length body)) depth' parent' next' (with rest))) group ∙
    raise rest (o + (6 + length body)) (o' + (6 + length body)) depth depth' parent parent' next next' (pre ++ chunk) post l ∙ back
raise (known id own kids rest) o o' depth depth' parent parent' next next' pre post e =
    let n : ℕ = 6 + length own + size (with kids) in
    let head : List ℕ = header id n ++ own in
    let xs = records_of (o + (6 + length own)) (suc depth) next (suc next) (without kids) in
    let us = records_of (o' + (6 + length own)) (suc depth') next' (suc next') (with kids) in
    let ys = records_of (o + (6 + length own + size (without kids))) depth parent (suc (next + record_count (without kids))) (without rest) in
    let vs = records_of (o' + (6 + length own + size (with kids))) depth' parent' (suc (next' + record_count (with kids))) (with rest) in
    let many : length us ≡ length xs = length-records _ _ _ _ (with kids) ∙ record_count-same kids ∙ sym (length-records _ _ _ _ (without kids)) in
    let l : length (pre ++ head) ≡ o + (6 + length own) = omega (arith, e, length-append pre head) in
    let l₂ : length ((pre ++ head) ++ middle kids) ≡ o + (6 + length own + size (without kids)) = omega (arith, l, length-append (pre ++ head) (middle kids), length-middle kids) in
    let lengthened : with_length o n (pre ++ (bytes (without (known id own kids rest)) ++ post)) ≡ (pre ++ head) ++ (bytes (without kids) ++ (bytes (without rest) ++ post)) =
    field-set pre o id (6 + length own + size (without kids)) n ((own ++ (bytes (without kids) ++ bytes (without rest))) ++ post) e ∙ grouped pre id n own (bytes (without kids)) (bytes (without rest)) post in
    let between : (pre ++ head) ++ (middle kids ++ (bytes (without rest) ++ post)) ≡ ((pre ++ head) ++ middle kids) ++ (bytes (without rest) ++ post) =
    sym (append_assoc (pre ++ head) (middle kids) (bytes (without rest) ++ post)) in
    let back : ((pre ++ head) ++ middle kids) ++ (middle rest ++ post) ≡ pre ++ (middle (known id own kids rest) ++ post) = simp append_assoc in
    ap (raised (xs ++ ys) (us ++ vs)) lengthened ∙
    raised_append xs us ys vs ((pre ++ head) ++ (bytes (without kids) ++ (bytes (without rest) ++ post))) many ∙
    ap (raised ys vs) (raise kids (o + (6 + length own)) (o' + (6 + length own)) (suc depth) (suc depth') next next' (suc next) (suc next') (pre ++ head) (bytes (without rest) ++ post) l ∙ between) ∙
    raise rest _ _ depth depth' parent parent' _ _ ((pre ++ head) ++ middle kids) post l₂ ∙ back
  where
    grouped : (pre : List ℕ) (id n : ℕ) (own x y post : List ℕ) → pre ++ (header id n ++ ((own ++ (x ++ y)) ++ post)) ≡ (pre ++ (header id n ++ own)) ++ (x ++ (y ++ post))
    grouped pre id n own x y post = simp append_assoc

pub bytes-put_in : BytesPutIn
bytes-put_in m =
    let all = figure_of m in
    let new = ap (taken_out (pieces 0 all)) (sym (append-nil (bytes (with all)))) ∙ out all 0 [] [] refl in
    let old = ap (raised (records_of 0 0 0 0 (without all)) (records_of 0 0 0 0 (with all))) (sym (append-nil (bytes (without all)))) ∙ raise all 0 0 0 0 0 0 0 0 [] [] refl in
    new ∙ sym old
