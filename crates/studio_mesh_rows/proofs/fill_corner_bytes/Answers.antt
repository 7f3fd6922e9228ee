use mathlib.Core.Path.{◌≡◌, refl}
use native.Mathlib.Omega.{arith}
use borrow.Author.Rules.{rules}
use Rattle.shared_words.proofs.Bytes.{length-le, bytes-all}
use Rattle.shared_numbers.proofs.Put.{put-none, put_then, put_front}
use Rattle.studio_mesh_rows.proofs.Copied.{face-bytes-more}
use Rattle.studio_mesh_rows.proofs.fill_corner_bytes.Goals as goal

pub loop-i-init : goal.loop-i-init
loop-i-init c = (refl, refl, put-none _ _)

pub overflow_cast-word_at : goal.overflow_cast-word_at
overflow_cast-word_at c = omega (arith, c.word_at.ensures.small)

pub put_word-next-requires : goal.put_word-next-requires
put_word-next-requires c =
    let p = c.put_long-third in
    omega (arith, p.ensures.ends, length-le 4 c.long_at.result)

pub loop-i-preserved : goal.loop-i-preserved
loop-i-preserved c =
    let w = c.before.before.before in
    let t = w.before.before in
    let p = t.before.before.before in
    let g = p.before.before in
    let l = g.loop-i in
    let x = g.before.before.before.before in
    let s = x.args.s.now in
    let b = bytes-all s (λ i. omega (arith, x.shared_slice_known-1.given i)) in
    let e = length-le 4 g.long_at.result in
    let f = length-le 2 t.word_at.result in (
      search rules,
      omega (arith, p.put_long-third.ensures.ends, w.put_word-next.ensures.ends),
      rw (face-bytes-more s x.args.at l.i b (omega arith) g.long_at.result t.word_at.result g.long_at.ensures.is t.word_at.ensures.is) (put_then (omega arith) l.invariant.2 (put_then (omega arith) p.put_long-third.ensures w.put_word-next.ensures)),
    )

pub returns : goal.returns
returns c =
    let e : c.loop-i.i ≡ c.args.n = omega arith in
    rw (← e) (put_front c.loop-i.invariant.2)
